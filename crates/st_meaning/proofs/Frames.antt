-- What lies in the frame: values for all leaves, the forced ones as they were, and no more steps.
use Rattle.std.proofs.Common.{◌≡◌, ◌≢◌, ℕ, zero, suc, ◌<◌, ◌≤◌, ◌==◌, Bool, true, false, List, length, get_or, set, Some, if◌then◌else◌, refl, ap, sym, ◌∙◌, subst, arith, length-set, get_or-set_same, get_or-set_other}
use Rattle.std.proofs.lemmas.Bool.Decides.{Decides-eqb}
use Rattle.st_values.specs.declared.elem.Elem.{Elem}
use Rattle.st_values.specs.declared.value.Value.{Value}
use Rattle.st_types.specs.Compositions.{Composition}
use Rattle.st_leaves.specs.Paths.{Path}
use Rattle.st_leaves.specs.Places.{count}
use Rattle.st_leaves.proofs.Places.{places_are_numbers}
use Rattle.st_operators.specs.Laws.{IsOf}
use Rattle.st_meaning.specs.Laws.{HasLeaf, KeepsFrame, StaysInFrame}
use Rattle.st_meaning.specs.Meaning.{Values, no_value, stored_at, stored_to}
use Rattle.st_meaning.specs.Operations.{Answer, gives, stops}
use Rattle.st_meaning.specs.Sound.{AreValuesOf, HasOneLeafEach, type_at}
use Rattle.st_meaning.specs.Statements.{Outcome, done, exited, returned, faulted, after_step, after_turn, given, then_do}

-- ---- stores

record IsStored (root : Composition) (forced : List Bool) (values others : Values) : Type 0 where
  all : AreValuesOf root others
  kept : (n : ℕ) → get_or forced n false ≡ true → get_or others n no_value ≡ get_or values n no_value

unstored : (root : Composition) (forced : List Bool) (values : Values) → AreValuesOf root values → IsStored root forced values values
unstored root forced values all = record { all = all; kept = λ n h. refl }

set_each : (root : Composition) (values : Values) (v : Value) (n : ℕ) → AreValuesOf root values → n < count root → IsOf (type_at root n) v → (m : ℕ) → m < count root
    → IsOf (type_at root m) (get_or (set values n v) m no_value)
set_each root values v n all few is m less = by (m == n) refl where
  by : (b : Bool) → (m == n) ≡ b → IsOf (type_at root m) (get_or (set values n v) m no_value)
  by true q =
      let same : m ≡ n = (Decides-eqb m n).0 q in
      let long : n < length values = subst (λ k. n < k) (sym all.all) few in
      let at : IsOf (type_at root n) (get_or (set values n v) n no_value) = subst (IsOf (type_at root n)) (sym (get_or-set_same values n v no_value long)) is in
      subst (λ k. IsOf (type_at root k) (get_or (set values n v) k no_value)) (sym same) at
  by false q =
      let other : m ≢ n = (λ e. absurd (let t : (m == n) ≡ true = (Decides-eqb m n).1 e in cc)) in
      subst (IsOf (type_at root m)) (sym (get_or-set_other values n m v no_value other)) (all.each m less)

store_in : (root : Composition) (forced : List Bool) (values : Values) (v : Value) (n : ℕ) → AreValuesOf root values → n < count root → IsOf (type_at root n) v
    → IsStored root forced values (stored_to forced values v (Some n))
store_in root forced values v n all few is = by (get_or forced n false) refl where
  by : (b : Bool) → get_or forced n false ≡ b → IsStored root forced values (if b then values else set values n v)
  by true q = unstored root forced values all
  by false q = record {
    all = record { all = length-set values n v ∙ all.all; each = set_each root values v n all few is };
    kept = λ m h. get_or-set_other values n m v no_value (λ e. absurd (let t : get_or forced n false ≡ true = ap (λ k. get_or forced k false) (sym e) ∙ h in cc));
  }

-- a store at the path of a leaf
stored_in : (root : Composition) (forced : List Bool) (values : Values) (e : Elem) (path : Path) (v : Value) → HasOneLeafEach root → AreValuesOf root values → HasLeaf root e path → IsOf e v
    → IsStored root forced values (stored_at root forced values path v)
stored_in root forced values e path v one all leaf is =
    subst (λ o. IsStored root forced values (stored_to forced values v o)) (sym (one path leaf.number leaf.leads))
    (store_in root forced values v leaf.number all (places_are_numbers root path leaf.number leaf.leads).0 (subst (λ t. IsOf t v) (sym leaf.type) is))

-- ---- one after the other

module _ (root : Composition) (forced : List Bool) where
  pub nothing_done : (values : Values) (left : ℕ) → AreValuesOf root values → KeepsFrame root forced values left values left
  nothing_done values left all = record { all = all; kept = λ n h. refl; steps = omega arith }

  pub store_keeps : (values : Values) (e : Elem) (path : Path) (v : Value) (left : ℕ) → HasOneLeafEach root → AreValuesOf root values → HasLeaf root e path → IsOf e v
      → KeepsFrame root forced values left (stored_at root forced values path v) left
  store_keeps values e path v left one all leaf is =
      let s = stored_in root forced values e path v one all leaf is in
      record { all = s.all; kept = s.kept; steps = omega arith }

  both_keep : (a b c : Values) (l m n : ℕ) → KeepsFrame root forced a l b m → KeepsFrame root forced b m c n → KeepsFrame root forced a l c n
  both_keep a b c l m n h k = record { all = k.all; kept = λ i t. k.kept i t ∙ h.kept i t; steps = omega (arith, h.steps, k.steps) }

  pub stays_after : (a b : Values) (l m : ℕ) (o : Outcome) → KeepsFrame root forced a l b m → StaysInFrame root forced b m o → StaysInFrame root forced a l o
  stays_after a b l m (done c n) h k = both_keep a b c l m n h k
  stays_after a b l m (exited c n) h k = both_keep a b c l m n h k
  stays_after a b l m (returned c n) h k = both_keep a b c l m n h k
  stays_after a b l m (faulted f) h k = tt

  -- whatever values it starts from
  abbrev pub AlwaysStays : (Values → ℕ → Outcome) → Type 0
  AlwaysStays go = (values : Values) (left : ℕ) → AreValuesOf root values → StaysInFrame root forced values left (go values left)

  pub then_stays : (values : Values) (left : ℕ) (o : Outcome) (go : Values → ℕ → Outcome) → StaysInFrame root forced values left o → AlwaysStays go
      → StaysInFrame root forced values left (then_do o go)
  then_stays values left (done b m) go h k = stays_after values b left m (go b m) h (k b m h.all)
  then_stays values left (exited b m) go h k = h
  then_stays values left (returned b m) go h k = h
  then_stays values left (faulted f) go h k = h

  pub turn_stays : (values : Values) (left : ℕ) (o : Outcome) (go : Values → ℕ → Outcome) → StaysInFrame root forced values left o → AlwaysStays go
      → StaysInFrame root forced values left (after_turn o go)
  turn_stays values left (done b m) go h k = stays_after values b left m (go b m) h (k b m h.all)
  turn_stays values left (exited b m) go h k = h
  turn_stays values left (returned b m) go h k = h
  turn_stays values left (faulted f) go h k = h

  pub step_stays : (values : Values) (line left : ℕ) (go : ℕ → Outcome) → AreValuesOf root values → ((n : ℕ) → StaysInFrame root forced values n (go n))
      → StaysInFrame root forced values left (after_step line left go)
  step_stays values line zero go all h = tt
  step_stays values line (suc n) go all h = stays_after values values (suc n) n (go n) (record { all = all; kept = λ i t. refl; steps = omega arith }) (h n)

  pub given_stays : {A : Type 0} (values : Values) (left : ℕ) (answer : Answer A) (go : A → ℕ → Outcome) → AreValuesOf root values
      → ((x : A) (n : ℕ) → answer ≡ gives x n → n ≤ left) → ((x : A) (n : ℕ) → answer ≡ gives x n → StaysInFrame root forced values n (go x n))
      → StaysInFrame root forced values left (given answer go)
  given_stays values left (gives x n) go all less h =
      stays_after values values left n (go x n) (record { all = all; kept = λ i t. refl; steps = less x n refl }) (h x n refl)
  given_stays values left (stops f) go all less h = tt

  pub either_stays : (values : Values) (left : ℕ) (b : Bool) (o p : Outcome) → (b ≡ true → StaysInFrame root forced values left o) → StaysInFrame root forced values left p
      → StaysInFrame root forced values left (if b then o else p)
  either_stays values left true o p h k = h refl
  either_stays values left false o p h k = k
