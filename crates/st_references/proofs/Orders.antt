-- Orders of all rows.
use Rattle.std.proofs.Common.{◌≡◌, ◌≢◌, ℕ, suc, List, ◌∷◌, ◌++◌, length, get_or, take, drop, ap, sym, ◌∙◌, subst, arith, append_assoc, inl, inr}
use Rattle.std.specs.Prelude.{◌↔◌}
use Rattle.std.specs.List.{AllPairs, Contains}
use Rattle.std.proofs.lemmas.List.{get_or_default}
use Rattle.std.proofs.lemmas.List.Elements.{Contains-append_left, Contains-push, Contains-push_cases}
use Rattle.st_references.specs.Graphs.{Graph, Refers, Reaches, direct, onward, IsBefore, IsOrder}
use Rattle.st_references.specs.Laws.{NoneReachesItself, ReachedIsBefore, ReferencesAreBefore}
use Rattle.st_references.specs.Walks.{IsPostorder}
use Rattle.st_references.proofs.GraphLemmas.{reaches_row}
use Rattle.st_references.proofs.Listed.{once_only, split_at, split_place}

-- where no row reaches itself, what a row refers to stands before it
pub postorder_is_order : (graph : Graph) (order : List ℕ) → IsPostorder graph order → ((a : ℕ) → Reaches graph a a → ⊥) → IsOrder graph order
postorder_is_order graph order postorder none = record {
  rows = postorder.rows;
  all = postorder.all;
  once = postorder.once;
  after = λ a b r before after is. elim (postorder.last before after a is a b (Contains-push before a) r) as (λ _. Contains before b) [
    | inl h ↦ elim (Contains-push_cases before a b h) as (λ _. Contains before b) [
      | inl k ↦ k
      | inr e ↦ absurd (none a (direct (subst (Refers graph a) (sym e) r)))
    ]
    | inr h ↦ absurd (none a (onward r h))
  ];
}

pub none_returns : (graph : Graph) (rows : List ℕ) → ((a : ℕ) → Contains rows a ↔ Reaches graph a a) → length rows ≡ 0 → (a : ℕ) → Reaches graph a a → ⊥
none_returns graph rows cyclic none a h = let w : Contains rows a = (cyclic a).1 h in omega (arith, w.1, none)

-- ---- what follows of an order

pub references_are_before : ReferencesAreBefore
references_are_before graph order place b o below r =
    let a : ℕ = get_or order place 0 in
    o.after a b r (take place order) (drop (suc place) order) (split_place order place a below (get_or_default order place a 0 below))

-- what stands before a row stands before those after it
before_goes_on : (order : List ℕ) (a b c : ℕ) → IsBefore order c b → IsBefore order b a → IsBefore order c a
before_goes_on order a b c first second before after is =
    let split : (rows : List ℕ) × (rest : List ℕ) × (before ≡ rows ++ b ∷ rest) = split_at before b (second before after is) in
    let whole : order ≡ split.0 ++ b ∷ (split.1 ++ a ∷ after) = is ∙ ap (λ rows. rows ++ a ∷ after) split.2 ∙ append_assoc split.0 (b ∷ split.1) (a ∷ after) in
    subst (λ rows. Contains rows c) (sym split.2) (Contains-append_left split.0 (b ∷ split.1) c (first split.0 (split.1 ++ a ∷ after) whole))

pub reached_is_before : ReachedIsBefore
reached_is_before graph order a b o (direct r) = o.after a b r
reached_is_before graph order a b o (onward {b = m} r k) =
    before_goes_on order a m b (reached_is_before graph order m b o k) (o.after a m r)

pub none_reaches_itself : NoneReachesItself
none_reaches_itself graph order a o h =
    let split : (rows : List ℕ) × (rest : List ℕ) × (order ≡ rows ++ a ∷ rest) = split_at order a (o.all a (reaches_row graph a a h)) in
    once_only split.0 split.1 a (subst (AllPairs (λ b c. b ≢ c)) split.2 o.once) (reached_is_before graph order a a o h split.0 split.1 split.2)
