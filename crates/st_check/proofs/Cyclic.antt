-- The faults of units that contain or call themselves.
use Rattle.std.proofs.Common.{◌≡◌, ℕ, zero, suc, ◌<◌, List, [], ◌∷◌, ◌++◌, length, get_or, Option, Some, None, refl, ap, sym, ◌∙◌, subst, arith, inl, inr}
use Rattle.std.specs.List.{All, Contains}
use Rattle.std.proofs.lemmas.List.{length-map}
use Rattle.std.proofs.lemmas.List.Elements.{All-from_get_or, Contains-append_left, Contains-append_right, Contains-append_cases, Contains-get_or}
use Rattle.st_faults.specs.Faults.{First, fault, offer_all}
use Rattle.st_faults.specs.declared.fault.Fault.{Fault}
use Rattle.st_faults.specs.declared.fault.Rule.TheVariants as rules
use Rattle.st_faults.proofs.Least.{offer_append}
use Rattle.st_tree.specs.declared.tree.unit.Unit.{Unit as Section}
use Rattle.st_types.specs.Names.{Named, unit_at, units_of}
use Rattle.st_types.proofs.Units.{there}
use Rattle.st_references.specs.Graphs.{AreCyclic, Reaches}
use Rattle.st_references.proofs.GraphLemmas.{reaches_row}
use Rattle.st_references.proofs.Listed.{Contains-cons_cases, Contains-head}
use Rattle.st_references.specs.References.{graph_of, references}
use Rattle.st_check_units.specs.Units.{node_faults}
use Rattle.st_check.specs.Faults.{IsUnitFault, listed, recursion}
use Rattle.st_check.specs.Recursions.{AreUnitFaults, HasUnitFault, recursion_of, recursions}

nothing : {A : Type 0} (x : A) → Contains [] x → ⊥
nothing x h = omega (arith, h.1)

single : {A : Type 0} (x y : A) → Contains (x ∷ []) y → x ≡ y
single x y (zero, h, e) = e
single x y (suc k, h, e) = absurd (omega (arith, h))

only : {A : Type 0} (x : A) → Contains (x ∷ []) x
only x = (0, omega arith, refl)

-- a unit that reaches another one is there
pub reaching : (units : List Named) (a b : ℕ) → Reaches (graph_of units) a b → a < length units
reaching units a b h = subst (λ n. a < n) (length-map units (λ u. references units u.declares)) (reaches_row (graph_of units) a b h)

abbrev IsRecursion : List Named → List ℕ → Fault → Type 0
IsRecursion units numbers f = (i : ℕ) × (u : Named) × Contains numbers i × (unit_at units i ≡ Some u) × (f ≡ fault u.name.position rules.Recursion)

tail : {A : Type 0} (x y : A) (xs : List A) → Contains xs x → Contains (y ∷ xs) x
tail x y xs h = (suc h.0, omega (arith, h.1), h.2)

recursion_by : (units : List Named) (i : ℕ) (o : Option Named) (f : Fault) → unit_at units i ≡ o → Contains (recursion_of o) f → IsRecursion units (i ∷ []) f
recursion_by units i None f is h = absurd (nothing f h)
recursion_by units i (Some u) f is h = (i, u, only i, is, sym (single (fault u.name.position rules.Recursion) f h))

-- each of them is that of one of the units
recursions_are : (units : List Named) (numbers : List ℕ) (f : Fault) → Contains (recursions units numbers) f → IsRecursion units numbers f
recursions_are units [] f h = absurd (nothing f h)
recursions_are units (i ∷ is) f h = elim (Contains-append_cases (recursion_of (unit_at units i)) (recursions units is) f h) as (λ _. IsRecursion units (i ∷ is) f) [
  | inl k ↦ let w : IsRecursion units (i ∷ []) f = recursion_by units i (unit_at units i) f refl k in
      (w.0, w.1, subst (Contains (i ∷ is)) (single i w.0 w.2) (Contains-head i is), w.3, w.4)
  | inr k ↦ let w : IsRecursion units is f = recursions_are units is f k in (w.0, w.1, tail w.0 i is w.2, w.3, w.4)
]

pub recursions_have : (units : List Named) (numbers : List ℕ) (i : ℕ) (u : Named) → Contains numbers i → unit_at units i ≡ Some u
    → Contains (recursions units numbers) (fault u.name.position rules.Recursion)
recursions_have units [] i u h is = absurd (nothing i h)
recursions_have units (n ∷ ns) i u h is = elim (Contains-cons_cases i n ns h) as (λ _. Contains (recursions units (n ∷ ns)) (fault u.name.position rules.Recursion)) [
  | inl e ↦ Contains-append_left (recursion_of (unit_at units n)) (recursions units ns) (fault u.name.position rules.Recursion)
      (subst (λ o. Contains (recursion_of o) (fault u.name.position rules.Recursion)) (sym (ap (unit_at units) e ∙ is)) (only (fault u.name.position rules.Recursion)))
  | inr k ↦ Contains-append_right (recursion_of (unit_at units n)) (recursions units ns) (fault u.name.position rules.Recursion) (recursions_have units ns i u k is)
]

-- ---- all faults of the units

abbrev pub all_faults : List Section → List ℕ → List Fault
all_faults text numbers = node_faults (units_of text) ++ recursions (units_of text) numbers

-- these numbers are those of the units that reach themselves
abbrev pub AreAllCyclic : List Section → List ℕ → Type 0
AreAllCyclic text numbers = (a : ℕ) → (Contains numbers a → Reaches (graph_of (units_of text)) a a) × (Reaches (graph_of (units_of text)) a a → Contains numbers a)

offered_is_fault : (text : List Section) (numbers : List ℕ) (f : Fault) → AreAllCyclic text numbers → Contains (all_faults text numbers) f → IsUnitFault text f
offered_is_fault text numbers f cyclic h = elim (Contains-append_cases (node_faults (units_of text)) (recursions (units_of text) numbers) f h) as (λ _. IsUnitFault text f) [
  | inl k ↦ listed k
  | inr k ↦ let w : IsRecursion (units_of text) numbers f = recursions_are (units_of text) numbers f k in
      subst (IsUnitFault text) (sym w.4) (recursion w.3 ((cyclic w.0).0 w.2))
]

fault_is_offered : (text : List Section) (numbers : List ℕ) (f : Fault) → AreAllCyclic text numbers → IsUnitFault text f → Contains (all_faults text numbers) f
fault_is_offered text numbers f cyclic (listed k) = Contains-append_left (node_faults (units_of text)) (recursions (units_of text) numbers) f k
fault_is_offered text numbers f cyclic (recursion {i = i} {u = u} is r) =
    Contains-append_right (node_faults (units_of text)) (recursions (units_of text) numbers) (fault u.name.position rules.Recursion)
    (recursions_have (units_of text) numbers i u ((cyclic i).1 r) is)

pub are_unit_faults : (text : List Section) (numbers : List ℕ) → AreAllCyclic text numbers → AreUnitFaults text (all_faults text numbers)
are_unit_faults text numbers cyclic = record {
  are = λ f h. offered_is_fault text numbers f cyclic h;
  all = λ f h. fault_is_offered text numbers f cyclic h;
}

-- ---- the numbers that an order refuses

pub cyclic_are_all : (text : List Section) (numbers : List ℕ) → AreCyclic (graph_of (units_of text)) numbers → AreAllCyclic text numbers
cyclic_are_all text numbers w a = ((w.cyclic a).0, (w.cyclic a).1)

pub cyclic_are_units : (units : List Named) (numbers : List ℕ) → AreCyclic (graph_of units) numbers → All (λ i. i < length units) numbers
cyclic_are_units units numbers w = All-from_get_or (λ i. i < length units) numbers 0 (λ k below.
    let i : ℕ = get_or numbers k 0 in
    reaching units i i ((w.cyclic i).0 (Contains-get_or numbers k 0 below)))

first_row : (numbers : List ℕ) → (numbers ≡ [] → ⊥) → (i : ℕ) × Contains numbers i
first_row [] some = absurd (some refl)
first_row (i ∷ is) some = (i, Contains-head i is)

-- one of them has a fault
pub cyclic_has_fault : (text : List Section) (numbers : List ℕ) → AreCyclic (graph_of (units_of text)) numbers → HasUnitFault text
cyclic_has_fault text numbers w =
    let row : (i : ℕ) × Contains numbers i = first_row numbers w.some in
    let returns : Reaches (graph_of (units_of text)) row.0 row.0 = (w.cyclic row.0).0 row.1 in
    let unit : (u : Named) × (unit_at (units_of text) row.0 ≡ Some u) = there (units_of text) row.0 (reaching (units_of text) row.0 row.0 returns) in
    (fault unit.0.name.position rules.Recursion, recursion unit.1 returns)

-- the faults of the units and then these
pub all_offered : (text : List Section) (numbers : List ℕ) (start o o2 : First) → o ≡ offer_all start (node_faults (units_of text))
    → o2 ≡ offer_all o (recursions (units_of text) numbers) → o2 ≡ offer_all start (all_faults text numbers)
all_offered text numbers start o o2 a b =
    b ∙ ap (λ p. offer_all p (recursions (units_of text) numbers)) a ∙ sym (offer_append start (node_faults (units_of text)) (recursions (units_of text) numbers))
