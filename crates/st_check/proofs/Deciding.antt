-- Each text has an answer: whether a unit reaches itself can be decided.
use Rattle.std.proofs.Common.{◌≡◌, ℕ, zero, suc, ◌<◌, List, [], ◌∷◌, length, Bool, true, false, Option, Some, None, refl, sym, subst, arith, ◌⊎◌, inl, inr}
use Rattle.std.specs.List.{Contains}
use Rattle.st_faults.specs.Faults.{First, fault, none_from, offer_all}
use Rattle.st_faults.specs.declared.fault.Fault.{Fault}
use Rattle.st_faults.specs.declared.fault.Rule.TheVariants as rules
use Rattle.st_tree.specs.declared.tree.unit.Unit.{Unit as Section}
use Rattle.st_types.specs.Names.{Named, unit_at, units_of}
use Rattle.st_types.proofs.Units.{there}
use Rattle.st_references.specs.Graphs.{Graph, Refers, Reaches, direct, onward, references}
use Rattle.st_references.proofs.GraphLemmas.{reaches_row}
use Rattle.st_references.proofs.Listed.{Contains-cons_cases, Contains-head, Contains-nil, Contains-tail, same_or_not}
use Rattle.st_references.specs.References.{graph_of}
use Rattle.st_check.specs.Faults.{HasNoProgram, IsAccepted, IsFirst, IsUnitFault, program_named}
use Rattle.st_check.specs.Laws.{IsDecided}
use Rattle.st_check.specs.Recursions.{OffersUnitFaults}
use Rattle.st_check.proofs.Cyclic.{AreAllCyclic, all_faults, are_unit_faults}
use Rattle.st_check.proofs.Kept.{first_of_units, has_none}
use Rattle.st_check.proofs.Named.{program_is_unit}
use Rattle.st_check.proofs.Passing.{accepted, first_of_all, is_large, missing, too_large}

abbrev Decision : Type 0 → Type 0
Decision A = A ⊎ (A → ⊥)

either : (A B : Type 0) → Decision A → Decision B → Decision (A ⊎ B)
either A B (inl a) d = inl (inl a)
either A B (inr a) (inl b) = inl (inr b)
either A B (inr a) (inr b) = inr (λ h. elim h as (λ _. ⊥) [ inl k ↦ a k | inr k ↦ b k ])

both : (A B : Type 0) → Decision A → Decision B → Decision (A × B)
both A B (inl a) (inl b) = inl (a, b)
both A B (inl a) (inr b) = inr (λ h. b h.1)
both A B (inr a) d = inr (λ h. a h.0)

contains : (a : ℕ) (rows : List ℕ) → Decision (Contains rows a)
contains a [] = inr (Contains-nil a)
contains a (b ∷ rows) = by (same_or_not b a) (contains a rows) where
  by : Decision (b ≡ a) → Decision (Contains rows a) → Decision (Contains (b ∷ rows) a)
  by (inl e) d = inl (subst (Contains (b ∷ rows)) e (Contains-head b rows))
  by (inr n) (inl h) = inl (Contains-tail a b rows h)
  by (inr n) (inr m) = inr (λ h. elim (Contains-cons_cases a b rows h) as (λ _. ⊥) [ inl e ↦ n e | inr k ↦ m k ])

-- ---- what a row reaches through rows below a number only

abbrev Through : Graph → ℕ → ℕ → ℕ → Type 0
Through graph zero a c = Refers graph a c
Through graph (suc k) a c = Through graph k a c ⊎ (Through graph k a k × Through graph k k c)

decided : (graph : Graph) (k a c : ℕ) → Decision (Through graph k a c)
decided graph zero a c = contains c (references graph a)
decided graph (suc k) a c =
    either (Through graph k a c) (Through graph k a k × Through graph k k c) (decided graph k a c)
    (both (Through graph k a k) (Through graph k k c) (decided graph k a k) (decided graph k k c))

further : (graph : Graph) (a b c : ℕ) → Reaches graph a b → Reaches graph b c → Reaches graph a c
further graph a b c (direct r) k = onward r k
further graph a b c (onward {b = m} r s) k = onward r (further graph m b c s k)

reaches : (graph : Graph) (k a c : ℕ) → Through graph k a c → Reaches graph a c
reaches graph zero a c h = direct h
reaches graph (suc k) a c (inl h) = reaches graph k a c h
reaches graph (suc k) a c (inr h) = further graph a k c (reaches graph k a k h.0) (reaches graph k k c h.1)

raised : (graph : Graph) (k a c : ℕ) → Refers graph a c → Through graph k a c
raised graph zero a c h = h
raised graph (suc k) a c h = inl (raised graph k a c h)

to_last : (graph : Graph) (k a : ℕ) → Through graph (suc k) a k → Through graph k a k
to_last graph k a (inl h) = h
to_last graph k a (inr h) = h.0

from_last : (graph : Graph) (k c : ℕ) → Through graph (suc k) k c → Through graph k k c
from_last graph k c (inl h) = h
from_last graph k c (inr h) = h.1

joined_within : (graph : Graph) (k a b c : ℕ) → ((x y : ℕ) → Through graph k x b → Through graph k b y → Through graph k x y)
    → Through graph (suc k) a b → Through graph (suc k) b c → Through graph (suc k) a c
joined_within graph k a b c join (inl x) (inl y) = inl (join a c x y)
joined_within graph k a b c join (inl x) (inr y) = inr (join a k x y.0, y.1)
joined_within graph k a b c join (inr x) (inl y) = inr (x.0, join k c x.1 y)
joined_within graph k a b c join (inr x) (inr y) = inr (x.0, y.1)

last_or_less : (b k : ℕ) → b < suc k → (b ≡ k) ⊎ (b < k)
last_or_less b k h = grind (arith, h)

joined : (graph : Graph) (k a b c : ℕ) → b < k → Through graph k a b → Through graph k b c → Through graph k a c
joined graph zero a b c below h g = absurd (omega (arith, below))
joined graph (suc k) a b c below h g = elim (last_or_less b k below) as (λ _. Through graph (suc k) a c) [
  | inl e ↦ inr (to_last graph k a (subst (Through graph (suc k) a) e h), from_last graph k c (subst (λ x. Through graph (suc k) x c) e g))
  | inr lt ↦ joined_within graph k a b c (λ x y s t. joined graph k x b y lt s t) h g
]

all_through : (graph : Graph) (a c : ℕ) → Reaches graph a c → Through graph (length graph) a c
all_through graph a c (direct r) = raised graph (length graph) a c r
all_through graph a c (onward {b = m} r k) =
    joined graph (length graph) a m c (reaches_row graph m c k) (raised graph (length graph) a m r) (all_through graph m c k)

returns : (graph : Graph) (a : ℕ) → Decision (Reaches graph a a)
returns graph a = elim (decided graph (length graph) a a) as (λ _. Decision (Reaches graph a a)) [
  | inl h ↦ inl (reaches graph (length graph) a a h)
  | inr n ↦ inr (λ h. n (all_through graph a a h))
]

-- ---- the rows that reach themselves

record AreCyclicBelow (graph : Graph) (n : ℕ) (rows : List ℕ) : Type 0 where
  cyclic : (a : ℕ) → Contains rows a → Reaches graph a a
  all : (a : ℕ) → a < n → Reaches graph a a → Contains rows a

cyclic_below : (graph : Graph) (n : ℕ) → (rows : List ℕ) × AreCyclicBelow graph n rows
cyclic_below graph zero = ([], record { cyclic = λ a h. absurd (Contains-nil a h); all = λ a lt h. absurd (omega (arith, lt)) })
cyclic_below graph (suc n) = by (cyclic_below graph n) (returns graph n) where
  last_or_before : (a : ℕ) → a < suc n → (n ≡ a) ⊎ (a < n)
  last_or_before a h = grind (arith, h)

  by : (rows : List ℕ) × AreCyclicBelow graph n rows → Decision (Reaches graph n n) → (rows : List ℕ) × AreCyclicBelow graph (suc n) rows
  by (rows, w) (inl r) = (
    n ∷ rows,
    record {
      cyclic = λ a h. elim (Contains-cons_cases a n rows h) as (λ _. Reaches graph a a) [
        | inl e ↦ subst (λ x. Reaches graph x x) e r
        | inr k ↦ w.cyclic a k
      ];
      all = λ a lt h. elim (last_or_before a lt) as (λ _. Contains (n ∷ rows) a) [
        | inl e ↦ subst (Contains (n ∷ rows)) e (Contains-head n rows)
        | inr k ↦ Contains-tail a n rows (w.all a k h)
      ];
    },
  )
  by (rows, w) (inr m) = (
    rows,
    record {
      cyclic = w.cyclic;
      all = λ a lt h. elim (last_or_before a lt) as (λ _. Contains rows a) [
        | inl e ↦ absurd (m (subst (λ x. Reaches graph x x) (sym e) h))
        | inr k ↦ w.all a k h
      ];
    },
  )

cyclic_units : (text : List Section) → (numbers : List ℕ) × AreAllCyclic text numbers
cyclic_units text =
    let graph : Graph = graph_of (units_of text) in
    let w : (rows : List ℕ) × AreCyclicBelow graph (length graph) rows = cyclic_below graph (length graph) in
    (w.0, λ a. (w.1.cyclic a, λ h. w.1.all a (reaches_row graph a a h) h))

-- ---- texts

abbrev Answer : List Section → List ℕ → Type 0
Answer text main = ((number : ℕ) × IsAccepted text main number) ⊎ (((f : Fault) × IsFirst text main f) ⊎ HasNoProgram text main)

by_size : (text : List Section) (main : List ℕ) → ((f : Fault) → IsUnitFault text f → ⊥) → (number : ℕ) (u : Named) → program_named (units_of text) main ≡ Some number
    → unit_at (units_of text) number ≡ Some u → (large : Bool) → is_large text u ≡ large → Answer text main
by_size text main clean number u is found true large = inr (inl (fault u.name.position rules.LimitPassed, too_large text main clean number u is found large))
by_size text main clean number u is found false small = inl (number, accepted text main clean number u is found small)

by_name : (text : List Section) (main : List ℕ) → ((f : Fault) → IsUnitFault text f → ⊥) → (number : Option ℕ) → program_named (units_of text) main ≡ number → Answer text main
by_name text main clean None is = inr (inr (missing text main clean is))
by_name text main clean (Some number) is =
    let unit : (u : Named) × (unit_at (units_of text) number ≡ Some u) = there (units_of text) number (program_is_unit (units_of text) main number is) in
    by_size text main clean number unit.0 is unit.1 (is_large text unit.0) refl

by_fault : (text : List Section) (main : List ℕ) (new : First) → OffersUnitFaults text (none_from 0) new → (kept : Option Fault) → new.kept ≡ kept → Answer text main
by_fault text main new w None is = by_name text main (has_none text new w is) (program_named (units_of text) main) refl
by_fault text main new w (Some f) is = inr (inl (f, first_of_all text main f (first_of_units text new w f is)))

pub is_decided : IsDecided
is_decided text main =
    let cyclic : (numbers : List ℕ) × AreAllCyclic text numbers = cyclic_units text in
    let new : First = offer_all (none_from 0) (all_faults text cyclic.0) in
    by_fault text main new (all_faults text cyclic.0, are_unit_faults text cyclic.0 cyclic.1, refl) new.kept refl
