-- Texts whose units have no fault.
use Rattle.std.proofs.Common.{◌≡◌, ℕ, List, [], length, Bool, true, false, Option, Some, None, ap, sym, ◌∙◌, subst, arith}
use Rattle.std.specs.List.{Contains}
use Rattle.std.proofs.lemmas.Bool.Decides.{nat_tests}
use Rattle.st_faults.specs.Faults.{fault, is_before}
use Rattle.st_faults.specs.declared.fault.Fault.{Fault}
use Rattle.st_faults.specs.declared.fault.Rule.TheVariants as rules
use Rattle.st_tree.specs.declared.tree.unit.Unit.{Unit as Section}
use Rattle.st_types.specs.Names.{Named, unit_at, units_of}
use Rattle.st_references.proofs.Orders.{none_reaches_itself}
use Rattle.st_references.specs.References.{graph_of}
use Rattle.st_leaves.specs.Leaves.{leaves_of}
use Rattle.st_leaves.specs.Limits.{is_too_large}
use Rattle.st_check.specs.Answers.{Explains, answer_of}
use Rattle.st_check.specs.Answers as answers
use Rattle.st_check.specs.Faults.{HasNoProgram, IsAccepted, IsFault, IsFirst, IsUnitFault, listed, program_named, recursion, size, unit}
use Rattle.st_check.specs.Laws.{HasNoRecursion}
use Rattle.st_check.specs.Programs.{IsOrdered}
use Rattle.st_check.specs.Recursions.{IsFirstOfUnits, IsOfUnits}
use Rattle.st_check.specs.declared.faults.Unordered.{Unordered}
use Rattle.st_check.specs.declared.faults.Unordered.TheVariants as unordered

-- the first fault of the units is the first of all
pub first_of_all : (text : List Section) (main : List ℕ) (f : Fault) → IsFirstOfUnits text f → IsFirst text main f
first_of_all text main f w = record { there = unit w.there; first = λ g h. by_kind g h } where
  by_kind : (g : Fault) → IsFault text main g → is_before g f ≡ false
  by_kind g (unit h) = w.first g h
  by_kind g (size none same found large) = absurd (none f w.there)

pub explains_all : (text : List Section) (main : List ℕ) (u : Unordered) → IsOfUnits text u → Explains text main (answer_of u)
explains_all text main unordered.Memory w = answers.memory
explains_all text main (unordered.Fault f) w = answers.fault (first_of_all text main f w)

-- a text in order has no fault in its units
pub ordered_has_none : (text : List Section) (order : List ℕ) → IsOrdered text order → (f : Fault) → IsUnitFault text f → ⊥
ordered_has_none text order w f (listed k) = nothing (subst (λ fs. Contains fs f) w.faultless k) where
  nothing : Contains [] f → ⊥
  nothing h = omega (arith, h.1)
ordered_has_none text order w f (recursion {i = i} is r) = none_reaches_itself (graph_of (units_of text)) order i w.ordered r

pub has_no_recursion : HasNoRecursion
has_no_recursion program i w h = none_reaches_itself (graph_of (units_of program.0)) program.1.1 i w.ordered h

-- no fault comes before itself
not_before : (f : Fault) → is_before f f ≡ false
not_before f = grind (arith, nat_tests)

-- ---- the program of such a text

same_unit : (units : List Named) (i j : ℕ) (u v : Named) → i ≡ j → unit_at units i ≡ Some u → unit_at units j ≡ Some v → u ≡ v
same_unit units i j u v same a b = (let e : Some u ≡ Some v = sym a ∙ ap (unit_at units) same ∙ b in cc)

same_number : (o : Option ℕ) (i j : ℕ) → o ≡ Some i → o ≡ Some j → i ≡ j
same_number o i j a b = (let e : Some i ≡ Some j = sym a ∙ b in cc)

abbrev NoUnitFault : List Section → Type 0
NoUnitFault text = (f : Fault) → IsUnitFault text f → ⊥

abbrev pub is_large : List Section → Named → Bool
is_large text u = is_too_large (length u.name.spelling) (leaves_of (units_of text) u.declares)

pub missing : (text : List Section) (main : List ℕ) → NoUnitFault text → program_named (units_of text) main ≡ None → HasNoProgram text main
missing text main clean is = record { none = by_kind; missing = is } where
  by_kind : (g : Fault) → IsFault text main g → ⊥
  by_kind g (unit h) = clean g h
  by_kind g (size none same found large) = (let e : Some _ ≡ None = sym same ∙ is in absurd (cc))

module _ (text : List Section) (main : List ℕ) (clean : NoUnitFault text) (number : ℕ) (u : Named)
    (is : program_named (units_of text) main ≡ Some number) (found : unit_at (units_of text) number ≡ Some u) where
  small_has_none : is_large text u ≡ false → (g : Fault) → IsFault text main g → ⊥
  small_has_none small g (unit h) = clean g h
  small_has_none small g (size {i = i} {u = v} none same there large) =
      let e : true ≡ false = sym large ∙ ap (is_large text) (same_unit (units_of text) i number v u (same_number _ i number same is) there found) ∙ small in
      absurd (cc)

  pub accepted : is_large text u ≡ false → IsAccepted text main number
  accepted small = record { none = small_has_none small; program = is }

  large_first : (g : Fault) → IsFault text main g → is_before g (fault u.name.position rules.LimitPassed) ≡ false
  large_first g (unit h) = absurd (clean g h)
  large_first g (size {i = i} {u = v} none same there large) =
      subst (λ w. is_before (fault w.name.position rules.LimitPassed) (fault u.name.position rules.LimitPassed) ≡ false)
      (same_unit (units_of text) number i u v (same_number _ number i is same) found there)
      (not_before (fault u.name.position rules.LimitPassed))

  pub too_large : is_large text u ≡ true → IsFirst text main (fault u.name.position rules.LimitPassed)
  too_large large = record { there = size clean is found large; first = large_first }
