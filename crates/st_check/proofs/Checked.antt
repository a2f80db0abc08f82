-- A text as a program, where it is known through its tables.
use Rattle.std.proofs.Common.{◌≡◌, ℕ, List, true, false, Some, None, sym, subst}
use Rattle.st_faults.specs.Faults.{fault}
use Rattle.st_faults.specs.declared.fault.Rule.TheVariants as rules
use Rattle.st_tree.specs.declared.tree.unit.Unit.{Unit as Section}
use Rattle.st_types.specs.Names.{Named, unit_at, units_of}
use Rattle.st_types.proofs.Units.{there}
use Rattle.st_check.specs.Answers.{Explains, answer_of, answer_to}
use Rattle.st_check.specs.Answers as answers
use Rattle.st_check.specs.Faults.{IsAccepted, program_named}
use Rattle.st_check.specs.Programs.{IsOrdered, IsProgram}
use Rattle.st_check.specs.Recursions.{IsOfUnits}
use Rattle.st_check.specs.declared.faults.Unordered.{Unordered}
use Rattle.st_check.specs.declared.fault.CheckFault.{CheckFault}
use Rattle.st_check.specs.declared.fault.CheckFault.TheVariants as check_faults
use Rattle.st_check.proofs.Named.{program_is_program, program_is_unit}
use Rattle.st_check.proofs.Passing.{accepted, explains_all, is_large as large_of, missing, ordered_has_none, too_large}

module _ (text seen : List Section) (main : List ℕ) where
  pub explains : (u : Unordered) → seen ≡ text → IsOfUnits seen u → Explains text main (answer_of u)
  explains u same w = explains_all text main u (subst (λ t. IsOfUnits t u) same w)

  module _ (order : List ℕ) (same : seen ≡ text) (w : IsOrdered seen order) where
    ordered : IsOrdered text order
    ordered = subst (λ t. IsOrdered t order) same w

    pub is_missing : program_named (units_of seen) main ≡ None → Explains text main check_faults.NoProgram
    is_missing none = answers.no_program (missing text main (ordered_has_none text order ordered) (subst (λ t. program_named (units_of t) main ≡ None) same none))

    module _ (number : ℕ) (is : program_named (units_of seen) main ≡ Some number) where
      named_so : program_named (units_of text) main ≡ Some number
      named_so = subst (λ t. program_named (units_of t) main ≡ Some number) same is

      unit : (u : Named) × (unit_at (units_of text) number ≡ Some u)
      unit = there (units_of text) number (program_is_unit (units_of text) main number named_so)

      pub is_large : (u : Named) (e : CheckFault) → Some u ≡ unit_at (units_of seen) number → large_of seen u ≡ true → e ≡ answer_to (fault u.name.position rules.LimitPassed) → Explains text main e
      is_large u e found large it =
          subst (Explains text main) (sym it) (answers.fault (too_large text main (ordered_has_none text order ordered) number u named_so
          (sym (subst (λ t. Some u ≡ unit_at (units_of t) number) same found)) (subst (λ t. large_of t u ≡ true) same large)))

      module _ (small : (u : Named) → unit_at (units_of seen) number ≡ Some u → large_of seen u ≡ false) where
        is_small : (u : Named) → unit_at (units_of text) number ≡ Some u → large_of text u ≡ false
        is_small = subst (λ t. (u : Named) → unit_at (units_of t) number ≡ Some u → large_of t u ≡ false) same small

        pub is_accepted : IsAccepted text main number
        is_accepted = accepted text main (ordered_has_none text order ordered) number unit.0 named_so unit.1 (is_small unit.0 unit.1)

        pub is_program_of : IsProgram text number order
        is_program_of = record {
          faultless = ordered.faultless;
          ordered = ordered.ordered;
          unit = unit.0;
          found = unit.1;
          program = program_is_program (units_of text) main number unit.0 named_so unit.1;
          small = is_small unit.0 unit.1;
        }
