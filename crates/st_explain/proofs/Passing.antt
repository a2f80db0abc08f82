-- What is found of the program of a text whose units have no fault.
use Rattle.std.proofs.Common.{◌≡◌, ℕ, List, [], length, ◌∷◌, ◌<◌, true, false, Some, None}
use Rattle.std.proofs.lemmas.List.Quantifiers.{position-Some}
use Rattle.st_faults.specs.Faults.{fault}
use Rattle.st_faults.specs.declared.fault.Fault.{Fault}
use Rattle.st_faults.specs.declared.fault.Rule.TheVariants as rules
use Rattle.st_tree.specs.declared.tree.unit.Unit.{Unit as Section}
use Rattle.st_types.specs.Names.{Named, unit_at, units_of}
use Rattle.st_types.proofs.Units.{there}
use Rattle.st_check.specs.Faults.{HasNoProgram, IsAccepted, IsFirst, IsUnitFault, is_main, program_named}
use Rattle.st_check.specs.Programs.{IsOrdered}
use Rattle.st_check.proofs.Passing.{accepted, is_large, missing, ordered_has_none, too_large}

pub program_is_unit : (units : List Named) (main : List ℕ) (i : ℕ) → program_named units main ≡ Some i → i < length units
program_is_unit [] main i is = absurd (cc)
program_is_unit (u ∷ us) main i is = (position-Some (is_main main) (u ∷ us) i u is).0

pub finds_missing : (text : List Section) (main order : List ℕ) → IsOrdered text order → program_named (units_of text) main ≡ None → HasNoProgram text main
finds_missing text main order w none = missing text main (ordered_has_none text order w) none

module _ (text : List Section) (main order : List ℕ) (w : IsOrdered text order) (number : ℕ) (is : program_named (units_of text) main ≡ Some number) where
  found : (u : Named) × (unit_at (units_of text) number ≡ Some u)
  found = there (units_of text) number (program_is_unit (units_of text) main number is)

  pub finds_nothing : ((u : Named) → unit_at (units_of text) number ≡ Some u → is_large text u ≡ false) → IsAccepted text main number
  finds_nothing small = accepted text main (ordered_has_none text order w) number found.0 is found.1 (small found.0 found.1)

  pub finds_size : (u : Named) → unit_at (units_of text) number ≡ Some u → is_large text u ≡ true → IsFirst text main (fault u.name.position rules.LimitPassed)
  finds_size u there large = too_large text main (ordered_has_none text order w) number u is there large

  pub finds_only : (f : Fault) → IsUnitFault text f → ⊥
  finds_only f h = ordered_has_none text order w f h
