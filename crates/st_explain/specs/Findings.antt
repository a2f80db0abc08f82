-- What is found in a text, by the definitions of the checks.
use Rattle.std.specs.Prelude.{ℕ, List}
use Rattle.st_tree.specs.declared.tree.unit.Unit.{Unit as Section}
use Rattle.st_faults.specs.declared.fault.Fault.{Fault}
use Rattle.st_check.specs.Faults.{HasNoProgram, IsAccepted, IsFirst, IsUnitFault}
use Rattle.st_explain.specs.declared.finding.Finding.{Finding}
use Rattle.st_explain.specs.declared.finding.Finding.TheVariants as findings

-- nothing is found in what is accepted, else the first fault, or that there is no such program; in a program that is too large the units have no fault
abbrev pub Finds : List Section → List ℕ → Finding → Type 0
Finds text main findings.Nothing = (number : ℕ) × IsAccepted text main number
Finds text main (findings.Fault f) = IsFirst text main f
Finds text main (findings.TooLarge f size) = IsFirst text main f × ((g : Fault) → IsUnitFault text g → ⊥)
Finds text main findings.NoProgram = HasNoProgram text main
