-- What `check` answers.
use Rattle.std.specs.Prelude.{ℕ, List, Option, Some, None}
use Rattle.st_tree.specs.declared.tree.unit.Unit.{Unit as Section}
use Rattle.st_faults.specs.declared.fault.Fault.{Fault}
use Rattle.st_faults.specs.declared.fault.Rule.{Rule}
use Rattle.st_faults.specs.declared.fault.Rule.TheVariants as rules
use Rattle.st_check.specs.Faults.{HasNoProgram, IsFirst}
use Rattle.st_check.specs.declared.fault.CheckFault.{CheckFault}
use Rattle.st_check.specs.declared.fault.CheckFault.TheVariants as check_faults
use Rattle.st_check.specs.declared.faults.Unordered.{Unordered}
use Rattle.st_check.specs.declared.faults.Unordered.TheVariants as unordered

-- a rule that is broken, at a line. C10 has no line.
abbrev pub answer_by : Rule → ℕ → CheckFault
answer_by rules.UnknownName line = check_faults.UnknownName line
answer_by rules.NameTwice line = check_faults.NameTwice line
answer_by rules.TypeMismatch line = check_faults.TypeMismatch line
answer_by rules.OutOfRange line = check_faults.OutOfRange line
answer_by rules.NotAssignable line = check_faults.NotAssignable line
answer_by rules.Recursion line = check_faults.Recursion line
answer_by rules.CallMismatch line = check_faults.CallMismatch line
answer_by rules.MalformedChart line = check_faults.MalformedChart line
answer_by rules.LimitPassed line = check_faults.LimitPassed line
answer_by rules.NoProgram line = check_faults.NoProgram

abbrev pub answer_to : Fault → CheckFault
answer_to f = answer_by f.rule f.position.line

-- what is answered where units have no order
abbrev pub answer_of : Unordered → CheckFault
answer_of unordered.Memory = check_faults.Memory
answer_of (unordered.Fault f) = answer_to f

-- the rule of an answer
abbrev pub rule_of : CheckFault → Option Rule
rule_of check_faults.Memory = None
rule_of (check_faults.UnknownName line) = Some rules.UnknownName
rule_of (check_faults.NameTwice line) = Some rules.NameTwice
rule_of (check_faults.TypeMismatch line) = Some rules.TypeMismatch
rule_of (check_faults.OutOfRange line) = Some rules.OutOfRange
rule_of (check_faults.NotAssignable line) = Some rules.NotAssignable
rule_of (check_faults.Recursion line) = Some rules.Recursion
rule_of (check_faults.CallMismatch line) = Some rules.CallMismatch
rule_of (check_faults.MalformedChart line) = Some rules.MalformedChart
rule_of (check_faults.LimitPassed line) = Some rules.LimitPassed
rule_of check_faults.NoProgram = Some rules.NoProgram

-- the line of an answer, or 0
abbrev pub line_of : CheckFault → ℕ
line_of check_faults.Memory = 0
line_of (check_faults.UnknownName line) = line
line_of (check_faults.NameTwice line) = line
line_of (check_faults.TypeMismatch line) = line
line_of (check_faults.OutOfRange line) = line
line_of (check_faults.NotAssignable line) = line
line_of (check_faults.Recursion line) = line
line_of (check_faults.CallMismatch line) = line
line_of (check_faults.MalformedChart line) = line
line_of (check_faults.LimitPassed line) = line
line_of check_faults.NoProgram = 0

-- the text is refused as a program of this name with this answer
pub data Explains (text : List Section) (main : List ℕ) : CheckFault → Type 0 where
  memory : Explains text main check_faults.Memory
  fault : {f : Fault} → IsFirst text main f → Explains text main (answer_to f)
  no_program : HasNoProgram text main → Explains text main check_faults.NoProgram
