-- What an expression does with the values of its operands.
use Rattle.std.specs.Prelude.{ℕ, zero, suc, Bool, true, false, Option, Some, None, Result, Ok, Err}
use Rattle.st_values.specs.declared.elem.Elem.{Elem}
use Rattle.st_values.specs.declared.value.Value.{Value}
use Rattle.st_operators.specs.Functions.{absolute_of, converted_to, greatest_of, least_of, places_of, rotated_left_by, rotated_right_by, shifted_left_by, shifted_right_by}
use Rattle.st_operators.specs.Operators.{applied, complemented, complements, is_bits, is_integer, negated, negates, takes, type_given}
use Rattle.st_operators.specs.declared.binary.ZeroDivisor.{ZeroDivisor}
use Rattle.st_meaning.specs.declared.fault.RunFaultKind.{RunFaultKind}
use Rattle.st_meaning.specs.declared.fault.RunFaultKind.TheVariants as faults
use Rattle.st_meaning.specs.declared.operation.Binary.{Binary}
use Rattle.st_meaning.specs.declared.operation.Binary.TheVariants as binaries
use Rattle.st_meaning.specs.declared.operation.Unary.{Unary}
use Rattle.st_meaning.specs.declared.operation.Unary.TheVariants as unaries

-- what stops a run, and the line. It is in the body that runs, or in that of the unit of this number, which it invoked.
pub record Stop : Type 0 where
  pub kind : RunFaultKind
  pub line : ℕ
  pub unit : Option ℕ

abbrev pub stop : RunFaultKind → ℕ → Stop
stop kind line = record { kind = kind; line = line; unit = None }

-- a fault is in the unit of this number, or in one that its body invoked or called
abbrev pub unit_or : ℕ → Option ℕ → ℕ
unit_or unit None = unit
unit_or unit (Some other) = other

abbrev pub in_unit : ℕ → Stop → Stop
in_unit unit f = record { kind = f.kind; line = f.line; unit = Some (unit_or unit f.unit) }

-- something, and the steps that are left then, or what stopped the run
pub data Answer (A : Type 0) : Type 0 where
  gives : A → ℕ → Answer A
  stops : Stop → Answer A

abbrev pub then_with : {A B : Type 0} → Answer A → (A → ℕ → Answer B) → Answer B
then_with (gives x left) go = go x left
then_with (stops f) go = stops f

-- counts a step
abbrev pub with_step : {A : Type 0} → ℕ → ℕ → (ℕ → Answer A) → Answer A
with_step line zero go = stops (stop faults.StepLimit line)
with_step line (suc n) go = go n

-- what the unit of this number answers
abbrev pub answered_in : {A : Type 0} → ℕ → Answer A → Answer A
answered_in unit (gives x left) = gives x left
answered_in unit (stops f) = stops (in_unit unit f)

-- ---- one operand

abbrev pub unary_value : Unary → Value → Value
unary_value unaries.Negate a = negated a
unary_value unaries.Complement a = complemented a
unary_value unaries.Absolute a = absolute_of a
unary_value (unaries.Convert e) a = converted_to e a

-- it takes an operand of the type
abbrev pub takes_one : Unary → Elem → Bool
takes_one unaries.Negate e = negates e
takes_one unaries.Complement e = complements e
takes_one unaries.Absolute e = is_integer e
takes_one (unaries.Convert to) e = true

-- the type of what it gives
abbrev pub unary_type : Unary → Elem → Elem
unary_type (unaries.Convert to) e = to
unary_type _ e = e

-- ---- two operands

-- a zero divisor of `/` and MOD stops the run
abbrev pub unless_refused : ℕ → Result Value ZeroDivisor → ℕ → Answer Value
unless_refused line (Ok v) left = gives v left
unless_refused line (Err refused) left = stops (stop faults.ZeroDivisor line)

abbrev pub binary_value : Binary → ℕ → Value → Value → ℕ → Answer Value
binary_value (binaries.Operator o) line a b left = unless_refused line (applied o a b) left
binary_value binaries.Least line a b left = gives (least_of a b) left
binary_value binaries.Greatest line a b left = gives (greatest_of a b) left
binary_value binaries.ShiftLeft line a b left = gives (shifted_left_by a (places_of b.bits)) left
binary_value binaries.ShiftRight line a b left = gives (shifted_right_by a (places_of b.bits)) left
binary_value binaries.RotateLeft line a b left = gives (rotated_left_by a (places_of b.bits)) left
binary_value binaries.RotateRight line a b left = gives (rotated_right_by a (places_of b.bits)) left

-- it takes a first operand of the type
abbrev pub takes_two : Binary → Elem → Bool
takes_two (binaries.Operator o) e = takes o e
takes_two binaries.Least e = true
takes_two binaries.Greatest e = true
takes_two _ e = is_bits e

-- the second operand of a shift or a rotation counts places; of all else both are of one type
abbrev pub has_count : Binary → Bool
has_count (binaries.Operator o) = false
has_count binaries.Least = false
has_count binaries.Greatest = false
has_count _ = true

-- the type of what it gives
abbrev pub binary_type : Binary → Elem → Elem
binary_type (binaries.Operator o) e = type_given o e
binary_type _ e = e
