-- Worked programs: this is what they mean.
use Rattle.std.proofs.Common.{◌≡◌, ℕ, ℤ, pos, negsuc, true, false, List, [], ◌∷◌, ◌++◌, codes, None, Some, refl}
use Rattle.st_values.specs.declared.elem.Elem.{Elem}
use Rattle.st_values.specs.declared.elem.Elem.TheVariants as elems
use Rattle.st_values.specs.declared.value.Value.{Value}
use Rattle.st_tree.specs.declared.operator.BinOp.TheVariants as operators
use Rattle.st_tree.specs.declared.tree.declaration.VarKind.TheVariants as var_kinds
use Rattle.st_tree.specs.declared.tree.constant.Constant.TheVariants as constants
use Rattle.st_tree.specs.declared.tree.constant.SignedInteger.{SignedInteger}
use Rattle.st_types.specs.Compositions.{Composition, elementary, array, composed, standard, Members, none, member}
use Rattle.st_types.specs.Initials.{zero_of}
use Rattle.st_types.specs.declared.standard.StandardBlock.TheVariants as blocks
use Rattle.st_meaning.specs.Meaning.{Calls, Values, value_of}
use Rattle.st_meaning.specs.Operations.{Answer, gives, stops, Stop, stop}
use Rattle.st_meaning.specs.Statements.{Outcome, Setting, done, returned, faulted, body_meaning, command_meaning, commands_meaning}
use Rattle.st_meaning.specs.Terms.{Term, constant, stored, binary, no_terms, more_terms, Parts, whole, field_part, element_part, Command, assign, cases, count_loop, while_loop, invoke, enter, exit, finish, Moves, no_moves, more_moves, Commands, no_commands, more_commands, no_cases, more_cases, plain_body}
use Rattle.st_meaning.specs.Typing.{Passed, Typed, function_called, joined, literal, passed, pin_of, place_typed}
use Rattle.st_meaning.specs.Units.{function_setting, inputs_in, members_begun, result_given}
use Rattle.st_meaning.specs.Wholes.{Called}
use Rattle.st_meaning.specs.declared.fault.RunFaultKind.{RunFaultKind}
use Rattle.st_meaning.specs.declared.fault.RunFaultKind.TheVariants as faults
use Rattle.st_meaning.specs.declared.operation.Binary.TheVariants as binaries

-- a number as a value, and as an expression; `negsuc n` is the number -(n + 1)
abbrev of : Elem → ℤ → Value
of elem number = record { elem = elem; bits = number }

abbrev int : ℤ → Term
int number = constant (of elems.Int number)

-- VAR X : SINT; Y : INT; END_VAR
abbrev root : Composition
root = composed (codes "PROGRAM") (member (codes "X") var_kinds.Internal (elementary (zero_of elems.Sint)) (member (codes "Y") var_kinds.Internal (elementary (zero_of elems.Int)) none)) []

abbrev values : ℤ → ℤ → Values
values x y = of elems.Sint x ∷ of elems.Int y ∷ []

abbrev x : Parts
x = field_part (codes "X") whole

abbrev y : Parts
y = field_part (codes "y") whole

-- Y := Y + 1, on this line
abbrev count_up : ℕ → Command
count_up line = assign line y (binary (binaries.Operator operators.Add) line (stored y) (int (pos 1)))

-- where no function is called
abbrev no_calls : Calls
no_calls unit inputs left = stops (stop faults.StepLimit 0)

-- from these values and 100 steps
abbrev from : ℤ → ℤ → Command → Outcome
from a b c = command_meaning no_calls root (record { now = pos 0; forced = false ∷ false ∷ [] }) c (values a b) 100

-- ---- expressions

-- FALSE AND 1 / 0 = 1 divides too
and_takes_both : value_of no_calls root (values (pos 0) (pos 0))
    (binary (binaries.Operator operators.And) 3 (constant (of elems.Bool (pos 0))) (binary (binaries.Operator operators.Eq) 3 (binary (binaries.Operator operators.Div) 4 (int (pos 1)) (int (pos 0))) (int (pos 1)))) 9
    ≡ stops (stop faults.ZeroDivisor 4)
and_takes_both = refl

-- in 1 / 0 + 1 / 0 the left one stops the run
left_operand_first : value_of no_calls root (values (pos 0) (pos 0))
    (binary (binaries.Operator operators.Add) 3 (binary (binaries.Operator operators.Div) 4 (int (pos 1)) (int (pos 0))) (binary (binaries.Operator operators.Div) 5 (int (pos 1)) (int (pos 0)))) 9
    ≡ stops (stop faults.ZeroDivisor 4)
left_operand_first = refl

-- -7 MOD 3 is -1, and 7 MOD -3 is 1
remainder_of_negative : value_of no_calls root (values (pos 0) (pos 0)) (binary (binaries.Operator operators.Mod) 1 (int (negsuc 6)) (int (pos 3))) 9 ≡ gives (of elems.Int (negsuc 0)) 9
remainder_of_negative = refl

remainder_by_negative : value_of no_calls root (values (pos 0) (pos 0)) (binary (binaries.Operator operators.Mod) 1 (int (pos 7)) (int (negsuc 2))) 9 ≡ gives (of elems.Int (pos 1)) 9
remainder_by_negative = refl

-- names are the same if they differ in case only
value_is_found : value_of no_calls root (values (pos 5) (pos 8)) (stored y) 9 ≡ gives (of elems.Int (pos 8)) 9
value_is_found = refl

-- ---- FOR

-- FOR X := 1 TO 3 DO X := 10; Y := Y + 1; END_FOR; goes three times: a step for FOR, one for each of four tests, two for each turn
counter_is_its_own : from (pos 0) (pos 0)
    (count_loop 1 x (constant (of elems.Sint (pos 1))) (constant (of elems.Sint (pos 3))) (constant (of elems.Sint (pos 1))) (more_commands (assign 2 x (constant (of elems.Sint (pos 10)))) (more_commands (count_up 3) no_commands)))
    ≡ done (values (pos 10) (pos 3)) 89
counter_is_its_own = refl

-- FOR X := 126 TO 127 DO Y := Y + 1; END_FOR; ends, though no SINT is above 127
counter_does_not_wrap : from (pos 0) (pos 0)
    (count_loop 1 x (constant (of elems.Sint (pos 126))) (constant (of elems.Sint (pos 127))) (constant (of elems.Sint (pos 1))) (more_commands (count_up 2) no_commands))
    ≡ done (values (pos 127) (pos 2)) 94
counter_does_not_wrap = refl

-- FOR X := 3 TO 1 BY -1 goes three times, and FOR X := 3 TO 1 never, but X is 3
counted_down : from (pos 0) (pos 0)
    (count_loop 1 x (constant (of elems.Sint (pos 3))) (constant (of elems.Sint (pos 1))) (constant (of elems.Sint (negsuc 0))) (more_commands (count_up 2) no_commands))
    ≡ done (values (pos 1) (pos 3)) 92
counted_down = refl

counted_never : from (pos 0) (pos 0)
    (count_loop 1 x (constant (of elems.Sint (pos 3))) (constant (of elems.Sint (pos 1))) (constant (of elems.Sint (pos 1))) (more_commands (count_up 2) no_commands))
    ≡ done (values (pos 3) (pos 0)) 98
counted_never = refl

-- ---- CASE

-- CASE 5 OF 1..10: Y := 1; 5: Y := 2; ELSE Y := 3; END_CASE; takes the first case that has the number
first_case_is_taken : from (pos 0) (pos 0)
    (cases 1 (int (pos 5))
    (more_cases (record { least = pos 1; greatest = pos 10 } ∷ []) (more_commands (assign 2 y (int (pos 1))) no_commands)
    (more_cases (record { least = pos 5; greatest = pos 5 } ∷ []) (more_commands (assign 3 y (int (pos 2))) no_commands) no_cases))
    (more_commands (assign 4 y (int (pos 3))) no_commands))
    ≡ done (values (pos 0) (pos 1)) 98
first_case_is_taken = refl

-- ---- EXIT, RETURN and the step limit

-- WHILE TRUE DO FOR X := 1 TO 3 DO EXIT; END_FOR; Y := 1; RETURN; END_WHILE; EXIT leaves FOR alone
exit_leaves_one_loop : from (pos 0) (pos 0)
    (while_loop 1 (constant (of elems.Bool (pos 1)))
    (more_commands (count_loop 2 x (constant (of elems.Sint (pos 1))) (constant (of elems.Sint (pos 3))) (constant (of elems.Sint (pos 1))) (more_commands (exit 3) no_commands))
    (more_commands (assign 4 y (int (pos 1))) (more_commands (finish 5) no_commands))))
    ≡ returned (values (pos 1) (pos 1)) 93
exit_leaves_one_loop = refl

-- WHILE TRUE DO END_WHILE stops on the line of WHILE
endless_loop_stops : from (pos 0) (pos 0) (while_loop 7 (constant (of elems.Bool (pos 1))) no_commands) ≡ faulted (stop faults.StepLimit 7)
endless_loop_stops = refl

-- ---- forced variables

-- a store to a forced variable is dropped
forced_stays : command_meaning no_calls root (record { now = pos 0; forced = false ∷ true ∷ [] }) (count_up 1) (values (pos 0) (pos 8)) 100 ≡ done (values (pos 0) (pos 8)) 99
forced_stays = refl

-- ---- invocations of standard function blocks (3.3.2.2)

-- VAR GO : BOOL; T : TON; LAMP : BOOL; END_VAR
abbrev timers : Composition
timers =
    composed (codes "PROGRAM")
    (member (codes "GO") var_kinds.Internal (elementary (zero_of elems.Bool))
    (member (codes "T") var_kinds.Internal (standard blocks.Ton) (member (codes "LAMP") var_kinds.Internal (elementary (zero_of elems.Bool)) none)))
    []

-- GO, the leaves of T, which are IN, PT, Q, ET, $RUN and $START, and LAMP
abbrev timed : (go input preset output time running start lamp : ℤ) → Values
timed go input preset output time running start lamp =
    of elems.Bool go ∷ of elems.Bool input ∷ of elems.Time preset ∷ of elems.Bool output ∷ of elems.Time time ∷ of elems.Bool running ∷ of elems.Time start
    ∷ of elems.Bool lamp ∷ []

-- at a moment, where nothing is forced
abbrev at : ℤ → Setting
at moment = record { now = moment; forced = [] }

abbrev timer : Moves → Moves → Command
timer inputs outputs = invoke 1 (codes "T") blocks.Ton inputs outputs

abbrev pin : List ℕ → Parts
pin name = pin_of (codes "t") name

-- IN := GO, PT := T#100ms
abbrev both_inputs : Moves
both_inputs =
    more_moves (pin (codes "IN")) (stored (field_part (codes "GO") whole)) (more_moves (pin (codes "PT")) (constant (of elems.Time (pos 100))) no_moves)

-- Q => LAMP
abbrev to_lamp : Moves
to_lamp = more_moves (field_part (codes "LAMP") whole) (stored (pin (codes "Q"))) no_moves

-- T(IN := GO, PT := T#100ms, Q => LAMP) begins to measure,
timer_begins : command_meaning no_calls timers (at (pos 1000)) (timer both_inputs to_lamp)
    (timed (pos 1) (pos 0) (pos 0) (pos 0) (pos 0) (pos 0) (pos 0) (pos 0)) 100
    ≡ done (timed (pos 1) (pos 1) (pos 100) (pos 0) (pos 0) (pos 1) (pos 1000) (pos 0)) 98
timer_begins = refl

-- and 100 ms later LAMP gets the Q that this very invocation has made
output_is_new : command_meaning no_calls timers (at (pos 1100)) (timer both_inputs to_lamp)
    (timed (pos 1) (pos 1) (pos 100) (pos 0) (pos 0) (pos 1) (pos 1000) (pos 0)) 100
    ≡ done (timed (pos 1) (pos 1) (pos 100) (pos 1) (pos 100) (pos 1) (pos 1000) (pos 1)) 98
output_is_new = refl

-- In T() the inputs keep their values, though GO is FALSE now, and no output is assigned.
inputs_left_out_stay : command_meaning no_calls timers (at (pos 1100)) (timer no_moves no_moves)
    (timed (pos 0) (pos 1) (pos 100) (pos 0) (pos 0) (pos 1) (pos 1000) (pos 0)) 100
    ≡ done (timed (pos 0) (pos 1) (pos 100) (pos 1) (pos 100) (pos 1) (pos 1000) (pos 0)) 98
inputs_left_out_stay = refl

-- A Q that is forced to FALSE stays so, and LAMP gets it; ET is what the block makes of it.
forced_output_stays : command_meaning no_calls timers (record { now = pos 1100; forced = false ∷ false ∷ false ∷ true ∷ [] }) (timer both_inputs to_lamp)
    (timed (pos 1) (pos 1) (pos 100) (pos 0) (pos 0) (pos 1) (pos 1000) (pos 0)) 100
    ≡ done (timed (pos 1) (pos 1) (pos 100) (pos 0) (pos 100) (pos 1) (pos 1000) (pos 0)) 98
forced_output_stays = refl

-- In T(IN := 1 / 0 = 1) the division stops the run where two steps are left. Where one is left, the run stops before it divides.
abbrev divided : Moves
divided =
    more_moves (pin (codes "IN"))
    (binary (binaries.Operator operators.Eq) 4 (binary (binaries.Operator operators.Div) 4 (int (pos 1)) (int (pos 0))) (int (pos 1)))
    no_moves

input_stops : command_meaning no_calls timers (at (pos 1000)) (timer divided no_moves)
    (timed (pos 0) (pos 0) (pos 0) (pos 0) (pos 0) (pos 0) (pos 0) (pos 0)) 2
    ≡ faulted (stop faults.ZeroDivisor 4)
input_stops = refl

invocation_takes_two_steps : command_meaning no_calls timers (at (pos 1000)) (timer divided no_moves)
    (timed (pos 0) (pos 0) (pos 0) (pos 0) (pos 0) (pos 0) (pos 0) (pos 0)) 1
    ≡ faulted (stop faults.StepLimit 1)
invocation_takes_two_steps = refl

-- ---- invocations of function blocks of the text (3.3.2.2)

-- FUNCTION_BLOCK COUNTER VAR_INPUT BY : INT; END_VAR VAR_OUTPUT N : INT; END_VAR: the unit with the number 3
abbrev counter : Composition
counter =
    composed (codes "COUNTER")
    (member (codes "BY") var_kinds.Input (elementary (zero_of elems.Int)) (member (codes "N") var_kinds.Output (elementary (zero_of elems.Int)) none)) []

-- VAR X : INT; C : COUNTER; Y : INT; END_VAR
abbrev counting : Composition
counting =
    composed (codes "PROGRAM")
    (member (codes "X") var_kinds.Internal (elementary (zero_of elems.Int))
    (member (codes "C") var_kinds.Internal counter (member (codes "Y") var_kinds.Internal (elementary (zero_of elems.Int)) none)))
    []

-- X, the leaves of C, and Y
abbrev counted : (x by n y : ℤ) → Values
counted x by n y = of elems.Int x ∷ of elems.Int by ∷ of elems.Int n ∷ of elems.Int y ∷ []

abbrev counts_by : Parts
counts_by = field_part (codes "BY") whole

abbrev counted_so_far : Parts
counted_so_far = field_part (codes "N") whole

-- in the body of COUNTER, on this line: N := N + t
abbrev add : ℕ → Term → Command
add line t = assign line counted_so_far (binary (binaries.Operator operators.Add) line (stored counted_so_far) t)

abbrev count_one : Commands
count_one = more_commands (add 11 (int (pos 1))) no_commands

abbrev one_command : Command → Commands
one_command c = more_commands c no_commands

-- C(..) on line 1, where this is the body of COUNTER
abbrev enter_counter : Commands → Moves → Moves → Command
enter_counter body inputs outputs = enter 1 (codes "C") 3 (plain_body body) inputs outputs

abbrev in_counter : List ℕ → Parts
in_counter name = pin_of (codes "c") name

-- N => Y
abbrev to_y : Moves
to_y = more_moves y (stored (in_counter (codes "N"))) no_moves

-- a fault in the unit of this number
abbrev stop_in : ℕ → RunFaultKind → ℕ → Stop
stop_in number kind line = record { kind = kind; line = line; unit = Some number }

-- C(); C(); where the body is N := N + 1: an instance keeps its values, and each invocation takes two steps beside those of the body.
counted_twice : commands_meaning no_calls counting (at (pos 0)) (more_commands (enter_counter count_one no_moves no_moves) (one_command (enter_counter count_one no_moves no_moves)))
    (counted (pos 7) (pos 0) (pos 0) (pos 8)) 100
    ≡ done (counted (pos 7) (pos 0) (pos 2) (pos 8)) 94
counted_twice = refl

-- In C(BY := X, N => Y), where the body is N := N + BY, the body sees the new BY, and Y gets the new N.
input_before_output_after : command_meaning no_calls counting (at (pos 0))
    (enter_counter (one_command (add 11 (stored counts_by))) (more_moves (in_counter (codes "BY")) (stored x) no_moves) to_y)
    (counted (pos 5) (pos 0) (pos 2) (pos 0)) 100
    ≡ done (counted (pos 5) (pos 5) (pos 7) (pos 7)) 97
input_before_output_after = refl

-- An N that is forced stays as it is in N := N + 1; BY := N; and Y gets it.
forced_inside_stays : command_meaning no_calls counting (record { now = pos 0; forced = false ∷ false ∷ true ∷ [] })
    (enter_counter (more_commands (add 11 (int (pos 1))) (one_command (assign 12 counts_by (stored counted_so_far)))) no_moves to_y)
    (counted (pos 0) (pos 0) (pos 2) (pos 0)) 100
    ≡ done (counted (pos 0) (pos 2) (pos 2) (pos 2)) 96
forced_inside_stays = refl

-- C(N => Y); X := 1; where the body is N := N + 1; RETURN; N := 10; : RETURN ends the body alone.
abbrev returning : Commands
returning = more_commands (add 11 (int (pos 1))) (more_commands (finish 12) (one_command (assign 13 counted_so_far (int (pos 10)))))

return_ends_the_body : commands_meaning no_calls counting (at (pos 0)) (more_commands (enter_counter returning no_moves to_y) (one_command (assign 2 x (int (pos 1)))))
    (counted (pos 0) (pos 0) (pos 2) (pos 0)) 100
    ≡ done (counted (pos 1) (pos 0) (pos 3) (pos 3)) 95
return_ends_the_body = refl

-- N := 1 / BY
abbrev dividing : Commands
dividing = one_command (assign 11 counted_so_far (binary (binaries.Operator operators.Div) 12 (int (pos 1)) (stored counts_by)))

-- A fault in the body is in COUNTER,
fault_in_the_body : command_meaning no_calls counting (at (pos 0)) (enter_counter dividing no_moves no_moves) (counted (pos 0) (pos 0) (pos 0) (pos 0)) 100
    ≡ faulted (stop_in 3 faults.ZeroDivisor 12)
fault_in_the_body = refl

-- but one in C(BY := 1 / X) isn't.
fault_in_an_input : command_meaning no_calls counting (at (pos 0))
    (enter_counter dividing (more_moves (in_counter (codes "BY")) (binary (binaries.Operator operators.Div) 1 (int (pos 1)) (stored x)) no_moves) no_moves)
    (counted (pos 0) (pos 0) (pos 0) (pos 0)) 100
    ≡ faulted (stop faults.ZeroDivisor 1)
fault_in_an_input = refl

-- Three steps are as many as C() with one statement in its body takes. With two the run stops in the body, with less on the line of C().
invocation_takes_three : command_meaning no_calls counting (at (pos 0)) (enter_counter count_one no_moves no_moves) (counted (pos 0) (pos 0) (pos 0) (pos 0)) 3
    ≡ done (counted (pos 0) (pos 0) (pos 1) (pos 0)) 0
invocation_takes_three = refl

limit_in_the_body : command_meaning no_calls counting (at (pos 0)) (enter_counter count_one no_moves no_moves) (counted (pos 0) (pos 0) (pos 0) (pos 0)) 2
    ≡ faulted (stop_in 3 faults.StepLimit 11)
limit_in_the_body = refl

limit_at_the_invocation : command_meaning no_calls counting (at (pos 0)) (enter_counter count_one no_moves no_moves) (counted (pos 0) (pos 0) (pos 0) (pos 0)) 1
    ≡ faulted (stop faults.StepLimit 1)
limit_at_the_invocation = refl

limit_before_the_invocation : command_meaning no_calls counting (at (pos 0)) (enter_counter count_one no_moves no_moves) (counted (pos 0) (pos 0) (pos 0) (pos 0)) 0
    ≡ faulted (stop faults.StepLimit 1)
limit_before_the_invocation = refl

-- FUNCTION_BLOCK OUTER VAR C : COUNTER; END_VAR, the unit with the number 4; VAR O : OUTER; END_VAR
abbrev nested : Composition
nested =
    composed (codes "PROGRAM")
    (member (codes "O") var_kinds.Internal (composed (codes "OUTER") (member (codes "C") var_kinds.Internal counter none) []) none)
    []

-- O(), where this is the body of COUNTER, and that of OUTER is C();
abbrev both_enter : Commands → Command
both_enter body = enter 2 (codes "O") 4 (plain_body (one_command (enter_counter body no_moves no_moves))) no_moves no_moves

-- the leaves of O, which are those of its C
abbrev nested_values : (by n : ℤ) → Values
nested_values by n = of elems.Int by ∷ of elems.Int n ∷ []

counted_in_both : command_meaning no_calls nested (at (pos 0)) (both_enter count_one) (nested_values (pos 0) (pos 0)) 100 ≡ done (nested_values (pos 0) (pos 1)) 95
counted_in_both = refl

-- A fault is in the innermost unit: in COUNTER, or, where the steps end on the line of its invocation, in OUTER.
innermost_has_the_fault : command_meaning no_calls nested (at (pos 0)) (both_enter dividing) (nested_values (pos 0) (pos 0)) 100 ≡ faulted (stop_in 3 faults.ZeroDivisor 12)
innermost_has_the_fault = refl

limit_in_outer : command_meaning no_calls nested (at (pos 0)) (both_enter count_one) (nested_values (pos 0) (pos 0)) 3 ≡ faulted (stop_in 4 faults.StepLimit 1)
limit_in_outer = refl

-- ---- calls of functions of the text (2.5.1, 3.3.1)

-- FUNCTION GAP : INT VAR_INPUT A : INT; B : INT := 2; END_VAR VAR C : INT := 5; END_VAR: the unit with the number 6
abbrev gap_members : Members
gap_members =
    member (codes "GAP") var_kinds.Internal (elementary (of elems.Int (pos 0)))
    (member (codes "A") var_kinds.Input (elementary (of elems.Int (pos 0)))
    (member (codes "B") var_kinds.Input (elementary (of elems.Int (pos 2))) (member (codes "C") var_kinds.Internal (elementary (of elems.Int (pos 5))) none)))

abbrev gap_function : Called
gap_function = record { number = 6; result = elems.Int; inputs = inputs_in gap_members }

abbrev variable : List ℕ → Term
variable name = stored (field_part name whole)

-- the text's functions, where this is the body of GAP
abbrev calling : Commands → Calls
calling body unit inputs left = result_given (body_meaning no_calls (composed (codes "PROGRAM") gap_members []) function_setting (plain_body body) (members_begun gap_members inputs) left)

-- in the body of GAP, on this line: GAP := t
abbrev result_in : ℕ → Term → Command
result_in line t = assign line (field_part (codes "Gap") whole) t

-- GAP := A - B;
abbrev subtracting : Commands
subtracting = one_command (result_in 11 (binary (binaries.Operator operators.Sub) 11 (variable (codes "A")) (variable (codes "B"))))

-- GAP := A / B;
abbrev dividing_both : Commands
dividing_both = one_command (result_in 11 (binary (binaries.Operator operators.Div) 12 (variable (codes "A")) (variable (codes "B"))))

-- GAP(..) on line 5, as an INT
abbrev gap_of : List Passed → Term
gap_of xs = (function_called 5 (Some gap_function) xs).as_type elems.Int

abbrev integer : ℕ → Typed
integer n = literal (constants.Integer (record { position = record { number = 0; line = 1 }; is_negative = false; magnitude = n }))

-- the value of a term with so many steps left
abbrev called : Commands → Term → ℕ → Answer Value
called body t left = value_of (calling body) root (values (pos 0) (pos 0)) t left

-- GAP(7, 1) is 6, and takes a step beside those of the body.
arguments_by_place : called subtracting (gap_of (passed None (integer 7) ++ passed None (integer 1))) 9 ≡ gives (of elems.Int (pos 6)) 7
arguments_by_place = refl

-- GAP(b := 1, A := 7) too
arguments_by_name : called subtracting (gap_of (passed (Some (codes "b")) (integer 1) ++ passed (Some (codes "A")) (integer 7))) 9 ≡ gives (of elems.Int (pos 6)) 7
arguments_by_name = refl

-- In GAP(A := 7) the input B has its initial value.
argument_left_out : called subtracting (gap_of (passed (Some (codes "A")) (integer 7))) 9 ≡ gives (of elems.Int (pos 5)) 7
argument_left_out = refl

-- GAP(1, 2) + GAP(3, 4), where the body is C := C + A; GAP := C; : the variables are fresh in each call.
abbrev adding : Commands
adding =
    more_commands (assign 11 (field_part (codes "C") whole) (binary (binaries.Operator operators.Add) 11 (variable (codes "C")) (variable (codes "A"))))
    (one_command (result_in 12 (variable (codes "C"))))

variables_are_fresh : called adding (binary (binaries.Operator operators.Add) 5 (gap_of (passed None (integer 1) ++ passed None (integer 2))) (gap_of (passed None (integer 3) ++ passed None (integer 4)))) 9
    ≡ gives (of elems.Int (pos 14)) 3
variables_are_fresh = refl

-- RETURN ends the body, and the result is what it is then.
return_gives_the_result : called (more_commands (finish 11) subtracting) (gap_of (passed None (integer 7))) 9 ≡ gives (of elems.Int (pos 0)) 7
return_gives_the_result = refl

-- A fault in the body is in GAP, but one in GAP(1 / 0, 1) isn't.
fault_in_the_function : called dividing_both (gap_of (passed None (integer 7) ++ passed None (integer 0))) 9 ≡ stops (stop_in 6 faults.ZeroDivisor 12)
fault_in_the_function = refl

fault_in_an_argument : called dividing_both (gap_of (passed None (joined operators.Div 5 (integer 1) (integer 0)) ++ passed None (integer 1))) 9 ≡ stops (stop faults.ZeroDivisor 5)
fault_in_an_argument = refl

-- With two steps left GAP(7, 1) has a value, with one the run stops in the body, and with none it stops before any argument.
call_takes_two : called subtracting (gap_of (passed None (integer 7) ++ passed None (integer 1))) 2 ≡ gives (of elems.Int (pos 6)) 0
call_takes_two = refl

limit_in_the_function : called subtracting (gap_of (passed None (integer 7) ++ passed None (integer 1))) 1 ≡ stops (stop_in 6 faults.StepLimit 11)
limit_in_the_function = refl

limit_at_the_call : called subtracting (gap_of (passed None (joined operators.Div 5 (integer 1) (integer 0)))) 0 ≡ stops (stop faults.StepLimit 5)
limit_at_the_call = refl

-- Y := GAP(7, 1) takes three steps.
assigned_from_a_call : command_meaning (calling subtracting) root (record { now = pos 0; forced = [] })
    (assign 5 y (gap_of (passed None (integer 7) ++ passed None (integer 1)))) (values (pos 0) (pos 0)) 9
    ≡ done (values (pos 0) (pos 6)) 6
assigned_from_a_call = refl

-- ---- subscripts (2.4.1.2)

abbrev number : ℕ → SignedInteger
number n = record { position = record { number = 0; line = 1 }; is_negative = false; magnitude = n }

-- VAR A : ARRAY [2..4] OF INT; END_VAR
abbrev row : Composition
row = composed (codes "PROGRAM") (member (codes "A") var_kinds.Internal (array (record { lower = number 2; upper = number 4 } ∷ []) [] (elementary (zero_of elems.Int))) none) []

abbrev element : ℤ → Term
element i = stored (field_part (codes "A") (element_part 6 (more_terms (int i) no_terms) whole))

element_is_found : value_of no_calls row (of elems.Int (pos 7) ∷ of elems.Int (pos 8) ∷ of elems.Int (pos 9) ∷ []) (element (pos 3)) 9 ≡ gives (of elems.Int (pos 8)) 9
element_is_found = refl

-- A[5] and A[1] stop on the line of the `[`
subscript_above_stops : value_of no_calls row (of elems.Int (pos 7) ∷ of elems.Int (pos 8) ∷ of elems.Int (pos 9) ∷ []) (element (pos 5)) 9 ≡ stops (stop faults.IndexOutOfRange 6)
subscript_above_stops = refl

subscript_below_stops : value_of no_calls row (of elems.Int (pos 7) ∷ of elems.Int (pos 8) ∷ of elems.Int (pos 9) ∷ []) (element (pos 1)) 9 ≡ stops (stop faults.IndexOutOfRange 6)
subscript_below_stops = refl

-- ---- the types of literals (2.2.1)

-- in X > 1 the 1 is a SINT, as X is
literal_takes_type : (joined operators.Gt 1 (place_typed x (Some elems.Sint)) (literal (constants.Integer (number 1)))).as_type elems.Bool
    ≡ binary (binaries.Operator operators.Gt) 1 (stored x) (constant (of elems.Sint (pos 1)))
literal_takes_type = refl

-- in 2 > 1 both are LINT
literals_alone : (joined operators.Gt 1 (literal (constants.Integer (number 2))) (literal (constants.Integer (number 1)))).as_type elems.Bool
    ≡ binary (binaries.Operator operators.Gt) 1 (constant (of elems.Lint (pos 2))) (constant (of elems.Lint (pos 1)))
literals_alone = refl
