-- Scans and resets: when a scan is refused, and what both make of a machine.
use Rattle.std.specs.Prelude.{ℕ, ℤ, pos, ◌≡◌, ◌^◌, Bool, true, false, not, ◌&&◌, if◌then◌else◌, int_le, nat_lt, List, [], ◌∷◌, length, map, set, Result, Ok, Err}
use Rattle.std.specs.List.{list_any, range_with_len}
use Rattle.st_check.specs.Programs.{ProgramView}
use Rattle.st_control.specs.Causes.{halted, moment_past, no_such_path, not_an_input, not_of_type}
use Rattle.st_control.specs.Controllers.{ControllerView, machine_of}
use Rattle.st_control.specs.Machine.{Cause, Machine, is_value_of, unless}
use Rattle.st_control.specs.States.{StateView, leaves_of}
use Rattle.st_compile.specs.Programs.{scan_result}
use Rattle.st_control.specs.declared.refusal.Refusal.{Refusal}
use Rattle.st_control.specs.declared.scanning.Scanned.{Scanned}
use Rattle.st_control.specs.declared.scanning.Scanned.TheVariants.{Done, Faulted}
use Rattle.st_control.specs.declared.state.Status.{Status}
use Rattle.st_control.specs.declared.state.Status.TheVariants.{Halted, Running}
use Rattle.st_layout.specs.Layout.{leaf_at}
use Rattle.st_memory.specs.Memory.{Content, forced_at, value_at}
use Rattle.st_meaning.specs.declared.fault.RunFault.{RunFault}
use Rattle.st_tree.specs.declared.leaf.Leaf.{Leaf}
use Rattle.st_tree.specs.declared.leaf.Role.{Role}
use Rattle.st_tree.specs.declared.leaf.Role.TheVariants.{ProcessInput}
use Rattle.st_values.specs.declared.value.Value.{Value}

-- ---- the inputs of a scan

-- the number of a leaf, and the value that it is to have
abbrev pub Input : Type 0
Input = ℕ × Value

-- there is no such leaf
abbrev pub has_no_leaf : List Leaf → Input → Bool
has_no_leaf leaves input = not (nat_lt input.0 (length leaves))

-- the value isn't one of the leaf's type
abbrev pub has_other_type : List Leaf → Input → Bool
has_other_type leaves input = not (is_value_of (leaf_at leaves input.0) input.1)

-- a leaf of this role is a process input
abbrev pub is_process_input : Role → Bool
is_process_input ProcessInput = true
is_process_input _ = false

-- the leaf isn't a process input
abbrev pub has_no_input : List Leaf → Input → Bool
has_no_input leaves input = not (is_process_input (leaf_at leaves input.0).role)

-- an input of a forced leaf is dropped
abbrev pub with_input : List Bool → List Value → Input → List Value
with_input forced values input = if forced_at forced input.0 then values else set values input.0 input.1

-- the values with the inputs stored, one after another
abbrev pub with_inputs : List Bool → List Value → List Input → List Value
with_inputs forced values [] = values
with_inputs forced values (input ∷ inputs) = with_inputs forced (with_input forced values input) inputs

-- ---- when a scan is refused

-- the moment isn't before the last one, nor above the greatest
abbrev pub can_follow : ℤ → ℤ → Bool
can_follow last now = int_le last now && int_le now (pos (10 ^ 15))

abbrev pub is_halted : Status → Bool
is_halted Running = false
is_halted (Halted fault) = true

-- the causes, in the order of their numbers
abbrev pub scan_causes : ℤ → List Input → StateView → List Cause
scan_causes now inputs s =
    (no_such_path, list_any (has_no_leaf (leaves_of s)) inputs)
    ∷ (not_of_type, list_any (has_other_type (leaves_of s)) inputs)
    ∷ (moment_past, not (can_follow s.now now))
    ∷ (halted, is_halted s.status)
    ∷ (not_an_input, list_any (has_no_input (leaves_of s)) inputs)
    ∷ []

-- whether a scan may begin, or why it is refused
abbrev pub may_scan : ℤ → List Input → StateView → Result (Unit {0}) Refusal
may_scan now inputs s = unless (scan_causes now inputs s) tt

-- ---- what a scan does

-- what a run of the program gives at a moment, once the inputs are stored
abbrev pub run_with : ℤ → List Input → ℕ → ProgramView → Content → Result (List Value) RunFault
run_with now inputs limit program content =
    scan_result program (record { now = now; forced = content.forced }) (with_inputs content.forced content.values inputs) limit

abbrev pub run_of : ℤ → List Input → ℕ → StateView → Result (List Value) RunFault
run_of now inputs limit s = run_with now inputs limit s.program s.content

-- The leaves have the values that the run left, or it stopped and all values are as before, the inputs too.
abbrev pub state_after : ℤ → StateView → Result (List Value) RunFault → StateView
state_after now s (Ok values) = record { program = s.program; content = record { values = values; forced = s.content.forced }; now = now; status = Running }
state_after now s (Err fault) = record { program = s.program; content = s.content; now = s.now; status = Halted fault }

-- how a scan ended
abbrev pub outcome_of : Result (List Value) RunFault → Scanned
outcome_of (Ok values) = Done
outcome_of (Err fault) = Faulted fault

-- how a scan ended that left this status
abbrev pub scan_end : Status → Scanned
scan_end Running = Done
scan_end (Halted fault) = Faulted fault

-- what a scan answers whose end is told by the status that it left
abbrev pub scanned_as : Result (Unit {0}) Refusal → Status → Result Scanned Refusal
scanned_as (Ok done) status = Ok (scan_end status)
scanned_as (Err refusal) status = Err refusal

-- the machine in another state, with nothing to go back to
abbrev pub started_anew : Machine → StateView → Machine
started_anew m s = record { state = s; history = []; main = m.main; limit = m.limit }

-- how a scan ended, and the machine after it
abbrev pub Scan : Type 0
Scan = Scanned × Machine

abbrev pub scan_of : ℤ → Machine → Result (List Value) RunFault → Scan
scan_of now m ran = (outcome_of ran, started_anew m (state_after now m.state ran))

-- a scan at a moment, with inputs, or its refusal
abbrev pub scan_step : ℤ → List Input → Machine → Result Scan Refusal
scan_step now inputs m = unless (scan_causes now inputs m.state) (scan_of now m (run_of now inputs m.limit m.state))

-- the call did this scan of the machine, or it was refused so with all left as it was
abbrev pub TakesScan : Result Scan Refusal → ControllerView → Result Scanned Refusal → ControllerView → Type 0
TakesScan (Ok scan) old result new = (result ≡ Ok scan.0) × (machine_of new ≡ scan.1) × (new.records ≡ [])
TakesScan (Err refusal) old result new = (result ≡ Err refusal) × (new ≡ old)

-- ---- what a reset does

-- the value of a leaf after a reset: one that isn't forced has its initial value
abbrev pub reset_value : List Leaf → List Bool → List Value → ℕ → Value
reset_value leaves forced values i = if forced_at forced i then value_at values i else (leaf_at leaves i).initial

abbrev pub reset_values : List Leaf → List Bool → List Value → List Value
reset_values leaves forced values = map (reset_value leaves forced values) (range_with_len 0 (length leaves))

-- The program runs again from its initial values. Forced leaves keep theirs, and the forces and the moment stay.
abbrev pub reset_state : StateView → StateView
reset_state s = record {
  program = s.program;
  content = record { values = reset_values (leaves_of s) s.content.forced s.content.values; forced = s.content.forced };
  now = s.now;
  status = Running;
}

abbrev pub reset_step : Machine → Machine
reset_step m = started_anew m (reset_state m.state)
