-- The machine that a controller stands for: a state, and the states to go back to. It keeps whole states; a controller
-- has records instead.
use Rattle.std.specs.Prelude.{ℕ, ◌≡◌, ◌⊎◌, ◌+◌, Bool, true, false, not, ◌&&◌, ◌||◌, if◌then◌else◌, nat_le, List, [], ◌∷◌, ◌++◌, length, Result, Ok, Err}
use Rattle.std.specs.Option.{option_map_or}
use Rattle.std.specs.Result.{result_unwrap_or}
use Rattle.st_check.specs.Programs.{ProgramView}
use Rattle.st_control.specs.Causes.{is_forced, no_active_step, no_memory, no_such_path, not_forced, not_of_type, not_open, not_paired, nothing_to_undo, undo_full}
use Rattle.st_control.specs.Changes.{changed, gives_pairs, stops_chart}
use Rattle.st_control.specs.States.{StateView, leaf_of, leaves_of, written, forced, released}
use Rattle.st_control.specs.declared.refusal.Refusal.{Refusal}
use Rattle.st_layout.specs.Layout.{leaf_at, is_open}
use Rattle.st_memory.specs.Memory.{forced_at}
use Rattle.st_layout.specs.declared.renames.Rename.{Rename}
use Rattle.st_values.specs.Types.{is_same}
use Rattle.st_values.specs.Values.{is_value}
use Rattle.st_tree.specs.declared.leaf.Leaf.{Leaf}
use Rattle.st_values.specs.declared.value.Value.{Value}

-- a state to go back to, and whether it was left by an online change
pub record Past : Type 0 where
  pub state : StateView
  pub by_change : Bool

-- The states to go back to are those before each command that isn't undone, the newest first. The name of the main program
-- and the step limit are those of the load.
pub record Machine : Type 0 where
  pub state : StateView
  pub history : List Past
  pub main : List ℕ
  pub limit : ℕ

-- A command that can be undone, as it was taken: an online change has its renames, and the program that its text was read
-- as, or why it wasn't.
pub data Command : Type 0 where
  write : List ℕ → Value → Command
  force : List ℕ → Value → Command
  release : List ℕ → Command
  change : List Rename → Result ProgramView Refusal → Command

-- ---- when a command is refused

-- a cause: the refusal, and whether it holds
abbrev pub Cause : Type 0
Cause = Refusal × Bool

-- the result, or the refusal of the first cause that holds
abbrev pub unless : {A : Type 0} → List Cause → A → Result A Refusal
unless [] result = Ok result
unless (cause ∷ causes) result = if cause.1 then Err cause.0 else unless causes result

-- a call heeds the causes: none holds where it succeeds, and else the first that does is named, or there is no memory
abbrev pub Heeds : {A : Type 0} → List Cause → Result A Refusal → Type 0
Heeds causes (Ok made) = unless {A = Unit {0}} causes tt ≡ Ok tt
Heeds causes (Err refusal) = (refusal ≡ no_memory) ⊎ (unless {A = Unit {0}} causes tt ≡ Err refusal)

-- whether the value is one of the leaf's type
abbrev pub is_value_of : Leaf → Value → Bool
is_value_of leaf value = is_same value.elem leaf.elem && is_value value

-- the causes at a leaf that is there, in the order of their numbers
abbrev pub write_causes : StateView → Bool → Value → ℕ → List Cause
write_causes s full value leaf =
    (not_open, not (is_open (leaf_at (leaves_of s) leaf).role))
    ∷ (not_of_type, not (is_value_of (leaf_at (leaves_of s) leaf) value))
    ∷ (is_forced, forced_at s.content.forced leaf)
    ∷ (undo_full, full)
    ∷ []

abbrev pub force_causes : StateView → Bool → Value → ℕ → List Cause
force_causes s full value leaf =
    (not_open, not (is_open (leaf_at (leaves_of s) leaf).role))
    ∷ (not_of_type, not (is_value_of (leaf_at (leaves_of s) leaf) value))
    ∷ (undo_full, full)
    ∷ []

abbrev pub release_causes : StateView → Bool → ℕ → List Cause
release_causes s full leaf = (not_forced, not (forced_at s.content.forced leaf)) ∷ (undo_full, full) ∷ []

-- the leaf of a path, unless there is none or a cause holds there
abbrev pub leaf_unless : StateView → List ℕ → (ℕ → List Cause) → Result ℕ Refusal
leaf_unless s path causes = option_map_or (λ leaf. unless (causes leaf) leaf) (leaf_of s path) (Err no_such_path)

-- the leaf that a command changes, or its refusal
abbrev pub leaf_to_write : StateView → Bool → List ℕ → Value → Result ℕ Refusal
leaf_to_write s full path value = leaf_unless s path (write_causes s full value)

abbrev pub leaf_to_force : StateView → Bool → List ℕ → Value → Result ℕ Refusal
leaf_to_force s full path value = leaf_unless s path (force_causes s full value)

abbrev pub leaf_to_release : StateView → Bool → List ℕ → Result ℕ Refusal
leaf_to_release s full path = leaf_unless s path (release_causes s full)

-- the causes of an online change to a program that was read, in the order in which they are answered
abbrev pub change_causes : StateView → Bool → List Rename → ProgramView → List Cause
change_causes s full renames program =
    (undo_full, full)
    ∷ (not_paired, not (gives_pairs s renames program))
    ∷ (no_active_step, stops_chart s renames program)
    ∷ []

-- ---- what a command does

-- the machine keeps at most 256 states to go back to
abbrev pub is_full : Machine → Bool
is_full m = nat_le 256 (length m.history)

-- the command was accepted: the state is the new one, and the one before can be gone back to
abbrev pub accept : Machine → Bool → StateView → Machine
accept m by_change s = record { state = s; history = record { state = m.state; by_change = by_change } ∷ m.history; main = m.main; limit = m.limit }

abbrev pub accept_at : Machine → (ℕ → StateView) → Result ℕ Refusal → Result Machine Refusal
accept_at m new (Ok leaf) = Ok (accept m false (new leaf))
accept_at m new (Err refusal) = Err refusal

-- an online change is refused as its text is, or by a cause of its own
abbrev pub change_step : List Rename → Result ProgramView Refusal → Machine → Result Machine Refusal
change_step renames (Err refusal) m = Err refusal
change_step renames (Ok program) m = unless (change_causes m.state (is_full m) renames program) (accept m true (changed m.state renames program))

-- the machine after a command, or the command's refusal
abbrev pub step : Command → Machine → Result Machine Refusal
step (write path value) m = accept_at m (λ leaf. written m.state leaf value) (leaf_to_write m.state (is_full m) path value)
step (force path value) m = accept_at m (λ leaf. forced m.state leaf value) (leaf_to_force m.state (is_full m) path value)
step (release path) m = accept_at m (λ leaf. released m.state leaf) (leaf_to_release m.state (is_full m) path)
step (change renames read) m = change_step renames read m

-- Undo goes back to the newest of the states, if there is one. Going back over an online change may find no memory, which
-- `granted` tells.
abbrev pub back_from : Bool → Machine → List Past → Result Machine Refusal
back_from granted m [] = Err nothing_to_undo
back_from granted m (past ∷ pasts) =
    if granted || not past.by_change then Ok (record { state = past.state; history = pasts; main = m.main; limit = m.limit }) else Err no_memory

abbrev pub undo_step : Bool → Machine → Result Machine Refusal
undo_step granted m = back_from granted m m.history

-- the newest command that isn't undone is an online change
abbrev pub HasChangeFirst : List Past → Type 0
HasChangeFirst [] = ⊥
HasChangeFirst (past ∷ pasts) = past.by_change ≡ true

-- ---- lists of commands

-- the machine stays as it is where a command is refused
abbrev pub after : Command → Machine → Machine
after command m = result_unwrap_or (step command m) m

abbrev pub after_undo : Bool → Machine → Machine
after_undo granted m = result_unwrap_or (undo_step granted m) m

abbrev pub after_all : List Command → Machine → Machine
after_all [] m = m
after_all (command ∷ commands) m = after_all commands (after command m)

-- undos, one after another, each with whether it finds memory
abbrev pub after_undos : List Bool → Machine → Machine
after_undos [] m = m
after_undos (granted ∷ more) m = after_undos more (after_undo granted m)

-- how many of the undos are accepted
abbrev pub accepted_count : {A : Type 0} → Result A Refusal → ℕ
accepted_count (Ok next) = 1
accepted_count (Err refusal) = 0

abbrev pub ok_count : List Bool → Machine → ℕ
ok_count [] m = 0
ok_count (granted ∷ more) m = accepted_count (undo_step granted m) + ok_count more (after_undo granted m)

-- whether a command is an online change
abbrev pub is_change : Command → Bool
is_change (change renames read) = true
is_change _ = false

-- the states before each command that is accepted, the newest first
abbrev pub state_before : Result Machine Refusal → Command → StateView → List Past
state_before (Ok next) command s = record { state = s; by_change = is_change command } ∷ []
state_before (Err refusal) command s = []

abbrev pub passed : List Command → Machine → List Past
passed [] m = []
passed (command ∷ commands) m = passed commands (after command m) ++ state_before (step command m) command m.state
