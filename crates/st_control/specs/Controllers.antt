-- What contracts see of a controller, and the machine that it stands for.
use Rattle.std.specs.Prelude.{ℕ, ◌≡◌, ◌⊎◌, Bool, true, false, List, [], ◌∷◌, ◌++◌, reverse, count_by, unwrap_or, Option, Some, None, Result, Ok, Err, IsOk}
use Rattle.std.specs.Result.{result_unwrap_or}
use Rattle.st_check.specs.Programs.{ProgramView}
use Rattle.st_control.specs.Causes.{no_memory, no_such_path}
use Rattle.st_control.specs.Changes.{pairs_of, raised_renames}
use Rattle.st_control.specs.Machine.{Command, HasChangeFirst, Machine, Past, step, undo_step}
use Rattle.st_control.specs.Machine.Command.{change, force, release, write}
use Rattle.st_control.specs.States.{StateView, first_state, leaf_of, undone, FitsRecord}
use Rattle.st_control.specs.Texts.{Reads}
use Rattle.st_control.specs.declared.record.Record.{Record}
use Rattle.st_control.specs.declared.record.Record.TheVariants.{Change, Force, Release, Write}
use Rattle.st_control.specs.declared.refusal.Refusal.{Refusal}
use Rattle.st_memory.specs.Memory.{value_at, forced_at}
use Rattle.st_memory.specs.Moves.{saved}
use Rattle.st_layout.specs.declared.renames.Rename.{Rename}
use Rattle.st_values.specs.declared.value.Value.{Value}

-- a controller: its state, the records of the commands that can be undone, the oldest first, the name of the main
-- program and the step limit
pub record ControllerView : Type 0 where
  pub state : StateView
  pub records : List Record
  pub main : List ℕ
  pub limit : ℕ

-- a controller that was just started: its program's leaves have their initial values, and nothing else is there yet
abbrev pub first_controller : ProgramView → List ℕ → ℕ → ControllerView
first_controller program main limit = record { state = first_state program; records = []; main = main; limit = limit }

-- the record is that of an online change
abbrev pub is_of_change : Record → Bool
is_of_change (Change old saved' renames) = true
is_of_change _ = false

-- the state before the command that left a record, and whether that was an online change
abbrev pub past_of : StateView → Record → Past
past_of s record' = record { state = undone s record'; by_change = is_of_change record' }

-- the states that undoing the records gives, one after another, from the newest record on
abbrev pub states_before : StateView → List Record → List Past
states_before s [] = []
states_before s (record' ∷ records) = past_of s record' ∷ states_before (undone s record') records

-- the machine that a controller stands for
abbrev pub machine_of : ControllerView → Machine
machine_of c = record { state = c.state; history = states_before c.state (reverse c.records); main = c.main; limit = c.limit }

-- the newest record fits the state, and each earlier one the state that undoing the later ones leaves
abbrev pub FitsChain : StateView → List Record → Type 0
FitsChain s [] = Unit {0}
FitsChain s (record' ∷ records) = FitsRecord s record' × FitsChain (undone s record') records

abbrev pub IsCoherent : StateView → List Record → Type 0
IsCoherent s records = FitsChain s (reverse records)

-- the call did this step of the machine: it was accepted, or refused so with all left as it was
abbrev pub Takes : {A : Type 0} → Result Machine Refusal → ControllerView → Result A Refusal → ControllerView → Type 0
Takes (Ok next) old result new = IsOk result × (machine_of new ≡ next)
Takes (Err refusal) old result new = (result ≡ Err refusal) × (new ≡ old)

-- the call did an undo of the machine, for which there was memory; only that of an online change may find none
abbrev pub TakesUndo : {A : Type 0} → ControllerView → Result A Refusal → ControllerView → Type 0
TakesUndo old result new =
    (granted : Bool) × ((granted ≡ true) ⊎ HasChangeFirst (machine_of old).history) × Takes (undo_step granted (machine_of old)) old result new

-- the call did what the machine does with an online change to a program that was read, or there was no memory
abbrev pub GoesOver : {A : Type 0} → ProgramView → List Rename → ControllerView → Result A Refusal → ControllerView → Type 0
GoesOver program renames old result new =
    (read : Result ProgramView Refusal) × ((read ≡ Ok program) ⊎ (read ≡ Err no_memory)) × Takes (step (change renames read) (machine_of old)) old result new

-- The call did what the machine does with an online change to what the text was read as.
abbrev pub TakesChange : {A : Type 0} → List ℕ → List Rename → ControllerView → Result A Refusal → ControllerView → Type 0
TakesChange text renames old result new =
    (read : Result ProgramView Refusal) × Reads text old.main read × Takes (step (change renames read) (machine_of old)) old result new

-- ---- what a command leaves in its record

-- the number of the leaf that is there
abbrev pub leaf_at_path : StateView → List ℕ → ℕ
leaf_at_path s path = unwrap_or (leaf_of s path) 0

-- a write: the leaf's number, and the value before
abbrev pub write_record : StateView → List ℕ → Record
write_record s path = Write (leaf_at_path s path) (value_at s.content.values (leaf_at_path s path))

-- a force: the same, and whether the leaf was forced before
abbrev pub force_record : StateView → List ℕ → Record
force_record s path = Force (leaf_at_path s path) (value_at s.content.values (leaf_at_path s path)) (forced_at s.content.forced (leaf_at_path s path))

-- a release: the leaf's number
abbrev pub release_record : StateView → List ℕ → Record
release_record s path = Release (leaf_at_path s path)

-- An online change: the program that ran before, the values of the leaves that are dropped with the numbers of those that
-- are forced, and the renames as they are given.
abbrev pub change_record : StateView → List Rename → ProgramView → Record
change_record s renames program = Change s.program (saved (pairs_of s renames program) s.content) renames

-- What an accepted command leaves: of an online change the renames are kept in upper case. One to a text that isn't read is
-- never accepted.
abbrev pub record_of : Command → StateView → Record
record_of (write path value) s = write_record s path
record_of (force path value) s = force_record s path
record_of (release path) s = release_record s path
record_of (change renames read) s = change_record s (raised_renames renames) (result_unwrap_or read s.program)

-- the records have one more, which is this
abbrev pub Keeps : ControllerView → ControllerView → Record → Type 0
Keeps old new newest = new.records ≡ old.records ++ newest ∷ []

-- the records have one less, the newest
abbrev pub DropsNewest : ControllerView → ControllerView → Type 0
DropsNewest old new = (newest : Record) × (old.records ≡ new.records ++ newest ∷ [])

-- ---- what a controller shows

-- the value of a leaf and whether it is forced
abbrev pub value_and_force : StateView → ℕ → Value × Bool
value_and_force s leaf = (value_at s.content.values leaf, forced_at s.content.forced leaf)

-- the same of the leaf that was found, if there is one
abbrev pub shown_to : StateView → Option ℕ → Result (Value × Bool) Refusal
shown_to s None = Err no_such_path
shown_to s (Some leaf) = Ok (value_and_force s leaf)

-- how many leaves are forced
abbrev pub force_count : StateView → ℕ
force_count s = count_by (λ forced. forced) s.content.forced
