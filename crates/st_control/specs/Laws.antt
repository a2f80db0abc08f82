-- What holds of all lists of commands.
use Rattle.std.specs.Prelude.{ℕ, ◌≡◌, ◌↔◌, Bool, true, false, List, ◌++◌, length, Option, Some, Ok, IfOk, IsSome, IsTrue, if◌then◌else◌}
use Rattle.std.specs.Str.{bytes_eq}
use Rattle.st_check.specs.Programs.{IsChecked, ProgramView, leaves_of_program}
use Rattle.st_control.specs.Changes.{pairs_of}
use Rattle.st_control.specs.Controllers.{record_of}
use Rattle.st_control.specs.Machine.{Command, Machine, after_all, after_undos, ok_count, passed, step}
use Rattle.st_control.specs.Machine.Command.{change, force, release, write}
use Rattle.st_control.specs.States.{FitsRecord, IsWhole, StateView, leaves_of, undone}
use Rattle.st_memory.specs.Laws.{BeginsAsDeclared, IsFresh, WasTrue, is_forced, value_of}
use Rattle.st_layout.specs.Layout.{leaf_at}
use Rattle.st_memory.specs.Moves.{truth}
use Rattle.st_layout.specs.Pairs.{Pairs, number_at}
use Rattle.st_leaves.specs.Sound.{IsSound}
use Rattle.st_tree.specs.declared.leaf.Role.{Role}
use Rattle.st_tree.specs.declared.leaf.Role.TheVariants.{StepActive, StepPulsed}
use Rattle.st_values.specs.Words.{raised}
use Rattle.st_values.specs.declared.value.Value.{Value}

-- Whatever commands are given, refused ones between them included, as many undos that are accepted as commands were give
-- back the machine before: its state, and the states that could be gone back to. Undos that are refused for memory may stand
-- between them.
abbrev pub IsGivenBack : Type 0
IsGivenBack = (commands : List Command) (undos : List Bool) (m : Machine) →
    ok_count undos (after_all commands m) ≡ length (passed commands m) → after_undos undos (after_all commands m) ≡ m

-- On the way the undos go through the states before each accepted command, the newest first.
abbrev pub GoesThroughStates : Type 0
GoesThroughStates = (commands : List Command) (m : Machine) → (after_all commands m).history ≡ passed commands m ++ m.history

-- ---- what one accepted command changes, over the map from paths to values and the set of forced paths

-- the value at a path of a state, and whether the path is forced
abbrev pub value_in : StateView → List ℕ → Option Value
value_in s path = value_of (leaves_of s) s.content path

abbrev pub is_forced_in : StateView → List ℕ → Bool
is_forced_in s path = is_forced (leaves_of s) s.content path

-- the two paths are one, ignoring case
abbrev pub is_same_path : List ℕ → List ℕ → Bool
is_same_path path other = bytes_eq (raised path) (raised other)

-- the program, the moment and the status stay
pub record KeepsProgram (old new : StateView) : Type 0 where
  pub program : new.program ≡ old.program
  pub now : new.now ≡ old.now
  pub status : new.status ≡ old.status

-- the value at this path is the new one, and all others stay
abbrev pub GetsValue : List ℕ → Value → StateView → StateView → Type 0
GetsValue path value old new = (other : List ℕ) → value_in new other ≡ (if is_same_path other path then Some value else value_in old other)

-- this path is forced now or isn't, and for all others it stays
abbrev pub GetsForce : List ℕ → Bool → StateView → StateView → Type 0
GetsForce path on old new = (other : List ℕ) → is_forced_in new other ≡ (if is_same_path other path then on else is_forced_in old other)

abbrev pub KeepsValues : StateView → StateView → Type 0
KeepsValues old new = (other : List ℕ) → value_in new other ≡ value_in old other

abbrev pub KeepsForces : StateView → StateView → Type 0
KeepsForces old new = (other : List ℕ) → is_forced_in new other ≡ is_forced_in old other

-- the program is this one, and the moment and the status stay
pub record GoesTo (target : ProgramView) (old new : StateView) : Type 0 where
  pub program : new.program ≡ target
  pub now : new.now ≡ old.now
  pub status : new.status ≡ old.status

-- the path of a leaf of a state's program
abbrev pub path_at : StateView → ℕ → List ℕ
path_at s leaf = (leaf_at (leaves_of s) leaf).path

-- the role of a leaf of a state's program
abbrev pub role_at : StateView → ℕ → Role
role_at s leaf = (leaf_at (leaves_of s) leaf).role

-- the leaf has FALSE or TRUE
abbrev pub HasTruth : StateView → ℕ → Bool → Type 0
HasTruth s leaf b = value_in s (path_at s leaf) ≡ Some (truth (leaf_at (leaves_of s) leaf) b)

-- What is carried to the paths of a new program. A leaf that takes the place of another has its value, and is forced where that
-- one was. A fresh one isn't forced, and begins as its program says; but a step of a chart that goes on isn't active, and what
-- tells whether a step has given its pulses follows the step.
pub record CarriesByPath (pairs : Pairs) (old new : StateView) : Type 0 where
  pub value : (i j : ℕ) → number_at pairs.targets i ≡ Some j → value_in new (path_at new j) ≡ value_in old (path_at old i)
  pub force : (i j : ℕ) → number_at pairs.targets i ≡ Some j → is_forced_in new (path_at new j) ≡ is_forced_in old (path_at old i)
  pub fresh : (j : ℕ) → IsFresh (leaves_of new) pairs j → is_forced_in new (path_at new j) ≡ false
  pub initial : (j : ℕ) → IsFresh (leaves_of new) pairs j → BeginsAsDeclared pairs (role_at new j) → value_in new (path_at new j) ≡ Some (leaf_at (leaves_of new) j).initial
  pub step : (j begun : ℕ) → IsFresh (leaves_of new) pairs j → role_at new j ≡ StepActive begun → IsSome (number_at pairs.sources begun) → HasTruth new j false
  pub pulse : (j active begun : ℕ) → IsFresh (leaves_of new) pairs j → role_at new j ≡ StepPulsed active begun
      → (given : Bool) × HasTruth new j given × (IsTrue given ↔ (WasTrue (leaves_of old) pairs old.content active × WasTrue (leaves_of old) pairs old.content begun))

-- the command changes this much
abbrev pub Changes : Command → StateView → StateView → Type 0
Changes (write path value) old new = GetsValue path value old new × KeepsForces old new × KeepsProgram old new
Changes (force path value) old new = GetsValue path value old new × GetsForce path true old new × KeepsProgram old new
Changes (release path) old new = KeepsValues old new × GetsForce path false old new × KeepsProgram old new
Changes (change renames read) old new = (program : ProgramView) × (read ≡ Ok program) × GoesTo program old new × CarriesByPath (pairs_of old renames program) old new

-- a checked program whose leaves a layout can keep
pub record IsSoundProgram (program : ProgramView) : Type 0 where
  pub checked : IsChecked program
  pub leaves : IsSound (leaves_of_program program)

-- an online change goes to such a program
abbrev pub GoesToSound : Command → Type 0
GoesToSound (change renames read) = IfOk read IsSoundProgram
GoesToSound command = Unit {0}

-- A write, a force or a release that is accepted changes the value or the force at its own path, and at no other. An online
-- change carries all paths.
abbrev pub ChangesByPath : Type 0
ChangesByPath = (command : Command) (m next : Machine) → GoesToSound command → IsWhole m.state → step command m ≡ Ok next → Changes command m.state next.state

-- ---- what every step keeps

-- the name of the main program and the step limit stay
pub record KeepsLoad (old new : Machine) : Type 0 where
  pub main : new.main ≡ old.main
  pub limit : new.limit ≡ old.limit

-- Whatever commands are given, and however many undos: what was loaded stays.
abbrev pub LoadStays : Type 0
LoadStays = (commands : List Command) (undos : List Bool) (m : Machine) → KeepsLoad m (after_undos undos (after_all commands m))

-- A command that is accepted makes a whole state of a whole state.
abbrev pub StepsKeepWhole : Type 0
StepsKeepWhole = (command : Command) (m next : Machine) → GoesToSound command → IsWhole m.state → step command m ≡ Ok next → IsWhole next.state

-- ---- one record

-- an online change is made of a whole state
abbrev pub IsMadeOfWhole : Command → StateView → Type 0
IsMadeOfWhole (change renames read) s = IsWhole s
IsMadeOfWhole command s = Unit {0}

-- What a command that is accepted leaves in its record gives back the state before, from the state after alone.
abbrev pub RecordUndoesCommand : Type 0
RecordUndoesCommand = (command : Command) (m next : Machine) → IsMadeOfWhole command m.state → step command m ≡ Ok next → undone next.state (record_of command m.state) ≡ m.state

-- And the record fits the state after, so that it can be undone there.
abbrev pub RecordFits : Type 0
RecordFits = (command : Command) (m next : Machine) → IsWhole m.state → step command m ≡ Ok next → FitsRecord next.state (record_of command m.state)
