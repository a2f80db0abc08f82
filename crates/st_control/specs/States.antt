-- The state of a controller, and what commands make of it.
use Rattle.std.specs.Prelude.{ℕ, ℤ, pos, ◌≡◌, ◌<◌, ◌≤ℤ◌, ◌^◌, true, false, List, Option, length}
use Rattle.std.specs.List.{All}
use Rattle.st_check.specs.Programs.{IsChecked, ProgramView, leaves_of_program}
use Rattle.st_control.specs.declared.record.Record.{Record}
use Rattle.st_control.specs.declared.record.Record.TheVariants.{Write, Force, Release, Change}
use Rattle.st_control.specs.declared.state.Status.{Status}
use Rattle.st_control.specs.declared.state.Status.TheVariants.{Running}
use Rattle.st_leaves.specs.Sound.{IsSound}
use Rattle.st_layout.specs.Layout.{IsOpenAt, IsValueAt, number_of}
use Rattle.st_memory.specs.Memory.{Content, Fits, ForcesAreOpen, initial_content, with_value, with_force}
use Rattle.st_memory.specs.Moves.{HoldsValues, unmoved}
use Rattle.st_layout.specs.Pairs.{is_pairable, pairs_between}
use Rattle.st_layout.specs.declared.renames.Rename.{Rename}
use Rattle.st_memory.specs.declared.saved.Saved.{Saved}
use Rattle.st_tree.specs.declared.leaf.Leaf.{Leaf}
use Rattle.st_values.specs.declared.value.Value.{Value}

-- a state: the program, the value of each of its leaves and whether it is forced, the moment and the status
pub record StateView : Type 0 where
  pub program : ProgramView
  pub content : Content
  pub now : ℤ
  pub status : Status

-- the leaves of a state's program
abbrev pub leaves_of : StateView → List Leaf
leaves_of s = leaves_of_program s.program

-- a moment, in milliseconds
pub record IsMoment (now : ℤ) : Type 0 where
  pub early : pos 0 ≤ℤ now
  pub late : now ≤ℤ pos (10 ^ 15)

-- What each state of a controller keeps: its program is checked, its leaves are those of a layout, it has one value of the right
-- type for each, only open leaves are forced, and its moment is one.
pub record IsWhole (s : StateView) : Type 0 where
  pub checked : IsChecked s.program
  pub sound : IsSound (leaves_of s)
  pub fits : Fits (leaves_of s) s.content
  pub forces : ForcesAreOpen (leaves_of s) s.content.forced
  pub moment : IsMoment s.now

-- the state that a program begins with: initial values, no force, moment 0, running
abbrev pub first_state : ProgramView → StateView
first_state program = record { program = program; content = initial_content (leaves_of_program program); now = pos 0; status = Running }

-- the number of the leaf with this path, ignoring case
abbrev pub leaf_of : StateView → List ℕ → Option ℕ
leaf_of s path = number_of (leaves_of s) path

-- the same state with other values and forces
abbrev pub with_content : StateView → Content → StateView
with_content s content = record { program = s.program; content = content; now = s.now; status = s.status }

-- after a write the leaf has the value
abbrev pub written : StateView → ℕ → Value → StateView
written s leaf value = with_content s (with_value s.content leaf value)

-- after a force the leaf has the value, and is forced
abbrev pub forced : StateView → ℕ → Value → StateView
forced s leaf value = with_content s (with_force (with_value s.content leaf value) leaf true)

-- after a release the leaf isn't forced, and keeps its value
abbrev pub released : StateView → ℕ → StateView
released s leaf = with_content s (with_force s.content leaf false)

-- after an online change is undone the program is the old one, and its leaves have what is moved back to them
abbrev pub changed_back : StateView → ProgramView → Saved → List Rename → StateView
changed_back s old saved renames = record {
  program = old;
  content = unmoved (leaves_of_program old) (pairs_between (leaves_of_program old) (leaves_of s) renames) s.content saved;
  now = s.now;
  status = s.status;
}

-- the state before the command that left a record
abbrev pub undone : StateView → Record → StateView
undone s (Write leaf old) = with_content s (with_value s.content leaf old)
undone s (Force leaf old was) = with_content s (with_force (with_value s.content leaf old) leaf was)
undone s (Release leaf) = with_content s (with_force s.content leaf true)
undone s (Change old saved renames) = changed_back s old saved renames

-- What an online change saved fits two lists of leaves and renames: these give pairs, the bytes are values of the dropped
-- leaves, and the numbers those of open leaves.
pub record FitsSaved (old new : List Leaf) (saved : Saved) (renames : List Rename) : Type 0 where
  pub pairable : is_pairable old new renames ≡ true
  pub holds : HoldsValues old (pairs_between old new renames).targets saved.bytes
  pub opens : All (λ leaf. IsOpenAt old leaf) saved.forced

-- The record can be one of a command that left this state: its leaf is there and open, and the value is one of the leaf's
-- type; what an online change saved fits the leaves of both programs.
abbrev pub FitsRecord : StateView → Record → Type 0
FitsRecord s (Write leaf old) = (leaf < length (leaves_of s)) × IsOpenAt (leaves_of s) leaf × IsValueAt (leaves_of s) leaf old
FitsRecord s (Force leaf old was) = (leaf < length (leaves_of s)) × IsOpenAt (leaves_of s) leaf × IsValueAt (leaves_of s) leaf old
FitsRecord s (Release leaf) = (leaf < length (leaves_of s)) × IsOpenAt (leaves_of s) leaf
FitsRecord s (Change old saved renames) = FitsSaved (leaves_of_program old) (leaves_of s) saved renames
