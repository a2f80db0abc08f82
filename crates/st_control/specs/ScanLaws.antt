-- What holds of all scans and resets.
use Rattle.std.specs.Prelude.{ℕ, ℤ, ◌≡◌, ◌<◌, true, false, List, [], length, Some, Ok}
use Rattle.st_control.specs.Laws.{KeepsLoad, is_forced_in, path_at, value_in}
use Rattle.st_control.specs.Machine.{Machine}
use Rattle.st_control.specs.Scans.{Input, Scan, reset_state, reset_step, scan_step}
use Rattle.st_control.specs.States.{IsWhole, StateView, leaves_of}
use Rattle.st_control.specs.declared.scanning.Scanned.{Scanned}
use Rattle.st_control.specs.declared.scanning.Scanned.TheVariants.{Done, Faulted}
use Rattle.st_control.specs.declared.state.Status.TheVariants.{Halted, Running}
use Rattle.st_layout.specs.Layout.{leaf_at}
use Rattle.st_memory.specs.Memory.{Fits}
use Rattle.st_meaning.specs.declared.fault.RunFault.{RunFault}

-- ---- scans

-- A scan that is done leaves values of the same leaves. The program and the forces stay, each forced leaf keeps its value, the
-- moment is that of the scan, and the program runs.
pub record IsDone (now : ℤ) (old new : StateView) : Type 0 where
  pub program : new.program ≡ old.program
  pub fits : Fits (leaves_of old) new.content
  pub forces : new.content.forced ≡ old.content.forced
  pub kept : (path : List ℕ) → is_forced_in old path ≡ true → value_in new path ≡ value_in old path
  pub moment : new.now ≡ now
  pub status : new.status ≡ Running

-- A scan that stops with a fault leaves all as it was, but for the status.
pub record IsHaltedBy (fault : RunFault) (old new : StateView) : Type 0 where
  pub program : new.program ≡ old.program
  pub content : new.content ≡ old.content
  pub moment : new.now ≡ old.now
  pub status : new.status ≡ Halted fault

-- the state after a scan that ended so
abbrev pub IsScanned : ℤ → Scanned → StateView → StateView → Type 0
IsScanned now Done old new = IsDone now old new
IsScanned now (Faulted fault) old new = IsHaltedBy fault old new

-- Whatever the inputs are and whatever the program does: a scan stays in this frame.
abbrev pub ScansKeepTheFrame : Type 0
ScansKeepTheFrame = (now : ℤ) (inputs : List Input) (m : Machine) (scan : Scan) → IsWhole m.state → scan_step now inputs m ≡ Ok scan → IsScanned now scan.0 m.state scan.1.state

-- A scan makes a whole state of a whole state.
abbrev pub ScansKeepWhole : Type 0
ScansKeepWhole = (now : ℤ) (inputs : List Input) (m : Machine) (scan : Scan) → IsWhole m.state → scan_step now inputs m ≡ Ok scan → IsWhole scan.1.state

-- After a scan there is nothing to go back to, and what was loaded stays.
abbrev pub ScansStartAnew : Type 0
ScansStartAnew = (now : ℤ) (inputs : List Input) (m : Machine) (scan : Scan) → scan_step now inputs m ≡ Ok scan → (scan.1.history ≡ []) × KeepsLoad m scan.1

-- ---- resets

-- A reset gives the value at each path that isn't forced back as the program declares it. All else stays, but the program runs.
pub record IsReset (old new : StateView) : Type 0 where
  pub program : new.program ≡ old.program
  pub initial : (leaf : ℕ) → leaf < length (leaves_of old) → is_forced_in old (path_at old leaf) ≡ false → value_in new (path_at old leaf) ≡ Some (leaf_at (leaves_of old) leaf).initial
  pub kept : (path : List ℕ) → is_forced_in old path ≡ true → value_in new path ≡ value_in old path
  pub forces : new.content.forced ≡ old.content.forced
  pub moment : new.now ≡ old.now
  pub status : new.status ≡ Running

abbrev pub ResetsGiveInitialValues : Type 0
ResetsGiveInitialValues = (s : StateView) → IsWhole s → IsReset s (reset_state s)

-- A reset makes a whole state of a whole state.
abbrev pub ResetsKeepWhole : Type 0
ResetsKeepWhole = (s : StateView) → IsWhole s → IsWhole (reset_state s)

-- After a reset there is nothing to go back to, and what was loaded stays.
abbrev pub ResetsStartAnew : Type 0
ResetsStartAnew = (m : Machine) → ((reset_step m).history ≡ []) × KeepsLoad m (reset_step m)
