-- What the status tells of a scan.
use Rattle.std.proofs.Common.{◌≡◌, ℤ, false, List, refl}
use Rattle.std.specs.Prelude.{Err, Ok, Result}
use Rattle.st_control.proofs.Causes.{unless_allows}
use Rattle.st_control.specs.Scans.{Input, is_halted, may_scan, outcome_of, scan_causes, scan_end, state_after}
use Rattle.st_control.specs.States.{StateView}
use Rattle.st_control.specs.declared.state.Status.{Status}
use Rattle.st_control.specs.declared.state.Status.TheVariants.{Halted, Running}
use Rattle.st_meaning.specs.declared.fault.RunFault.{RunFault}
use Rattle.st_values.specs.declared.value.Value.{Value}

runs : (status : Status) → is_halted status ≡ false → status ≡ Running
runs Running goes_on = refl
runs (Halted fault) goes_on = cc goes_on

-- a program that may be scanned runs
pub runs_before : (now : ℤ) (inputs : List Input) (s : StateView) → may_scan now inputs s ≡ Ok tt → s.status ≡ Running
runs_before now inputs s allowed = runs s.status (unless_allows (scan_causes now inputs s) tt tt allowed).1.1.1.0

-- the status that a scan left tells how it ended
pub scan_end_after : (now : ℤ) (s : StateView) (ran : Result (List Value) RunFault) → scan_end (state_after now s ran).status ≡ outcome_of ran
scan_end_after now s (Ok values) = refl
scan_end_after now s (Err fault) = refl
