-- What a scan makes of a state.
use Rattle.std.proofs.Common.{ℕ, ℤ, pos, ◌≡◌, ◌≤ℤ◌, Bool, true, false, IsTrue, List, [], Option, Some, None, refl, subst, ◌∙◌, ap, arith}
use Rattle.std.specs.Option.{option_map, option_map_or}
use Rattle.std.specs.Prelude.{Err, Ok, Result, int_le, ◌^◌}
use Rattle.std.proofs.lemmas.Bool.{and_parts, not-false}
use Rattle.std.proofs.lemmas.Int.{ints}
use Rattle.st_control.proofs.Causes.{NoneHolds, unless_allows, unless_gives}
use Rattle.st_compile.proofs.Frames.{frame_kept}
use Rattle.st_compile.proofs.Moments.{is_time_between}
use Rattle.st_control.proofs.Inputs.{inputs_fit, inputs_kept}
use Rattle.st_control.specs.ScanLaws.{IsScanned, ScansKeepTheFrame, ScansKeepWhole, ScansStartAnew}
use Rattle.st_control.specs.Laws.{KeepsLoad}
use Rattle.st_control.specs.Machine.{Machine}
use Rattle.st_control.specs.Scans.{Input, Scan, can_follow, outcome_of, run_of, scan_causes, scan_of, state_after, with_inputs}
use Rattle.st_control.specs.States.{IsMoment, IsWhole, StateView, leaves_of}
use Rattle.st_compile.specs.Programs.{KeepsFrame}
use Rattle.st_layout.specs.Layout.{number_of}
use Rattle.st_memory.specs.Memory.{forced_at, value_at}
use Rattle.st_meaning.specs.declared.fault.RunFault.{RunFault}
use Rattle.st_values.specs.Values.{in_range}
use Rattle.st_values.specs.declared.elem.Elem.TheVariants as elems
use Rattle.st_values.specs.declared.value.Value.{Value}

-- what holds at each forced leaf holds at each forced path
pub kept_by_path : (forced : List Bool) (values others : List Value) (number : Option ℕ) → ((leaf : ℕ) → forced_at forced leaf ≡ true → value_at others leaf ≡ value_at values leaf)
    → option_map_or (forced_at forced) number false ≡ true → option_map (value_at others) number ≡ option_map (value_at values) number
kept_by_path forced values others None kept is = refl
kept_by_path forced values others (Some leaf) kept is = ap Some (kept leaf is)

is_at_most : (a b : ℤ) → int_le a b ≡ true → a ≤ℤ b
is_at_most a b h = grind (arith, ints)

at_most_both : (a b c : ℤ) → a ≤ℤ b → b ≤ℤ c → a ≤ℤ c
at_most_both a b c first second = grind (arith, ints)

-- a moment that can follow one is one
next_moment : (last now : ℤ) → IsMoment last → can_follow last now ≡ true → IsMoment now
next_moment last now moment follows =
    let both = and_parts (int_le last now) (int_le now (pos (10 ^ 15))) follows in
    record { early = at_most_both (pos 0) last now moment.early (is_at_most last now both.0); late = is_at_most now (pos (10 ^ 15)) both.1 }

-- a moment is a value of TIME
time_of_moment : (now : ℤ) → IsMoment now → IsTrue (in_range elems.Time now)
time_of_moment now moment = is_time_between now (omega (arith, ints, moment.early)) (omega (arith, ints, moment.late))

module _ (now : ℤ) (inputs : List Input) (limit : ℕ) (s : StateView) (whole : IsWhole s) (allowed : NoneHolds (scan_causes now inputs s)) where
  is_moment : IsMoment now
  is_moment = next_moment s.now now whole.moment (not-false (can_follow s.now now) allowed.1.1.0)

  -- what the run left lies in the frame
  frame : (others : List Value) → run_of now inputs limit s ≡ Ok others → KeepsFrame (leaves_of s) s.content.forced (with_inputs s.content.forced s.content.values inputs) others
  frame others ran =
      frame_kept s.program (record { now = now; forced = s.content.forced }) (with_inputs s.content.forced s.content.values inputs) others limit (time_of_moment now is_moment) whole.checked
      (inputs_fit (leaves_of s) s.content.forced inputs s.content.values allowed.1.0 whole.fits) ran

  kept : (others : List Value) → run_of now inputs limit s ≡ Ok others → (leaf : ℕ) → forced_at s.content.forced leaf ≡ true → value_at others leaf ≡ value_at s.content.values leaf
  kept others ran leaf is = (frame others ran).kept leaf is ∙ inputs_kept s.content.forced leaf is inputs s.content.values

  scanned : (ran : Result (List Value) RunFault) → run_of now inputs limit s ≡ ran → IsScanned now (outcome_of ran) s (state_after now s ran)
  scanned (Ok others) ran = record {
    program = refl;
    fits = (frame others ran).fits;
    forces = refl;
    kept = λ path is. kept_by_path s.content.forced s.content.values others (number_of (leaves_of s) path) (kept others ran) is;
    moment = refl;
    status = refl;
  }
  scanned (Err fault) ran = record { program = refl; content = refl; moment = refl; status = refl }

  whole_still : (ran : Result (List Value) RunFault) → run_of now inputs limit s ≡ ran → IsWhole (state_after now s ran)
  whole_still (Ok others) ran = record {
    checked = whole.checked;
    sound = whole.sound;
    fits = (frame others ran).fits;
    forces = whole.forces;
    moment = is_moment;
  }
  whole_still (Err fault) ran = record { checked = whole.checked; sound = whole.sound; fits = whole.fits; forces = whole.forces; moment = whole.moment }

-- the run of a scan
abbrev run_in : ℤ → List Input → Machine → Result (List Value) RunFault
run_in now inputs m = run_of now inputs m.limit m.state

pub scans_keep_frame : ScansKeepTheFrame
scans_keep_frame now inputs m scan whole accepted =
    let causes = scan_causes now inputs m.state in
    let done = scan_of now m (run_in now inputs m) in
    subst (λ (it : Scan). IsScanned now it.0 m.state it.1.state) (unless_gives causes done scan accepted)
    (scanned now inputs m.limit m.state whole (unless_allows causes done scan accepted) (run_in now inputs m) refl)

pub scans_keep_whole : ScansKeepWhole
scans_keep_whole now inputs m scan whole accepted =
    let causes = scan_causes now inputs m.state in
    let done = scan_of now m (run_in now inputs m) in
    subst (λ (it : Scan). IsWhole it.1.state) (unless_gives causes done scan accepted)
    (whole_still now inputs m.limit m.state whole (unless_allows causes done scan accepted) (run_in now inputs m) refl)

pub scans_start_anew : ScansStartAnew
scans_start_anew now inputs m scan accepted =
    subst (λ (it : Scan). (it.1.history ≡ []) × KeepsLoad m it.1) (unless_gives (scan_causes now inputs m.state) (scan_of now m (run_in now inputs m)) scan accepted)
    (refl, record { main = refl; limit = refl })
