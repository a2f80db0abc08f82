-- What a run does to the values of an instance, the run of the same code from its first leaf does among all values.
use Rattle.std.proofs.Common.{◌≡◌, ℕ, ◌+◌, ◌≤◌, List, [], length, Option, Some, None, refl, ap, sym, ◌∙◌, subst, arith}
use Rattle.std.specs.Option.{option_map}
use Rattle.std.specs.Prelude.{slice_get}
use Rattle.std.proofs.lemmas.Option.{slice_get-map}
use Rattle.st_meaning.specs.Meaning.{Values}
use Rattle.st_meaning.specs.Statements.{Outcome, done, exited, returned, faulted, stretch, with_stretch}
use Rattle.st_meaning.proofs.Stretches.{stretch_length, with_length}
use Rattle.st_code.specs.Code.{Line}
use Rattle.st_code.specs.Machine.{After, goes, ends, stuck, Environment, State, Reaches, ends_here, goes_on_to, act, next, next_at, state}
use Rattle.st_code.specs.Relative.{GoesAlike, HasSoMany, KeepLengths, RunsAreRelative, among, code_from, environment_from, from_leaf, line_from}
use Rattle.st_code.proofs.Lengths.{instructions_keep_lengths}
use Rattle.st_code.proofs.Relative.{instructions_are_relative}
use Rattle.st_code.proofs.Stretches.{stretch_with, with_itself, with_others}

module _ (env : Environment) (keep : KeepLengths env.bodies) (room : ℕ) (code : List Line) (values : Values) (first size : ℕ) (fits : first + size ≤ length values) where
  abbrev part_env : Environment
  part_env = environment_from first env

  -- the same place, with the part among all values
  abbrev whole_state : State → State
  whole_state s = state s.place s.stack (with_stretch values first s.values) s.left

  abbrev Alike : After → After → Type 0
  Alike (goes s) after = after ≡ goes (whole_state s)
  Alike (ends o) after = after ≡ ends (among values first o)
  Alike stuck after = Unit {0}

  -- the same seen from values in which the part stands already
  again : (part : Values) → length part ≡ size → (a b : After) → HasSoMany (length part) a → GoesAlike (with_stretch values first part) first a b → Alike a b
  again part many (goes s) b long h =
      let few : first + length part ≤ length values = omega (arith, fits, many) in
      h ∙ ap (λ (all : Values). goes (state s.place s.stack all s.left)) (with_others values first part few s.values long)
  again part many (ends (faulted f)) b long h = h
  again part many (ends (done others n)) b long h = absurd h
  again part many (ends (exited others n)) b long h = absurd h
  again part many (ends (returned others n)) b long h = absurd h
  again part many stuck b long h = tt

  next_alike : (l : Option Line) (s : State) → length s.values ≡ size
      → Alike (next_at part_env room l s) (next_at env room (option_map (line_from first) l) (whole_state s))
  next_alike None s many = refl
  next_alike (Some l) s many =
      let part = s.values in
      let whole = with_stretch values first part in
      let few : first + length part ≤ length values = omega (arith, fits, many) in
      let room_there : first + size ≤ length whole = omega (arith, with_length values first part few, fits) in
      let same : stretch whole first size ≡ part = ap (λ n. stretch whole first n) (sym many) ∙ stretch_with values first part few in
      let alike : GoesAlike whole first (act part_env room l.instr l.line s.place s.stack part s.left) (act env room (from_leaf first l.instr) l.line s.place s.stack whole s.left) =
      subst (λ (p : Values). GoesAlike whole first (act part_env room l.instr l.line s.place s.stack p s.left) (act env room (from_leaf first l.instr) l.line s.place s.stack whole s.left)) same
      (instructions_are_relative env room l.instr l.line s.place s.stack whole s.left first size room_there)
      in
      again part many (act part_env room l.instr l.line s.place s.stack part s.left) (act env room (from_leaf first l.instr) l.line s.place s.stack whole s.left)
      (instructions_keep_lengths part_env room l.instr l.line s.place s.stack part s.left keep) alike

  there : (s : State) → length s.values ≡ size → Alike (next part_env room code s) (next env room (code_from first code) (whole_state s))
  there s many =
      subst (λ (l : Option Line). Alike (next part_env room code s) (next_at env room l (whole_state s))) (sym (slice_get-map (line_from first) code s.place))
      (next_alike (slice_get code s.place) s many)

  still : (s t : State) → length s.values ≡ size → next part_env room code s ≡ goes t → length t.values ≡ size
  still s t many e = by (slice_get code s.place) e where
    by : (l : Option Line) → next_at part_env room l s ≡ goes t → length t.values ≡ size
    by None q = cc
    by (Some l) q =
        subst (HasSoMany (length s.values)) q (instructions_keep_lengths part_env room l.instr l.line s.place s.stack s.values s.left keep) ∙ many

  runs_alike : (o : Outcome) (s : State) → length s.values ≡ size → Reaches part_env room code o s → Reaches env room (code_from first code) (among values first o) (whole_state s)
  runs_alike o s many (ends_here _ e) = ends_here (whole_state s) (subst (λ a. Alike a (next env room (code_from first code) (whole_state s))) e (there s many))
  runs_alike o s many (goes_on_to _ t e r) =
      goes_on_to (whole_state s) (whole_state t) (subst (λ a. Alike a (next env room (code_from first code) (whole_state s))) e (there s many))
      (runs_alike o t (still s t many e) r)

pub runs_are_relative : RunsAreRelative
runs_are_relative env room code o values left first size keep fits r =
    subst (λ (all : Values). Reaches env room (code_from first code) (among values first o) (state 0 [] all left)) (with_itself values first size fits)
    (runs_alike env keep room code values first size fits o (state 0 [] (stretch values first size) left) (stretch_length values first size fits) r)
