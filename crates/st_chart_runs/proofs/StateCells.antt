-- What a chart keeps of itself, and what one invocation makes of it, over the values of its leaves.
use Rattle.std.proofs.Common.{◌≡◌, ℕ, suc, ◌+◌, ◌-◌, ◌≤◌, ℤ, Bool, true, false, List, [], ◌∷◌, ◌++◌, length, map, replicate, set, take, drop, Option, refl, sym, ap, ◌∙◌, arith, append-nil}
use Rattle.std.specs.List.{AllZip}
use Rattle.std.proofs.Math.Seq.{drop-length, take-append_seam}
use Rattle.std.proofs.lemmas.List.{length-append, length-drop, take_all}
use Rattle.std.proofs.lemmas.Slice.Zip.{AllZip-long}
use borrow.Rule.Slice.PartMut.{post_of, put_mid}
use Rattle.std.specs.Option.{is_some}
use Rattle.st_values.specs.declared.elem.Elem.{Elem}
use Rattle.st_values.specs.declared.value.Value.{Value}
use Rattle.st_values.specs.Values.{truth, IsOfType}
use Rattle.st_blocks.specs.Cells.{flag_at}
use Rattle.st_charts.specs.Charts.{no_step, timed}
use Rattle.st_charts.specs.Outcomes.{Outcome, invoked}
use Rattle.st_charts.specs.declared.step.StepCell.{StepCell}
use Rattle.st_meaning.specs.Charts.{ChartState, cells_in, flags_from, flags_values, moved_on, names_on, outcome_of, state_in, state_values, step_values, steps_values, times_set}
use Rattle.st_meaning.specs.Meaning.{Values}
use Rattle.st_leaves.specs.Charts.{step_types}
use Rattle.st_meaning.specs.Sketches.{Sketch, flags_types, steps_types}
use Rattle.st_meaning.specs.Views.{IsOf, SketchView, flags_place}
use Rattle.st_chart_runs.specs.Parts.{AreFirst}
use Rattle.st_chart_runs.specs.Views.{types_of}

-- ---- the leaves of the steps, and those of the flags

first_are : (ts us : List Elem) (values : Values) → AllZip IsOfType (ts ++ us) values → AreFirst ts values
first_are [] us values h = tt
first_are (t ∷ ts) us [] h = absurd h
first_are (t ∷ ts) us (v ∷ values) h = (h.0, first_are ts us values h.1)

pub steps_first : (view : SketchView) (cells : Values) → AllZip IsOfType (types_of view) cells → AreFirst (steps_types view.pulses) (drop 1 cells)
steps_first view [] h = absurd h
steps_first view (v ∷ cells) h = first_are (steps_types view.pulses) (flags_types view.stored) cells h.1

pub rest_of : (n : ℕ) (cells : Values) → take (length cells - n) (drop n cells) ≡ drop n cells
rest_of n cells = take_all (length cells - n) (drop n cells) (omega (arith, length-drop n cells))

many_flags : (stored : List ℕ) → length (flags_types stored) ≡ length stored
many_flags [] = refl
many_flags (n ∷ stored) = ap suc (many_flags stored)

pub many_types : (view : SketchView) → length (types_of view) ≡ flags_place view.pulses + length view.stored
many_types view = omega (arith, length-append (steps_types view.pulses) (flags_types view.stored), many_flags view.stored)

pub many_cells : (view : SketchView) (cells : Values) → AllZip IsOfType (types_of view) cells → length cells ≡ flags_place view.pulses + length view.stored
many_cells view cells h = AllZip-long IsOfType (types_of view) cells h ∙ many_types view

pub flags_there : (view : SketchView) (cells : Values) → length cells ≡ flags_place view.pulses + length view.stored → length view.stored ≤ length (drop (flags_place view.pulses) cells)
flags_there view cells h = omega (arith, h, length-drop (flags_place view.pulses) cells)

flags_long : (stored : List ℕ) (flags : List Bool) → length (flags_values stored flags) ≡ length stored
flags_long [] flags = refl
flags_long (n ∷ stored) flags = ap suc (flags_long stored flags)

step_long : (p : Bool) (c : StepCell) → length (step_values p c) ≡ length (step_types p)
step_long true c = refl
step_long false c = refl

steps_long : (pulses : List Bool) (steps : List StepCell) → length (steps_values pulses steps) ≡ length (steps_types pulses)
steps_long [] steps = refl
steps_long (p ∷ pulses) [] =
    omega (arith, length-append (step_values p no_step) (steps_values pulses []), length-append (step_types p) (steps_types pulses), step_long p no_step, steps_long pulses [])
steps_long (p ∷ pulses) (c ∷ steps) =
    omega (arith, length-append (step_values p c) (steps_values pulses steps), length-append (step_types p) (steps_types pulses), step_long p c, steps_long pulses steps)

-- what is written one after the other
pub placed : (t : Value) (cells steps flags : Values) (behind : ℕ) → behind ≡ 1 + length steps → length cells ≡ behind + length flags
    → take behind (put_mid 1 (behind - 1) (set cells 0 t) steps)
    ++ (flags ++ post_of behind (length (put_mid 1 (behind - 1) (set cells 0 t) steps) - behind) (put_mid 1 (behind - 1) (set cells 0 t) steps)) ≡ t ∷ (steps ++ flags)
placed t [] steps flags behind h many = absurd (omega (arith, h, many))
placed t (v ∷ cells) steps flags behind h many =
    let all = put_mid 1 (behind - 1) (t ∷ cells) steps in
    let long : behind ≡ length (t ∷ steps) = omega (arith, h) in
    let front : take behind all ≡ t ∷ steps = ap (λ k. take k all) long ∙ take-append_seam (t ∷ steps) (drop (behind - 1) cells) in
    let behind_all : post_of behind (length all - behind) all ≡ [] =
    ap (λ k. drop k (drop behind all)) (sym (length-drop behind all)) ∙ drop-length (drop behind all) in
    ap (λ (vs : Values). vs ++ (flags ++ post_of behind (length all - behind) all)) front
    ∙ ap (λ (vs : Values). (t ∷ steps) ++ (flags ++ vs)) behind_all
    ∙ ap (λ (vs : Values). (t ∷ steps) ++ vs) (append-nil flags)

pub written : (view : SketchView) (t : Value) (cells : Values) (behind : ℕ) (steps : List StepCell) (flags : List Bool) → behind ≡ flags_place view.pulses
    → length cells ≡ flags_place view.pulses + length view.stored
    → take behind (put_mid 1 (behind - 1) (set cells 0 t) (steps_values view.pulses steps))
    ++ (flags_values view.stored flags ++ post_of behind (length (put_mid 1 (behind - 1) (set cells 0 t) (steps_values view.pulses steps)) - behind) (put_mid 1 (behind - 1) (set cells 0 t) (steps_values view.pulses steps)))
    ≡ t ∷ (steps_values view.pulses steps ++ flags_values view.stored flags)
written view t cells behind steps flags is many =
    placed t cells (steps_values view.pulses steps) (flags_values view.stored flags) behind (omega (arith, is, steps_long view.pulses steps))
    (omega (arith, is, many, flags_long view.stored flags))

-- ---- the state

abbrev state_of : Bool → List StepCell → List Bool → ChartState
state_of b steps flags = record { begun = b; steps = steps; flags = flags }

same_state : (b c : Bool) (steps others : List StepCell) (flags more : List Bool) → b ≡ c → steps ≡ others → flags ≡ more
    → state_of b steps flags ≡ state_of c others more
same_state b c steps others flags more e f g = λ i. record { begun = e i; steps = f i; flags = g i }

no_flags : (names : List (Option (List ℕ))) → replicate (length (map is_some names)) false ≡ map (λ name. false) names
no_flags [] = refl
no_flags (n ∷ names) = ap (λ (fs : List Bool). false ∷ fs) (no_flags names)

module _ (view : SketchView) (s : Sketch) (is : IsOf view s) (old : Values) where
  steps_are : cells_in view.pulses (drop 1 old) ≡ (state_in s old).steps
  steps_are = ap (λ (ps : List Bool). cells_in ps (drop 1 old)) is.pulses

  flags_are : (n : ℕ) → n ≡ length view.variables
      → flags_from view.stored (drop (flags_place view.pulses) old) (replicate n false) ≡ (state_in s old).flags
  flags_are n many =
      ap (λ k. flags_from view.stored (drop (flags_place view.pulses) old) (replicate k false)) (many ∙ ap (λ (vs : List Bool). length vs) is.variables)
      ∙ ap (λ (fs : List Bool). flags_from view.stored (drop (flags_place view.pulses) old) fs) (no_flags s.variables)
      ∙ ap (λ (ns : List ℕ). flags_from ns (drop (flags_place view.pulses) old) (map (λ name. false) s.variables)) is.stored
      ∙ ap (λ (ps : List Bool). flags_from s.stored (drop (flags_place ps) old) (map (λ name. false) s.variables)) is.pulses

  values_are : (b : Bool) (steps : List StepCell) (flags : List Bool)
      → truth b ∷ (steps_values view.pulses steps ++ flags_values view.stored flags) ≡ state_values s (record { begun = b; steps = steps; flags = flags })
  values_are b steps flags =
      ap (λ (ps : List Bool). truth b ∷ (steps_values ps steps ++ flags_values view.stored flags)) is.pulses
      ∙ ap (λ (ns : List ℕ). truth b ∷ (steps_values s.pulses steps ++ flags_values ns flags)) is.stored

  module _ (n : ℕ) (many : n ≡ length view.variables) (b : Bool) (begun : b ≡ flag_at old 0) (read : List StepCell) (steps : read ≡ cells_in view.pulses (drop 1 old))
      (flags : List Bool) (kept : flags ≡ flags_from view.stored (drop (flags_place view.pulses) old) (replicate n false)) (now : ℤ) where
    -- the times are those that are set
    pub times_are : (times : List StepCell) (new : Values) → times ≡ map (timed b now) read
        → new ≡ truth b ∷ (steps_values view.pulses times ++ flags_values view.stored flags) → new ≡ times_set s now old
    times_are times new set' made =
        made ∙ values_are b times flags
        ∙ ap (state_values s) (same_state b (flag_at old 0) times _ flags (state_in s old).flags begun
        (set' ∙ ap (λ x. map (timed x now) read) begun ∙ ap (λ (cs : List StepCell). map (timed (flag_at old 0) now) cs) (steps ∙ steps_are)) (kept ∙ flags_are n many))

    module _ (conditions : List Bool) (o : Outcome) (follows : o ≡ invoked view.passages view.links b read flags conditions now) where
      outcome_is : o ≡ outcome_of s conditions now old
      outcome_is =
          follows
          ∙ ap (λ x. invoked view.passages view.links x read flags conditions now) begun
          ∙ ap (λ (cs : List StepCell). invoked view.passages view.links (flag_at old 0) cs flags conditions now) (steps ∙ steps_are)
          ∙ ap (λ (fs : List Bool). invoked view.passages view.links (flag_at old 0) (state_in s old).steps fs conditions now) (kept ∙ flags_are n many)
          ∙ ap (λ ts. invoked ts view.links (flag_at old 0) (state_in s old).steps (state_in s old).flags conditions now) is.passages
          ∙ ap (λ ls. invoked s.passages ls (flag_at old 0) (state_in s old).steps (state_in s old).flags conditions now) is.links

      -- the chart has moved on
      pub moved_are : (new : Values) → new ≡ truth true ∷ (steps_values view.pulses o.steps ++ flags_values view.stored o.flags) → new ≡ moved_on s conditions now old
      moved_are new made =
          made ∙ values_are true o.steps o.flags
          ∙ ap (λ (p : Outcome). state_values s (record { begun = true; steps = p.steps; flags = p.flags })) outcome_is

      pub names_are : o.on ≡ names_on s conditions now old
      names_are = ap (λ (p : Outcome). p.on) outcome_is
