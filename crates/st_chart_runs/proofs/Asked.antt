-- Which steps are active, from the leaves of a chart among all.
use Rattle.std.proofs.Common.{◌≡◌, ℕ, zero, suc, ◌+◌, ◌<◌, Bool, true, false, pos, not, List, [], ◌∷◌, length, take, drop, refl, sym, ap, ◌∙◌, arith}
use Rattle.std.specs.Ordering.{int_eq}
use Rattle.std.proofs.lemmas.List.{get_or-drop, get_or-take, length-append}
use Rattle.st_values.specs.declared.value.Value.{Value}
use Rattle.st_values.specs.Values.{truth}
use Rattle.st_blocks.specs.Cells.{flag_at}
use Rattle.st_charts.specs.Charts.{active_in}
use Rattle.st_meaning.specs.Charts.{cells_in, state_in}
use Rattle.st_meaning.specs.Meaning.{Values}
use Rattle.st_leaves.specs.Charts.{step_types}
use Rattle.st_meaning.specs.Sketches.{Sketch, chart_size, flags_types, steps_types}
use Rattle.st_meaning.specs.Statements.{stretch}
use Rattle.st_meaning.specs.Views.{IsOf, SketchView, step_place}
use Rattle.st_chart_runs.specs.Views.{StandsAt, types_of}
use Rattle.st_chart_runs.proofs.Stretched.{types_are}

-- ---- a step among others

flag_behind : (n k : ℕ) (cells : Values) → flag_at (drop n cells) k ≡ flag_at cells (n + k)
flag_behind n k cells = ap (λ (v : Value). not (int_eq v.bits (pos 0))) (get_or-drop n cells k (truth false))

active_at : (pulses : List Bool) (cells : Values) (s : ℕ) → s < length pulses → active_in (cells_in pulses cells) s ≡ flag_at cells (length (steps_types (take s pulses)))
active_at [] cells s h = absurd (omega (arith, h))
active_at (p ∷ pulses) cells zero h = refl
active_at (p ∷ pulses) cells (suc s) h =
    active_at pulses (drop (length (step_types p)) cells) s (omega (arith, h))
    ∙ flag_behind (length (step_types p)) (length (steps_types (take s pulses))) cells
    ∙ ap (λ k. flag_at cells k) (sym (length-append (step_types p) (steps_types (take s pulses))))

some_of : (p : Bool) → 0 < length (step_types p)
some_of true = omega arith
some_of false = omega arith

step_inside : (pulses : List Bool) (s : ℕ) → s < length pulses → length (steps_types (take s pulses)) < length (steps_types pulses)
step_inside [] s h = absurd (omega (arith, h))
step_inside (p ∷ pulses) zero h = omega (arith, length-append (step_types p) (steps_types pulses), some_of p)
step_inside (p ∷ pulses) (suc s) h =
    let rest = step_inside pulses s (omega (arith, h)) in
    omega (arith, rest, length-append (step_types p) (steps_types pulses), length-append (step_types p) (steps_types (take s pulses)))

pub place_inside : (view : SketchView) (s : ℕ) → s < length view.pulses → step_place view.pulses s < length (types_of view)
place_inside view s h = omega (arith, step_inside view.pulses s h, length-append (steps_types view.pulses) (flags_types view.stored))

-- ---- among all leaves

flag_there : (values : Values) (leaf size k : ℕ) → k < size → flag_at (stretch values leaf size) k ≡ flag_at values (leaf + k)
flag_there values leaf size k h =
    ap (λ (v : Value). not (int_eq v.bits (pos 0))) (get_or-take size (drop leaf values) k (truth false) h ∙ get_or-drop leaf values k (truth false))

pub active_there : (view : SketchView) (values : Values) (leaf s : ℕ) → s < length view.pulses
    → flag_at values (leaf + step_place view.pulses s) ≡ active_in (cells_in view.pulses (drop 1 (stretch values leaf (length (types_of view))))) s
active_there view values leaf s h =
    let part = stretch values leaf (length (types_of view)) in
    sym (flag_there values leaf (length (types_of view)) (step_place view.pulses s) (place_inside view s h))
    ∙ sym (flag_behind 1 (length (steps_types (take s view.pulses))) part) ∙ sym (active_at view.pulses (drop 1 part) s h)

module _ (view : SketchView) (s : Sketch) (is : IsOf view s) (values : Values) (leaf t : ℕ) (stands : StandsAt view leaf values) where
  abbrev part : Values
  part = stretch values leaf (chart_size s)

  size : length (types_of view) ≡ chart_size s
  size = ap length (types_are view s is)

  begun : flag_at values leaf ≡ (state_in s part).begun
  begun =
      let first : 0 < chart_size s = omega arith in
      let same : leaf + 0 ≡ leaf = omega arith in
      ap (λ k. flag_at values k) (sym same) ∙ sym (flag_there values leaf (chart_size s) 0 first)
