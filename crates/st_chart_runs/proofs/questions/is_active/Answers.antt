use Rattle.std.proofs.Common.{◌+◌, ◌∙◌, ap, arith, not, pos}
use Rattle.std.specs.Ordering.{int_eq}
use Rattle.st_values.specs.declared.value.Value.{Value}
use Rattle.st_blocks.specs.Cells.{flag_at}
use Rattle.st_chart_runs.proofs.Asked.{active_there, place_inside}
use Rattle.st_chart_runs.proofs.Stretched.{leaves_there}
use Rattle.st_chart_runs.proofs.questions.is_active.Goals as goal

pub overflow_add-place : goal.overflow_add-place
overflow_add-place g c =
    let values = (g.M.Memory.content c.args.layout.now c.args.memory.now).values in
    let view = c.args.sketch.now in
    omega (arith, c.step_offset.ensures, place_inside view c.args.step c.requires.step, leaves_there view c.args.leaf values c.requires.stands, c.requires.few)

pub overflow_cast-place-2 : goal.overflow_cast-place-2
overflow_cast-place-2 g c =
    let values = (g.M.Memory.content c.args.layout.now c.args.memory.now).values in
    let view = c.args.sketch.now in
    omega (arith, c.step_offset.ensures, place_inside view c.args.step c.requires.step, leaves_there view c.args.leaf values c.requires.stands, c.requires.few)

pub get-requires-clause-below : goal.get-requires-clause-below
get-requires-clause-below g c =
    let values = (g.M.Memory.content c.args.layout.now c.args.memory.now).values in
    let view = c.args.sketch.now in
    omega (
      arith,
      c.step_offset.ensures,
      place_inside view c.args.step c.requires.step,
      leaves_there view c.args.leaf values c.requires.stands,
      (g.met.M.Memory.fits _ _ c.requires.over).values,
    )

pub returns : goal.returns
returns g c =
    let values = (g.M.Memory.content c.args.layout.now c.args.memory.now).values in
    c.is_true.ensures ∙ ap (λ (v : Value). not (int_eq v.bits (pos 0))) c.get.ensures.value ∙ ap (λ k. flag_at values (c.args.leaf + k)) c.step_offset.ensures
    ∙ active_there c.args.sketch.now values c.args.leaf c.args.step c.requires.step
