use Rattle.std.proofs.Common.{◌≡◌, ◌∙◌, Some, ap, arith, subst, sym}
use Rattle.std.specs.List.{slice_get}
use Rattle.std.specs.Option.{option_copied}
use Rattle.st_types.specs.Names.{unit_at}
use Rattle.st_places.specs.Charts.{leaf_of_step}
use Rattle.st_places.specs.Parts.{whole_part}
use Rattle.st_places.proofs.Charts.{flag_is, no_step, no_unit, not_past, offset_is, step_at, time_is}
use Rattle.st_places.proofs.step.step.Goals as goal

pub returns-in_err-steps : goal.returns-in_err-steps
returns-in_err-steps c = λ text are small.
    c.from_residual.ensures ∙ no_unit text c.args.units.now are c.args.unit c.args.is_time c.args.name.now (sym c.parts_of.ensures ∙ ap option_copied c.in_err-steps.was)

pub returns-in_err-number : goal.returns-in_err-number
returns-in_err-number c = λ text are small.
    c.from_residual-in_err-number.ensures
    ∙ no_step text c.args.units.now are c.args.unit c.in_ok-steps.field-0.now (sym c.parts_of.ensures ∙ ap option_copied c.in_ok-steps.was) c.args.is_time c.args.name.now
    (sym c.find.ensures.number ∙ c.in_err-number.was)

pub returns-in_err-offset : goal.returns-in_err-offset
returns-in_err-offset c = λ text are small.
    not_past text c.args.units.now are c.args.unit c.in_ok-steps.field-0.now (sym c.parts_of.ensures ∙ ap option_copied c.in_ok-steps.was) c.args.name.now c.in_ok-number.number
    (sym c.find.ensures.number ∙ c.in_ok-number.was) (ap (λ offsets. slice_get offsets c.in_ok-number.number) (sym c.as_slice.ensures) ∙ sym c.offset_at.ensures ∙ c.in_err-offset.was)

pub returns-then-is_time : goal.returns-then-is_time
returns-then-is_time c = λ text are small.
    let is = sym c.parts_of.ensures ∙ ap option_copied c.in_ok-steps.was in
    let at = sym c.find.ensures.number ∙ c.in_ok-number.was in
    let there = ap (λ offsets. slice_get offsets c.in_ok-number.number) (sym c.as_slice.ensures) ∙ sym c.offset_at.ensures ∙ c.in_ok-offset.was in
    subst (λ is_time. Some c.saturating_add.result ≡ leaf_of_step (whole_part text (unit_at text c.args.unit)) is_time c.args.name.now) (sym c.if-is_time.true)
    (time_is (whole_part text (unit_at text c.args.unit)) c.args.name.now c.in_ok-number.number c.in_ok-offset.offset c.chart_leaf.result c.saturating_add-flag.result
    (step_at text c.args.units.now are c.args.unit c.in_ok-steps.field-0.now is c.args.name.now c.in_ok-number.number at) small (c.chart_leaf.ensures text are small)
    (offset_is text c.args.units.now are c.args.unit c.in_ok-steps.field-0.now is c.args.name.now c.in_ok-number.number at c.in_ok-offset.offset there) (omega (arith, c.saturating_add-flag.ensures))
    c.saturating_add.result (omega (arith, c.saturating_add.ensures)))

pub returns-else-is_time : goal.returns-else-is_time
returns-else-is_time c = λ text are small.
    let is = sym c.parts_of.ensures ∙ ap option_copied c.in_ok-steps.was in
    let at = sym c.find.ensures.number ∙ c.in_ok-number.was in
    let there = ap (λ offsets. slice_get offsets c.in_ok-number.number) (sym c.as_slice.ensures) ∙ sym c.offset_at.ensures ∙ c.in_ok-offset.was in
    subst (λ is_time. Some c.saturating_add-flag.result ≡ leaf_of_step (whole_part text (unit_at text c.args.unit)) is_time c.args.name.now) (sym c.if-is_time.false)
    (flag_is (whole_part text (unit_at text c.args.unit)) c.args.name.now c.in_ok-number.number c.in_ok-offset.offset c.chart_leaf.result c.saturating_add-flag.result
    (step_at text c.args.units.now are c.args.unit c.in_ok-steps.field-0.now is c.args.name.now c.in_ok-number.number at) small (c.chart_leaf.ensures text are small)
    (offset_is text c.args.units.now are c.args.unit c.in_ok-steps.field-0.now is c.args.name.now c.in_ok-number.number at c.in_ok-offset.offset there) (omega (arith, c.saturating_add-flag.ensures)))
