use Rattle.std.proofs.Common.{◌∙◌, ap, sym}
use Rattle.std.specs.List.{slice_get}
use Rattle.std.specs.Option.{option_copied}
use Rattle.st_places.proofs.Constants.{no_name, no_unit, not_past, one_value}
use Rattle.st_places.proofs.content.constant_named.Goals as goal

pub returns-in_err-constants : goal.returns-in_err-constants
returns-in_err-constants c = λ text are.
    c.from_residual.ensures ∙ no_unit text c.args.units.now are c.args.unit c.args.name.now (sym c.parts_of.ensures ∙ ap option_copied c.in_err-constants.was)

pub returns-in_err-number : goal.returns-in_err-number
returns-in_err-number c = λ text are.
    c.from_residual-in_err-number.ensures
    ∙ no_name text c.args.units.now are c.args.unit c.in_ok-constants.field-0.now c.args.name.now (sym c.parts_of.ensures ∙ ap option_copied c.in_ok-constants.was) (sym c.find.ensures.number ∙ c.in_err-number.was)

pub returns-in_err-value_at : goal.returns-in_err-value_at
returns-in_err-value_at c = λ text are.
    not_past text c.args.units.now are c.args.unit c.in_ok-constants.field-0.now c.args.name.now c.in_ok-number.number (sym c.parts_of.ensures ∙ ap option_copied c.in_ok-constants.was)
    (sym c.find.ensures.number ∙ c.in_ok-number.was) (ap (λ values. slice_get values c.in_ok-number.number) (sym c.as_slice.ensures) ∙ sym c.value_at.ensures ∙ c.in_err-value_at.was)

pub returns : goal.returns
returns c = λ text are.
    one_value text c.args.units.now are c.args.unit c.in_ok-constants.field-0.now c.args.name.now c.in_ok-number.number c.in_ok-value_at.field-0
    (sym c.parts_of.ensures ∙ ap option_copied c.in_ok-constants.was)
    (sym c.find.ensures.number ∙ c.in_ok-number.was) (ap (λ values. slice_get values c.in_ok-number.number) (sym c.as_slice.ensures) ∙ sym c.value_at.ensures ∙ c.in_ok-value_at.was)
