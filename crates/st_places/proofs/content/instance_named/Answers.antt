use Rattle.std.proofs.Common.{◌∙◌, ap, sym}
use Rattle.std.specs.Option.{option_copied}
use Rattle.st_places.proofs.MemberContents.{not_missing}
use Rattle.st_places.proofs.NamedInstances.{no_name, no_unit, one_name}
use Rattle.st_places.proofs.content.instance_named.Goals as goal

pub returns-in_err-parts_of : goal.returns-in_err-parts_of
returns-in_err-parts_of c = λ text are.
    c.from_residual.ensures ∙ no_unit text c.args.units.now are c.args.unit c.args.name.now (sym c.parts_of.ensures ∙ ap option_copied c.in_err-parts_of.was)

pub returns-in_err-number : goal.returns-in_err-number
returns-in_err-number c = λ text are.
    c.from_residual-in_err-number.ensures
    ∙ no_name text c.args.units.now are c.args.unit c.in_ok-parts_of.field-0.now c.args.name.now (sym c.parts_of.ensures ∙ ap option_copied c.in_ok-parts_of.was) (sym c.find.ensures.number ∙ c.in_err-number.was)

pub returns-in_err-member_at : goal.returns-in_err-member_at
returns-in_err-member_at c = λ text are.
    not_missing text c.args.units.now are c.args.unit c.in_ok-parts_of.field-0.now c.args.name.now c.in_ok-number.number (sym c.parts_of.ensures ∙ ap option_copied c.in_ok-parts_of.was)
    (sym c.find.ensures.number ∙ c.in_ok-number.was) (sym c.member_at.ensures ∙ ap option_copied c.in_err-member_at.was)

pub returns : goal.returns
returns c = λ text are.
    c.member_block.ensures
    ∙ one_name text c.args.units.now are c.args.unit c.in_ok-parts_of.field-0.now c.args.name.now c.in_ok-number.number c.in_ok-member_at.field-0.now (sym c.parts_of.ensures ∙ ap option_copied c.in_ok-parts_of.was)
    (sym c.find.ensures.number ∙ c.in_ok-number.was) (sym c.member_at.ensures ∙ ap option_copied c.in_ok-member_at.was)
