use Rattle.std.proofs.Common.{◌∙◌, ap, subst, sym}
use Rattle.std.specs.Option.{option_copied}
use Rattle.st_types.specs.Names.{unit_at}
use Rattle.st_places.specs.Contents.{IsSelected, contents_of}
use Rattle.st_places.proofs.MemberContents.{no_unit_named, none_named, not_missing, one_named}
use Rattle.st_places.proofs.content.member_named.Goals as goal

pub returns-in_err-parts_of : goal.returns-in_err-parts_of
returns-in_err-parts_of c = λ text are.
    subst (IsSelected text (contents_of text (unit_at text c.args.unit)) c.args.name.now) (sym c.from_residual.ensures)
    (no_unit_named text c.args.units.now are c.args.unit c.args.name.now (sym c.parts_of.ensures ∙ ap option_copied c.in_err-parts_of.was))

pub returns-in_err-number : goal.returns-in_err-number
returns-in_err-number c = λ text are.
    subst (IsSelected text (contents_of text (unit_at text c.args.unit)) c.args.name.now) (sym c.from_residual-in_err-number.ensures)
    (none_named text c.args.units.now are c.args.unit c.in_ok-parts_of.field-0.now c.args.name.now (sym c.parts_of.ensures ∙ ap option_copied c.in_ok-parts_of.was) (sym c.find.ensures.number ∙ c.in_err-number.was))

pub returns-in_err-member : goal.returns-in_err-member
returns-in_err-member c = λ text are.
    not_missing text c.args.units.now are c.args.unit c.in_ok-parts_of.field-0.now c.args.name.now c.in_ok-number.number (sym c.parts_of.ensures ∙ ap option_copied c.in_ok-parts_of.was)
    (sym c.find.ensures.number ∙ c.in_ok-number.was) (sym c.member_at.ensures ∙ ap option_copied c.in_err-member.was)

pub returns : goal.returns
returns c = λ text are.
    one_named text c.args.units.now are c.args.unit c.in_ok-parts_of.field-0.now c.args.name.now c.in_ok-number.number c.in_ok-member.member.now (sym c.parts_of.ensures ∙ ap option_copied c.in_ok-parts_of.was)
    (sym c.find.ensures.number ∙ c.in_ok-number.was) (sym c.member_at.ensures ∙ ap option_copied c.in_ok-member.was)
