use Rattle.std.proofs.Common.{◌≡◌, ◌∙◌, Some, ap, subst, sym}
use Rattle.std.specs.List.{slice_get}
use Rattle.std.specs.Option.{option_copied}
use Rattle.st_places.specs.Contents.{IsArrayOf, member_in}
use Rattle.st_places.specs.Parts.{element_part, member_part, variables_at}
use Rattle.st_places.proofs.MemberContents.{array_member_content, member_below, no_member_content, plain_member_content}
use Rattle.st_places.proofs.content.member_content.Goals as goal

pub returns-in_default : goal.returns-in_default
returns-in_default c = λ text are. no_member_content text c.args.units.now are c.args.unit c.args.number (sym c.member_at.ensures ∙ ap option_copied c.in_default.is)

pub returns-in-Some-dimensions : goal.returns-in-Some-dimensions
returns-in-Some-dimensions c = λ text are.
    let there : member_in c.args.units.now c.args.unit c.args.number ≡ Some c.in-Some.member.now = sym c.member_at.ensures ∙ ap option_copied c.in-Some.is in (
      subst (λ ds. IsArrayOf (member_part text (slice_get (variables_at text c.args.unit) c.args.number)) (element_part text (slice_get (variables_at text c.args.unit) c.args.number)) ds) (sym c.as_slice.ensures)
          (array_member_content text c.args.units.now are c.args.unit c.args.number c.in-Some.member.now c.in-Some-dimensions.dimensions there c.in-Some-dimensions.is),
      member_below text c.args.units.now are c.args.unit c.args.number c.in-Some.member.now there,
    )

pub returns-in-None : goal.returns-in-None
returns-in-None c = λ text are.
    plain_member_content text c.args.units.now are c.args.unit c.args.number c.in-Some.member.now c.base_content.result (sym c.member_at.ensures ∙ ap option_copied c.in-Some.is) c.in-None.is
    (λ typed. c.base_content.ensures text are typed)
