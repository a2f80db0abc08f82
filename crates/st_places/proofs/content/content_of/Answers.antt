use Rattle.std.proofs.Common.{◌∙◌, ap, subst, sym}
use Rattle.std.specs.Option.{option_copied}
use Rattle.st_types.specs.Compositions.{unknown}
use Rattle.st_types.specs.Names.{unit_at}
use Rattle.st_places.specs.Contents.{HasSameParts, IsContent, contents_of}
use Rattle.st_places.specs.Parts.{node_part}
use Rattle.st_places.proofs.Contents.{element_content, no_element_content, whole_content}
use Rattle.st_places.proofs.MemberContents.{member_element_content}
use Rattle.st_places.proofs.MemberContents as members
use Rattle.st_places.proofs.content.content_of.Goals as goal

pub returns-in-Whole : goal.returns-in-Whole
returns-in-Whole c = λ text are.
    subst (λ node. HasSameParts (node_part text node) (contents_of text (unit_at text c.in-Whole.unit))) (sym c.in-Whole.is) (whole_content text (unit_at text c.in-Whole.unit))

pub returns-in-Some : goal.returns-in-Some
returns-in-Some c = λ text are.
    subst (λ node. IsContent text (node_part text node) c.base_content.result) (sym c.in-Element.is)
    (member_element_content text c.args.units.now are c.in-Element.unit c.in-Element.number c.in-Some.member.now c.base_content.result (sym c.member_at.ensures ∙ ap option_copied c.in-Some.is)
    (λ typed. c.base_content.ensures text are typed))

pub returns-in-None : goal.returns-in-None
returns-in-None c = λ text are.
    subst (λ node. HasSameParts (node_part text node) unknown) (sym c.in-Element.is)
    (members.no_element_content text c.args.units.now are c.in-Element.unit c.in-Element.number (sym c.member_at.ensures ∙ ap option_copied c.in-None.is))

pub returns-in-Some-elements_at : goal.returns-in-Some-elements_at
returns-in-Some-elements_at c = λ text are.
    subst (λ node. IsContent text (node_part text node) c.base_content-in-Some-elements_at.result) (sym c.in-ArrayElement.is)
    (element_content text c.args.units.now are c.in-ArrayElement.unit c.in-Some-elements_at.elements.now c.base_content-in-Some-elements_at.result
    (sym c.elements_at.ensures ∙ ap option_copied c.in-Some-elements_at.is) (λ typed. c.base_content-in-Some-elements_at.ensures text are typed))

pub returns-in-None-elements_at : goal.returns-in-None-elements_at
returns-in-None-elements_at c = λ text are.
    subst (λ node. HasSameParts (node_part text node) unknown) (sym c.in-ArrayElement.is)
    (no_element_content text c.args.units.now are c.in-ArrayElement.unit (sym c.elements_at.ensures ∙ ap option_copied c.in-None-elements_at.is))
