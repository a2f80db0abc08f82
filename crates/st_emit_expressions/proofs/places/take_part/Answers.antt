use Rattle.std.proofs.Common.{◌∙◌, sym, refl, length}
use Rattle.st_places.specs.Parts.{part_in}
use Rattle.st_emit_expressions.specs.Trees.{whole_of}
use Rattle.st_emit_expressions.proofs.Ways.{element_taken, field_taken, lost_element, lost_field, takes_as_many, takes_no_other}
use Rattle.st_emit_expressions.proofs.places.take_part.Goals as goal

pub returns-in_err-before-in-Field-clause-none : goal.returns-in_err-before-in-Field-clause-none
returns-in_err-before-in-Field-clause-none c =
    λ e. lost_field (whole_of c.args.scope.now) (part_in c.args.scope.now.0 c.args.node) c.args.part.now c.in-Field.name c.as_slice.result.now c.in-Field.is c.as_slice.ensures (c.select.ensures.none c.in_err-before-in-Field.was)

pub returns-then-dimensions-len-clause-none : goal.returns-then-dimensions-len-clause-none
returns-then-dimensions-len-clause-none c =
    let d = c.in_ok-dimensions-in-Subscripts in
    λ e. lost_element (whole_of c.args.scope.now) (part_in c.args.scope.now.0 c.args.node) c.args.part.now c.in-Subscripts.field-0 c.in-Subscripts.subscripts c.in-Subscripts.is
    (takes_no_other (part_in c.args.scope.now.0 c.args.node) (length c.in-Subscripts.subscripts) (λ f. c.if-dimensions-len.true (d.ensures.number ∙ sym f ∙ sym c.len.ensures)))

pub returns-in_ok-before-in-Field-clause-taken : goal.returns-in_ok-before-in-Field-clause-taken
returns-in_ok-before-in-Field-clause-taken c =
    let f = c.in_ok-before-in-Field in
    field_taken (whole_of c.args.scope.now) c.args.scope.now.0 (part_in c.args.scope.now.0 c.args.node) c.args.part.now c.in-Field.name c.as_slice.result.now (record { node = f.node; before = f.before; is_member = _ }) c.in-Field.is c.as_slice.ensures c.requires.small
    f.ensures.node f.ensures.part f.ensures.offset refl

pub returns-else-dimensions-len-clause-taken : goal.returns-else-dimensions-len-clause-taken
returns-else-dimensions-len-clause-taken c =
    let d = c.in_ok-dimensions-in-Subscripts in
    element_taken (whole_of c.args.scope.now) c.args.scope.now.0 (part_in c.args.scope.now.0 c.args.node) c.args.part.now c.in-Subscripts.field-0 c.in-Subscripts.subscripts (record { node = d.node; before = 0; is_member = _ }) c.in-Subscripts.is
    (takes_as_many (part_in c.args.scope.now.0 c.args.node) (length c.in-Subscripts.subscripts) d.ensures.array (sym c.len.ensures ∙ sym c.if-dimensions-len.false ∙ d.ensures.number))
    c.requires.small d.ensures.node d.ensures.part refl refl
