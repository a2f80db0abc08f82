use Rattle.std.proofs.Common.{◌∙◌}
use Rattle.st_emit_expressions.specs.Trees.{whole_of}
use Rattle.st_emit_expressions.proofs.StepParts.{named_part, other_number, subscripts_part}
use Rattle.st_emit_expressions.proofs.steps.step_at.Goals as goal

pub returns-then-parts-ne1 : goal.returns-then-parts-ne1
returns-then-parts-ne1 c =
    let w = whole_of c.args.scope.now in other_number w w.variables c.args.variable.now c.as_slice-parts.result.now c.as_slice-parts.ensures c.if-parts-ne1.true

pub returns-in-Field : goal.returns-in-Field
returns-in-Field c =
    let w = whole_of c.args.scope.now in
    c.step_named.ensures
    ∙ named_part w w.variables c.args.variable.now c.as_slice-parts.result.now c.index-parts-0.result c.in-Field.part c.as_slice.result.now c.as_slice-in-Field.result.now
    c.as_slice-parts.ensures c.if-parts-ne1.false c.index-parts-0.is c.in-Field.is c.as_slice.ensures c.as_slice-in-Field.ensures

pub returns-in-Subscripts : goal.returns-in-Subscripts
returns-in-Subscripts c =
    let w = whole_of c.args.scope.now in
    subscripts_part w w.variables c.args.variable.now c.as_slice-parts.result.now c.index-parts-0.result c.in-Subscripts.field-0 c.in-Subscripts.field-1 c.as_slice-parts.ensures c.if-parts-ne1.false c.index-parts-0.is c.in-Subscripts.is
