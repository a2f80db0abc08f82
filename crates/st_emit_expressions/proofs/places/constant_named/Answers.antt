use Rattle.std.proofs.Common.{◌∙◌, sym, refl}
use Rattle.st_emit_expressions.specs.Trees.{whole_of}
use Rattle.st_emit_expressions.proofs.Ways.{named_constant, no_constant}
use Rattle.st_emit_expressions.proofs.places.constant_named.Goals as goal

pub returns-then-is_empty-clause-value : goal.returns-then-is_empty-clause-value
returns-then-is_empty-clause-value c =
    c.constant.ensures.value ∙ named_constant (whole_of c.args.scope.now) c.args.variable.now c.args.variable.now.parts c.as_slice.result.now refl (c.is_empty.ensures.0 c.if-is_empty.true) c.as_slice.ensures

pub returns-else-is_empty-clause-value : goal.returns-else-is_empty-clause-value
returns-else-is_empty-clause-value c =
    sym (no_constant (whole_of c.args.scope.now) c.args.variable.now c.args.variable.now.parts refl (λ e. cc (c.is_empty.ensures.1 e, c.if-is_empty.false)))
