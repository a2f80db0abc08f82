use Rattle.std.proofs.Common.{◌<◌, ◌-◌, ◌+◌, ◌≡◌, arith, length}
use Rattle.st_emit_expressions.specs.Functions.{destinations}
use Rattle.st_emit_expressions.specs.Trees.{whole_of}
use Rattle.st_emit_expressions.proofs.Calling.{sources_step}
use Rattle.st_emit_expressions.proofs.functions.emit_sources.Goals as goal

pub loop-number-preserved : goal.loop-number-preserved
loop-number-preserved c =
    let to = destinations (whole_of c.args.scope.now) c.args.function.now c.args.arguments.now in
    let n = c.loop-number.number - 1 in
    let back : n + 1 ≡ c.loop-number.number = omega (arith, c.loop-number-test.true) in
    let lt : n < length c.args.function.now.inputs = omega (arith, back, c.loop-number.invariant.inside) in
    record {
      inside = omega (arith, lt);
      code = sources_step c.args.function.now.inputs to c.args.count c.loop-number.number n _ c.args.code.now c.loop-number.code c.emit_source.new.code back lt (c.requires.first.each n lt) c.loop-number.invariant.code c.in_ok-emit_source.ensures;
    }
