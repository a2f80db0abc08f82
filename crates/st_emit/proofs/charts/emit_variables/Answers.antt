use Rattle.std.proofs.Common.{◌≡◌, ◌+◌, ◌-◌, arith}
use Rattle.st_emit_expressions.specs.Trees.{whole_of}
use Rattle.st_emit.proofs.ChartCode.{variable_over, variable_step}
use Rattle.st_emit.proofs.charts.emit_variables.Goals as goal

pub loop-number-preserved : goal.loop-number-preserved
loop-number-preserved c =
    let root = (whole_of c.args.scope.now).variables in
    let j = c.loop-number.number - 1 in
    let back : j + 1 ≡ c.loop-number.number = omega (arith, c.loop-number-test.true) in
    record {
      few = omega (arith, c.loop-number.invariant.few);
      code = variable_step root c.args.names.now c.loop-number.number j c.name.result.now c.bool_named.result c.in-Some.leaf c.args.code.now c.loop-number.code c.push.new.self back c.name.ensures c.bool_named.ensures c.in-Some.is
          c.loop-number.invariant.code c.in_ok-push.ensures.ok;
    }

pub loop-number-preserved-in_default : goal.loop-number-preserved-in_default
loop-number-preserved-in_default c =
    let root = (whole_of c.args.scope.now).variables in
    let j = c.loop-number.number - 1 in
    let back : j + 1 ≡ c.loop-number.number = omega (arith, c.loop-number-test.true) in
    record {
      few = omega (arith, c.loop-number.invariant.few);
      code = variable_over root c.args.names.now c.loop-number.number j c.name.result.now c.bool_named.result c.args.code.now c.loop-number.code back c.name.ensures c.bool_named.ensures c.in_default.is c.loop-number.invariant.code;
    }
