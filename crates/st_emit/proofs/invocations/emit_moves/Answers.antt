use Rattle.std.proofs.Common.{◌-◌, arith}
use Rattle.st_emit_expressions.specs.Trees.{whole_of}
use Rattle.st_emit.specs.Moves.{moves_of}
use Rattle.st_emit.proofs.Invoking.{moves_joined, moves_step}
use Rattle.st_emit.proofs.invocations.emit_moves.Goals as goal

pub loop-i-preserved : goal.loop-i-preserved
loop-i-preserved c =
    let w = whole_of c.args.scope.now in
    let name = c.args.instance.now.spelling in
    record {
      few = omega (arith, c.loop-i.invariant.few);
      code = moves_step w.variables (moves_of c.args.moved w name) c.args.arguments.now c.loop-i.i (c.loop-i.i - 1) c.index-arguments-i.result c.args.code.now c.loop-i.code c.emit_move.new.code
          (moves_joined c.args.moved w name) (omega (arith, c.loop-i-test.true)) c.loop-i.invariant.few c.index-arguments-i.is c.loop-i.invariant.code c.in_ok-emit_move.ensures;
    }
