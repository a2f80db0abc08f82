use Rattle.std.proofs.Common.{arith}
use Rattle.st_machine.proofs.Puts.{name_passed, name_room}
use Rattle.st_machine.proofs.charts.put_variables.Goals as goal

pub push-requires : goal.push-requires
push-requires c =
    name_room c.args.variables.now c.args.on.now c.loop-place.stack.0 c.args.stack.now.0 c.loop-place.place _ c.loop-place-test.true c.loop-place.invariant.place c.requires.names
    c.loop-place.invariant.cells c.args.stack.now.1 c.loop-place.stack.1 c.if-variables-place.true c.requires.room c.loop-place.invariant.room

pub loop-place-preserved : goal.loop-place-preserved
loop-place-preserved c = record {
  place = omega (arith, c.loop-place.invariant.place);
  cells = name_passed c.args.variables.now c.args.on.now c.loop-place.stack.0 c.args.stack.now.0 c.loop-place.place _ c.loop-place-test.true c.loop-place.invariant.place c.requires.names
      c.loop-place.invariant.cells c.if-variables-place.false;
  room = c.loop-place.invariant.room;
}
