use Rattle.std.proofs.Common.{arith}
use Rattle.st_parser.proofs.ParserLemmas.{enter_none, enter_some}
use Rattle.st_parser.proofs.cursor.Cursor.enter.Goals as goal

pub returns-then-depth_left-eq0-clause-read : goal.returns-then-depth_left-eq0-clause-read
returns-then-depth_left-eq0-clause-read c = record { reads = rw c.place.ensures (enter_none c.args.depth_left c.args.self.now c.if-depth_left-eq0.true); shorter = tt }

pub returns-clause-read : goal.returns-clause-read
returns-clause-read c = record {
  reads = rw (c.bump.ensures.value, c.bump.ensures.rest) (enter_some c.args.depth_left c.args.self.now c.if-depth_left-eq0.false);
  shorter = omega (arith, c.bump.ensures.shorter);
}
