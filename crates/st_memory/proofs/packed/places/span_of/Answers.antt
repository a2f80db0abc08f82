use Rattle.std.proofs.Common.{arith}
use Rattle.st_memory.proofs.Encoded.{run_within}
use Rattle.st_memory.proofs.packed.places.span_of.Goals as goal

pub returns-clause-order : goal.returns-clause-order
returns-clause-order c = omega (arith, (run_within c.args.layout.now c.args.first c.args.end c.requires.order).0)

pub returns-clause-within : goal.returns-clause-within
returns-clause-within c = omega (arith, (run_within c.args.layout.now c.args.first c.args.end c.requires.order).1)
