use Rattle.std.proofs.Common.{arith}
use Rattle.st_leaves.specs.Limits.{sizes_of}
use Rattle.st_leaves.proofs.SizesOf.{sizes_named}
use Rattle.st_leaves.proofs.size.named_size.Goals as goal

pub returns : goal.returns
returns c leaves s = sizes_named _ c.args.name.now _ leaves (omega arith) (c.below.ensures (sizes_of leaves) s)
