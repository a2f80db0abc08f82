use Rattle.std.proofs.Common.{refl}
use Rattle.st_leaves.proofs.Counts.{below_all}
use Rattle.st_leaves.proofs.limited.Size.below.Goals as goal

pub returns : goal.returns
returns c xs s = below_all c.args.self _ c.args.bytes xs refl refl (c.longest_below.ensures xs s) s
