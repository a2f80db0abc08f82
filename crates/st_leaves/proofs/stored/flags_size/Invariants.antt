use Rattle.std.proofs.Common.{take}
use Rattle.st_leaves.specs.Sizes.{IsSize}
use Rattle.st_leaves.specs.Charts.{spelled, stored_leaves}
use Rattle.st_leaves.specs.Limits.{sizes_of}
use Rattle.st_leaves.proofs.stored.flags_size.Given as goal

-- of the names so far
abbrev pub invariant-names : goal.invariant-names
invariant-names l = IsSize l.size (sizes_of (stored_leaves (spelled (take l.name-index l.names))))
