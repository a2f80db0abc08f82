use Rattle.std.proofs.Common.{◌≡◌, ◌++◌, take}
use Rattle.st_leaves.specs.Charts.{set_names}
use Rattle.st_leaves.proofs.stored.add_set.Given as goal

-- of the associations so far
abbrev pub invariant-associations : goal.invariant-associations
invariant-associations l = l.names ≡ l.initial.names ++ set_names (take l.association-index l.associations)
