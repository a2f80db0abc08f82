use Rattle.std.proofs.Common.{take}
use Rattle.st_leaves.specs.Associated.{HasNamesOf}
use Rattle.st_leaves.proofs.names.AssociatedNames.add_all.Given as goal

-- the names of the associations so far
abbrev pub invariant-associations : goal.invariant-associations
invariant-associations l = HasNamesOf (take l.association-index l.associations) l.initial.self l.self
