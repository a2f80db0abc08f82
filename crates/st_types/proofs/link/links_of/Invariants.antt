use Rattle.std.proofs.Common.{map}
use Rattle.st_types.specs.Inside.{named_by}
use Rattle.st_types.proofs.LinkTables.{HasLinks}
use Rattle.st_types.proofs.link.links_of.Given as goal

-- the links of the units so far
abbrev pub invariant-loop-number : goal.invariant-loop-number
invariant-loop-number l = HasLinks l.names (map named_by l.units) l.number l.links.items
