use Rattle.std.proofs.Common.{◌++◌, take}
use Rattle.st_types.specs.Names.{units_of, variables_of}
use Rattle.st_listing.specs.Walks.{ListsTheSame}
use Rattle.st_listing.proofs.rows.Sieve.add_blocks.Given as goal

-- the variables of the blocks so far
abbrev pub invariant-each : goal.invariant-each
invariant-each l = ListsTheSame (units_of l.self.tables.now) l.rows (l.initial.rows ++ variables_of (take l.block-index l.blocks))
