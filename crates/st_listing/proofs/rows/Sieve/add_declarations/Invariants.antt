use Rattle.std.proofs.Common.{◌++◌, take}
use Rattle.std.specs.List.{flat_map}
use Rattle.st_types.specs.Names.{declared_in, units_of}
use Rattle.st_listing.specs.Walks.{ListsTheSame}
use Rattle.st_listing.proofs.rows.Sieve.add_declarations.Given as goal

-- the names of the declarations so far
abbrev pub invariant-declarations : goal.invariant-declarations
invariant-declarations l = ListsTheSame (units_of l.self.tables.now) l.rows (l.initial.rows ++ flat_map (declared_in l.kind) (take l.declaration-index l.declarations))
