-- The fields of a scope.
use Rattle.std.specs.Prelude.{◌<◌, length}
use Rattle.st_types.specs.Names.{units_of}
use Rattle.st_scopes.specs.declared.scope.Scope.TheInside.{Inside}

-- the text has a unit of this number
pub record IsScope (scope : Inside) : Type 0 where
  pub below : scope.unit < length (units_of scope.tables.now)
