-- The tables of a text.
use Rattle.std.specs.Prelude.{◌≡◌, map}
use Rattle.st_types.specs.Names.{units_of}
use Rattle.st_scopes.specs.UnitNames.{unit_names}
use Rattle.st_scopes.specs.declared.tables.Tables.TheInside.{Inside}

-- the tables hold the units of the text, and what is declared in each
pub record AreTables (tables : Inside) : Type 0 where
  pub types : tables.types ≡ units_of tables.text.now
  pub names : tables.names.items ≡ map (λ u. unit_names (units_of tables.text.now) u.declares) (units_of tables.text.now)
