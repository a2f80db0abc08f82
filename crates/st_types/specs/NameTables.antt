-- The fields of a table of names.
use Rattle.st_types.specs.Tables.{HasFirsts}
use Rattle.st_types.specs.declared.name_table.NameTable.TheInside.{Inside}

-- the map has the number of the first of each name
pub record IsTable (table : Inside) : Type 0 where
  pub firsts : HasFirsts table.numbers table.names.items
