-- What the fields of tables hold.
use Rattle.st_types.specs.Names.{units_of}
use Rattle.st_places.specs.Callables.{AreElementary, AreFunctions}
use Rattle.st_places.specs.Contents.{AreOf}
use Rattle.st_places.specs.declared.tables.Tables.TheInside.{Inside}

-- those of all units of the text, in whose functions each variable is one value
pub record AreTables (tables : Inside) : Type 0 where
  pub parts : AreOf (units_of tables.text.now) tables.units.items
  pub functions : AreFunctions (units_of tables.text.now) tables.functions
  pub elementary : AreElementary (units_of tables.text.now)
