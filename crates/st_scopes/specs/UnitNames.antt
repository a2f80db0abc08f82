-- What is declared in a unit, as tables hold it.
use Rattle.std.specs.Prelude.{List, []}
use Rattle.st_scopes.specs.Charts.{chart_names}
use Rattle.st_scopes.specs.Declarations.{names_in}
use Rattle.st_types.specs.Names.{Declares, Named}
use Rattle.st_types.specs.Names as names
use Rattle.st_types.specs.Scopes.{inputs_of}
use Rattle.st_types.specs.Signatures.{Input}
use Rattle.st_scopes.specs.declared.names.UnitNames.{UnitNames}

-- the inputs of a function
abbrev pub unit_inputs : List Named → Declares → List Input
unit_inputs units (names.function f) = inputs_of units f
unit_inputs units _ = []

abbrev pub unit_names : List Named → Declares → UnitNames
unit_names units unit = record { declarations = names_in unit; chart = chart_names unit; inputs = unit_inputs units unit }
