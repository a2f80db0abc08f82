-- What names stand for in a unit, where there is one.
use Rattle.std.specs.Prelude.{ℕ, false, List, Option, Some, None}
use Rattle.st_tree.specs.declared.tree.unit.Function.{Function}
use Rattle.st_types.specs.Names.{Declares, Named}
use Rattle.st_types.specs.Scopes.{member, symbol, unit_callee, unit_member, variable_named}
use Rattle.st_types.specs.Types.{plain}
use Rattle.st_types.specs.declared.base.Base.TheVariants as bases
use Rattle.st_types.specs.declared.base.Purpose.TheVariants as purposes
use Rattle.st_types.specs.declared.symbol.Callee.{Callee}
use Rattle.st_types.specs.declared.symbol.Callee.TheVariants as callees
use Rattle.st_types.specs.declared.symbol.Member.{Member}
use Rattle.st_types.specs.declared.symbol.Symbol.{Symbol}

-- a function's name in its own statements
abbrev pub result_symbol : Function → Symbol
result_symbol f = symbol purposes.Result (plain (bases.Elementary f.result))

abbrev pub optional_variable : List Named → Option Declares → List ℕ → Option Symbol
optional_variable units None name = None
optional_variable units (Some unit) name = variable_named units unit name

abbrev pub optional_unit_member : List Named → Option Declares → List ℕ → Member
optional_unit_member units None name = member None false
optional_unit_member units (Some unit) name = unit_member units unit name

abbrev pub optional_unit_callee : List Named → Option Declares → Callee
optional_unit_callee units None = callees.Missing
optional_unit_callee units (Some unit) = unit_callee units unit
