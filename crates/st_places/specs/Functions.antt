-- With which values the variables of a function begin in a call (2.5.1).
use Rattle.std.specs.Prelude.{ℕ, List, [], ◌∷◌, ◌++◌, map, Option, Some, None}
use Rattle.st_types.specs.Compositions.{Composition, Members, none, member}
use Rattle.st_types.specs.Names.{Declares, Named, unit_at, units_of}
use Rattle.st_types.specs.Names as names
use Rattle.st_leaves.specs.LeavesIn.{leaves_in}
use Rattle.st_meaning.specs.Units.{input_in, members_of_function}
use Rattle.st_meaning.specs.Wholes.{Input}
use Rattle.st_meaning.specs.declared.start.Start.{Start}
use Rattle.st_meaning.specs.declared.start.Start.TheVariants as beginnings
use Rattle.st_places.specs.Parts.{TablesView}

-- an input begins with the next value that is given, and what else is declared with its own values
abbrev pub starts_with : Option Input → Composition → List Start
starts_with (Some i) c = beginnings.Input ∷ []
starts_with None c = map (λ l. beginnings.Value l.initial) (leaves_in c)

abbrev pub starts_in : Members → List Start
starts_in none = []
starts_in (member name kind c ms) = starts_with (input_in name kind c) c ++ starts_in ms

abbrev pub declared_starts : List Named → Declares → List Start
declared_starts units (names.function f) = starts_in (members_of_function units f)
declared_starts units _ = []

-- of a unit that is a function
abbrev pub starts_of : List Named → Named → List Start
starts_of units unit = declared_starts units unit.declares

abbrev pub optional_starts : List Named → Option Named → List Start
optional_starts units None = []
optional_starts units (Some u) = starts_of units u

-- of the unit of this number
unfoldable pub starts_at : TablesView → ℕ → List Start
starts_at tables unit = optional_starts (units_of tables.text) (unit_at (units_of tables.text) unit)
