-- The initial values of types, in a table by the numbers of the units that declare them.
use Rattle.std.specs.Prelude.{◌≡◌, ℕ, List, get_or, Option, Some, None}
use Rattle.st_tree.specs.declared.tree.declaration.Initial.{Initial}
use Rattle.st_types.specs.Initials.{initial_at, known}
use Rattle.st_tree.specs.declared.tree.declaration.DeclaredType.TheVariants as declared_types
use Rattle.st_types.specs.Names.{Declares, Named}
use Rattle.st_types.specs.Names as names

-- of the type of this number, where one is written
abbrev pub initial_in : List (Option Initial) → ℕ → Option Initial
initial_in table i = get_or table i None

-- as definitions take it that don't know it of each type
abbrev pub by_table : List (Option Initial) → ℕ → Option (Option Initial)
by_table table i = Some (initial_in table i)

-- the table has the initial values of the types of these units
abbrev pub AreInitials : List Named → List (Option Initial) → Type 0
AreInitials units table = (i : ℕ) → initial_in table i ≡ known units (initial_at units i)

-- what the declaration of a type writes
abbrev pub declares_written : Declares → Option Initial
declares_written (names.type (declared_types.Derived specification initial)) = initial
declares_written _ = None

abbrev pub written_by : Named → Option Initial
written_by unit = declares_written unit.declares

-- what the unit of this number writes, where this is what the units write
abbrev pub written_at : List (Option Initial) → Option ℕ → Option Initial
written_at all None = None
written_at all (Some i) = get_or all i None
