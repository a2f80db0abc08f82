-- What is called in a unit, as its names are looked up.
use Rattle.std.specs.Prelude.{ℕ, Bool, true, false, List, [], if◌then◌else◌}
use Rattle.std.specs.List.{list_any}
use Rattle.st_types.specs.Names.{Declares, Named, number_of, units_of}
use Rattle.st_types.specs.Names as names
use Rattle.st_types.specs.Scopes.{scope_at}
use Rattle.st_references.specs.References.{is_own, listed}
use Rattle.st_references.specs.declared.caller.Caller.{Caller}

-- the number of the function of the text that is called by this name, where it is one
unfoldable pub called_by : Caller → List ℕ → List ℕ
called_by caller name = if is_own ((scope_at caller.scope).callee name) then listed (number_of (units_of caller.tables.now) name) else []

-- whether a unit is a function
abbrev pub is_function : Declares → Bool
is_function (names.function f) = true
is_function _ = false

-- whether one of these units is a function
abbrev pub has_functions : List Named → Bool
has_functions units = list_any (λ u. is_function u.declares) units
