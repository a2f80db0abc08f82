-- Functions with few enough variables for code: all those that a text of 2 ^ 20 bytes has room for, since a name takes two bytes at
-- least with what stands behind it.
use Rattle.std.specs.Prelude.{Bool, ◌||◌, not, List}
use Rattle.std.specs.List.{list_all}
use Rattle.st_check.specs.Programs.{ProgramView, text_of}
use Rattle.st_types.specs.Names.{Named, units_of}
use Rattle.st_places.specs.Parts.{is_function, is_small_function}

-- if the unit is a function, it has at most 999999 variables, its result among them
abbrev pub function_is_small : List Named → Named → Bool
function_is_small units unit = not (is_function unit.declares) || is_small_function units unit

-- so it is of all functions of the text
unfoldable pub functions_are_small : ProgramView → Bool
functions_are_small program = list_all (function_is_small (units_of (text_of program))) (units_of (text_of program))
