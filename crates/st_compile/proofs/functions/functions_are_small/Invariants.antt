use Rattle.std.proofs.Common.{◌≡◌, take, true}
use Rattle.std.specs.List.{list_all}
use Rattle.st_check.specs.Programs.{text_of}
use Rattle.st_types.specs.Names.{units_of}
use Rattle.st_compile.specs.Small.{function_is_small}
use Rattle.st_compile.proofs.functions.functions_are_small.Given as goal

-- so it is of the units so far
abbrev pub invariant-units : goal.invariant-units
invariant-units l = list_all (function_is_small (units_of (text_of l.program))) (take l.number (units_of (text_of l.program))) ≡ true
