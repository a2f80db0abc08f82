use Rattle.std.proofs.Common.{◌≡◌, take}
use Rattle.st_check.specs.Programs.{order_of, text_of}
use Rattle.st_types.specs.Names.{units_of}
use Rattle.st_compile.specs.Programs.{function_room, function_view, numbered}
use Rattle.st_compile.proofs.units.functions_of.Given as goal

-- of the units so far
abbrev pub invariant-units : goal.invariant-units
invariant-units l = record {
  codes : l.functions.items ≡ numbered (function_view (units_of (text_of l.program)) (order_of l.program)) 0 (take l.number (units_of (text_of l.program)));
  given : l.rooms.items ≡ numbered (function_room (units_of (text_of l.program))) 0 (take l.number (units_of (text_of l.program)));
}
