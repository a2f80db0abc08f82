use Rattle.std.proofs.Common.{◌≡◌, take}
use Rattle.st_check.specs.Programs.{main_of, text_of}
use Rattle.st_types.specs.Names.{units_of}
use Rattle.st_compile.specs.Programs.{numbered, unit_chart}
use Rattle.st_compile.proofs.charts.charts_of.Given as goal

-- of the units so far
abbrev pub invariant-units : goal.invariant-units
invariant-units l = l.charts.items ≡ numbered (unit_chart (units_of (text_of l.program)) (main_of l.program)) 0 (take l.number (units_of (text_of l.program)))
