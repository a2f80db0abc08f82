use Rattle.std.proofs.Common.{◌≡◌, map, take}
use Rattle.st_types.specs.Names.{units_of}
use Rattle.st_chart_parts.specs.Charts.{parts_of}
use Rattle.st_chart_parts.proofs.parts.chart_parts.Given as goal

-- of the units so far
abbrev pub invariant-units : goal.invariant-units
invariant-units l = l.charts.items ≡ map (λ u. parts_of u.declares) (take l.unit (units_of l.tables))
