use Rattle.std.proofs.Common.{arith}
use Rattle.st_types.specs.Names.{units_of}
use Rattle.st_chart_parts.specs.Charts.{parts_of}
use Rattle.st_chart_parts.proofs.Units.{units_more}
use Rattle.st_chart_parts.proofs.parts.chart_parts.Goals as goal

pub units-preserved : goal.units-preserved
units-preserved c =
    units_more (λ u. parts_of u.declares) (units_of c.args.tables.now) c.units.charts.items c.push.new.self.items c.units.unit c.in_ok-unit_parts.field-0
    (omega (arith, c.len-unit-end.ensures, c.units-test.true)) c.units.invariant c.in_ok-push.ensures.items c.in_ok-unit_parts.ensures
