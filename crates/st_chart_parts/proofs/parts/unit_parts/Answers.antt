use Rattle.std.proofs.Common.{map, not}
use Rattle.st_scopes.specs.Declarations.{seen}
use Rattle.st_types.specs.Names.{units_of}
use Rattle.st_leaves.specs.Charts.{spelled}
use Rattle.st_chart_parts.proofs.UnitCharts.{any_by_length, unit_parts}
use Rattle.st_chart_parts.proofs.parts.unit_parts.Goals as goal

pub returns : goal.returns
returns c = λ u at.
    unit_parts (units_of c.args.tables.now) c.args.unit c.unit.result u (map seen c.declared.result.now) c.chart_of-elements.result.now (not c.is_empty.result) c.in_ok-step_parts.field-0.items (spelled c.in_ok-names_stored.field-0.items) c.unit.ensures at
    c.declared.ensures c.chart_of-elements.ensures (any_by_length c.chart_of-elements.result.now c.is_empty.result c.is_empty.ensures) c.in_ok-step_parts.ensures c.in_ok-names_stored.ensures
