use Rattle.std.proofs.lemmas.Result.{on_ok_weaker}
use Rattle.st_types.specs.Names.{units_of}
use Rattle.st_types.specs.Scopes.{scope_at}
use Rattle.st_types.specs.Inside.{declared_by}
use Rattle.st_check_units.proofs.TextUnits.{pou_done}
use Rattle.st_check_units.proofs.units.check_pou.Goals as goal

pub returns : goal.returns
returns c =
    on_ok_weaker c.check_body_of.result
    (pou_done (units_of c.args.types.now) (scope_at c.args.scope.now) (declared_by c.args.unit) c.args.pou.now c.as_slice-variables.result.now c.chart_of.result.now c.new-seen.result c.check_variable_names.new.seen c.args.first.now c.check_variable_names.new.first c.check_chart_names.new.first c.check_blocks.new.first c.check_body_of.new.first
    c.as_slice-variables.ensures c.chart_of.ensures c.new-seen.ensures c.in_ok-check_variable_names.ensures.first c.in_ok-check_variable_names.ensures.seen c.in_ok-check_chart_names.ensures.first c.check_blocks.ensures)
    c.check_body_of.ensures
