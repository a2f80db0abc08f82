use Rattle.std.proofs.Common.{ap, ◌∙◌}
use Rattle.st_types.specs.Names.{units_of}
use Rattle.st_faults.proofs.Offers.{turn}
use Rattle.st_check_units.proofs.TextUnits.{unit_at_faults, unit_done, units_done}
use Rattle.st_check_units.proofs.units.check_each_unit.Goals as goal

pub loop-number-preserved : goal.loop-number-preserved
loop-number-preserved c =
    turn (unit_at_faults c.args.types.now) c.units-units.result.now c.loop-number.number c.index-units-number.result c.loop-number.first c.check_unit.new.first _ c.loop-number-test.true c.index-units-number.is
    (unit_done c.args.types.now c.units-units.result.now c.loop-number.number c.index-units-number.result c.scope-scope.result c.loop-number.first c.check_unit.new.first (c.units-units.ensures ∙ ap units_of c.tables-tables.ensures) c.loop-number-test.true c.index-units-number.is
    (c.scope-scope.ensures ∙ ap (λ text. (text, c.loop-number.number)) c.tables-tables.ensures) c.in_ok-check_unit.ensures)
    c.loop-number.invariant

pub returns : goal.returns
returns c = units_done c.args.types.now c.units-units.result.now c.loop-number.number c.args.first.now c.loop-number.first (c.units-units.ensures ∙ ap units_of c.tables-tables.ensures) c.loop-number-test.false c.loop-number.invariant
