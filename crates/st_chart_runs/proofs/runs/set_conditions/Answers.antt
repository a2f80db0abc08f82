use Rattle.std.proofs.Common.{◌≡◌, arith, get_or, length, pos, rules, w64}
use Rattle.std.proofs.lemmas.Int.{to_z-of_z}
use Rattle.st_meaning.specs.Statements.{is_nonzero}
use Rattle.st_chart_runs.proofs.FlagCells.{mapped_more}
use Rattle.st_chart_runs.proofs.runs.set_conditions.Goals as goal

pub loop-i-preserved : goal.loop-i-preserved
loop-i-preserved c =
    let many : length c.loop-i.conditions ≡ length c.args.numbers.now = omega (arith, c.loop-i.auto.conditions, c.requires) in
    mapped_more is_nonzero c.args.numbers.now c.loop-i.conditions c.loop-i.i (pos 0) c.is_nonzero.result c.loop-i-test.true many c.loop-i.invariant (rw (to_z-of_z w64 (get_or c.args.numbers.now c.loop-i.i (pos 0)) (search rules)) at c.is_nonzero.ensures)
