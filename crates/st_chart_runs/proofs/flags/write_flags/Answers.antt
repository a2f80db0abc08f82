use Rattle.std.proofs.Common.{◌≡◌, arith, length}
use Rattle.st_chart_runs.proofs.FlagCells.{flag_written}
use Rattle.st_chart_runs.proofs.flags.write_flags.Goals as goal

pub loop-i-preserved : goal.loop-i-preserved
loop-i-preserved c =
    let many : length c.loop-i.cells ≡ length c.args.stored.now = omega (arith, c.loop-i.auto.cells, c.requires.leaves) in
    flag_written c.args.stored.now c.args.flags.now c.loop-i.cells c.loop-i.i _ _ c.truth.result c.loop-i-test.true many c.requires.names c.loop-i.invariant c.truth.ensures.value
