use Rattle.std.proofs.Common.{ap}
use Rattle.st_check_statements.specs.Statements.{Around}
use Rattle.st_check_statements.proofs.Folds.{output_is}
use Rattle.st_faults.proofs.Offers.{both}
use Rattle.st_check_statements.proofs.invocations.check_output.Goals as goal

pub returns : goal.returns
returns c =
    rw output_is
    (both _ _ _ _ _ (rw (ap Around.counters c.around.view_is) at c.in_ok-target.ensures.first) (rw c.in_ok-target.ensures.shape at c.check_taker.ensures))
