use Rattle.st_check_expressions.proofs.Folds.{known_call_is}
use Rattle.st_faults.proofs.Offers.{both}
use Rattle.st_check_statements.proofs.invocations.check_invocation.Goals as goal

pub returns : goal.returns
returns c =
    rw (known_call_is, ← c.as_slice-arguments.ensures) (both _ _ _ _ _ (rw c.in_ok-fits.ensures at c.offer_when.ensures) c.in_ok-check_pins.ensures)
