use Rattle.st_code.proofs.Beside.{beside-append}
use Rattle.st_code.proofs.code.Code.push.Goals as goal

pub returns-clause-ok : goal.returns-clause-ok
returns-clause-ok c = rw (c.in_ok-push-2.ensures.items, c.in_ok-push.ensures.items, c.in_ok-reserve.ensures.items, ← c.self.view_is) (beside-append _ _ _ _ c.self.invariant)
