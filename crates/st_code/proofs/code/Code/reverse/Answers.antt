use Rattle.st_code.proofs.Beside.{reverse-beside}
use Rattle.st_code.proofs.code.Code.reverse.Goals as goal

pub returns : goal.returns
returns c = rw (c.reverse.ensures.items, c.reverse-2.ensures.items, ← c.self.view_is) (reverse-beside _ _ c.self.invariant)
