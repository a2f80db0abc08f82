use Rattle.std.proofs.Common.{arith}
use Rattle.std.proofs.lemmas.List.{take_more}
use Rattle.st_references.proofs.Reversing.{one_reference}
use Rattle.st_references.proofs.reversal.add_references.Goals as goal

pub rows-preserved : goal.rows-preserved
rows-preserved c = rw (take_more c.args.from.now c.rows.row-index 0 c.rows-test.true)
    (one_reference _ _ _ _ _ _ _ c.rows.invariant (omega (arith, c.requires c.rows.row-index 0 c.rows-test.true)) c.index_mut.ensures.value c.in_ok-push.ensures.ok)
