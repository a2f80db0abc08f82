use Rattle.std.proofs.Common.{sym, ◌∙◌}
use Rattle.std.proofs.lemmas.List.{get_or_default}
use Rattle.st_references.proofs.Reversing.{one_reversed, all_reversed}
use Rattle.st_references.proofs.reversal.reversed.Goals as goal

pub rows-preserved : goal.rows-preserved
rows-preserved c =
    one_reversed _ _ _ _ _ c.rows.invariant
    (get_or_default c.args.graph.now c.rows.row _ _ c.rows-test.true ∙ sym c.index-graph-row.is ∙ sym c.as_slice.ensures)
    c.in_ok-add_references.ensures

pub returns : goal.returns
returns c = all_reversed _ _ _ c.rows-test.false c.rows.invariant
