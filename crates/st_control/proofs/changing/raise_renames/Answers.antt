use Rattle.std.proofs.Common.{arith, get_or}
use Rattle.std.proofs.lemmas.List.{get_or_default}
use Rattle.std.proofs.lemmas.List.Edits.{map_over_more}
use Rattle.st_control.specs.Changes.{raised_rename}
use Rattle.st_control.proofs.changing.raise_renames.Goals as goal

pub loop-rename-preserved : goal.loop-rename-preserved
loop-rename-preserved c =
    let renames = c.loop-rename.renames in
    let i = c.loop-rename.rename-index in
    let item = get_or renames i c.rename-item.result in
    rw (c.raise.ensures, c.raise-in-loop-rename.ensures)
    (map_over_more raised_rename c.args.renames.now renames i item (omega arith) c.loop-rename.invariant (get_or_default renames i c.rename-item.result item (omega arith)))
