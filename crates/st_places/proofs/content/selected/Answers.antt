use Rattle.st_types.specs.Compositions.{standard}
use Rattle.st_places.specs.Parts.{node_part}
use Rattle.st_places.proofs.Contents.{selected_same}
use Rattle.st_places.proofs.content.selected.Goals as goal

pub returns-in-Block : goal.returns-in-Block
returns-in-Block c = λ text are.
    selected_same text (node_part text c.args.node) (standard c.in-Block.block) c.args.name.now c.pin_named.result (c.in-Block.ensures text are) (c.pin_named.ensures text)
