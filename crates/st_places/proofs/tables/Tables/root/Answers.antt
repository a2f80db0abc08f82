use Rattle.st_places.proofs.Selections.{root_node, root_part}
use Rattle.st_places.proofs.tables.Tables.root.Goals as goal

pub returns-clause-part : goal.returns-clause-part
returns-clause-part c = root_part c.args.self.now c.args.unit

pub returns-clause-node : goal.returns-clause-node
returns-clause-node c = root_node c.args.self.now c.args.unit
