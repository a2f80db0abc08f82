use Rattle.std.proofs.Common.{subst, sym}
use Rattle.st_types.specs.Names.{units_of}
use Rattle.st_places.specs.Contents.{AreOf, IsSelected}
use Rattle.st_places.specs.Parts.{TablesView, node_part}
use Rattle.st_places.proofs.Selections.{node_clause, none_clause, offset_clause, part_clause}
use Rattle.st_places.proofs.tables.Tables.select.Goals.{After-selected}
use Rattle.st_places.proofs.tables.Tables.select.Goals as goal

found : (c : After-selected) → IsSelected (units_of c.args.self.now.text) (node_part (units_of c.args.self.now.text) c.args.node) c.args.name.now c.selected.result
found c =
    subst (λ (t : TablesView). IsSelected (units_of t.text) (node_part (units_of t.text) c.args.node) c.args.name.now c.selected.result) c.self.view_is
    (c.selected.ensures (units_of c.self.inside.text.now) (subst (AreOf (units_of c.self.inside.text.now)) (sym c.deref.ensures.value) c.self.invariant.parts))

pub returns-clause-offset : goal.returns-clause-offset
returns-clause-offset c = offset_clause c.args.self.now c.args.node c.args.name.now c.selected.result (found c) c.requires.small

pub returns-clause-part : goal.returns-clause-part
returns-clause-part c = part_clause c.args.self.now c.args.node c.args.name.now c.selected.result (found c)

pub returns-clause-node : goal.returns-clause-node
returns-clause-node c = node_clause c.args.self.now c.args.node c.args.name.now c.selected.result (found c)

pub returns-clause-none : goal.returns-clause-none
returns-clause-none c = none_clause c.args.self.now c.args.node c.args.name.now c.selected.result (found c)
