use Rattle.std.proofs.Common.{subst, sym}
use Rattle.st_types.specs.Names.{units_of}
use Rattle.st_places.specs.Contents.{AreElementsOf, AreOf}
use Rattle.st_places.specs.Parts.{TablesView, node_part}
use Rattle.st_places.proofs.Selections.{array_clause, dimensions_clause, element_clause, element_node_clause, no_array_clause, number_clause}
use Rattle.st_places.proofs.tables.Tables.elements.Goals.{After-elements}
use Rattle.st_places.proofs.tables.Tables.elements.Goals as goal

found : (c : After-elements) → AreElementsOf (units_of c.args.self.now.text) (node_part (units_of c.args.self.now.text) c.args.node) c.elements.result
found c =
    subst (λ (t : TablesView). AreElementsOf (units_of t.text) (node_part (units_of t.text) c.args.node) c.elements.result) c.self.view_is
    (c.elements.ensures (units_of c.self.inside.text.now) (subst (AreOf (units_of c.self.inside.text.now)) (sym c.deref.ensures.value) c.self.invariant.parts))

pub returns-clause-array : goal.returns-clause-array
returns-clause-array c = array_clause c.args.self.now c.args.node c.elements.result (found c)

pub returns-clause-number : goal.returns-clause-number
returns-clause-number c = number_clause c.args.self.now c.args.node c.elements.result (found c)

pub returns-clause-dimensions : goal.returns-clause-dimensions
returns-clause-dimensions c = dimensions_clause c.args.self.now c.args.node c.elements.result (found c) c.requires.small

pub returns-clause-part : goal.returns-clause-part
returns-clause-part c = element_clause c.args.self.now c.args.node c.elements.result (found c)

pub returns-clause-node : goal.returns-clause-node
returns-clause-node c = element_node_clause c.args.self.now c.args.node c.elements.result (found c)

pub returns-clause-none : goal.returns-clause-none
returns-clause-none c = no_array_clause c.args.self.now c.args.node c.elements.result (found c)
