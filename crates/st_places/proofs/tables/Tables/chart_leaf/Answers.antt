use Rattle.std.proofs.Common.{subst, sym}
use Rattle.st_types.specs.Names.{units_of}
use Rattle.st_places.specs.Contents.{AreOf}
use Rattle.st_places.proofs.Charts.{leaf_clause}
use Rattle.st_places.proofs.tables.Tables.chart_leaf.Goals as goal

pub returns : goal.returns
returns c =
    leaf_clause (record { text = c.self.inside.text.now }) c.args.self.now c.args.unit c.chart_leaf.result c.self.view_is
    (c.chart_leaf.ensures (units_of c.self.inside.text.now) (subst (AreOf (units_of c.self.inside.text.now)) (sym c.deref.ensures.value) c.self.invariant.parts)) c.requires
