use Rattle.std.proofs.Common.{subst, sym}
use Rattle.st_types.specs.Names.{units_of}
use Rattle.st_places.specs.Contents.{AreOf}
use Rattle.st_places.proofs.Charts.{elements_clause}
use Rattle.st_places.proofs.tables.Tables.chart.Goals as goal

pub returns : goal.returns
returns c =
    elements_clause (record { text = c.self.inside.text.now }) c.args.self.now c.args.unit c.chart_of.result.now c.self.view_is
    (c.chart_of.ensures (units_of c.self.inside.text.now) (subst (AreOf (units_of c.self.inside.text.now)) (sym c.deref.ensures.value) c.self.invariant.parts))
