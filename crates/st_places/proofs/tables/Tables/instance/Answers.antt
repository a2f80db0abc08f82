use Rattle.std.proofs.Common.{subst, sym}
use Rattle.st_types.specs.Names.{units_of}
use Rattle.st_places.specs.Contents.{AreOf}
use Rattle.st_places.proofs.NamedInstances.{instance_clause}
use Rattle.st_places.proofs.tables.Tables.instance.Goals as goal

pub returns : goal.returns
returns c =
    instance_clause (record { text = c.self.inside.text.now }) c.args.self.now c.args.unit c.args.name.now c.instance_named.result c.self.view_is
    (c.instance_named.ensures (units_of c.self.inside.text.now) (subst (AreOf (units_of c.self.inside.text.now)) (sym c.deref.ensures.value) c.self.invariant.parts))
