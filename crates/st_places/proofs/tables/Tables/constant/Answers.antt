use Rattle.std.proofs.Common.{subst, sym}
use Rattle.st_types.specs.Names.{units_of}
use Rattle.st_places.specs.Contents.{AreOf}
use Rattle.st_places.proofs.Constants.{value_clause, values_clause}
use Rattle.st_places.proofs.tables.Tables.constant.Goals as goal

pub returns-clause-value : goal.returns-clause-value
returns-clause-value c =
    value_clause (record { text = c.self.inside.text.now }) c.args.self.now c.args.unit c.args.name.now c.constant_named.result c.self.view_is
    (c.constant_named.ensures (units_of c.self.inside.text.now) (subst (AreOf (units_of c.self.inside.text.now)) (sym c.deref.ensures.value) c.self.invariant.parts))

pub returns-clause-in_range : goal.returns-clause-in_range
returns-clause-in_range c =
    values_clause (record { text = c.self.inside.text.now }) c.args.unit c.args.name.now c.constant_named.result
    (c.constant_named.ensures (units_of c.self.inside.text.now) (subst (AreOf (units_of c.self.inside.text.now)) (sym c.deref.ensures.value) c.self.invariant.parts))
