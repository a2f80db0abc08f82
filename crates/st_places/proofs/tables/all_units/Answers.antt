use Rattle.std.proofs.Common.{◌∙◌, ◌∷◌, [], ap, arith, length, length-append, subst, sym}
use Rattle.st_types.specs.Names.{units_of}
use Rattle.st_places.specs.Members.{AreUnits}
use Rattle.st_places.proofs.Selections.{units_more}
use Rattle.st_places.proofs.tables.all_units.Goals as goal

pub units-preserved : goal.units-preserved
units-preserved c = record {
  len = ap length c.in_ok-push.ensures.items ∙ omega (arith, length-append c.units.units.items (c.in_ok-of.field-0 ∷ []), c.units.invariant.len);
  each =
      subst (AreUnits (units_of c.args.scopes.now)) (sym c.in_ok-push.ensures.items)
      (units_more (units_of c.args.scopes.now) c.units.units.items c.units.unit c.in_ok-of.field-0 c.units.invariant.len c.units.invariant.each c.in_ok-of.ensures);
}
