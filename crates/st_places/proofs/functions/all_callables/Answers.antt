use Rattle.std.proofs.Common.{◌∙◌, ◌∷◌, [], ap, arith, length, length-append, subst, sym}
use Rattle.st_types.specs.Names.{units_of}
use Rattle.st_places.specs.Callables.{AreCallable}
use Rattle.st_places.proofs.Callables.{callables_more}
use Rattle.st_places.proofs.functions.all_callables.Goals as goal

pub units-preserved : goal.units-preserved
units-preserved c = record {
  len = ap length c.in_ok-push.ensures.items ∙ omega (arith, length-append c.units.units.items (c.in_ok-callable_of.field-0 ∷ []), c.units.invariant.len);
  each =
      subst (AreCallable (units_of c.args.tables.now)) (sym c.in_ok-push.ensures.items)
      (callables_more (units_of c.args.tables.now) c.units.units.items c.units.number c.in_ok-callable_of.field-0 c.units.invariant.len c.units.invariant.each
      c.in_ok-callable_of.ensures);
}
