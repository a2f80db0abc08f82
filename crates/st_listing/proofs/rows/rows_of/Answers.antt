use Rattle.std.proofs.Common.{◌∙◌, ◌∷◌, [], ap, arith, length, length-append, sym}
use Rattle.std.proofs.lemmas.List.{length-map}
use Rattle.st_types.specs.Inside.{named_by}
use Rattle.st_types.specs.Names.{units_of}
use Rattle.st_listing.proofs.DeclaredNames.{next_rows}
use Rattle.st_listing.proofs.rows.rows_of.Goals as goal

pub each-preserved : goal.each-preserved
each-preserved c =
    let count = ap length c.in_ok-push.ensures.items ∙ length-append c.each.rows.items (c.in_ok-unit_rows.field-0 ∷ []) in record {
      within = omega (arith, c.each-test.true);
      len = omega (arith, count, c.each.invariant.len);
      each = next_rows (units_of c.args.tables.now) c.units-units.result.now c.each.rows.items c.push.new.self.items c.each.unit-index c.unit-item.result c.in_ok-unit_rows.field-0 c.units-units.ensures c.each-test.true c.unit-item.is
          c.each.invariant.len c.each.invariant.each c.in_ok-unit_rows.ensures c.in_ok-push.ensures.items;
    }

pub returns : goal.returns
returns c =
    let count = sym (length-map c.units-units.result.now named_by) ∙ ap length c.units-units.ensures in record {
      len = omega (arith, count, c.each.invariant.len, c.each.invariant.within, c.each-test.false);
      each = λ i below. c.each.invariant.each i (omega (arith, below, count, c.each-test.false));
    }
