use Rattle.std.proofs.Common.{◌≡◌, ◌∙◌, None, length, map, get_or, replicate, ap, arith, length-set}
use Rattle.std.proofs.lemmas.List.{length-replicate}
use Rattle.st_types.specs.Names.{units_of}
use Rattle.st_references.specs.Tables.{initial_in, written_at}
use Rattle.st_references.proofs.Known.{all_known, knows_none}
use Rattle.st_references.proofs.Tables.{knows_next, none_in, only_none}
use Rattle.st_references.proofs.table.sources_of.Goals as goal

pub units-init : goal.units-init
units-init c =
    let none : c.in_ok-types.types.items ≡ replicate c.len.result None = c.in_ok-types.ensures.items_if_clones_equal (only_none _ (λ x h. h)) in
    record {
      within = omega arith;
      len = ap length none ∙ length-replicate c.len.result None ∙ c.len.ensures;
      known = knows_none (units_of c.args.tables.now) (map (written_at c.args.written.now) c.in_ok-types.types.items)
          (λ i. ap (λ xs. initial_in (map (written_at c.args.written.now) xs) i) none ∙ none_in c.args.written.now c.len.result i);
    }

pub units-preserved : goal.units-preserved
units-preserved c = record {
  within = omega (arith, c.units-test.true);
  len = length-set c.units.types.items (get_or c.args.order.now c.units.unit-index 0) c.unit_source.result ∙ c.units.invariant.len;
  known = knows_next (units_of c.args.tables.now) c.args.order.now c.requires.order c.units.unit-index c.units-test.true c.args.written.now c.units.types.items c.deref.result.now c.unit_source.result c.deref.ensures.value c.units.invariant.len c.units.invariant.known (c.unit_source.ensures c.args.written.now c.requires.written);
}

pub returns : goal.returns
returns c = all_known (units_of c.args.tables.now) c.args.order.now c.requires.order c.units.unit-index (map (written_at c.args.written.now) c.units.types.items) c.units-test.false c.units.invariant.within c.units.invariant.known
