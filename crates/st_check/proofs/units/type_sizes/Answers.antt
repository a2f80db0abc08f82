use Rattle.std.proofs.Common.{◌∙◌, List, get_or, subst, sym, length-set}
use Rattle.st_leaves.specs.declared.limited.Size.{Size}
use Rattle.st_types.specs.Names.{units_of}
use Rattle.st_check.specs.Sized.{AreSized}
use Rattle.st_check.proofs.Tables.{all_sized, references_sized, sizes_more}
use Rattle.st_check.proofs.units.type_sizes.Goals as goal

pub own_size-requires-clause-sized : goal.own_size-requires-clause-sized
own_size-requires-clause-sized c =
    subst (λ (sizes : List Size). AreSized (units_of c.args.tables.now) sizes (get_or c.args.order.now c.units.unit-index 0)) (sym c.deref.ensures.value)
    (references_sized (units_of c.args.tables.now) c.args.order.now c.requires c.units.sizes.items c.units.unit-index c.units-test.true c.units.invariant.sized)

pub units-preserved : goal.units-preserved
units-preserved c = record {
  len = length-set c.units.sizes.items (get_or c.args.order.now c.units.unit-index 0) c.in_ok-sizes-2.field-0 ∙ c.units.invariant.len;
  sized = sizes_more (units_of c.args.tables.now) c.args.order.now c.requires c.units.unit-index c.units.sizes.items c.in_ok-sizes-2.field-0 c.units-test.true c.units.invariant.len c.units.invariant.sized c.in_ok-sizes-2.ensures;
}

pub returns : goal.returns
returns c = all_sized (units_of c.args.tables.now) c.args.order.now c.requires c.units.unit-index c.units.sizes.items c.units-test.false c.units.invariant.sized
