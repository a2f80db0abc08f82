use Rattle.std.proofs.Common.{List, subst, sym}
use Rattle.st_leaves.specs.declared.limited.Size.{Size}
use Rattle.st_types.specs.Names.{units_of}
use Rattle.st_check.specs.Sized.{AreSized}
use Rattle.st_check.proofs.sizes.is_too_large.Goals as goal

pub unit_size-requires-clause-sized : goal.unit_size-requires-clause-sized
unit_size-requires-clause-sized c =
    subst (λ (sizes : List Size). AreSized (units_of c.args.tables.now) sizes c.args.unit) (sym c.deref.ensures.value) (λ i refers. c.in_ok-sizes.ensures i)
