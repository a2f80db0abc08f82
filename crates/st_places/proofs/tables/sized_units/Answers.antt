use Rattle.std.proofs.Common.{List, subst, sym}
use Rattle.st_check.specs.Sized.{IsSized}
use Rattle.st_leaves.specs.declared.limited.Size.{Size}
use Rattle.st_types.specs.Names.{units_of}
use Rattle.st_types.specs.Types.{type_at}
use Rattle.st_places.proofs.tables.sized_units.Goals as goal

pub all_units-requires-clause-sizes : goal.all_units-requires-clause-sizes
all_units-requires-clause-sizes c = λ i.
    subst (λ (sizes : List Size). IsSized (units_of c.args.scopes.now) sizes (type_at (units_of c.args.scopes.now) i)) (sym c.deref.ensures.value) (c.in_ok-sizes.ensures i)
