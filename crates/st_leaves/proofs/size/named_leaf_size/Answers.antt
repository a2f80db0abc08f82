use Rattle.std.proofs.Common.{[], ◌∷◌, subst}
use Rattle.st_leaves.specs.Sizes.{IsSize}
use Rattle.st_leaves.specs.Limits.{sizes_of}
use Rattle.st_leaves.proofs.SizesOf.{one_named}
use Rattle.st_leaves.proofs.size.named_leaf_size.Goals as goal

pub returns : goal.returns
returns c =
    subst (λ leaves. IsSize c.named_size.result (sizes_of leaves)) (one_named c.args.name.now c.args.elem) (c.named_size.ensures (record { path = []; elem = c.args.elem } ∷ []) c.leaf_size.ensures)
