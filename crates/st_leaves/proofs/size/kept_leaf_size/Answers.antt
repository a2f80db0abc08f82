use Rattle.std.proofs.Common.{[], ◌∷◌, ◌++◌, arith, codes, subst}
use Rattle.st_leaves.specs.Sizes.{IsSize}
use Rattle.st_leaves.specs.Limits.{sizes_of}
use Rattle.st_leaves.proofs.SizesOf.{one_named, sizes_named}
use Rattle.st_leaves.proofs.size.kept_leaf_size.Goals as goal

pub returns : goal.returns
returns c =
    let name = codes "$" ++ c.args.name.now in
    let leaf = record { path = []; elem = c.args.elem } ∷ [] in
    subst (λ leaves. IsSize c.below.result (sizes_of leaves)) (one_named name c.args.elem)
    (sizes_named c.below.result name _ leaf (omega arith) (c.below.ensures (sizes_of leaf) c.leaf_size.ensures))
