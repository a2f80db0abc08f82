use Rattle.std.proofs.Common.{◌+◌, ◌++◌, ◌∷◌, [], ap, codes, sym, take, ◌∙◌}
use Rattle.st_values.specs.declared.elem.Elem.TheVariants as elems
use Rattle.st_leaves.specs.Charts.{below, kept_under, spelled, stored_leaves}
use Rattle.st_leaves.proofs.ChartSizes.{leaves_stored, sizes_joined}
use Rattle.st_leaves.proofs.NamesOnce.{spelled_more}
use Rattle.st_leaves.proofs.stored.flags_size.Goals as goal

pub names-preserved : goal.names-preserved
names-preserved c =
    let before = spelled (take c.names.name-index c.args.names.now) in
    let after = spelled (take (c.names.name-index + 1) c.args.names.now) in
    let flag = kept_under (codes "S") elems.Bool ∷ [] in
    sizes_joined c.beside-size.result (stored_leaves before) (below (codes "." ++ c.as_slice.result.now) flag) (stored_leaves after)
    (leaves_stored before c.as_slice.result.now
    ∙ ap stored_leaves (ap (λ n. before ++ n ∷ []) c.as_slice.ensures ∙ sym (spelled_more c.args.names.now c.names.name-index c.name-item.result c.names-test.true c.name-item.is)))
    (c.beside-size.ensures _ _ c.names.invariant (c.named_size.ensures flag c.kept_leaf_size-flag.ensures))
