use Rattle.std.proofs.Common.{◌≡◌, ◌++◌, ◌∷◌, ap, arith, codes, subst, sym, ◌∙◌}
use Rattle.std.specs.List.{flat_map}
use Rattle.st_values.specs.declared.elem.Elem.TheVariants as elems
use Rattle.st_leaves.specs.Sizes.{IsSize}
use Rattle.st_types.specs.Names.{steps_in}
use Rattle.st_leaves.specs.Charts.{chart_leaves, kept_under, spelled, step_leaves, stored_by, stored_leaves}
use Rattle.st_leaves.specs.Limits.{sizes_of}
use Rattle.st_leaves.proofs.ChartSizes.{chart_some, sizes_joined}
use Rattle.st_leaves.proofs.Spellings.{stored_by_sizes}
use Rattle.st_leaves.proofs.chart.chart_size.Goals as goal

pub returns : goal.returns
returns c = λ variables.
    let elements = c.args.elements.now in
    let steps = kept_under (codes "CHART") elems.Bool ∷ flat_map step_leaves (flat_map steps_in elements) in
    let stored = stored_by variables elements in
    let as_long : sizes_of (stored_leaves (spelled c.as_slice.result.now)) ≡ sizes_of (stored_leaves stored) =
    ap (λ names. sizes_of (stored_leaves names)) (ap spelled c.as_slice.ensures.value ∙ c.in_ok-stored.ensures) ∙ sym (stored_by_sizes variables elements) in
    sizes_joined c.beside.result steps (stored_leaves stored) (chart_leaves stored elements) (chart_some stored elements (grind (arith, c.if-is_empty.false, c.is_empty.ensures, c.if-is_empty.ensures)))
    (subst (λ sizes. IsSize c.beside.result (sizes_of steps ++ sizes)) as_long
    (c.beside.ensures _ _ (c.beside-size.ensures _ _ c.kept_leaf_size.ensures c.steps_size.ensures) c.flags_size.ensures))
