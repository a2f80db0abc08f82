use Rattle.std.proofs.Common.{◌≡◌, ◌∙◌, subst, sym, ap, arith}
use Rattle.st_leaves.specs.Places.{count}
use Rattle.st_leaves.specs.Selected.{selected_by}
use Rattle.st_meaning.specs.Offsets.{IsSmall, offset_of}
use Rattle.st_meaning.proofs.Stretches.{selected_fits}
use Rattle.st_places.specs.Parts.{part_in}
use Rattle.st_emit_expressions.specs.Trees.{whole_of}
use Rattle.st_emit_expressions.proofs.Ways.{selected_small}
use Rattle.st_emit.proofs.invocations.pin.Goals as goal

pub select-requires-2-clause-small : goal.select-requires-2-clause-small
select-requires-2-clause-small c =
    let w = whole_of c.args.scope.now in
    let name = c.as_slice.result.now in
    subst IsSmall (sym (c.in_ok-first.ensures.part ∙ ap (λ d. selected_by d name) c.root.ensures.part)) (selected_small w.variables name c.root.ensures.small)

pub overflow_add-result : goal.overflow_add-result
overflow_add-result c =
    let w = whole_of c.args.scope.now in
    let name = c.as_slice.result.now in
    let inside = part_in c.args.scope.now.0 c.in_ok-first.whole in
    let selected : inside ≡ selected_by w.variables name = c.in_ok-first.ensures.part ∙ ap (λ d. selected_by d name) c.root.ensures.part in
    let first : c.in_ok-first.first ≡ offset_of w.variables name = c.in_ok-first.ensures.offset ∙ ap (λ d. offset_of d name) c.root.ensures.part in
    omega (arith, first, ap count selected, c.in_ok-before.ensures.offset, selected_fits w.variables name, selected_fits inside c.as_slice-2.result.now, c.root.ensures.small.few)
