use Rattle.std.proofs.Common.{subst, ◌≡◌, ◌∙◌, ◌+◌, drop, sym, ap, arith, inl, inr, add_assoc}
use Rattle.std.specs.Prelude.{option_map, ◌&&◌}
use Rattle.st_leaves.specs.Places.{count}
use Rattle.st_leaves.specs.Selected.{selected_by}
use Rattle.st_meaning.specs.Offsets.{IsSmall, offset_of}
use Rattle.st_meaning.specs.Sound.{is_fixed}
use Rattle.st_meaning.specs.Wholes.{type_of}
use Rattle.st_meaning.proofs.Stretches.{selected_fits}
use Rattle.st_code.specs.Code.{base_of}
use Rattle.st_places.specs.Parts.{part_in}
use Rattle.st_emit_expressions.specs.Trees.{parts_in, whole_of}
use Rattle.st_emit_expressions.proofs.Trees.{left_is}
use Rattle.st_emit_expressions.proofs.Ways.{and_both, lost_start, selected_small, start_is}
use Rattle.st_emit_expressions.proofs.places.locate.Goals.{then-is_fixed, else-is_fixed}
use Rattle.st_emit_expressions.proofs.places.locate.Goals as goal

pub returns-in_err-base-clause-elem : goal.returns-in_err-base-clause-elem
returns-in_err-base-clause-elem c =
    let w = whole_of c.args.scope.now in
    ap (option_map (λ p. p.elem)) c.from_residual.ensures
    ∙ lost_start w c.args.variable.now c.as_slice.result.now c.as_slice.ensures (ap (λ d. selected_by d c.as_slice.result.now) (sym c.root.ensures.part) ∙ c.select.ensures.none c.in_err-base.was)

pub loop-part-init : goal.loop-part-init
loop-part-init c =
    let w = whole_of c.args.scope.now in
    let name = c.as_slice.result.now in
    let rest = parts_in w c.as_slice-part-items.result.now in
    let selected : part_in c.args.scope.now.0 c.in_ok-base.node ≡ selected_by w.variables name = c.in_ok-base.ensures.part ∙ ap (λ d. selected_by d name) c.root.ensures.part in
    let before : c.in_ok-base.base ≡ offset_of w.variables name = c.in_ok-base.ensures.offset ∙ ap (λ d. offset_of d name) c.root.ensures.part in
    let place = start_is w c.args.variable.now name c.as_slice-part-items.result.now c.as_slice.ensures c.as_slice-part-items.ensures in
    record {
      node = c.in_ok-base.ensures.node;
      small = subst IsSmall (sym selected) (selected_small w.variables name c.root.ensures.small);
      fits = omega (arith, selected_fits w.variables name, ap count selected, before);
      type = ap (λ d. type_of d rest) selected ∙ ap (type_of w.variables) (sym place);
      base = ap (λ d. c.in_ok-base.base + base_of d rest) selected ∙ ap (λ k. k + base_of (selected_by w.variables name) rest) before ∙ ap (base_of w.variables) (sym place);
      fixed = ap is_fixed (sym place);
    }

pub returns-in_err-next-clause-elem : goal.returns-in_err-next-clause-elem
returns-in_err-next-clause-elem c =
    let w = whole_of c.args.scope.now in
    let rest = parts_in w (drop (c.loop-part.part-index + 1) c.as_slice-part-items.result.now) in
    ap (option_map (λ p. p.elem)) c.from_residual-in_err-next.ensures
    ∙ sym (c.take_part.ensures.none c.in_err-next.was rest)
    ∙ ap (type_of (part_in c.args.scope.now.0 c.loop-part.node)) (sym (left_is w c.as_slice-part-items.result.now c.loop-part.part-index c.part-item.result c.loop-part-test.true c.part-item.is))
    ∙ c.loop-part.invariant.type

pub loop-part-preserved : goal.loop-part-preserved
loop-part-preserved c =
    let w = whole_of c.args.scope.now in
    let d = part_in c.args.scope.now.0 c.loop-part.node in
    let next = c.in_ok-next.next in
    let taken = c.in_ok-next.ensures.taken in
    let rest = parts_in w (drop (c.loop-part.part-index + 1) c.as_slice-part-items.result.now) in
    let left = left_is w c.as_slice-part-items.result.now c.loop-part.part-index c.part-item.result c.loop-part-test.true c.part-item.is in
    let old = c.loop-part.invariant in
    let both : (c.if-is_fixed.is_fixed && is_fixed rest) ≡ (c.loop-part.is_fixed && (next.is_member && is_fixed rest))
    = and_both c.loop-part.is_fixed next.is_member c.if-is_fixed.is_fixed (is_fixed rest) (elim c.if-is_fixed.branch [
      | then-is_fixed b ↦ inl (b.if-is_fixed.true, b.is_fixed-is)
      | else-is_fixed b ↦ inr (b.if-is_fixed.false, b.is_fixed-is ∙ b.if-is_fixed.false)
    ]) in
    record {
      node = taken.node;
      small = taken.small;
      fits = omega (arith, taken.fits, old.fits);
      type = sym (taken.type rest) ∙ ap (type_of d) (sym left) ∙ old.type;
      base = add_assoc c.loop-part.base next.before (base_of (part_in c.args.scope.now.0 next.node) rest) ∙ ap (λ k. c.loop-part.base + k) (sym (taken.base rest) ∙ ap (base_of d) (sym left)) ∙ old.base;
      fixed = both ∙ ap (λ b. c.loop-part.is_fixed && b) (sym (taken.fixed rest) ∙ ap is_fixed (sym left)) ∙ old.fixed;
    }
