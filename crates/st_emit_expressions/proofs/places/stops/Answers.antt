use Rattle.std.proofs.Common.{◌+◌, ◌∙◌, [], ◌∷◌, drop, take, length, length-append, sym, ap, arith, refl, false}
use Rattle.st_leaves.specs.Selected.{selected_by}
use Rattle.st_meaning.specs.Typing.{place_of}
use Rattle.st_meaning.specs.Wholes.{type_of}
use Rattle.st_emit_expressions.specs.Places.{IsStop}
use Rattle.st_places.specs.Parts.{part_in}
use Rattle.st_emit_expressions.specs.Trees.{parts_in, whole_of}
use Rattle.st_emit_expressions.proofs.Trees.{left_is}
use Rattle.st_emit_expressions.proofs.Ways.{first_stop, lost_start, must_be, next_stop, one_more_stop}
use Rattle.st_emit_expressions.proofs.places.stops.Goals as goal

pub returns-in_default : goal.returns-in_default
returns-in_default c =
    let w = whole_of c.args.scope.now in
    absurd (must_be (type_of w.variables (place_of w c.args.variable.now)) c.requires
    (lost_start w c.args.variable.now c.as_slice.result.now c.as_slice.ensures (ap (λ d. selected_by d c.as_slice.result.now) (sym c.root.ensures.part) ∙ c.select.ensures.none c.in_default.is)))

pub loop-part-init : goal.loop-part-init
loop-part-init c =
    let w = whole_of c.args.scope.now in
    record {
      here = first_stop w c.args.scope.now.0 c.args.variable.now c.as_slice.result.now c.as_slice-part-items.result.now (record { node = c.in-Some.node; is_indexed = false }) c.as_slice.ensures c.as_slice-part-items.ensures c.root.ensures.small
          c.in-Some.ensures.node (c.in-Some.ensures.part ∙ ap (λ d. selected_by d c.as_slice.result.now) c.root.ensures.part) refl;
      number = ap length c.list-all.ensures;
      each = λ i s h e. absurd (omega arith);
    }

pub returns-in_default-take_part : goal.returns-in_default-take_part
returns-in_default-take_part c =
    let w = whole_of c.args.scope.now in
    let rest = parts_in w (drop (c.loop-part.part-index + 1) c.as_slice-part-items.result.now) in
    absurd (must_be (type_of w.variables (place_of w c.args.variable.now)) c.requires
    (sym (c.take_part.ensures.none c.in_default-take_part.is rest)
    ∙ ap (type_of (part_in c.args.scope.now.0 c.loop-part.stop.node)) (sym (left_is w c.as_slice-part-items.result.now c.loop-part.part-index c.part-item.result c.loop-part-test.true c.part-item.is))
    ∙ c.loop-part.invariant.here.same))

pub loop-part-preserved : goal.loop-part-preserved
loop-part-preserved c =
    let w = whole_of c.args.scope.now in
    let tables = c.args.scope.now.0 in
    let type = type_of w.variables (place_of w c.args.variable.now) in
    let d = selected_by w.variables c.args.variable.now.name.spelling in
    let ps = c.as_slice-part-items.result.now in
    let i = c.loop-part.part-index in
    let old = c.loop-part.invariant in
    let e = c.in_ok-push.ensures.items in
    record {
      here = next_stop w tables type d ps i c.part-item.result c.loop-part.stop c.behind-stop.result c.in-Some-take_part.next c.loop-part-test.true c.part-item.is old.here c.in-Some-take_part.ensures.taken
          (ap (λ s. s.node) c.behind-stop.ensures) (ap (λ s. s.is_indexed) c.behind-stop.ensures);
      number = ap length e ∙ length-append c.loop-part.all.items (c.loop-part.stop ∷ []) ∙ ap (λ n. n + 1) old.number;
      each = one_more_stop (λ k s. IsStop w tables type d (take k ps) (drop k ps) s) i c.loop-part.all.items c.push.new.self.items c.loop-part.stop old.number e old.here old.each;
    }
