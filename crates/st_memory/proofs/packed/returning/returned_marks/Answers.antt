use Rattle.std.proofs.Common.{◌≡◌, ◌∙◌, ◌<◌, ℕ, Bool, List, Option, true, false, ap, arith, get_or, length, nat_lt, sym}
use Rattle.std.specs.Option.{is_none}
use Rattle.std.proofs.lemmas.Bool.{and_parts, ltb-true}
use Rattle.std.proofs.lemmas.List.{with_items_is}
use Rattle.st_layout.specs.Pairs.{number_at}
use Rattle.st_memory.specs.Packed.{mark_at, mark_bytes, marked}
use Rattle.st_memory.proofs.Bits.{put_marked}
use Rattle.st_memory.proofs.Steps.{forces_more, forces_none}
use Rattle.st_memory.proofs.packed.returning.returned_marks.Goals.{then-names_dropped, else-names_dropped}
use Rattle.st_memory.proofs.packed.returning.returned_marks.Goals as goal

pub loop-number-init : goal.loop-number-init
loop-number-init c = record {
  count = c.in_ok-returned.ensures.count
      ∙ (ap (λ (them : List (Option ℕ)). mark_bytes (length them)) c.targets.ensures ∙ ap mark_bytes c.requires.targets);
  marks = ap (λ (n : ℕ). marked n c.in_ok-returned.returned.items) (sym c.requires.targets)
      ∙ (rw c.targets.ensures at c.in_ok-returned.ensures.marks ∙ sym (forces_none (marked (length c.args.new.now) c.args.marks.now) 0 c.args.plan.now.targets));
}

pub loop-number-preserved : goal.loop-number-preserved
loop-number-preserved c =
    let count : ℕ = length c.args.old.now in
    let forced : List Bool = marked (length c.args.new.now) c.args.marks.now in
    let number : ℕ = get_or c.args.numbers.now c.loop-number.number-index 0 in
    elim c.if-names_dropped.branch [
      | then-names_dropped w ↦
          let back = with_items_is c.loop-number.returned w.put_mark.new.marks (omega arith) in
          let items : c.if-names_dropped.returned.items ≡ w.put_mark.new.marks = ap (λ (v : _). v.items) w.returned-is ∙ back in
          let low : number < count = ltb-true number count (and_parts (nat_lt number count) (is_none (number_at c.args.plan.now.targets number)) (sym c.names_dropped.ensures ∙ w.if-names_dropped.true)).0 in
          let put = put_marked count c.loop-number.returned.items w.put_mark.new.marks number true low w.put_mark.ensures.here (λ k apart. w.put_mark.ensures.others k apart ∙ ap (λ (them : List ℕ). mark_at them k) w.deref_mut.ensures.value) in
          record {
            count = ap (λ (them : List ℕ). length them) items ∙ (w.put_mark.ensures.count ∙ (ap (λ (them : List ℕ). length them) w.deref_mut.ensures.value ∙ c.loop-number.invariant.count));
            marks = forces_more forced c.args.plan.now.targets c.args.numbers.now c.loop-number.number-index count (marked count c.loop-number.returned.items) (marked count c.if-names_dropped.returned.items) true (omega arith) c.requires.targets (sym w.if-names_dropped.true ∙ c.names_dropped.ensures) c.loop-number.invariant.marks (ap (marked count) items ∙ put);
          }
      | else-names_dropped w ↦
          let items : c.if-names_dropped.returned.items ≡ c.loop-number.returned.items = ap (λ (v : _). v.items) w.returned-is in
          record {
            count = ap (λ (them : List ℕ). length them) items ∙ c.loop-number.invariant.count;
            marks = forces_more forced c.args.plan.now.targets c.args.numbers.now c.loop-number.number-index count (marked count c.loop-number.returned.items) (marked count c.if-names_dropped.returned.items) false (omega arith) c.requires.targets (sym w.if-names_dropped.false ∙ c.names_dropped.ensures) c.loop-number.invariant.marks (ap (marked count) items);
          }
    ]
