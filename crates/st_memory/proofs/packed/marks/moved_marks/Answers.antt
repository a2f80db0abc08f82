use Rattle.std.proofs.Common.{◌≡◌, ◌∙◌, ◌+◌, ◌≤◌, ℕ, Bool, List, Option, None, false, ap, arith, length, map, replicate, sym}
use Rattle.std.proofs.lemmas.List.{get_or-map, length-map, with_items_is}
use Rattle.st_memory.specs.Moves.{moved_force}
use Rattle.st_memory.specs.Packed.{mark_at, mark_bytes, marked}
use Rattle.st_layout.specs.Pairs.{number_at}
use Rattle.st_memory.proofs.Bits.{marked_all, marked_at, marked_none, marked_run}
use Rattle.st_layout.proofs.RunLists.{run_below}
use Rattle.st_memory.proofs.packed.marks.moved_marks.Goals as goal

abbrev is_on : List Bool → List (Option ℕ) → ℕ → Bool
is_on forced numbers i = moved_force forced (number_at numbers i)

pub loop-place-init : goal.loop-place-init
loop-place-init c =
    let none : marked (length c.args.numbers.now) c.in_ok-moved.moved.items ≡ replicate (length c.args.numbers.now) false =
    ap (λ (n : ℕ). marked n c.in_ok-moved.moved.items) (sym c.len-count.ensures) ∙ (c.in_ok-moved.ensures.marks ∙ ap (λ (n : ℕ). replicate n false) c.len-count.ensures) in
    record {
      within = omega arith;
      marks = marked_none (length c.args.numbers.now) (is_on (marked (length c.args.layout.now) c.args.marks.now) c.args.numbers.now) c.in_ok-moved.moved.items
          (c.in_ok-moved.ensures.count ∙ ap mark_bytes c.len-count.ensures) none;
    }

pub copy_marks-requires-clause-from : goal.copy_marks-requires-clause-from
copy_marks-requires-clause-from c =
    omega (arith, c.requires.count, run_below c.args.numbers.now c.loop-place.place (length c.args.layout.now) c.next-run.result c.next-run.ensures c.requires.below)

pub copy_marks-requires-clause-from_fits : goal.copy_marks-requires-clause-from_fits
copy_marks-requires-clause-from_fits c =
    omega (arith, run_below c.args.numbers.now c.loop-place.place (length c.args.layout.now) c.next-run.result c.next-run.ensures c.requires.below)

pub loop-place-preserved : goal.loop-place-preserved
loop-place-preserved c =
    let forced : List Bool = marked (length c.args.layout.now) c.args.marks.now in
    let below : c.next-run.result.to + c.next-run.result.count ≤ length c.args.layout.now =
    run_below c.args.numbers.now c.loop-place.place (length c.args.layout.now) c.next-run.result c.next-run.ensures c.requires.below in
    let back = with_items_is c.loop-place.moved c.copy_marks.new.to (omega arith) in
    let was : (i : ℕ) → mark_at c.deref_mut.result.now i ≡ mark_at c.loop-place.moved.items i = λ i. ap (λ (them : List ℕ). mark_at them i) c.deref_mut.ensures.value in
    record {
      within = omega (arith, c.next-run.ensures.within);
      marks = rw back (marked_run (length c.args.numbers.now) (is_on forced c.args.numbers.now) c.loop-place.place c.next-run.result.first c.next-run.result.count c.loop-place.moved.items c.copy_marks.new.to
          c.next-run.ensures.after c.loop-place.invariant.marks (c.copy_marks.ensures.count ∙ ap (λ (them : List ℕ). length them) c.deref_mut.ensures.value)
          (λ i high low. ap (moved_force forced) (c.next-run.ensures.gap i high low))
          (λ k low. c.copy_marks.ensures.run k low ∙ sym (ap (moved_force forced) (c.next-run.ensures.kept k low) ∙ marked_at (length c.args.layout.now) c.args.marks.now (c.next-run.result.to + k) false (omega (arith, below, low))))
          (λ i low. c.copy_marks.ensures.before i low ∙ was i) (λ i high. c.copy_marks.ensures.behind i high ∙ was i));
    }

pub returns-clause-marks : goal.returns-clause-marks
returns-clause-marks c =
    let forced : List Bool = marked (length c.args.layout.now) c.args.marks.now in
    marked_all (length c.args.numbers.now) (is_on forced c.args.numbers.now) c.loop-place.place c.loop-place.moved.items (map (moved_force forced) c.args.numbers.now) c.loop-place.invariant.marks (omega arith)
    (length-map c.args.numbers.now (moved_force forced))
    (λ i d below. get_or-map (moved_force forced) c.args.numbers.now i None d (omega (arith, below)))
