-- Clearing transitions one by one, in the order of their priorities.
use Rattle.std.specs.List.{All, list_all, list_any}
use Rattle.std.proofs.Common.{◌≡◌, ℕ, ◌+◌, ◌<◌, ◌≤◌, Bool, true, false, ◌&&◌, ◌||◌, not, cond, List, length, get_or, set, take, refl, ap, sym, ◌∙◌, subst, arith, length-set, get_or-set_same, get_or-set_other, below_more}
use Rattle.std.proofs.lemmas.List.{get_or-take, length-take, take_all}
use Rattle.std.proofs.lemmas.List.Elements.{All-from_get_or}
use Rattle.std.proofs.lemmas.List.Folds.{list_any_more}
use Rattle.st_charts.specs.Charts.{AreCleared, active_in, is_enabled, is_forestalled, is_left, no_step}
use Rattle.st_charts.specs.Passages.{IsByPriority, Passage, Set, marked, members, passage, passages_of, share_step}
use Rattle.st_charts.specs.Stages.{Changes, left}
use Rattle.st_charts.specs.declared.step.StepCell.{StepCell}
use Rattle.st_charts.specs.declared.table.ChartTable.{ChartTable}
use Rattle.st_charts.specs.declared.table.Transition.{Transition}
use Rattle.st_charts.proofs.ChangeLemmas.{changes_both, changes_like}
use Rattle.st_charts.proofs.OrderLemmas.{any_before, any_in_order, places_differ}
use Rattle.st_charts.proofs.TableLemmas.{passage_count, passage_read}
use Rattle.st_charts.proofs.TestLemmas.{all_agree, all_and_not, any_agree, any_swap, place_of}

-- those of some transitions that are cleared and leave a step
abbrev pub leaves : List Passage → List Bool → List ℕ → Set
leaves ts marks us s = list_any (λ t. marked marks t && members (passage ts t).before s) us

-- whether a transition is cleared behind others
abbrev pub clears : List Passage → Set → Set → List Bool → List ℕ → ℕ → Bool
clears ts active holds marks us t =
    holds t && (is_enabled ts active t && not (list_any (λ u. marked marks u && share_step ts u t) us))

-- As far as the first of the order the marks are those of the cleared transitions, and their steps are left.
pub record IsClearedUpTo (ts : List Passage) (order : List ℕ) (i : ℕ) (cells : List StepCell) (holds : List Bool) (cells' : List StepCell) (marks : List Bool) : Type 0 where
  pub long : length marks ≡ length holds
  pub leaving : Changes left (leaves ts marks (take i order)) cells cells'
  pub done : (k : ℕ) → k < i → marked marks (get_or order k 0) ≡ clears ts (active_in cells) (marked holds) marks (take k order) (get_or order k 0)
  pub rest : (k : ℕ) → i ≤ k → k < length order → marked marks (get_or order k 0) ≡ marked holds (get_or order k 0)

pub cleared_none : (ts : List Passage) (order : List ℕ) (cells : List StepCell) (holds : List Bool) → IsClearedUpTo ts order 0 cells holds cells holds
cleared_none ts order cells holds = record {
  long = refl;
  leaving = λ n d lt. refl;
  done = λ k lt. absurd (omega arith);
  rest = λ k le lt. refl;
}

still_active : (b : Bool) (step : StepCell) → (cond b (left step) step).active ≡ (step.active && not b)
still_active true step = never step.active where
  never : (a : Bool) → false ≡ (a && false)
  never true = refl
  never false = refl
still_active false step = always step.active where
  always : (a : Bool) → a ≡ (a && true)
  always true = refl
  always false = refl

module _ (ts : List Passage) (order : List ℕ) (by : IsByPriority ts order) (i : ℕ) (within : i < length order)
    (cells cells' : List StepCell) (holds marks : List Bool) (so_far : IsClearedUpTo ts order i cells holds cells' marks)
    (marked' : All (λ t. t < length holds) order) where
  -- What stands before a place isn't what stands there.
  others : (k : ℕ) → k ≤ i → All (λ u. u ≡ get_or order i 0 → ⊥) (take k order)
  others k le = All-from_get_or (λ u. u ≡ get_or order i 0 → ⊥) (take k order) 0 (λ j lt same.
      let below : j < k = omega (arith, lt, length-take k order) in
      places_differ ts order by j i (omega (arith, below)) within (sym (get_or-take k order j 0 below) ∙ same))

  -- A mark that is given there changes none before it.
  marks_stay : (v : Bool) (p : Set) (k : ℕ) → k ≤ i
      → list_any (λ u. marked (set marks (get_or order i 0) v) u && p u) (take k order) ≡ list_any (λ u. marked marks u && p u) (take k order)
  marks_stay v p k le =
      any_agree (λ u. marked (set marks (get_or order i 0) v) u && p u) (λ u. marked marks u && p u) (take k order)
      (λ j d lt. ap (λ b. b && p (get_or (take k order) j d)) (get_or-set_other marks (get_or order i 0) (get_or (take k order) j d) v false (others k le j d lt)))

  -- A step is active where it was, and none that is cleared has left it.
  active_now : (s : ℕ) → s < length cells → active_in cells' s ≡ (active_in cells s && not (leaves ts marks (take i order) s))
  active_now s lt = ap (λ step. step.active) (so_far.leaving s no_step lt) ∙ still_active (leaves ts marks (take i order) s) (get_or cells s no_step)

  -- So all steps before a transition are active where it is enabled, and shares none with those.
  enabled_now : All (λ s. s < length cells) (passage ts (get_or order i 0)).before
      → list_all (active_in cells') (passage ts (get_or order i 0)).before
      ≡ (is_enabled ts (active_in cells) (get_or order i 0) && not (list_any (λ u. marked marks u && share_step ts u (get_or order i 0)) (take i order)))
  enabled_now inside =
      all_agree (active_in cells') (λ s. active_in cells s && not (leaves ts marks (take i order) s)) (passage ts (get_or order i 0)).before
      (λ k d lt. active_now (get_or (passage ts (get_or order i 0)).before k d) (inside k d lt))
      ∙ all_and_not (active_in cells) (leaves ts marks (take i order)) (passage ts (get_or order i 0)).before
      ∙ ap (λ b. is_enabled ts (active_in cells) (get_or order i 0) && not b)
      (any_swap (marked marks) (λ u. members (passage ts u).before) (take i order) (passage ts (get_or order i 0)).before)

  pub cleared_more : (cells'' : List StepCell) (v : Bool) → All (λ s. s < length cells) (passage ts (get_or order i 0)).before
      → length cells' ≡ length cells
      → v ≡ (marked marks (get_or order i 0) && list_all (active_in cells') (passage ts (get_or order i 0)).before)
      → Changes left (λ s. v && members (passage ts (get_or order i 0)).before s) cells' cells''
      → IsClearedUpTo ts order (i + 1) cells holds cells'' (set marks (get_or order i 0) v)
  cleared_more cells'' v inside long is next =
      let t : ℕ = get_or order i 0 in
      let in_marks : get_or order i 0 < length marks = omega (arith, marked' i 0 within, so_far.long) in
      let here : marked (set marks (get_or order i 0) v) (get_or order i 0) ≡ v = get_or-set_same marks (get_or order i 0) v false in_marks in
      record {
        long = length-set marks (get_or order i 0) v ∙ so_far.long;
        leaving = changes_like left
            (λ s. leaves ts marks (take i order) s || (v && members (passage ts (get_or order i 0)).before s))
            (leaves ts (set marks (get_or order i 0) v) (take (i + 1) order)) cells cells''
            (λ s. sym (list_any_more (λ u. marked (set marks (get_or order i 0) v) u && members (passage ts u).before s) order i 0 within
            ∙ ap (λ b. b || (marked (set marks (get_or order i 0) v) (get_or order i 0) && members (passage ts (get_or order i 0)).before s)) (marks_stay v (λ u. members (passage ts u).before s) i (omega arith))
            ∙ ap (λ b. leaves ts marks (take i order) s || (b && members (passage ts (get_or order i 0)).before s)) here))
            (changes_both left (leaves ts marks (take i order)) (λ s. v && members (passage ts (get_or order i 0)).before s) cells cells' cells'' (λ step. refl) long so_far.leaving next);
        done = below_more (λ k. marked (set marks (get_or order i 0) v) (get_or order k 0) ≡ clears ts (active_in cells) (marked holds) (set marks (get_or order i 0) v) (take k order) (get_or order k 0)) i
            (λ k lt.
            get_or-set_other marks (get_or order i 0) (get_or order k 0) v false (places_differ ts order by k i lt within)
            ∙ so_far.done k lt
            ∙ ap (λ b. marked holds (get_or order k 0) && (is_enabled ts (active_in cells) (get_or order k 0) && not b)) (sym (marks_stay v (λ u. share_step ts u (get_or order k 0)) k (omega arith))))
            (here ∙ is
            ∙ ap (λ b. b && list_all (active_in cells') (passage ts (get_or order i 0)).before) (so_far.rest i (omega arith) within)
            ∙ ap (λ b. marked holds (get_or order i 0) && b) (enabled_now inside)
            ∙ ap (λ b. marked holds (get_or order i 0) && (is_enabled ts (active_in cells) (get_or order i 0) && not b)) (sym (marks_stay v (λ u. share_step ts u (get_or order i 0)) i (omega arith))));
        rest = λ k le lt.
            get_or-set_other marks (get_or order i 0) (get_or order k 0) v false (λ same. places_differ ts order by i k (omega arith) lt (sym same))
            ∙ so_far.rest k (omega arith) lt;
      }

module _ (ts : List Passage) (order : List ℕ) (by : IsByPriority ts order) (i : ℕ) (all : length order ≤ i)
    (cells cells' : List StepCell) (holds marks : List Bool) (so_far : IsClearedUpTo ts order i cells holds cells' marks) where
  pub are_cleared : AreCleared ts (active_in cells) (marked holds) (marked marks)
  are_cleared t lt =
      let place = place_of order t (by.complete t lt) in
      subst (λ u. marked marks u ≡ (marked holds u && (is_enabled ts (active_in cells) u && not (is_forestalled ts (marked marks) u)))) place.2
      (so_far.done place.0 (omega (arith, place.1))
      ∙ ap (λ b. marked holds (get_or order place.0 0) && (is_enabled ts (active_in cells) (get_or order place.0 0) && not b))
      (any_before ts order by (λ u. marked marks u && share_step ts u (get_or order place.0 0)) place.0 place.1))

  pub are_left : Changes left (is_left ts (marked marks)) cells cells'
  are_left =
      changes_like left (leaves ts marks (take i order)) (is_left ts (marked marks)) cells cells'
      (λ s. ap (leaves' s) (take_all i order all) ∙ any_in_order ts order by (λ t. marked marks t && members (passage ts t).before s))
      so_far.leaving
    where
      leaves' : ℕ → List ℕ → Bool
      leaves' s us = leaves ts marks us s

-- the step of the loop, as the code takes it
pub cleared_step : (table : ChartTable) (order : List ℕ) (i : ℕ) (cells cells' cells'' : List StepCell) (holds marks : List Bool) (t : Transition) (before : List ℕ) (v : Bool)
    → order ≡ table.order.items → i < length order → length cells ≡ table.steps → length holds ≡ length table.transitions.items → length cells' ≡ length cells
    → t ≡ get_or table.transitions.items (get_or order i 0) t → before ≡ t.before.items
    → v ≡ (get_or marks (get_or order i 0) false && list_all (active_in cells') before)
    → Changes left (λ s. v && members before s) cells' cells''
    → IsClearedUpTo (passages_of table.transitions.items) table.order.items i cells holds cells' marks
    → IsClearedUpTo (passages_of table.transitions.items) table.order.items (i + 1) cells holds cells'' (set marks (get_or order i 0) v)
cleared_step table order i cells cells' cells'' holds marks t before v same within steps conditions long read is_before is next so_far =
    let ts : List Passage = passages_of table.transitions.items in
    let here : i < length table.order.items = subst (λ o. i < length o) same within in
    let number : get_or order i 0 ≡ get_or table.order.items i 0 = ap (λ o. get_or o i 0) same in
    let in_table : get_or table.order.items i 0 < length table.transitions.items = omega (arith, table.ordered.numbers i 0 here, passage_count table.transitions.items) in
    let found : t ≡ get_or table.transitions.items (get_or table.order.items i 0) t = read ∙ ap (λ n. get_or table.transitions.items n t) number in
    let steps_before : (passage ts (get_or table.order.items i 0)).before ≡ before =
    ap (λ p. p.before) (passage_read table.transitions.items (get_or table.order.items i 0) t in_table found) ∙ sym is_before in
    subst (λ n. IsClearedUpTo ts table.order.items (i + 1) cells holds cells'' (set marks n v)) (sym number)
    (cleared_more ts table.order.items table.ordered i here cells cells' holds marks so_far
    (λ k d lt. omega (arith, table.ordered.numbers k d lt, passage_count table.transitions.items))
    cells'' v
    (subst (λ ns. All (λ s. s < length cells) ns) (sym steps_before)
    (λ k d lt. omega (arith, in_range k d lt)))
    long
    (is ∙ ap (λ n. get_or marks n false && list_all (active_in cells') before) number ∙ ap (λ ns. get_or marks (get_or table.order.items i 0) false && list_all (active_in cells') ns) (sym steps_before))
    (subst (λ ns. Changes left (λ s. v && members ns s) cells' cells'') (sym steps_before) next))
  where
    in_range : All (λ s. s < table.steps) before
    in_range =
        subst (λ ns. All (λ s. s < table.steps) ns) (sym is_before)
        (subst (λ u. All (λ s. s < table.steps) u.before.items) (sym read)
        (table.before (get_or order i 0) t
        (subst (λ n. n < length table.transitions.items) (sym (ap (λ o. get_or o i 0) same))
        (omega (arith, table.ordered.numbers i 0 (subst (λ o. i < length o) same within), passage_count table.transitions.items)))))
