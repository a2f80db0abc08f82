-- The leaves of charts, step by step.
use Rattle.std.proofs.Common.{codes, ◌≡◌, ℕ, suc, ◌+◌, ◌-◌, ◌<◌, ◌≤◌, false, true, if◌then◌else◌, List, [], ◌∷◌, ◌++◌, length, take, drop, get_or, refl, ap, sym, ◌∙◌, arith, append-nil, append_assoc, length-append}
use Rattle.std.specs.Borrow.{Bor}
use Rattle.std.specs.List.{flat_map}
use Rattle.std.proofs.lemmas.Grind.{flat_map-append}
use Rattle.std.proofs.lemmas.List.{length-map, length-take-le, map-append, take-append-drop, take_more}
use Rattle.st_tree.specs.declared.tree.unit.Step.{Step}
use Rattle.st_values.specs.Values.{truth}
use Rattle.st_leaves.specs.LeavesIn.{begun, one, all_steps_in, step_in, stored_in, whole_chart_in}
use Rattle.st_leaves.specs.Paths.{kept}
use Rattle.st_values.specs.declared.value.Value.{Value}
use Rattle.st_chart_parts.specs.Charts.{ChartView, leaves_of_parts}
use Rattle.st_leaves.specs.Charts.{spelled}
use Rattle.st_listing.specs.Listings.{AreWays, ListingView, listed}
use Rattle.st_listing.proofs.Listings.{listed_count, listed_more, ways_append, ways_by, ways_more}

-- ---- steps

pub steps_append : (name : List ℕ) (back : ℕ) (a b : List Step) → all_steps_in name back (a ++ b) ≡ all_steps_in name back a ++ all_steps_in name (back + length (all_steps_in name back a)) b
steps_append name back [] b = ap (λ n. all_steps_in name n b) (omega arith)
steps_append name back (s ∷ a) b =
    ap (λ ls. step_in name back s ++ ls)
    (steps_append name (back + length (step_in name back s)) a b
    ∙ ap (λ n. all_steps_in name (back + length (step_in name back s)) a ++ all_steps_in name n b)
    (let n = length-append (step_in name back s) (all_steps_in name (back + length (step_in name back s)) a) in omega (arith, n)))
    ∙ sym (append_assoc (step_in name back s) (all_steps_in name (back + length (step_in name back s)) a) (all_steps_in name (back + length (all_steps_in name back (s ∷ a))) b))

-- one step more
pub steps_more : (name : List ℕ) (a : List Step) (s : Step) → all_steps_in name 1 (a ++ s ∷ []) ≡ all_steps_in name 1 a ++ step_in name (1 + length (all_steps_in name 1 a)) s
steps_more name a s = steps_append name 1 a (s ∷ []) ∙ ap (λ ls. all_steps_in name 1 a ++ ls) (append-nil (step_in name (1 + length (all_steps_in name 1 a)) s))

-- the steps so far and one more
pub steps_next : (name : List ℕ) (steps : List Step) (i : ℕ) (step : Step) → i < length steps → get_or steps i step ≡ step
    → all_steps_in name 1 (take (i + 1) steps) ≡ all_steps_in name 1 (take i steps) ++ step_in name (1 + length (all_steps_in name 1 (take i steps))) step
steps_next name steps i step within at = ap (all_steps_in name 1) (take_more steps i step within ∙ ap (λ s. take i steps ++ s ∷ []) at) ∙ steps_more name (take i steps) step

-- some of the steps have no more leaves than all
pub steps_below : (name : List ℕ) (steps : List Step) (i : ℕ) → length (all_steps_in name 1 (take i steps)) ≤ length (all_steps_in name 1 steps)
steps_below name steps i =
    let rest = all_steps_in name (1 + length (all_steps_in name 1 (take i steps))) (drop i steps) in
    let is = ap length (ap (all_steps_in name 1) (sym (take-append-drop i steps)) ∙ steps_append name 1 (take i steps) (drop i steps)) in
    let both = length-append (all_steps_in name 1 (take i steps)) rest in
    omega (arith, is, both)

-- ---- what is left of the room

pub steps_split_at : (s now : ListingView) (name : List ℕ) (steps : List Step) (i : ℕ) (step : Step) (back : ℕ) → i < length steps → get_or steps i step ≡ step → now ≡ listed s (all_steps_in name 1 (take i steps))
    → back ≡ length now.leaves - length s.leaves + 1 → all_steps_in name 1 (take (i + 1) steps) ≡ all_steps_in name 1 (take i steps) ++ step_in name back step
steps_split_at s now name steps i step back within at so_far back_is =
    let count = listed_count s now (all_steps_in name 1 (take i steps)) so_far in
    steps_next name steps i step within at ∙ ap (λ n. all_steps_in name 1 (take i steps) ++ step_in name n step) (omega (arith, count, back_is))

pub steps_room : (s now : ListingView) (name : List ℕ) (steps : List Step) (i : ℕ) (step : Step) (back : ℕ) → i < length steps → get_or steps i step ≡ step → now ≡ listed s (all_steps_in name 1 (take i steps))
    → back ≡ length now.leaves - length s.leaves + 1 → length s.leaves + length (all_steps_in name 1 steps) ≤ 65536 → length now.leaves + length (step_in name back step) ≤ 65536
steps_room s now name steps i step back within at so_far back_is room =
    let count = listed_count s now (all_steps_in name 1 (take i steps)) so_far in
    let split = ap length (steps_split_at s now name steps i step back within at so_far back_is) in
    let both = length-append (all_steps_in name 1 (take i steps)) (step_in name back step) in
    let below = steps_below name steps (i + 1) in
    omega (arith, count, split, both, below, room)

-- ---- stored names

pub stored_length : (name : List ℕ) (names : List (List ℕ)) → length (flat_map (stored_in name) names) ≡ length names
stored_length name [] = refl
stored_length name (n ∷ ns) = ap suc (stored_length name ns)

-- of one name more
pub stored_split : (of : List ℕ) (words : List (Bor (List ℕ))) (i : ℕ) (word : Bor (List ℕ)) → i < length words → get_or words i word ≡ word
    → flat_map (stored_in of) (spelled (take (i + 1) words)) ≡ flat_map (stored_in of) (spelled (take i words)) ++ stored_in of word.now
stored_split of words i word within at =
    ap (λ ws. flat_map (stored_in of) (spelled ws)) (take_more words i word within ∙ ap (λ w. take i words ++ w ∷ []) at)
    ∙ ap (flat_map (stored_in of)) (map-append (λ (w : Bor (List ℕ)). w.now) (take i words) (word ∷ []))
    ∙ flat_map-append (stored_in of) (spelled (take i words)) (word.now ∷ [])

pub stored_room : (s now : ListingView) (of : List ℕ) (words : List (Bor (List ℕ))) (i : ℕ) → i < length words → now ≡ listed s (flat_map (stored_in of) (spelled (take i words)))
    → length s.leaves + length words ≤ 65536 → length now.leaves + 1 ≤ 65536
stored_room s now of words i within so_far room =
    let count = listed_count s now (flat_map (stored_in of) (spelled (take i words))) so_far in
    let names = stored_length of (spelled (take i words)) ∙ length-map (take i words) (λ w. w.now) ∙ length-take-le i words (omega (arith, within)) in
    omega (arith, count, names, within, room)

pub words_room : (now : ListingView) (words : List (Bor (List ℕ))) → length now.leaves + length (spelled words) ≤ 65536 → length now.leaves + length words ≤ 65536
words_room now words room = omega (arith, length-map words (λ w. w.now), room)

-- ---- a whole chart

-- of a unit without one
abbrev pub no_chart : ChartView
no_chart = record { is_there = false; steps = []; stored = [] }

module _ (name : List ℕ) (chart : ChartView) (some : chart.is_there ≡ true) where
  whole : leaves_of_parts name chart ≡ one (kept (codes "CHART")) name (truth false) begun ++ all_steps_in name 1 chart.steps ++ flat_map (stored_in name) chart.stored
  whole = ap (λ b. if b then whole_chart_in name chart.stored chart.steps else []) some

  pub chart_room : (s now after : ListingView) (v : Value) → now ≡ listed s (one (kept (codes "CHART")) name v begun) → after ≡ listed now (all_steps_in name 1 chart.steps)
      → length s.leaves + length (leaves_of_parts name chart) ≤ 65536 → length after.leaves + length chart.stored ≤ 65536
  chart_room s now after v first steps room =
      let steps_are = all_steps_in name 1 chart.steps in
      let one_more = listed_count s now (one (kept (codes "CHART")) name v begun) first in
      let more = listed_count now after steps_are steps in
      let parts = length-append steps_are (flat_map (stored_in name) chart.stored) in
      let names = stored_length name chart.stored in
      let all = ap length whole in
      omega (arith, one_more, more, parts, names, all, room)

  pub chart_listed : (s now after new : ListingView) (v : Value) → v ≡ truth false → now ≡ listed s (one (kept (codes "CHART")) name v begun) → after ≡ listed now (all_steps_in name 1 chart.steps)
      → new ≡ listed after (flat_map (stored_in name) chart.stored) → new ≡ listed s (leaves_of_parts name chart)
  chart_listed s now after new v begins_so first steps names =
      let begins = one (kept (codes "CHART")) name (truth false) begun in
      let all = all_steps_in name 1 chart.steps in
      listed_more s after new (begins ++ all) (flat_map (stored_in name) chart.stored) (leaves_of_parts name chart) whole
      (listed_more s now after begins all (begins ++ all) refl (first ∙ ap (λ w. listed s (one (kept (codes "CHART")) name w begun)) begins_so) steps) names

  pub chart_ways : AreWays (all_steps_in name 1 chart.steps) → AreWays (flat_map (stored_in name) chart.stored) → AreWays (leaves_of_parts name chart)
  chart_ways steps names =
      let begins = one (kept (codes "CHART")) name (truth false) begun in
      let all = all_steps_in name 1 chart.steps in
      ways_more (begins ++ all) (flat_map (stored_in name) chart.stored) (leaves_of_parts name chart) whole (ways_append begins all (ways_by begins refl) steps) names
