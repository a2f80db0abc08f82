-- Changes that are refused for their pairs or their charts, by the paths of leaves.
use Rattle.std.proofs.Common.{◌≡◌, ℕ, zero, suc, ◌<◌, ◌⊎◌, inl, inr, Bool, true, false, not, ◌&&◌, ◌||◌, if◌then◌else◌, List, [], ◌∷◌, get_or, length, Option, Some, None, refl, ap, sym, ◌∙◌, arith, zero-add}
use Rattle.std.specs.List.{list_any, range_with_len, zip}
use Rattle.std.specs.Option.{is_some, option_map_or}
use Rattle.std.proofs.lemmas.Bool.{and_parts, false_from_ne_true, not-true, or_left, or_right}
use Rattle.std.proofs.lemmas.Bool.Decides.{Decides-eqb}
use Rattle.std.proofs.lemmas.List.{length-map}
use Rattle.std.proofs.lemmas.List.Folds.{list_any_at}
use Rattle.std.proofs.lemmas.List.FromFn.{get_or-range_with_len, length-range_with_len}
use Rattle.std.proofs.lemmas.Slice.Zip.{get_or-zip, length-zip}
use Rattle.std.specs.Prelude.{◌↔◌, Err}
use Rattle.st_check.specs.Programs.{leaves_of_program}
use Rattle.st_control.specs.Causes.{no_active_step, not_paired, undo_full}
use Rattle.st_control.specs.Changes.{active_chart, changed, gives_pairs, is_chart, is_kept, keeps_active_step, loses_active_step, stops, stops_chart}
use Rattle.st_control.specs.ChangeRefusals.{ChartStops, GoesTo, HaveNoPairs, NoPairsByPath, RefusedForCharts, RefusedForPairs, StepLeavesChart, StopsByPath, TwoGoToOne}
use Rattle.st_control.specs.Machine.{Cause, Machine, accept, is_full, unless}
use Rattle.st_control.specs.States.{leaves_of}
use Rattle.st_memory.specs.Memory.{value_at}
use Rattle.st_memory.specs.Moves.{is_true}
use Rattle.st_layout.specs.Layout.{leaf_at, no_leaf}
use Rattle.st_layout.specs.Pairs.{chart_of, is_number, is_pairable, is_same_number, leaves_chart, names_wrongly, number_at, shares_target, some_leaves_chart, target_of, targets_of}
use Rattle.st_layout.specs.declared.renames.Rename.{Rename}
use Rattle.st_layout.proofs.PairPaths.{pairs_by_path}
use Rattle.st_layout.proofs.Pairings.{number_within, shares_from, target_at}
use Rattle.st_leaves.specs.Sound.{IsSound}
use Rattle.st_tree.specs.declared.leaf.Leaf.{Leaf}
use Rattle.st_tree.specs.declared.leaf.Role.{Role}
use Rattle.st_tree.specs.declared.leaf.Role.TheVariants.{Plain, ProcessInput, Hidden, ChartBegun, StepActive, StepPulsed, StepTime}
use Rattle.st_values.specs.declared.value.Value.{Value}

-- ---- of lists

-- where an element of a list passes a test, one is found
any_found : {X : Type 0} (p : X → Bool) (xs : List X) (d : X) → list_any p xs ≡ true → (k : ℕ) × (k < length xs) × (p (get_or xs k d) ≡ true)
any_found p [] d is = absurd (cc)
any_found p (x ∷ xs) d is = by (p x) refl is (any_found p xs d) where
  by : (b : Bool) → p x ≡ b → (b || list_any p xs) ≡ true → (list_any p xs ≡ true → (k : ℕ) × (k < length xs) × (p (get_or xs k d) ≡ true))
      → (k : ℕ) × (k < length (x ∷ xs)) × (p (get_or (x ∷ xs) k d) ≡ true)
  by true q h more = (0, omega arith, q)
  by false q h more = let found = more h in (suc found.0, omega (arith, found.1), found.2)

number_found : (test : ℕ → Bool) (n : ℕ) → list_any test (range_with_len 0 n) ≡ true → (k : ℕ) × (k < n) × (test k ≡ true)
number_found test n is =
    let found = any_found test (range_with_len 0 n) 0 is in
    let below : found.0 < n = omega (arith, found.1, length-range_with_len 0 n) in
    (found.0, below, ap test (sym (get_or-range_with_len 0 n found.0 0 below ∙ zero-add found.0)) ∙ found.2)

number_told : (test : ℕ → Bool) (n k : ℕ) → k < n → test k ≡ true → list_any test (range_with_len 0 n) ≡ true
number_told test n k below is =
    list_any_at test (range_with_len 0 n) k 0 (omega (arith, below, length-range_with_len 0 n)) (ap test (get_or-range_with_len 0 n k 0 below ∙ zero-add k) ∙ is)

either_or : (a b : Bool) → (a || b) ≡ true → (a ≡ true) ⊎ (b ≡ true)
either_or true b is = inl refl
either_or false b is = inr is

same_number : (target other : Option ℕ) → is_same_number target other ≡ true → (j : ℕ) × (target ≡ Some j) × (other ≡ Some j)
same_number None other is = absurd (cc)
same_number (Some i) None is = absurd (cc)
same_number (Some i) (Some j) is = let same : i ≡ j = (Decides-eqb i j).0 is in (i, refl, ap (λ (n : ℕ). Some n) (sym same))

record Shares (targets : List (Option ℕ)) : Type 0 where
  first : ℕ
  second : ℕ
  target : ℕ
  apart : first < second
  first_at : number_at targets first ≡ Some target
  second_at : number_at targets second ≡ Some target

two_share : (targets : List (Option ℕ)) → shares_target targets ≡ true → Shares targets
two_share [] is = absurd (cc)
two_share (t ∷ targets) is = by (either_or (list_any (is_same_number t) targets) (shares_target targets) is) (two_share targets) where
  by : (list_any (is_same_number t) targets ≡ true) ⊎ (shares_target targets ≡ true) → (shares_target targets ≡ true → Shares targets) → Shares (t ∷ targets)
  by (inl any) more =
      let found = any_found (is_same_number t) targets None any in
      let both = same_number t (number_at targets found.0) found.2 in
      record { first = 0; second = suc found.0; target = both.0; apart = omega arith; first_at = both.1; second_at = both.2 }
  by (inr later) more =
      let two = more later in
      record { first = suc two.first; second = suc two.second; target = two.target; apart = omega (arith, two.apart); first_at = two.first_at; second_at = two.second_at }

-- ---- of roles

chart_role : (r : Role) (chart : ℕ) → chart_of r ≡ Some chart → r ≡ StepActive chart
chart_role Plain chart is = absurd (cc)
chart_role ProcessInput chart is = absurd (cc)
chart_role Hidden chart is = absurd (cc)
chart_role ChartBegun chart is = absurd (cc)
chart_role (StepActive n) chart is = cc
chart_role StepTime chart is = absurd (cc)
chart_role (StepPulsed m n) chart is = absurd (cc)

begun_role : (r : Role) → is_chart r ≡ true → r ≡ ChartBegun
begun_role Plain is = absurd (cc)
begun_role ProcessInput is = absurd (cc)
begun_role Hidden is = absurd (cc)
begun_role ChartBegun is = refl
begun_role (StepActive n) is = absurd (cc)
begun_role StepTime is = absurd (cc)
begun_role (StepPulsed m n) is = absurd (cc)

module _ (old new : List Leaf) (renames : List Rename) (old_sound : IsSound old) (new_sound : IsSound new) where
  abbrev targets : List (Option ℕ)
  targets = targets_of old new renames

  long : length targets ≡ length old
  long = length-map old (target_of renames new)

  -- a pair is an old leaf that goes to a new one
  goes : (i j : ℕ) → number_at targets i ≡ Some j → GoesTo old new renames i j
  goes i j at =
      let below : i < length old = omega (arith, number_within targets i j at, long) in
      let there : j < length new = (target_at old new renames i j at).below in
      let both = (pairs_by_path old new renames i j old_sound new_sound below there).0 at in
      record { below = below; there = there; path = both.0; alike = both.1 }

  pair_of : (i j : ℕ) → GoesTo old new renames i j → number_at targets i ≡ Some j
  pair_of i j to = (pairs_by_path old new renames i j old_sound new_sound to.below to.there).1 (to.path, to.alike)

  -- ---- pairs

  two_go : Shares targets → TwoGoToOne old new renames
  two_go two = record {
    first = two.first;
    second = two.second;
    target = two.target;
    apart = two.apart;
    first_goes = goes two.first two.target two.first_at;
    second_goes = goes two.second two.target two.second_at;
  }

  share : TwoGoToOne old new renames → shares_target targets ≡ true
  share two =
      shares_from targets two.first two.second two.target two.apart (omega (arith, two.second_goes.below, long)) (pair_of two.first two.target two.first_goes)
      (pair_of two.second two.target two.second_goes)

  abbrev pair_leaves : Leaf × Option ℕ → Bool
  pair_leaves pair = leaves_chart new targets pair.0 pair.1

  zipped : length (zip old targets) ≡ length old
  zipped = omega (arith, length-zip old targets, long)

  zip_at : (i : ℕ) → i < length old → get_or (zip old targets) i (no_leaf, None) ≡ (leaf_at old i, number_at targets i)
  zip_at i below = get_or-zip old targets i (no_leaf, None) below (omega (arith, below, long))

  leaves_told : (i : ℕ) → leaves_chart new targets (leaf_at old i) (number_at targets i) ≡ true → StepLeavesChart old new renames
  leaves_told i is = by (chart_of (leaf_at old i).role) refl (number_at targets i) refl is where
    by : (chart : Option ℕ) → chart_of (leaf_at old i).role ≡ chart → (target : Option ℕ) → number_at targets i ≡ target
        → option_map_or (λ begun. option_map_or (λ j. not (is_same_number (number_at targets begun) (chart_of (leaf_at new j).role))) target false) chart false ≡ true
        → StepLeavesChart old new renames
    by None role target at h = absurd (cc)
    by (Some chart) role None at h = absurd (cc)
    by (Some chart) role (Some j) at h = record {
      leaf = i;
      target = j;
      chart = chart;
      role = chart_role (leaf_at old i).role chart role;
      goes = goes i j at;
      apart = λ other to is'.
          let differ : is_same_number (number_at targets chart) (chart_of (leaf_at new j).role) ≡ false = not-true (is_same_number (number_at targets chart) (chart_of (leaf_at new j).role)) h in
          let same : is_same_number (number_at targets chart) (chart_of (leaf_at new j).role) ≡ true = rw (pair_of chart other to, is') ((Decides-eqb other other).1 refl) in
          cc;
    }

  leaves_found : StepLeavesChart old new renames → some_leaves_chart old new targets ≡ true
  leaves_found leaves =
      let i = leaves.leaf in
      let here : leaves_chart new targets (leaf_at old i) (number_at targets i) ≡ true = rw (leaves.role, pair_of i leaves.target leaves.goes) (ap not (differ (number_at targets leaves.chart) refl (chart_of (leaf_at new leaves.target).role) refl)) in
      list_any_at pair_leaves (zip old targets) i (no_leaf, None) (omega (arith, leaves.goes.below, zipped)) (ap pair_leaves (zip_at i leaves.goes.below) ∙ here) where
        differ : (target : Option ℕ) → number_at targets leaves.chart ≡ target → (chart : Option ℕ) → chart_of (leaf_at new leaves.target).role ≡ chart → is_same_number target chart ≡ false
        differ target at chart role = false_from_ne_true (is_same_number target chart) (λ same.
            let both = same_number target chart same in
            leaves.apart both.0 (goes leaves.chart both.0 (at ∙ both.1)) (chart_role (leaf_at new leaves.target).role both.0 (role ∙ both.2)))

  abbrev broken : Bool
  broken = names_wrongly old new renames || (shares_target targets || some_leaves_chart old new targets)

  not_paired_told : is_pairable old new renames ≡ false → HaveNoPairs old new renames
  not_paired_told is = by (either_or (names_wrongly old new renames) (shares_target targets || some_leaves_chart old new targets) (turned broken is)) where
    turned : (b : Bool) → not b ≡ false → b ≡ true
    turned true h = refl
    turned false h = absurd (cc)

    later : (shares_target targets ≡ true) ⊎ (some_leaves_chart old new targets ≡ true) → TwoGoToOne old new renames ⊎ StepLeavesChart old new renames
    later (inl shared) = inl (two_go (two_share targets shared))
    later (inr leaves) =
        let found = any_found pair_leaves (zip old targets) (no_leaf, None) leaves in
        inr (leaves_told found.0 (ap pair_leaves (sym (zip_at found.0 (omega (arith, found.1, zipped)))) ∙ found.2))

    by : (names_wrongly old new renames ≡ true) ⊎ ((shares_target targets || some_leaves_chart old new targets) ≡ true) → HaveNoPairs old new renames
    by (inl named) = inl named
    by (inr rest) = inr (later (either_or (shares_target targets) (some_leaves_chart old new targets) rest))

  not_paired_found : HaveNoPairs old new renames → is_pairable old new renames ≡ false
  not_paired_found (inl named) = ap not (or_left (names_wrongly old new renames) (shares_target targets || some_leaves_chart old new targets) named)
  not_paired_found (inr (inl two)) =
      ap not (or_right (names_wrongly old new renames) (shares_target targets || some_leaves_chart old new targets)
      (or_left (shares_target targets) (some_leaves_chart old new targets) (share two)))
  not_paired_found (inr (inr leaves)) =
      ap not (or_right (names_wrongly old new renames) (shares_target targets || some_leaves_chart old new targets)
      (or_right (shares_target targets) (some_leaves_chart old new targets) (leaves_found leaves)))

  -- ---- charts

  kept_at : (i : ℕ) → is_kept targets i ≡ true → (j : ℕ) × (number_at targets i ≡ Some j)
  kept_at i is = by (number_at targets i) refl is where
    by : (target : Option ℕ) → number_at targets i ≡ target → is_some target ≡ true → (j : ℕ) × (number_at targets i ≡ Some j)
    by None at h = absurd (cc)
    by (Some j) at h = (j, at)

  module _ (values : List Value) where
    stops_told : loses_active_step old targets values ≡ true → ChartStops old new renames values
    stops_told is =
        let found = number_found (stops old targets values) (length old) is in
        let chart = found.0 in
        let parts = and_parts (is_kept targets chart) (is_chart (leaf_at old chart).role && not (keeps_active_step old targets values chart)) found.2 in
        let rest = and_parts (is_chart (leaf_at old chart).role) (not (keeps_active_step old targets values chart)) parts.1 in
        let at = kept_at chart parts.0 in
        record {
          chart = chart;
          target = at.0;
          role = begun_role (leaf_at old chart).role rest.0;
          goes = goes chart at.0 at.1;
          none = λ i j role to. false_from_ne_true (is_true (value_at values i)) (λ on.
              let active : is_number chart (active_chart old targets values i) ≡ true = rw (pair_of i j to, on, role) ((Decides-eqb chart chart).1 refl) in
              let keeps : keeps_active_step old targets values chart ≡ true = number_told (λ k. is_number chart (active_chart old targets values k)) (length old) i to.below active in
              let none : keeps_active_step old targets values chart ≡ false = not-true (keeps_active_step old targets values chart) rest.1 in
              cc);
        }

    stops_found : ChartStops old new renames values → loses_active_step old targets values ≡ true
    stops_found stop =
        let chart = stop.chart in
        let kept : is_kept targets chart ≡ true = rw (pair_of chart stop.target stop.goes) refl in
        let none : keeps_active_step old targets values chart ≡ false = false_from_ne_true (keeps_active_step old targets values chart) (λ keeps.
        let found = number_found (λ i. is_number chart (active_chart old targets values i)) (length old) keeps in
        active_none stop found.0 (is_kept targets found.0) refl (is_true (value_at values found.0)) refl found.2) in
        number_told (stops old targets values) (length old) chart stop.goes.below (rw (kept, stop.role, none) refl) where
          active_none : (stop : ChartStops old new renames values) (i : ℕ) (kept : Bool) → is_kept targets i ≡ kept → (on : Bool) → is_true (value_at values i) ≡ on
              → is_number stop.chart (if kept && on then chart_of (leaf_at old i).role else None) ≡ true → ⊥
          active_none stop i false is on is' h = absurd (cc)
          active_none stop i true is false is' h = absurd (cc)
          active_none stop i true is true is' h =
              let at = kept_at i is in
              let off : is_true (value_at values i) ≡ false = stop.none i at.0 (of_chart (chart_of (leaf_at old i).role) refl h) (goes i at.0 at.1) in
              cc where
                of_chart : (chart : Option ℕ) → chart_of (leaf_at old i).role ≡ chart → is_number stop.chart chart ≡ true → (leaf_at old i).role ≡ StepActive stop.chart
                of_chart None role h' = absurd (cc)
                of_chart (Some n) role h' = let same : stop.chart ≡ n = (Decides-eqb stop.chart n).0 h' in chart_role (leaf_at old i).role stop.chart (role ∙ ap (λ (m : ℕ). Some m) (sym same))

pub no_pairs_by_path : NoPairsByPath
no_pairs_by_path old new renames old_sound new_sound = (not_paired_told old new renames old_sound new_sound, not_paired_found old new renames old_sound new_sound)

pub stops_by_path : StopsByPath
stops_by_path old new renames values old_sound new_sound = (stops_told old new renames old_sound new_sound values, stops_found old new renames old_sound new_sound values)

-- ---- the machine's step

-- the causes of a change, where the list isn't full
abbrev causes_by : Bool → Bool → Bool → List Cause
causes_by full paired stopped = (undo_full, full) ∷ (not_paired, not paired) ∷ (no_active_step, stopped) ∷ []

refused_for_pairs : (full paired stopped : Bool) (made : Machine) → full ≡ false → (unless (causes_by full paired stopped) made ≡ Err not_paired) ↔ (paired ≡ false)
refused_for_pairs true paired stopped made some = absurd (cc)
refused_for_pairs false false stopped made some = (λ h. refl, λ h. refl)
refused_for_pairs false true true made some = (λ h. absurd (cc), λ h. absurd (cc))
refused_for_pairs false true false made some = (λ h. absurd (cc), λ h. absurd (cc))

refused_for_charts : (full paired stopped : Bool) (made : Machine) → full ≡ false → paired ≡ true → (unless (causes_by full paired stopped) made ≡ Err no_active_step) ↔ (stopped ≡ true)
refused_for_charts true paired stopped made some pairs = absurd (cc)
refused_for_charts false false stopped made some pairs = absurd (cc)
refused_for_charts false true true made some pairs = (λ h. refl, λ h. refl)
refused_for_charts false true false made some pairs = (λ h. absurd (cc), λ h. absurd (cc))

pub refused_pairs : RefusedForPairs
refused_pairs renames program m whole sound some =
    let made = accept m true (changed m.state renames program) in
    let causes = refused_for_pairs (is_full m) (gives_pairs m.state renames program) (stops_chart m.state renames program) made some in
    let paths = no_pairs_by_path (leaves_of m.state) (leaves_of_program program) renames whole.sound sound.leaves in
    (λ refused. paths.0 (causes.0 refused), λ none. causes.1 (paths.1 none))

pub refused_charts : RefusedForCharts
refused_charts renames program m whole sound some pairs =
    let made = accept m true (changed m.state renames program) in
    let causes = refused_for_charts (is_full m) (gives_pairs m.state renames program) (stops_chart m.state renames program) made some pairs in
    let paths = stops_by_path (leaves_of m.state) (leaves_of_program program) renames m.state.content.values whole.sound sound.leaves in
    (λ refused. paths.0 (causes.0 refused), λ stops. causes.1 (paths.1 stops))
