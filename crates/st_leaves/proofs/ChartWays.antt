-- The ways to the leaves of a whole: its members, and its chart.
use Rattle.std.proofs.Common.{◌≡◌, ℕ, Bool, true, false, List, [], ◌∷◌, ◌++◌, map, codes, refl, ap, ◌∙◌, subst, append-nil, sym}
use Rattle.std.specs.List.{AllByRecursion as Each, flat_map, list_any}
use Rattle.std.proofs.lemmas.Grind.{flat_map-append}
use Rattle.std.proofs.lemmas.List.{map-append}
use Rattle.st_tree.specs.declared.tree.unit.ChartElement.{ChartElement}
use Rattle.st_tree.specs.declared.tree.unit.Step.{Step}
use Rattle.st_types.specs.Names.{steps_in}
use Rattle.st_values.specs.Words.{is_word}
use Rattle.st_leaves.specs.Charts.{is_pulse}
use Rattle.st_leaves.specs.LeavesIn.{LeafIn, all_steps_in, chart_in, stored_in}
use Rattle.st_leaves.specs.Paths.{Path, Selector, kept}
use Rattle.st_leaves.proofs.Differences.{BeginApart, Differ, IsNotStored, away, away_from, between_stored, groups_differ, not_stored_tested, stored_differ, tested}
use Rattle.st_leaves.proofs.Groups.{behind, grouped}
use Rattle.st_leaves.proofs.Pairs.{Between, Pairwise, between_append, each_any, each_append, each_map, each_weaker, pairwise_append, pairwise_parts}
use Rattle.st_leaves.proofs.WaysIn.{Group, state_ways, step_group, steps_ways, stored_way, stored_ways, ways}

-- whether a chart has begun
abbrev pub flag : Selector
flag = kept (codes "CHART")

abbrev pub step_groups : List ChartElement → List Group
step_groups chart = map step_group (flat_map steps_in chart)

-- where these names are stored
abbrev pub chart_ways : List (List ℕ) → List ChartElement → List Path
chart_ways stored [] = []
chart_ways stored (e ∷ es) = (flag ∷ []) ∷ (grouped (step_groups (e ∷ es)) ++ map stored_way stored)

pub chart_in_ways : (name : List ℕ) (stored : List (List ℕ)) (chart : List ChartElement) → ways (chart_in name stored chart) ≡ chart_ways stored chart
chart_in_ways name stored [] = refl
chart_in_ways name stored (e ∷ es) =
    ap (λ ps. (flag ∷ []) ∷ ps)
    (map-append (λ (l : LeafIn). l.path) (all_steps_in name 1 (flat_map steps_in (e ∷ es))) (flat_map (stored_in name) stored)
    ∙ ap (λ ps. ps ++ ways (flat_map (stored_in name) stored)) (steps_ways name 1 (flat_map steps_in (e ∷ es)))
    ∙ ap (λ ps. grouped (step_groups (e ∷ es)) ++ ps) (stored_ways name stored))

-- ---- steps

state_differ : (has_pulse : Bool) → Pairwise Differ (state_ways has_pulse)
state_differ true = tested (state_ways true) refl
state_differ false = tested (state_ways false) refl

state_not_stored : (has_pulse : Bool) → Each IsNotStored (state_ways has_pulse)
state_not_stored true = not_stored_tested (state_ways true) refl
state_not_stored false = not_stored_tested (state_ways false) refl

-- what holds of the group of each step holds of each group of a chart
each_step : (P : Group → Type 0) (chart : List ChartElement) → ((s : Step) → P (step_group s)) → Each P (step_groups chart)
each_step P chart holds = each_map P step_group (flat_map steps_in chart) (each_any (λ s. P (step_group s)) (flat_map steps_in chart) holds)

-- ---- the whole

module _ (gs : List Group) (named : Each (λ g. (t : List ℕ) → BeginApart g.0 (kept t)) gs) (names : List (List ℕ)) where
  pub whole_not_stored : (chart : List ChartElement) → Each IsNotStored (grouped gs ++ chart_ways names chart)
  whole_not_stored chart = each_append IsNotStored (grouped gs) (chart_ways names chart) (away (kept (codes "S")) [] gs (each_weaker _ (λ g. BeginApart g.0 (kept (codes "S"))) gs (λ g is. is (codes "S")) named)) (of_chart chart) where
    of_chart : (chart : List ChartElement) → Each IsNotStored (chart_ways names chart)
    of_chart [] = tt
    of_chart (e ∷ es) = (
      refl,
      each_append IsNotStored (grouped (step_groups (e ∷ es))) (map stored_way names)
          (away (kept (codes "S")) [] (step_groups (e ∷ es)) (each_step (λ g. BeginApart g.0 (kept (codes "S"))) (e ∷ es) (λ s. refl)))
          (each_map IsNotStored stored_way names (each_any (λ n. IsNotStored (stored_way n)) names (λ n. refl))),
    )

  module _ (inside : Each (λ g. Pairwise Differ g.1) gs) (others : Each (λ g. Each IsNotStored g.1) gs) (each_once : Pairwise (λ a b. is_word a b ≡ false) names) where
    pub whole_differ : (chart : List ChartElement) → Pairwise (λ g h. BeginApart g.0 h.0) (gs ++ step_groups chart) → Pairwise Differ (grouped gs ++ chart_ways names chart)
    whole_differ [] apart = subst (Pairwise Differ) (sym (append-nil (grouped gs))) (groups_differ gs (subst (Pairwise (λ (g h : Group). BeginApart g.0 h.0)) (append-nil gs) apart) inside)
    whole_differ (e ∷ es) apart =
        pairwise_append Differ (grouped gs) (chart_ways names (e ∷ es)) parts.0 (first, behind_flag)
        (between_append Differ (grouped gs) ((flag ∷ []) ∷ []) rest before_flag (between_append Differ (grouped gs) (grouped steps) (map stored_way names) parts.2 (between_stored gs names others)))
      where
        steps : List Group
        steps = step_groups (e ∷ es)

        rest : List Path
        rest = grouped steps ++ map stored_way names

        parts : Pairwise Differ (grouped gs) × Pairwise Differ (grouped steps) × Between Differ (grouped gs) (grouped steps)
        parts = pairwise_parts Differ (grouped gs) (grouped steps)
            (subst (Pairwise Differ) (flat_map-append (λ (g : Group). behind g.0 g.1) gs steps)
            (groups_differ (gs ++ steps) apart (each_append (λ g. Pairwise Differ g.1) gs steps inside (each_step (λ g. Pairwise Differ g.1) (e ∷ es) (λ s. state_differ (list_any is_pulse s.associations))))))

        first : Each (Differ (flag ∷ [])) rest
        first = each_append (Differ (flag ∷ [])) (grouped steps) (map stored_way names)
            (away_from flag [] steps (each_step (λ g. BeginApart flag g.0) (e ∷ es) (λ s. refl)))
            (each_map (Differ (flag ∷ [])) stored_way names (each_any (λ n. Differ (flag ∷ []) (stored_way n)) names (λ n. refl)))

        behind_flag : Pairwise Differ rest
        behind_flag = pairwise_append Differ (grouped steps) (map stored_way names) parts.1 (stored_differ names each_once)
            (between_stored steps names (each_step (λ g. Each IsNotStored g.1) (e ∷ es) (λ s. state_not_stored (list_any is_pulse s.associations))))

        before_flag : Between Differ (grouped gs) ((flag ∷ []) ∷ [])
        before_flag = each_weaker (λ p. Differ p (flag ∷ [])) (λ p. Each (Differ p) ((flag ∷ []) ∷ [])) (grouped gs) (λ p e. (e, tt))
            (away flag [] gs (each_weaker _ (λ g. BeginApart g.0 flag) gs (λ g is. is (codes "CHART")) named))
