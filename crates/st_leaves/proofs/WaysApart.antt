-- No two leaves of a whole have the same way.
use Rattle.std.proofs.Common.{◌≡◌, ℕ, ℤ, false, List, [], ◌∷◌, ◌++◌, map, refl, ap, ◌∙◌, sym, subst}
use Rattle.std.specs.List.{AllByRecursion as Each, flat_map}
use Rattle.std.proofs.lemmas.List.{map-append}
use Rattle.st_values.specs.Words.{is_word}
use Rattle.st_tree.specs.declared.tree.unit.ChartElement.{ChartElement}
use Rattle.st_tree.specs.declared.tree.unit.Step.{Step}
use Rattle.st_types.specs.Compositions.{Composition, unknown, elementary, array, composed, standard, Members, none, member}
use Rattle.st_types.specs.Names.{steps_in}
use Rattle.st_types.specs.declared.standard.StandardBlock.{StandardBlock}
use Rattle.st_types.specs.declared.standard.StandardBlock.TheVariants as blocks
use Rattle.st_leaves.specs.Charts.{stored_by}
use Rattle.st_leaves.specs.Distinct.{AreApart, HasDistinctNames, HaveDistinctNames, WaysAreDistinct, step_names}
use Rattle.st_leaves.specs.LeavesIn.{LeafIn, block_leaves, chart_in, leaves_in, leaves_of_whole, member_names, members_in, subscript_lists, variables_in}
use Rattle.st_leaves.specs.Paths.{Path, are_same_numbers, field, index, kept}
use Rattle.st_leaves.proofs.ChartWays.{chart_in_ways, chart_ways, step_groups, whole_differ, whole_not_stored}
use Rattle.st_leaves.proofs.Differences.{BeginApart, Differ, IsNotStored, away, groups_differ, not_stored_tested, tested}
use Rattle.st_leaves.proofs.Groups.{grouped}
use Rattle.st_leaves.proofs.Pairs.{Pairwise, all_pairs, each_any, each_map, from_all_pairs, pairwise_map, pairwise_mapped}
use Rattle.st_leaves.proofs.Spellings.{stored_by_apart}
use Rattle.st_leaves.proofs.SubscriptsApart.{subscripts_apart}
use Rattle.st_leaves.proofs.WaysIn.{Group, element_groups, elements_ways, member_groups, members_ways, step_group, variables_ways, ways}

-- ---- names

of_steps : (steps : List Step) → map field (map (λ (s : Step). s.name.spelling) steps) ≡ map (λ (g : Group). g.0) (map step_group steps)
of_steps [] = refl
of_steps (s ∷ steps) = ap (λ ss. field s.name.spelling ∷ ss) (of_steps steps)

fields : (ms : Members) (chart : List ChartElement) → map field (member_names ms ++ step_names chart) ≡ map (λ (g : Group). g.0) (member_groups ms ++ step_groups chart)
fields none chart = of_steps (flat_map steps_in chart)
fields (member name kind c ms) chart = ap (λ ss. field name ∷ ss) (fields ms chart)

groups_begin_apart : (ms : Members) (chart : List ChartElement) → AreApart (member_names ms ++ step_names chart) → Pairwise (λ g h. BeginApart g.0 h.0) (member_groups ms ++ step_groups chart)
groups_begin_apart ms chart apart =
    pairwise_mapped BeginApart (λ (g : Group). g.0) (member_groups ms ++ step_groups chart)
    (subst (Pairwise BeginApart) (fields ms chart)
    (pairwise_map BeginApart field (member_names ms ++ step_names chart) (from_all_pairs (λ a b. is_word a b ≡ false) (member_names ms ++ step_names chart) apart)))

members_named : (ms : Members) → Each (λ g. (t : List ℕ) → BeginApart g.0 (kept t)) (member_groups ms)
members_named none = tt
members_named (member name kind c ms) = ((λ t. refl), members_named ms)

-- ---- wholes

-- the names that the chart of a whole stores
abbrev own_stored : Members → List ChartElement → List (List ℕ)
own_stored ms chart = stored_by (member_names ms) chart

abbrev own_leaves : List ℕ → Members → List ChartElement → List LeafIn
own_leaves name ms chart = chart_in name (own_stored ms chart) chart

whole_ways : (name : List ℕ) (ms : Members) (chart : List ChartElement) → ways (members_in name ms ++ own_leaves name ms chart) ≡ grouped (member_groups ms) ++ chart_ways (own_stored ms chart) chart
whole_ways name ms chart =
    map-append (λ (l : LeafIn). l.path) (members_in name ms) (own_leaves name ms chart) ∙ ap (λ ps. ps ++ ways (own_leaves name ms chart)) (members_ways name ms)
    ∙ ap (λ ps. grouped (member_groups ms) ++ ps) (chart_in_ways name (own_stored ms chart) chart)

program_ways : (name : List ℕ) (ms : Members) (chart : List ChartElement) → ways (variables_in name ms ++ own_leaves name ms chart) ≡ grouped (member_groups ms) ++ chart_ways (own_stored ms chart) chart
program_ways name ms chart =
    map-append (λ (l : LeafIn). l.path) (variables_in name ms) (own_leaves name ms chart) ∙ ap (λ ps. ps ++ ways (own_leaves name ms chart)) (variables_ways name ms)
    ∙ ap (λ ps. grouped (member_groups ms) ++ ps) (chart_in_ways name (own_stored ms chart) chart)

block_not_stored : (b : StandardBlock) → Each IsNotStored (ways (block_leaves b))
block_not_stored blocks.RTrig = not_stored_tested (ways (block_leaves blocks.RTrig)) refl
block_not_stored blocks.FTrig = not_stored_tested (ways (block_leaves blocks.FTrig)) refl
block_not_stored blocks.Sr = not_stored_tested (ways (block_leaves blocks.Sr)) refl
block_not_stored blocks.Rs = not_stored_tested (ways (block_leaves blocks.Rs)) refl
block_not_stored blocks.Ctu = not_stored_tested (ways (block_leaves blocks.Ctu)) refl
block_not_stored blocks.Ctd = not_stored_tested (ways (block_leaves blocks.Ctd)) refl
block_not_stored blocks.Ton = not_stored_tested (ways (block_leaves blocks.Ton)) refl
block_not_stored blocks.Tof = not_stored_tested (ways (block_leaves blocks.Tof)) refl
block_not_stored blocks.Tp = not_stored_tested (ways (block_leaves blocks.Tp)) refl

block_differ : (b : StandardBlock) → Pairwise Differ (ways (block_leaves b))
block_differ blocks.RTrig = tested (ways (block_leaves blocks.RTrig)) refl
block_differ blocks.FTrig = tested (ways (block_leaves blocks.FTrig)) refl
block_differ blocks.Sr = tested (ways (block_leaves blocks.Sr)) refl
block_differ blocks.Rs = tested (ways (block_leaves blocks.Rs)) refl
block_differ blocks.Ctu = tested (ways (block_leaves blocks.Ctu)) refl
block_differ blocks.Ctd = tested (ways (block_leaves blocks.Ctd)) refl
block_differ blocks.Ton = tested (ways (block_leaves blocks.Ton)) refl
block_differ blocks.Tof = tested (ways (block_leaves blocks.Tof)) refl
block_differ blocks.Tp = tested (ways (block_leaves blocks.Tp)) refl

-- ---- no leaf is what is kept of a stored name alone

not_stored : (c : Composition) → Each IsNotStored (ways (leaves_in c))
not_stored unknown = tt
not_stored (elementary v) = (refl, tt)
not_stored (array ranges firsts c) =
    subst (Each IsNotStored) (sym (elements_ways (subscript_lists ranges) firsts (leaves_in c)))
    (away (kept _) [] (element_groups (subscript_lists ranges) (ways (leaves_in c)))
    (each_map (λ g. BeginApart g.0 (kept _)) _ (subscript_lists ranges) (each_any _ (subscript_lists ranges) (λ is. refl))))
not_stored (composed name ms chart) = subst (Each IsNotStored) (sym (whole_ways name ms chart)) (whole_not_stored (member_groups ms) (members_named ms) (own_stored ms chart) chart)
not_stored (standard b) = block_not_stored b

members_not_stored : (ms : Members) → Each (λ g. Each IsNotStored g.1) (member_groups ms)
members_not_stored none = tt
members_not_stored (member name kind c ms) = (not_stored c, members_not_stored ms)

-- ---- all leaves

elements_differ : (lists : List (List ℤ)) (ps : List Path) → Pairwise (λ a b. are_same_numbers a b ≡ false) lists → Pairwise Differ ps → Pairwise Differ (grouped (element_groups lists ps))
elements_differ lists ps apart inside =
    groups_differ (element_groups lists ps) (pairwise_map (λ (g h : Group). BeginApart g.0 h.0) (λ (is : List ℤ). (index is, ps)) lists apart)
    (each_map (λ (g : Group). Pairwise Differ g.1) (λ (is : List ℤ). (index is, ps)) lists (each_any (λ is. Pairwise Differ ps) lists (λ is. inside)))

mutual
  differ : (c : Composition) → HasDistinctNames c → Pairwise Differ (ways (leaves_in c))
  differ unknown names = tt
  differ (elementary v) names = (tt, tt)
  differ (array ranges firsts c) names =
      subst (Pairwise Differ) (sym (elements_ways (subscript_lists ranges) firsts (leaves_in c)))
      (elements_differ (subscript_lists ranges) (ways (leaves_in c)) (subscripts_apart ranges) (differ c names))
  differ (composed name ms chart) names =
      subst (Pairwise Differ) (sym (whole_ways name ms chart))
      (whole_differ (member_groups ms) (members_named ms) (own_stored ms chart) (members_differ ms names.1) (members_not_stored ms) (stored_by_apart (member_names ms) chart) chart (groups_begin_apart ms chart names.0))
  differ (standard b) names = block_differ b

  members_differ : (ms : Members) → HaveDistinctNames ms → Each (λ g. Pairwise Differ g.1) (member_groups ms)
  members_differ none names = tt
  members_differ (member name kind c ms) names = (differ c names.0, members_differ ms names.1)

whole : (c : Composition) → HasDistinctNames c → Pairwise Differ (ways (leaves_of_whole c))
whole unknown names = differ unknown names
whole (elementary v) names = differ (elementary v) names
whole (array ranges firsts c) names = differ (array ranges firsts c) names
whole (composed name ms chart) names =
    subst (Pairwise Differ) (sym (program_ways name ms chart))
    (whole_differ (member_groups ms) (members_named ms) (own_stored ms chart) (members_differ ms names.1) (members_not_stored ms) (stored_by_apart (member_names ms) chart) chart (groups_begin_apart ms chart names.0))
whole (standard b) names = differ (standard b) names

pub ways_differ : (c : Composition) → HasDistinctNames c → Pairwise (λ l other. Differ l.path other.path) (leaves_of_whole c)
ways_differ c names = pairwise_mapped Differ (λ (l : LeafIn). l.path) (leaves_of_whole c) (whole c names)

pub ways_are_distinct : WaysAreDistinct
ways_are_distinct c names = all_pairs (λ l other. Differ l.path other.path) (leaves_of_whole c) (ways_differ c names)
