-- Subscripts are short where all arrays have short ranges.
use Rattle.std.proofs.Common.{ℕ, ◌+◌, ◌<◌, ◌^◌, ℤ, nat_abs, Bool, true, false, List, [], ◌∷◌, ◌++◌, map, codes, drop, length, Option, Some, None}
use Rattle.std.specs.List.{AllByRecursion as Each, flat_map, list_any}
use Rattle.st_tree.specs.declared.tree.constant.Constant.{Constant}
use Rattle.st_tree.specs.declared.tree.declaration.Subrange.{Subrange}
use Rattle.st_tree.specs.declared.tree.declaration.VarKind.{VarKind}
use Rattle.st_tree.specs.declared.tree.declaration.VarKind.TheVariants as var_kinds
use Rattle.st_tree.specs.declared.tree.unit.ChartElement.{ChartElement}
use Rattle.st_tree.specs.declared.tree.unit.Step.{Step}
use Rattle.st_types.specs.Compositions.{Composition, unknown, elementary, array, composed, standard, Members, none, member}
use Rattle.st_types.specs.Names.{steps_in}
use Rattle.st_types.specs.Standard.{Pin, pins_of, Kept, block_name, kept_by}
use Rattle.st_leaves.specs.Bounds.{IsBounded}
use Rattle.st_leaves.specs.Charts.{is_pulse, stored_by}
use Rattle.st_leaves.specs.Leaves.{numbers_in}
use Rattle.st_values.specs.Values.{truth}
use Rattle.st_leaves.specs.LeavesIn.{LeafIn, all_steps_in, chart_in, elements_in, first_written, kept_leaf, leaves_in, leaves_of_whole, member_names, members_in, one, pin_leaf, starting, state_in, step_in, stored_in, subscript_lists, begun, used_as, variables_in, within}
use Rattle.st_leaves.specs.Paths.{field, index, kept}
use Rattle.st_leaves.specs.Distinct.{AreShort, HasShortSubscripts}
use Rattle.st_leaves.proofs.Pairs.{each_append}

-- all numbers of a range are short, since its bounds are numbers of LINT
abbrev pub IsShortRange : Subrange → Type 0
IsShortRange r = Each (λ i. nat_abs i < 10 ^ 64) (numbers_in r) × IsBounded r

-- all ranges in a whole are
abbrev mutual
  pub HasShortRanges : Composition → Type 0
  HasShortRanges unknown = Unit {0}
  HasShortRanges (elementary v) = Unit {0}
  HasShortRanges (array ranges firsts c) = Each IsShortRange ranges × HasShortRanges c
  HasShortRanges (composed name ms chart) = HaveShortRanges ms
  HasShortRanges (standard b) = Unit {0}

  pub HaveShortRanges : Members → Type 0
  HaveShortRanges none = Unit {0}
  HaveShortRanges (member name kind c ms) = HasShortRanges c × HaveShortRanges ms

abbrev pub IsShort : LeafIn → Type 0
IsShort l = HasShortSubscripts l.path

-- ---- parts

short_field : (name whole : List ℕ) (leaves : List LeafIn) → Each IsShort leaves → Each IsShort (within (field name) whole leaves)
short_field name whole [] all = tt
short_field name whole (l ∷ ls) all = (all.0, short_field name whole ls all.1)

short_index : (is : List ℤ) (whole : List ℕ) (leaves : List LeafIn) → AreShort is → Each IsShort leaves → Each IsShort (within (index is) whole leaves)
short_index is whole [] short all = tt
short_index is whole (l ∷ ls) short all = ((short, all.0), short_index is whole ls short all.1)

short_starting : (c : Option Constant) (leaves : List LeafIn) → Each IsShort leaves → Each IsShort (starting c leaves)
short_starting None leaves all = all
short_starting (Some c) [] all = tt
short_starting (Some c) (l ∷ ls) all = (all.0, short_starting (Some c) ls all.1)

short_used : (kind : VarKind) (leaves : List LeafIn) → Each IsShort leaves → Each IsShort (used_as kind leaves)
short_used var_kinds.Input [] all = tt
short_used var_kinds.Input (l ∷ ls) all = (all.0, short_used var_kinds.Input ls all.1)
short_used var_kinds.Internal leaves all = all
short_used var_kinds.Constant leaves all = all
short_used var_kinds.Output leaves all = all

-- ---- arrays

short_before : (i : ℤ) (lists : List (List ℤ)) → nat_abs i < 10 ^ 64 → Each AreShort lists → Each AreShort (map (λ is. i ∷ is) lists)
short_before i [] short all = tt
short_before i (is ∷ lists) short all = ((short, all.0), short_before i lists short all.1)

short_choices : (is : List ℤ) (lists : List (List ℤ)) → Each (λ i. nat_abs i < 10 ^ 64) is → Each AreShort lists → Each AreShort (flat_map (λ i. map (λ others. i ∷ others) lists) is)
short_choices [] lists short all = tt
short_choices (i ∷ is) lists short all =
    each_append AreShort (map (λ others. i ∷ others) lists) (flat_map (λ j. map (λ others. j ∷ others) lists) is) (short_before i lists short.0 all) (short_choices is lists short.1 all)

short_lists : (ranges : List Subrange) → Each IsShortRange ranges → Each AreShort (subscript_lists ranges)
short_lists [] all = (tt, tt)
short_lists (r ∷ rs) all = short_choices (numbers_in r) (subscript_lists rs) all.0.0 (short_lists rs all.1)

short_elements : (lists : List (List ℤ)) (firsts : List (Option Constant)) (leaves : List LeafIn) → Each AreShort lists → Each IsShort leaves → Each IsShort (elements_in lists firsts leaves)
short_elements [] firsts leaves short all = tt
short_elements (is ∷ others) firsts leaves short all =
    each_append IsShort (within (index is) (codes "array") (starting (first_written firsts) leaves)) (elements_in others (drop 1 firsts) leaves)
    (short_index is (codes "array") (starting (first_written firsts) leaves) short.0 (short_starting (first_written firsts) leaves all)) (short_elements others (drop 1 firsts) leaves short.1 all)

-- ---- standard function blocks

short_pins : (name : List ℕ) (pins : List Pin) → Each IsShort (flat_map (pin_leaf name) pins)
short_pins name [] = tt
short_pins name (p ∷ pins) = (tt, short_pins name pins)

short_kept : (name : List ℕ) (ks : List Kept) → Each IsShort (flat_map (kept_leaf name) ks)
short_kept name [] = tt
short_kept name (k ∷ ks) = (tt, short_kept name ks)

-- ---- charts

short_state : (back : ℕ) (is_initial has_pulse : Bool) → Each IsShort (state_in back is_initial has_pulse)
short_state back is_initial true = (tt, (tt, (tt, (tt, tt))))
short_state back is_initial false = (tt, (tt, (tt, tt)))

short_steps : (name : List ℕ) (back : ℕ) (steps : List Step) → Each IsShort (all_steps_in name back steps)
short_steps name back [] = tt
short_steps name back (s ∷ steps) =
    each_append IsShort (step_in name back s) (all_steps_in name (back + length (step_in name back s)) steps)
    (short_field s.name.spelling name (state_in back s.is_initial (list_any is_pulse s.associations)) (short_state back s.is_initial (list_any is_pulse s.associations)))
    (short_steps name (back + length (step_in name back s)) steps)

short_stored : (name : List ℕ) (names : List (List ℕ)) → Each IsShort (flat_map (stored_in name) names)
short_stored name [] = tt
short_stored name (n ∷ ns) = (tt, short_stored name ns)

short_chart : (name : List ℕ) (stored : List (List ℕ)) (elements : List ChartElement) → Each IsShort (chart_in name stored elements)
short_chart name stored [] = tt
short_chart name stored (e ∷ es) =
    let steps : List Step = flat_map steps_in (e ∷ es) in
    each_append IsShort (one (kept (codes "CHART")) name (truth false) begun ++ all_steps_in name 1 steps) (flat_map (stored_in name) stored)
    (each_append IsShort (one (kept (codes "CHART")) name (truth false) begun) (all_steps_in name 1 steps) (tt, tt) (short_steps name 1 steps))
    (short_stored name stored)

-- ---- what variables consist of

mutual
  short_leaves : (c : Composition) → HasShortRanges c → Each IsShort (leaves_in c)
  short_leaves unknown short = tt
  short_leaves (elementary v) short = (tt, tt)
  short_leaves (array ranges firsts c) short = short_elements (subscript_lists ranges) firsts (leaves_in c) (short_lists ranges short.0) (short_leaves c short.1)
  short_leaves (composed name ms chart) short =
      let stored = stored_by (member_names ms) chart in
      each_append IsShort (members_in name ms) (chart_in name stored chart) (short_members name ms short) (short_chart name stored chart)
  short_leaves (standard b) short =
      each_append IsShort (flat_map (pin_leaf (block_name b)) (pins_of b)) (flat_map (kept_leaf (block_name b)) (kept_by b)) (short_pins (block_name b) (pins_of b)) (short_kept (block_name b) (kept_by b))

  short_members : (name : List ℕ) (ms : Members) → HaveShortRanges ms → Each IsShort (members_in name ms)
  short_members name none short = tt
  short_members name (member own kind c ms) short =
      each_append IsShort (within (field own) name (leaves_in c)) (members_in name ms) (short_field own name (leaves_in c) (short_leaves c short.0)) (short_members name ms short.1)

short_variables : (name : List ℕ) (ms : Members) → HaveShortRanges ms → Each IsShort (variables_in name ms)
short_variables name none short = tt
short_variables name (member own kind c ms) short =
    each_append IsShort (within (field own) name (used_as kind (leaves_in c))) (variables_in name ms)
    (short_field own name (used_as kind (leaves_in c)) (short_used kind (leaves_in c) (short_leaves c short.0))) (short_variables name ms short.1)

pub short_whole : (c : Composition) → HasShortRanges c → Each IsShort (leaves_of_whole c)
short_whole unknown short = tt
short_whole (elementary v) short = (tt, tt)
short_whole (array ranges firsts c) short = short_leaves (array ranges firsts c) short
short_whole (composed name ms chart) short =
    let stored = stored_by (member_names ms) chart in
    each_append IsShort (variables_in name ms) (chart_in name stored chart) (short_variables name ms short) (short_chart name stored chart)
short_whole (standard b) short = short_leaves (standard b) short
