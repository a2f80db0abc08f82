-- How many leaves there are.
use Rattle.std.proofs.Common.{◌≡◌, ℕ, zero, suc, ◌+◌, ◌*◌, ℤ, Bool, true, false, List, [], ◌∷◌, ◌++◌, codes, drop, length, map, Option, Some, None, refl, ap, sym, ◌∙◌, arith, length-append}
use Rattle.std.specs.List.{flat_map, list_any}
use Rattle.std.proofs.Math.Nat.{suc-mul}
use Rattle.std.proofs.lemmas.List.{length-map, map-append}
use Rattle.st_leaves.specs.Subscripts.{next, numbers}
use Rattle.st_tree.specs.declared.tree.constant.Constant.{Constant}
use Rattle.st_tree.specs.declared.tree.declaration.Subrange.{Subrange}
use Rattle.st_tree.specs.declared.tree.declaration.VarKind.{VarKind}
use Rattle.st_tree.specs.declared.tree.declaration.VarKind.TheVariants as var_kinds
use Rattle.st_tree.specs.declared.tree.unit.ChartElement.{ChartElement}
use Rattle.st_tree.specs.declared.tree.unit.Step.{Step}
use Rattle.st_types.specs.Compositions.{Composition, unknown, elementary, array, composed, standard, Members, none, member}
use Rattle.st_types.specs.Names.{steps_in}
use Rattle.st_types.specs.Standard.{pins_of, kept_by}
use Rattle.st_types.specs.declared.standard.StandardBlock.{StandardBlock}
use Rattle.st_types.specs.declared.standard.StandardBlock.TheVariants as blocks
use Rattle.st_leaves.specs.Charts.{associations_of, is_pulse, step_types, stored_by, stored_names}
use Rattle.st_tree.specs.Literals.{number_of}
use Rattle.st_leaves.specs.Leaves.{numbers_in}
use Rattle.st_leaves.specs.LeavesIn.{LeafIn, all_steps_in, block_leaves, chart_in, elements_in, first_written, leaves_in, leaves_of_whole, member_names, members_in, starting, state_in, step_in, stored_in, subscript_lists, used_as, variables_in, within}
use Rattle.st_leaves.specs.Paths.{Path, Selector, field, index}
use Rattle.st_leaves.specs.Places.{LeavesAreCounted, chart_count, count, counts, extent, extent_of, step_count, steps_count}
use Rattle.st_leaves.proofs.Spellings.{stored_by_count}

-- ---- paths, whatever else leaves have

abbrev pub paths : List LeafIn → List Path
paths leaves = map (λ l. l.path) leaves

pub length_within : (s : Selector) (name : List ℕ) (leaves : List LeafIn) → length (within s name leaves) ≡ length leaves
length_within s name leaves = length-map leaves (λ l. record { path = s ∷ l.path; spine = name ∷ l.spine; initial = l.initial; use' = l.use' })

pub length_starting : (first : Option Constant) (leaves : List LeafIn) → length (starting first leaves) ≡ length leaves
length_starting None leaves = refl
length_starting (Some c) [] = refl
length_starting (Some c) (l ∷ leaves) = ap suc (length_starting (Some c) leaves)

-- ---- elements

numbers_length : (n : ℕ) (from : ℤ) → length (numbers n from) ≡ n
numbers_length zero from = refl
numbers_length (suc n) from = ap suc (numbers_length n (next from))

lists_length : (is : List ℤ) (lists : List (List ℤ)) → length (flat_map (λ i. map (λ js. i ∷ js) lists) is) ≡ length is * length lists
lists_length [] lists = omega arith
lists_length (i ∷ is) lists =
    omega (arith, length-append (map (λ js. i ∷ js) lists) (flat_map (λ j. map (λ js. j ∷ js) lists) is), length-map lists (λ js. i ∷ js), lists_length is lists, suc-mul (length is) (length lists))

pub subscripts_length : (ranges : List Subrange) → length (subscript_lists ranges) ≡ extent ranges
subscripts_length [] = refl
subscripts_length (r ∷ rs) =
    lists_length (numbers_in r) (subscript_lists rs) ∙ ap (λ n. n * length (subscript_lists rs)) (numbers_length (extent_of r) (number_of r.lower))
    ∙ ap (λ n. extent_of r * n) (subscripts_length rs)

pub element_length : (is : List ℤ) (first : Option Constant) (leaves : List LeafIn) → length (within (index is) (codes "array") (starting first leaves)) ≡ length leaves
element_length is first leaves = length_within (index is) (codes "array") (starting first leaves) ∙ length_starting first leaves

elements_length : (lists : List (List ℤ)) (firsts : List (Option Constant)) (leaves : List LeafIn) → length (elements_in lists firsts leaves) ≡ length lists * length leaves
elements_length [] firsts leaves = omega arith
elements_length (is ∷ others) firsts leaves = omega (
  arith,
  length-append (within (index is) (codes "array") (starting (first_written firsts) leaves)) (elements_in others (drop 1 firsts) leaves),
  element_length is (first_written firsts) leaves,
  elements_length others (drop 1 firsts) leaves,
  suc-mul (length others) (length leaves),
)

-- ---- standard function blocks

block_length : (b : StandardBlock) → length (block_leaves b) ≡ length (pins_of b) + length (kept_by b)
block_length blocks.RTrig = refl
block_length blocks.FTrig = refl
block_length blocks.Sr = refl
block_length blocks.Rs = refl
block_length blocks.Ctu = refl
block_length blocks.Ctd = refl
block_length blocks.Ton = refl
block_length blocks.Tof = refl
block_length blocks.Tp = refl

-- ---- charts

state_length : (back : ℕ) (is_initial has_pulse : Bool) → length (state_in back is_initial has_pulse) ≡ length (step_types has_pulse)
state_length back is_initial true = refl
state_length back is_initial false = refl

pub step_length : (name : List ℕ) (back : ℕ) (s : Step) → length (step_in name back s) ≡ step_count s
step_length name back s =
    length_within (field s.name.spelling) name (state_in back s.is_initial (list_any is_pulse s.associations)) ∙ state_length back s.is_initial (list_any is_pulse s.associations)

steps_length : (name : List ℕ) (back : ℕ) (steps : List Step) → length (all_steps_in name back steps) ≡ steps_count steps
steps_length name back [] = refl
steps_length name back (s ∷ steps) = omega (
  arith,
  length-append (step_in name back s) (all_steps_in name (back + length (step_in name back s)) steps),
  step_length name back s,
  steps_length name (back + length (step_in name back s)) steps,
)

stored_length : (name : List ℕ) (stored : List (List ℕ)) → length (flat_map (stored_in name) stored) ≡ length stored
stored_length name [] = refl
stored_length name (n ∷ stored) = ap suc (stored_length name stored)

pub chart_length : (name : List ℕ) (variables : List (List ℕ)) (chart : List ChartElement) → length (chart_in name (stored_by variables chart) chart) ≡ chart_count chart
chart_length name variables [] = refl
chart_length name variables (e ∷ es) =
    let all : length (all_steps_in name 1 steps ++ flat_map (stored_in name) stored) ≡ steps_count steps + length (stored_names (associations_of steps)) =
    length-append (all_steps_in name 1 steps) (flat_map (stored_in name) stored) ∙ ap (λ n. n + length (flat_map (stored_in name) stored)) (steps_length name 1 steps)
    ∙ ap (λ n. steps_count steps + n) (stored_length name stored ∙ stored_by_count variables (e ∷ es)) in
    omega (arith, all) where
      steps : List Step
      steps = flat_map steps_in (e ∷ es)

      stored : List (List ℕ)
      stored = stored_by variables (e ∷ es)

-- ---- what variables consist of

mutual
  pub length_is_count : (c : Composition) → length (leaves_in c) ≡ count c
  length_is_count unknown = refl
  length_is_count (elementary v) = refl
  length_is_count (array ranges firsts c) =
      elements_length (subscript_lists ranges) firsts (leaves_in c) ∙ ap (λ n. n * length (leaves_in c)) (subscripts_length ranges) ∙ ap (λ n. extent ranges * n) (length_is_count c)
  length_is_count (composed name ms chart) =
      let own = chart_in name (stored_by (member_names ms) chart) chart in
      length-append (members_in name ms) own ∙ ap (λ n. n + length own) (length_is_counts name ms) ∙ ap (λ n. counts ms + n) (chart_length name (member_names ms) chart)
  length_is_count (standard b) = block_length b

  pub length_is_counts : (name : List ℕ) (ms : Members) → length (members_in name ms) ≡ counts ms
  length_is_counts name none = refl
  length_is_counts name (member n kind c ms) =
      length-append (within (field n) name (leaves_in c)) (members_in name ms) ∙ ap (λ k. k + length (members_in name ms)) (length_within (field n) name (leaves_in c) ∙ length_is_count c)
      ∙ ap (λ k. count c + k) (length_is_counts name ms)

-- ---- a whole has the paths of a part

input_paths : (s : Selector) (name : List ℕ) (leaves : List LeafIn) → paths (within s name (used_as var_kinds.Input leaves)) ≡ paths (within s name leaves)
input_paths s name [] = refl
input_paths s name (l ∷ leaves) = ap (λ ps. (s ∷ l.path) ∷ ps) (input_paths s name leaves)

used_paths : (s : Selector) (name : List ℕ) (kind : VarKind) (leaves : List LeafIn) → paths (within s name (used_as kind leaves)) ≡ paths (within s name leaves)
used_paths s name var_kinds.Input leaves = input_paths s name leaves
used_paths s name var_kinds.Internal leaves = refl
used_paths s name var_kinds.Constant leaves = refl
used_paths s name var_kinds.Output leaves = refl

paths_append : (xs ys : List LeafIn) → paths (xs ++ ys) ≡ paths xs ++ paths ys
paths_append xs ys = map-append (λ l. l.path) xs ys

variable_paths : (name : List ℕ) (ms : Members) → paths (variables_in name ms) ≡ paths (members_in name ms)
variable_paths name none = refl
variable_paths name (member n kind c ms) =
    paths_append (within (field n) name (used_as kind (leaves_in c))) (variables_in name ms) ∙ ap (λ ps. ps ++ paths (variables_in name ms)) (used_paths (field n) name kind (leaves_in c))
    ∙ ap (λ ps. paths (within (field n) name (leaves_in c)) ++ ps) (variable_paths name ms) ∙ sym (paths_append (within (field n) name (leaves_in c)) (members_in name ms))

pub whole_paths : (c : Composition) → paths (leaves_of_whole c) ≡ paths (leaves_in c)
whole_paths unknown = refl
whole_paths (elementary v) = refl
whole_paths (array ranges firsts c) = refl
whole_paths (composed name ms chart) =
    let own = chart_in name (stored_by (member_names ms) chart) chart in
    paths_append (variables_in name ms) own ∙ ap (λ ps. ps ++ paths own) (variable_paths name ms) ∙ sym (paths_append (members_in name ms) own)
whole_paths (standard b) = refl

whole_length : (c : Composition) → length (leaves_of_whole c) ≡ length (leaves_in c)
whole_length c = sym (length-map (leaves_of_whole c) (λ l. l.path)) ∙ ap length (whole_paths c) ∙ length-map (leaves_in c) (λ l. l.path)

pub leaves_are_counted : LeavesAreCounted
leaves_are_counted c = (length_is_count c, whole_length c ∙ length_is_count c)
