-- The ways to the leaves of each part, in groups by what they begin with.
use Rattle.std.proofs.Common.{◌≡◌, ℕ, ◌+◌, ℤ, Bool, true, false, Option, Some, None, List, [], ◌∷◌, ◌++◌, map, codes, length, drop, refl, ap, ◌∙◌}
use Rattle.std.specs.List.{flat_map, list_any}
use Rattle.std.proofs.lemmas.List.{map-append}
use Rattle.st_tree.specs.declared.tree.constant.Constant.{Constant}
use Rattle.st_tree.specs.declared.tree.declaration.VarKind.{VarKind}
use Rattle.st_tree.specs.declared.tree.declaration.VarKind.TheVariants as var_kinds
use Rattle.st_tree.specs.declared.tree.unit.Step.{Step}
use Rattle.st_types.specs.Compositions.{Members, none, member}
use Rattle.st_leaves.specs.Charts.{is_pulse}
use Rattle.st_leaves.specs.LeavesIn.{LeafIn, all_steps_in, elements_in, first_written, leaves_in, members_in, starting, state_in, step_in, stored_in, used_as, variables_in, within}
use Rattle.st_leaves.specs.Paths.{Path, Selector, field, index, kept}
use Rattle.st_leaves.proofs.Groups.{behind, grouped}

abbrev pub ways : List LeafIn → List Path
ways leaves = map (λ (l : LeafIn). l.path) leaves

-- the ways that begin with one selector, without it
abbrev pub Group : Type 0
Group = Selector × List Path

-- ---- what changes no way, or adds to each

pub within_ways : (s : Selector) (name : List ℕ) (leaves : List LeafIn) → ways (within s name leaves) ≡ behind s (ways leaves)
within_ways s name [] = refl
within_ways s name (l ∷ ls) = ap (λ ps. (s ∷ l.path) ∷ ps) (within_ways s name ls)

starting_ways : (c : Option Constant) (leaves : List LeafIn) → ways (starting c leaves) ≡ ways leaves
starting_ways None leaves = refl
starting_ways (Some c) [] = refl
starting_ways (Some c) (l ∷ ls) = ap (λ ps. l.path ∷ ps) (starting_ways (Some c) ls)

used_ways : (kind : VarKind) (leaves : List LeafIn) → ways (used_as kind leaves) ≡ ways leaves
used_ways var_kinds.Input [] = refl
used_ways var_kinds.Input (l ∷ ls) = ap (λ ps. l.path ∷ ps) (used_ways var_kinds.Input ls)
used_ways var_kinds.Internal leaves = refl
used_ways var_kinds.Constant leaves = refl
used_ways var_kinds.Output leaves = refl

-- one group before others
joined : (s : Selector) (name : List ℕ) (leaves more : List LeafIn) (ps : List Path) (gs : List Group) → ways leaves ≡ ps → ways more ≡ grouped gs
    → ways (within s name leaves ++ more) ≡ grouped ((s, ps) ∷ gs)
joined s name leaves more ps gs first others =
    map-append (λ (l : LeafIn). l.path) (within s name leaves) more ∙ ap (λ qs. qs ++ ways more) (within_ways s name leaves ∙ ap (behind s) first) ∙ ap (λ qs. behind s ps ++ qs) others

-- ---- arrays

abbrev pub element_groups : List (List ℤ) → List Path → List Group
element_groups lists ps = map (λ (is : List ℤ). (index is, ps)) lists

pub elements_ways : (lists : List (List ℤ)) (firsts : List (Option Constant)) (leaves : List LeafIn) → ways (elements_in lists firsts leaves) ≡ grouped (element_groups lists (ways leaves))
elements_ways [] firsts leaves = refl
elements_ways (is ∷ others) firsts leaves =
    joined (index is) (codes "array") (starting (first_written firsts) leaves) (elements_in others (drop 1 firsts) leaves) (ways leaves) (element_groups others (ways leaves))
    (starting_ways (first_written firsts) leaves) (elements_ways others (drop 1 firsts) leaves)

-- ---- members

abbrev pub member_groups : Members → List Group
member_groups none = []
member_groups (member name kind c ms) = (field name, ways (leaves_in c)) ∷ member_groups ms

pub members_ways : (name : List ℕ) (ms : Members) → ways (members_in name ms) ≡ grouped (member_groups ms)
members_ways name none = refl
members_ways name (member field' kind c ms) = joined (field field') name (leaves_in c) (members_in name ms) (ways (leaves_in c)) (member_groups ms) refl (members_ways name ms)

pub variables_ways : (name : List ℕ) (ms : Members) → ways (variables_in name ms) ≡ grouped (member_groups ms)
variables_ways name none = refl
variables_ways name (member field' kind c ms) =
    joined (field field') name (used_as kind (leaves_in c)) (variables_in name ms) (ways (leaves_in c)) (member_groups ms) (used_ways kind (leaves_in c)) (variables_ways name ms)

-- ---- charts

-- what a step keeps, and whether it has pulses
abbrev pub state_ways : Bool → List Path
state_ways has_pulse = ways (state_in 0 false has_pulse)

state_same : (back : ℕ) (is_initial has_pulse : Bool) → ways (state_in back is_initial has_pulse) ≡ state_ways has_pulse
state_same back is_initial true = refl
state_same back is_initial false = refl

abbrev pub step_group : Step → Group
step_group s = (field s.name.spelling, state_ways (list_any is_pulse s.associations))

pub steps_ways : (name : List ℕ) (back : ℕ) (steps : List Step) → ways (all_steps_in name back steps) ≡ grouped (map step_group steps)
steps_ways name back [] = refl
steps_ways name back (s ∷ steps) =
    joined (field s.name.spelling) name (state_in back s.is_initial (list_any is_pulse s.associations)) (all_steps_in name (back + length (step_in name back s)) steps)
    (state_ways (list_any is_pulse s.associations)) (map step_group steps) (state_same back s.is_initial (list_any is_pulse s.associations))
    (steps_ways name (back + length (step_in name back s)) steps)

-- what is kept of a name that is stored
abbrev pub stored : Path
stored = kept (codes "S") ∷ []

abbrev pub stored_way : List ℕ → Path
stored_way name = field name ∷ stored

pub stored_ways : (name : List ℕ) (names : List (List ℕ)) → ways (flat_map (stored_in name) names) ≡ map stored_way names
stored_ways name [] = refl
stored_ways name (n ∷ ns) = ap (λ ps. stored_way n ∷ ps) (stored_ways name ns)
