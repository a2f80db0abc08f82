-- Of the leaves that no operator may write, the flags of steps are those whose paths end with `X`.
use Rattle.std.proofs.Common.{◌≡◌, ℕ, ◌+◌, ℤ, ◌<◌, Bool, true, false, List, [], ◌∷◌, ◌++◌, codes, drop, length, Option, Some, None, refl, ap, sym, ◌∙◌, subst, arith}
use Rattle.std.specs.List.{AllByRecursion as Each, flat_map, list_any}
use Rattle.std.specs.Char.{to_ascii_uppercase}
use Rattle.std.proofs.lemmas.List.{length-append, length-map, map-append}
use Rattle.st_values.specs.Words.{raised}
use Rattle.st_tree.specs.declared.tree.constant.Constant.{Constant}
use Rattle.st_tree.specs.declared.tree.declaration.VarKind.{VarKind}
use Rattle.st_tree.specs.declared.tree.declaration.VarKind.TheVariants as var_kinds
use Rattle.st_tree.specs.declared.tree.unit.ChartElement.{ChartElement}
use Rattle.st_tree.specs.declared.tree.unit.Step.{Step}
use Rattle.st_types.specs.Compositions.{Composition, unknown, elementary, array, composed, standard, Members, none, member}
use Rattle.st_types.specs.Names.{steps_in}
use Rattle.st_types.specs.Standard.{Pin, pins_of, block_name, kept_by}
use Rattle.st_types.specs.declared.standard.StandardBlock.{StandardBlock}
use Rattle.st_types.specs.declared.standard.StandardBlock.TheVariants as blocks
use Rattle.st_leaves.specs.Charts.{is_pulse, stored_by}
use Rattle.st_values.specs.Values.{truth}
use Rattle.st_leaves.specs.LeavesIn.{LeafIn, Use, active, all_steps_in, as_input, begun, block_leaves, chart_in, elapsed, first_written, hidden, input, kept_leaf, leaves_in, member_names, members_in, one, pin_leaf, plain, pulsed, starting, state_in, step_in, stored_in, subscript_lists, used_as, within}
use Rattle.st_leaves.specs.LeavesIn as leaves
use Rattle.st_leaves.specs.Paths.{Selector, field, index, kept, path_text, selector_text}
use Rattle.st_leaves.specs.Flags.{IsTold, WholesTellFlags, is_open_use, last_of}

abbrev Told : List LeafIn → Type 0
Told = Each IsTold

told_both : (xs ys : List LeafIn) → Told xs → Told ys → Told (xs ++ ys)
told_both [] ys h k = k
told_both (x ∷ xs) ys h k = (h.0, told_both xs ys h.1 k)

told_each : {A : Type 0} (f : A → List LeafIn) → ((x : A) → Told (f x)) → (xs : List A) → Told (flat_map f xs)
told_each f h [] = tt
told_each f h (x ∷ xs) = told_both (f x) (flat_map f xs) (h x) (told_each f h xs)

-- what an operator may write tells nothing
open_told : (l : LeafIn) → is_open_use l.use' ≡ true → IsTold l
open_told l is = record { begins = λ shut. absurd (cc); flag = λ shut last. absurd (cc) }

-- ---- a longer way

last_behind : (front back : List ℕ) → 0 < length back → last_of (front ++ back) ≡ last_of back
last_behind [] back some = refl
last_behind (a ∷ []) [] some = absurd (omega (arith, some))
last_behind (a ∷ []) (b ∷ bs) some = refl
last_behind (a ∷ c ∷ front) back some = last_behind (c ∷ front) back some

pub last_raised : (front back : List ℕ) → 0 < length back → last_of (raised (front ++ back)) ≡ last_of (raised back)
last_raised front back some =
    ap last_of (map-append to_ascii_uppercase front back) ∙ last_behind (raised front) (raised back) (subst (λ (n : ℕ). 0 < n) (sym (length-map back to_ascii_uppercase)) some)

abbrev inside : Selector → List ℕ → LeafIn → LeafIn
inside s name l = record { path = s ∷ l.path; spine = name ∷ l.spine; initial = l.initial; use' = l.use' }

inside_told : (s : Selector) (name : List ℕ) (l : LeafIn) → IsTold l → IsTold (inside s name l)
inside_told s name l told = record {
  begins = λ shut. let some = told.begins shut in omega (arith, some, length-append (selector_text s) (path_text l.path));
  flag = λ shut last. told.flag shut (sym (last_raised (selector_text s) (path_text l.path) (told.begins shut)) ∙ last);
}

within_told : (s : Selector) (name : List ℕ) (ls : List LeafIn) → Told ls → Told (within s name ls)
within_told s name [] h = tt
within_told s name (l ∷ ls) h = (inside_told s name l h.0, within_told s name ls h.1)

starting_told : (c : Option Constant) (ls : List LeafIn) → Told ls → Told (starting c ls)
starting_told None ls h = h
starting_told (Some c) [] h = tt
starting_told (Some c) (l ∷ ls) h = (record { begins = h.0.begins; flag = h.0.flag }, starting_told (Some c) ls h.1)

elements_told : (lists : List (List ℤ)) (firsts : List (Option Constant)) (ls : List LeafIn) → Told ls → Told (leaves.elements_in lists firsts ls)
elements_told [] firsts ls h = tt
elements_told (is ∷ others) firsts ls h =
    told_both (within (index is) (codes "array") (starting (first_written firsts) ls)) (leaves.elements_in others (drop 1 firsts) ls)
    (within_told (index is) (codes "array") (starting (first_written firsts) ls) (starting_told (first_written firsts) ls h)) (elements_told others (drop 1 firsts) ls h)

-- ---- standard function blocks

-- a leaf whose path ends with another byte
other_told : (l : LeafIn) → 0 < length (path_text l.path) → (last_of (raised (path_text l.path)) ≡ 88 → ⊥) → IsTold l
other_told l some other = record { begins = λ shut. some; flag = λ shut last. absurd (other last) }

pins_told : (name : List ℕ) (p : Pin) → Told (pin_leaf name p)
pins_told name p = (open_told _ refl, tt)

kept_told : (b : StandardBlock) → Told (flat_map (kept_leaf (block_name b)) (kept_by b))
kept_told blocks.RTrig = (other_told _ (omega arith) (λ e. absurd (omega (arith, e))), tt)
kept_told blocks.FTrig = (other_told _ (omega arith) (λ e. absurd (omega (arith, e))), tt)
kept_told blocks.Sr = tt
kept_told blocks.Rs = tt
kept_told blocks.Ctu = (other_told _ (omega arith) (λ e. absurd (omega (arith, e))), tt)
kept_told blocks.Ctd = (other_told _ (omega arith) (λ e. absurd (omega (arith, e))), tt)
kept_told blocks.Ton = (other_told _ (omega arith) (λ e. absurd (omega (arith, e))), (other_told _ (omega arith) (λ e. absurd (omega (arith, e))), tt))
kept_told blocks.Tof =
    (other_told _ (omega arith) (λ e. absurd (omega (arith, e))), (other_told _ (omega arith) (λ e. absurd (omega (arith, e))), (other_told _ (omega arith) (λ e. absurd (omega (arith, e))), tt)))
kept_told blocks.Tp =
    (other_told _ (omega arith) (λ e. absurd (omega (arith, e))), (other_told _ (omega arith) (λ e. absurd (omega (arith, e))), (other_told _ (omega arith) (λ e. absurd (omega (arith, e))), tt)))

block_told : (b : StandardBlock) → Told (block_leaves b)
block_told b =
    told_both (flat_map (pin_leaf (block_name b)) (pins_of b)) (flat_map (kept_leaf (block_name b)) (kept_by b)) (told_each (pin_leaf (block_name b)) (pins_told (block_name b)) (pins_of b))
    (kept_told b)

-- ---- charts

state_told : (back : ℕ) (is_initial has_pulse : Bool) → Told (state_in back is_initial has_pulse)
state_told back is_initial true = (
  record { begins = λ shut. omega arith; flag = λ shut last. (back, refl) },
  (other_told _ (omega arith) (λ e. absurd (omega (arith, e))), (other_told _ (omega arith) (λ e. absurd (omega (arith, e))), (other_told _ (omega arith) (λ e. absurd (omega (arith, e))), tt))),
)
state_told back is_initial false = (
  record { begins = λ shut. omega arith; flag = λ shut last. (back, refl) },
  (other_told _ (omega arith) (λ e. absurd (omega (arith, e))), (other_told _ (omega arith) (λ e. absurd (omega (arith, e))), tt)),
)

steps_told : (name : List ℕ) (back : ℕ) (steps : List Step) → Told (all_steps_in name back steps)
steps_told name back [] = tt
steps_told name back (s ∷ steps) =
    told_both (step_in name back s) (all_steps_in name (back + length (step_in name back s)) steps)
    (within_told (field s.name.spelling) name (state_in back s.is_initial (list_any is_pulse s.associations)) (state_told back s.is_initial (list_any is_pulse s.associations)))
    (steps_told name (back + length (step_in name back s)) steps)

stored_told : (name stored : List ℕ) → Told (stored_in name stored)
stored_told name stored =
    within_told (field stored) name (one (kept (codes "S")) (codes "action") (truth false) hidden) (other_told _ (omega arith) (λ e. absurd (omega (arith, e))), tt)

chart_told : (name : List ℕ) (stored : List (List ℕ)) (chart : List ChartElement) → Told (chart_in name stored chart)
chart_told name stored [] = tt
chart_told name stored (e ∷ es) = (
  other_told _ (omega arith) (λ e. absurd (omega (arith, e))),
  told_both (all_steps_in name 1 (flat_map steps_in (e ∷ es))) (flat_map (stored_in name) stored) (steps_told name 1 (flat_map steps_in (e ∷ es)))
      (told_each (stored_in name) (stored_told name) stored),
)

-- ---- what variables consist of

mutual
  parts_told : (c : Composition) → Told (leaves_in c)
  parts_told unknown = tt
  parts_told (elementary v) = (open_told _ refl, tt)
  parts_told (array ranges firsts c) = elements_told (subscript_lists ranges) firsts (leaves_in c) (parts_told c)
  parts_told (composed name ms chart) =
      told_both (members_in name ms) (chart_in name (stored_by (member_names ms) chart) chart) (members_told name ms) (chart_told name (stored_by (member_names ms) chart) chart)
  parts_told (standard b) = block_told b

  members_told : (name : List ℕ) (ms : Members) → Told (members_in name ms)
  members_told name none = tt
  members_told name (member field' kind c ms) =
      told_both (within (field field') name (leaves_in c)) (members_in name ms) (within_told (field field') name (leaves_in c) (parts_told c)) (members_told name ms)

given_told : (l : LeafIn) → IsTold l → IsTold (record { path = l.path; spine = l.spine; initial = l.initial; use' = as_input l.use' })
given_told l told = by l.use' refl where
  same : (u : Use) → l.use' ≡ u → as_input u ≡ u → IsTold (record { path = l.path; spine = l.spine; initial = l.initial; use' = as_input l.use' })
  same u is stays = subst (λ (v : Use). IsTold (record { path = l.path; spine = l.spine; initial = l.initial; use' = v })) (is ∙ sym stays ∙ sym (ap as_input is)) told

  by : (u : Use) → l.use' ≡ u → IsTold (record { path = l.path; spine = l.spine; initial = l.initial; use' = as_input l.use' })
  by plain is = open_told _ (ap (λ (v : Use). is_open_use (as_input v)) is)
  by input is = open_told _ (ap (λ (v : Use). is_open_use (as_input v)) is)
  by hidden is = same hidden is refl
  by begun is = same begun is refl
  by (active n) is = same (active n) is refl
  by elapsed is = same elapsed is refl
  by (pulsed m n) is = same (pulsed m n) is refl

used_told : (kind : VarKind) (ls : List LeafIn) → Told ls → Told (used_as kind ls)
used_told var_kinds.Input [] h = tt
used_told var_kinds.Input (l ∷ ls) h = (given_told l h.0, used_told var_kinds.Input ls h.1)
used_told var_kinds.Internal ls h = h
used_told var_kinds.Constant ls h = h
used_told var_kinds.Output ls h = h

variables_told : (name : List ℕ) (ms : Members) → Told (leaves.variables_in name ms)
variables_told name none = tt
variables_told name (member field' kind c ms) =
    told_both (within (field field') name (used_as kind (leaves_in c))) (leaves.variables_in name ms)
    (within_told (field field') name (used_as kind (leaves_in c)) (used_told kind (leaves_in c) (parts_told c))) (variables_told name ms)

pub wholes_tell_flags : WholesTellFlags
wholes_tell_flags unknown = tt
wholes_tell_flags (elementary v) = parts_told (elementary v)
wholes_tell_flags (array ranges firsts c) = parts_told (array ranges firsts c)
wholes_tell_flags (composed name ms chart) =
    told_both (leaves.variables_in name ms) (chart_in name (stored_by (member_names ms) chart) chart) (variables_told name ms) (chart_told name (stored_by (member_names ms) chart) chart)
wholes_tell_flags (standard b) = block_told b
