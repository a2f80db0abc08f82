-- The leaves of a chart are as many, and of the types, as those of what it is without names (2.6).
use Rattle.std.proofs.Common.{◌≡◌, ℕ, suc, ◌+◌, Bool, true, false, List, [], ◌∷◌, ◌++◌, map, length, get_or, refl, ap, sym, ◌∙◌, arith, if◌then◌else◌}
use Rattle.std.specs.Prelude.{◌||◌}
use Rattle.std.specs.List.{flat_map, list_any}
use Rattle.std.proofs.lemmas.List.{length-map, map-append}
use Rattle.st_values.specs.Words.{is_word}
use Rattle.st_values.specs.declared.elem.Elem.{Elem}
use Rattle.st_values.specs.declared.elem.Elem.TheVariants as elems
use Rattle.st_tree.specs.declared.tree.unit.ChartElement.{ChartElement}
use Rattle.st_tree.specs.declared.tree.unit.Step.{Step}
use Rattle.st_types.specs.Compositions.{Composition, unknown, elementary, array, composed, standard, Members}
use Rattle.st_types.specs.Names.{steps_in}
use Rattle.st_leaves.specs.Charts.{associated_names, associations_of, is_pulse, stored_by, stored_names, step_types}
use Rattle.st_leaves.specs.LeavesIn.{LeafIn, all_steps_in, chart_in, member_names, members_in, state_in, step_in, stored_in, within}
use Rattle.st_leaves.specs.Paths.{Selector, field}
use Rattle.st_leaves.specs.Places.{IsPart, first, behind, LeadsTo, flag, time, chart_count, counts, step_count}
use Rattle.st_leaves.proofs.Numbers.{chart_length, length_is_counts}
use Rattle.st_leaves.proofs.Spellings.{stored_by_count}
use Rattle.st_meaning.specs.Offsets.{step_leaf, step_offset}
use Rattle.st_meaning.specs.Sketched.{number_among, sketch_of}
use Rattle.st_meaning.specs.Sketches.{chart_size, chart_types, steps_types}
use Rattle.st_meaning.specs.Sound.{HasChartLeaves, type_at}
use Rattle.st_meaning.specs.Steps.{has_step, step_elem, step_path}
use Rattle.st_meaning.proofs.LeafTypes.{elem_right}
use Rattle.st_meaning.proofs.Stretches.{elem_listed}

-- ---- the types of leaves, in order

abbrev elems_of : List LeafIn → List Elem
elems_of ls = map (λ l. l.initial.elem) ls

elems_within : (s : Selector) (name : List ℕ) (ls : List LeafIn) → elems_of (within s name ls) ≡ elems_of ls
elems_within s name [] = refl
elems_within s name (l ∷ ls) = ap (λ (es : List Elem). l.initial.elem ∷ es) (elems_within s name ls)

state_elems : (back : ℕ) (is_initial has_pulse : Bool) → elems_of (state_in back is_initial has_pulse) ≡ step_types has_pulse
state_elems back is_initial true = refl
state_elems back is_initial false = refl

abbrev pub pulses_of : List Step → List Bool
pulses_of steps = map (λ s. list_any is_pulse s.associations) steps

steps_elems : (name : List ℕ) (back : ℕ) (steps : List Step) → elems_of (all_steps_in name back steps) ≡ steps_types (pulses_of steps)
steps_elems name back [] = refl
steps_elems name back (s ∷ steps) =
    let has_pulse = list_any is_pulse s.associations in
    let rest = all_steps_in name (back + length (step_in name back s)) steps in
    map-append (λ (l : LeafIn). l.initial.elem) (step_in name back s) rest
    ∙ ap (λ (es : List Elem). es ++ elems_of rest) (elems_within (field s.name.spelling) name (state_in back s.is_initial has_pulse) ∙ state_elems back s.is_initial has_pulse)
    ∙ ap (λ (es : List Elem). step_types has_pulse ++ es) (steps_elems name (back + length (step_in name back s)) steps)

stored_elems : (name : List ℕ) (stored : List (List ℕ)) → elems_of (flat_map (stored_in name) stored) ≡ map (λ n. elems.Bool) stored
stored_elems name [] = refl
stored_elems name (n ∷ stored) = ap (λ (es : List Elem). elems.Bool ∷ es) (stored_elems name stored)

as_many_bools : {A B : Type 0} (xs : List A) (ys : List B) → length xs ≡ length ys → map (λ x. elems.Bool) xs ≡ map (λ y. elems.Bool) ys
as_many_bools [] [] h = refl
as_many_bools [] (y ∷ ys) h = absurd (omega (arith, h))
as_many_bools (x ∷ xs) [] h = absurd (omega (arith, h))
as_many_bools (x ∷ xs) (y ∷ ys) h = ap (λ (es : List Elem). elems.Bool ∷ es) (as_many_bools xs ys (omega (arith, h)))

-- ---- a chart

module _ (name : List ℕ) (ms : Members) (e : ChartElement) (es : List ChartElement) (root : Composition) where
  abbrev steps : List Step
  steps = flat_map steps_in (e ∷ es)

  abbrev stored : List (List ℕ)
  stored = stored_by (member_names ms) (e ∷ es)

  abbrev own : List LeafIn
  own = chart_in name stored (e ∷ es)

  chart_elems : elems_of own ≡ chart_types (sketch_of root (e ∷ es))
  chart_elems =
      let names = stored_names (associations_of steps) in
      let many : length stored ≡ length (map (number_among (associated_names (associations_of steps))) names) = stored_by_count (member_names ms) (e ∷ es) ∙ sym (length-map names (number_among (associated_names (associations_of steps)))) in
      ap (λ (ts : List Elem). elems.Bool ∷ ts)
      (map-append (λ (l : LeafIn). l.initial.elem) (all_steps_in name 1 steps) (flat_map (stored_in name) stored)
      ∙ ap (λ (ts : List Elem). ts ++ elems_of (flat_map (stored_in name) stored)) (steps_elems name 1 steps)
      ∙ ap (λ (ts : List Elem). steps_types (pulses_of steps) ++ ts) (stored_elems name stored ∙ as_many_bools stored (map (number_among (associated_names (associations_of steps))) names) many))

  size_is : chart_size (sketch_of root (e ∷ es)) ≡ chart_count (e ∷ es)
  size_is = ap length (sym chart_elems) ∙ length-map own (λ l. l.initial.elem) ∙ chart_length name (member_names ms) (e ∷ es)

  -- the leaf of this number behind the members
  own_type : (i : ℕ) → type_at (composed name ms (e ∷ es)) (counts ms + i) ≡ get_or (chart_types (sketch_of root (e ∷ es))) i elems.Bool
  own_type i =
      elem_right (members_in name ms) own (counts ms) i (length_is_counts name ms) ∙ elem_listed own i ∙ ap (λ (ts : List Elem). get_or ts i elems.Bool) chart_elems

  pub chart_leaves_are : HasChartLeaves (composed name ms (e ∷ es)) (sketch_of root (e ∷ es))
  chart_leaves_are = record { fits = omega (arith, size_is); types = λ i h. own_type i }

-- ---- its steps

step_part_of : (steps : List Step) (name : List ℕ) → list_any (λ s. is_word s.name.spelling name) steps ≡ true
    → IsPart (λ s. s.name.spelling) step_count name steps (step_offset steps name)
step_part_of [] name h = cc
step_part_of (s ∷ steps) name h = by (is_word s.name.spelling name) refl h (step_part_of steps name) where
  by : (b : Bool) → is_word s.name.spelling name ≡ b → (b || list_any (λ t. is_word t.name.spelling name) steps) ≡ true
      → (list_any (λ t. is_word t.name.spelling name) steps ≡ true → IsPart (λ t. t.name.spelling) step_count name steps (step_offset steps name))
      → IsPart (λ t. t.name.spelling) step_count name (s ∷ steps) (if b then 0 else (step_count s + step_offset steps name))
  by true q h more = first q
  by false q h more = behind q (more h)

-- behind the leaves of a step
types_behind : (p : Bool) (ts us : List Elem) (n : ℕ) → get_or ((step_types p ++ ts) ++ us) (length (step_types p) + n) elems.Bool ≡ get_or (ts ++ us) n elems.Bool
types_behind true ts us n = let e : 4 + n ≡ suc (suc (suc (suc n))) = omega arith in ap (λ m. get_or ((step_types true ++ ts) ++ us) m elems.Bool) e
types_behind false ts us n = let e : 3 + n ≡ suc (suc (suc n)) = omega arith in ap (λ m. get_or ((step_types false ++ ts) ++ us) m elems.Bool) e

-- the leaves that say whether a step is active, and for how long
abbrev AreStepTypes : List Elem → ℕ → Type 0
AreStepTypes ts n = (get_or ts n elems.Bool ≡ elems.Bool) × (get_or ts (n + 1) elems.Bool ≡ elems.Time)

first_types : (p : Bool) (ts us : List Elem) → AreStepTypes ((step_types p ++ ts) ++ us) 0
first_types true ts us = (refl, refl)
first_types false ts us = (refl, refl)

step_types_at : (steps : List Step) (us : List Elem) (name : List ℕ) → list_any (λ s. is_word s.name.spelling name) steps ≡ true
    → AreStepTypes (steps_types (pulses_of steps) ++ us) (step_offset steps name)
step_types_at [] us name h = cc
step_types_at (s ∷ steps) us name h = by (is_word s.name.spelling name) h (step_types_at steps us name) where
  by : (b : Bool) → (b || list_any (λ t. is_word t.name.spelling name) steps) ≡ true
      → (list_any (λ t. is_word t.name.spelling name) steps ≡ true → AreStepTypes (steps_types (pulses_of steps) ++ us) (step_offset steps name))
      → AreStepTypes (steps_types (pulses_of (s ∷ steps)) ++ us) (if b then 0 else (step_count s + step_offset steps name))
  by true h more = first_types (list_any is_pulse s.associations) (steps_types (pulses_of steps)) us
  by false h more =
      let p = list_any is_pulse s.associations in
      let ts = steps_types (pulses_of steps) in
      let n = step_offset steps name in
      let rest = more h in
      let e : step_count s + n + 1 ≡ length (step_types p) + (n + 1) = omega arith in
      (types_behind p ts us n ∙ rest.0, ap (λ m. get_or ((step_types p ++ ts) ++ us) m elems.Bool) e ∙ types_behind p ts us (n + 1) ∙ rest.1)

pub record StepLeads (root : Composition) (is_time : Bool) (name : List ℕ) : Type 0 where
  pub leads : LeadsTo root (step_path is_time name) (step_leaf root is_time name)
  pub type : type_at root (step_leaf root is_time name) ≡ step_elem is_time

-- a step that is there has both leaves
pub step_leads : (root : Composition) (is_time : Bool) (name : List ℕ) → has_step root name ≡ true → StepLeads root is_time name
step_leads unknown is_time name h = cc
step_leads (elementary v) is_time name h = cc
step_leads (array ranges firsts c) is_time name h = cc
step_leads (standard b) is_time name h = cc
step_leads (composed whole' ms []) is_time name h = cc
step_leads (composed whole' ms (e ∷ es)) false name h =
    let n = step_offset (flat_map steps_in (e ∷ es)) name in
    let types = chart_types (sketch_of unknown (e ∷ es)) in
    let next : 1 + n ≡ suc n = omega arith in
    record {
      leads = flag (step_part_of (flat_map steps_in (e ∷ es)) name h) refl;
      type = own_type whole' ms e es unknown (1 + n) ∙ ap (λ m. get_or types m elems.Bool) next
          ∙ (step_types_at (flat_map steps_in (e ∷ es)) _ name h).0;
    }
step_leads (composed whole' ms (e ∷ es)) true name h =
    let n = step_offset (flat_map steps_in (e ∷ es)) name in
    let types = chart_types (sketch_of unknown (e ∷ es)) in
    let next : 1 + (n + 1) ≡ suc (n + 1) = omega arith in
    record {
      leads = time (step_part_of (flat_map steps_in (e ∷ es)) name h) refl;
      type = own_type whole' ms e es unknown (1 + (n + 1)) ∙ ap (λ m. get_or types m elems.Bool) next
          ∙ (step_types_at (flat_map steps_in (e ∷ es)) _ name h).1;
    }
