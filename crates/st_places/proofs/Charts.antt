-- The charts of units, and the leaves of their steps, by the tables.
use Rattle.std.proofs.Common.{◌≡◌, ℕ, suc, ◌+◌, ◌≤◌, ◌<◌, Bool, true, false, ◌||◌, if◌then◌else◌, List, [], ◌∷◌, ◌++◌, append-nil, get_or, length, take, Option, Some, None, refl, ap, sym, ◌∙◌, subst, arith}
use Rattle.std.specs.Prelude.{min}
use Rattle.std.specs.List.{flat_map, list_any, slice_get}
use Rattle.std.specs.Option.{option_map, option_map_or}
use Rattle.std.proofs.lemmas.Grind.{flat_map-append}
use Rattle.std.proofs.lemmas.List.{map-append, take_more}
use Rattle.std.proofs.lemmas.Option.{same_Some}
use Rattle.st_types.specs.Tables.{first_of}
use Rattle.st_scopes.specs.Charts.{step_names}
use Rattle.st_tree.specs.declared.tree.unit.ChartElement.{ChartElement}
use Rattle.st_tree.specs.declared.tree.unit.Step.{Step}
use Rattle.st_types.proofs.Cases.{by_test}
use Rattle.st_types.specs.Compositions.{Composition, unknown, elementary, array, composed, standard}
use Rattle.st_types.specs.Names.{Declared, Named, chart_in, steps_in, unit_at, units_of}
use Rattle.st_values.specs.Words.{is_word}
use Rattle.st_leaves.specs.Charts.{is_pulse, step_types}
use Rattle.st_leaves.specs.Places.{chart_count, count, counts, step_count, steps_count}
use Rattle.st_meaning.specs.Offsets.{IsSmall, chart_offset, step_leaf, step_offset}
use Rattle.st_meaning.specs.Steps.{chart_within, steps_within}
use Rattle.st_meaning.specs.Units.{root_name}
use Rattle.st_places.specs.Charts.{HasSteps, leaf_of_step, offsets_from}
use Rattle.st_places.specs.Contents.{AreOf}
use Rattle.st_places.specs.Members.{member_count, members_count}
use Rattle.st_places.specs.Parts.{TablesView, chart_at, own_names, part_in, variables_among, whole_in, whole_part}
use Rattle.st_places.specs.declared.chart.Steps.{Steps}
use Rattle.st_places.specs.declared.node.Node.TheVariants as nodes
use Rattle.st_places.specs.declared.unit.UnitParts.{UnitParts}
use Rattle.st_places.proofs.Contents.{missing}
use Rattle.st_places.proofs.Lookups.{members_of, position-here, position-next, without_constants}
use Rattle.st_places.proofs.MemberContents.{names_by}
use Rattle.st_places.proofs.Roots.{charts_are_in_bodies, root_is}
use Rattle.st_places.proofs.Selections.{root_part}

-- ---- one step more

offsets_more : (next : ℕ) (steps : List Step) (s : Step) → offsets_from next (steps ++ s ∷ []) ≡ offsets_from next steps ++ min (next + steps_count steps) 1000000 ∷ []
offsets_more next [] s = ap (λ n. min n 1000000 ∷ []) (omega arith)
offsets_more next (t ∷ steps) s =
    ap (λ ns. min next 1000000 ∷ ns)
    (offsets_more (next + step_count t) steps s ∙ ap (λ n. offsets_from (next + step_count t) steps ++ min n 1000000 ∷ []) (omega arith))

count_more : (steps : List Step) (s : Step) → steps_count (steps ++ s ∷ []) ≡ steps_count steps + step_count s
count_more [] s = omega arith
count_more (t ∷ steps) s = omega (arith, count_more steps s)

pub steps_more : (steps : List Step) (s : Step) (old new : Steps) (offset : ℕ) → HasSteps steps old → new.names ≡ old.names ++ s.name.spelling ∷ [] → offset ≡ min old.next 1000000
    → new.offsets ≡ old.offsets ++ offset ∷ [] → new.next ≡ min (old.next + step_count s) 1000000 → HasSteps (steps ++ s ∷ []) new
steps_more steps s old new offset has names stands offsets next = record {
  names = names ∙ ap (λ ns. ns ++ s.name.spelling ∷ []) has.names ∙ sym (map-append (λ (t : Step). t.name.spelling) steps (s ∷ []));
  offsets =
      offsets ∙ ap (λ ns. ns ++ offset ∷ []) has.offsets ∙ ap (λ n. offsets_from 1 steps ++ n ∷ []) (omega (arith, stands, has.next))
      ∙ sym (offsets_more 1 steps s);
  next = omega (arith, next, has.next, count_more steps s);
}

-- the steps of one element more, which is one
pub one_more : (elements : List ChartElement) (i : ℕ) (e : ChartElement) (s : Step) → i < length elements → e ≡ get_or elements i e → steps_in e ≡ s ∷ []
    → flat_map steps_in (take (i + 1) elements) ≡ flat_map steps_in (take i elements) ++ s ∷ []
one_more elements i e s within at one =
    ap (flat_map steps_in) (take_more elements i e within) ∙ flat_map-append steps_in (take i elements) (get_or elements i e ∷ [])
    ∙ ap (λ (ss : List Step). flat_map steps_in (take i elements) ++ ss) (append-nil (steps_in (get_or elements i e)) ∙ ap steps_in (sym at) ∙ one)

-- ---- steps by their names

abbrev is_there : List Step → List ℕ → Bool
is_there steps name = list_any (λ s. is_word s.name.spelling name) steps

-- the first step of the name has this number, stands so far behind, and has leaves of its own
pub record IsStepAt (next : ℕ) (steps : List Step) (name : List ℕ) (k : ℕ) : Type 0 where
  pub there : is_there steps name ≡ true
  pub item : slice_get (offsets_from next steps) k ≡ Some (min (next + step_offset steps name) 1000000)
  pub within : step_offset steps name + 3 ≤ steps_count steps

abbrev pub IsFoundAt : ℕ → List Step → List ℕ → Option ℕ → Type 0
IsFoundAt next steps name None = is_there steps name ≡ false
IsFoundAt next steps name (Some k) = IsStepAt next steps name k

some_leaves : (s : Step) → 3 ≤ step_count s
some_leaves s = by (list_any is_pulse s.associations)
  where
    by : (b : Bool) → 3 ≤ length (step_types b)
    by true = omega arith
    by false = omega arith

here_found : (next : ℕ) (s : Step) (steps : List Step) (name : List ℕ) → is_word s.name.spelling name ≡ true → IsStepAt next (s ∷ steps) name 0
here_found next s steps name is =
    let first : step_offset (s ∷ steps) name ≡ 0 = ap (λ b. if b then 0 else (step_count s + step_offset steps name)) is in
    record {
      there = ap (λ b. b || is_there steps name) is;
      item = ap (λ n. Some (min n 1000000)) (omega (arith, first));
      within = omega (arith, first, some_leaves s);
    }

next_found : (next : ℕ) (s : Step) (steps : List Step) (name : List ℕ) (found : Option ℕ) → is_word s.name.spelling name ≡ false
    → IsFoundAt (next + step_count s) steps name found → IsFoundAt next (s ∷ steps) name (option_map suc found)
next_found next s steps name None other is = ap (λ b. b || is_there steps name) other ∙ is
next_found next s steps name (Some k) other is =
    let behind : step_offset (s ∷ steps) name ≡ step_count s + step_offset steps name = ap (λ b. if b then 0 else (step_count s + step_offset steps name)) other in
    record {
      there = ap (λ b. b || is_there steps name) other ∙ is.there;
      item = is.item ∙ ap (λ n. Some (min n 1000000)) (omega (arith, behind));
      within = omega (arith, behind, is.within);
    }

found_at : (name : List ℕ) (next : ℕ) (steps : List Step) → IsFoundAt next steps name (first_of (step_names steps) name)
found_at name next [] = refl
found_at name next (s ∷ steps) =
    by_test (is_word s.name.spelling name)
    (λ t. subst (IsFoundAt next (s ∷ steps) name) (sym (position-here (λ n. is_word n name) s.name.spelling (step_names steps) t)) (here_found next s steps name t))
    (λ t.
    subst (IsFoundAt next (s ∷ steps) name) (sym (position-next (λ n. is_word n name) s.name.spelling (step_names steps) t))
    (next_found next s steps name (first_of (step_names steps) name) t (found_at name (next + step_count s) steps)))

-- ---- where the leaves of a chart stand

-- the chart lies within the whole
before_chart : (c : Composition) → chart_offset c + chart_count (chart_within c) ≤ count c
before_chart unknown = omega arith
before_chart (elementary v) = omega arith
before_chart (array ranges firsts c) = omega arith
before_chart (composed name ms chart) = omega arith
before_chart (standard b) = omega arith

-- and so do its steps
steps_in_chart : (elements : List ChartElement) (name : List ℕ) → is_there (flat_map steps_in elements) name ≡ true → steps_count (flat_map steps_in elements) + 1 ≤ chart_count elements
steps_in_chart [] name there = absurd (cc)
steps_in_chart (e ∷ elements) name there = omega arith

-- the leaf of X of the first step of a name, and that of T
module _ (root : Composition) (name : List ℕ) (k offset leaf flag : ℕ) (is : IsStepAt 1 (steps_within root) name k) (small : count root ≤ 999999) (begun : leaf ≡ chart_offset root)
    (stands : offset ≡ min (1 + step_offset (steps_within root) name) 1000000) (behind : flag ≡ min (leaf + offset) 4294967295) where
  room : (flag ≡ step_leaf root false name) × (flag < 1000000)
  room =
      let whole = before_chart root in
      let steps = steps_in_chart (chart_within root) name is.there in
      (omega (arith, whole, steps, is.within, small, begun, stands, behind), omega (arith, whole, steps, is.within, small, begun, stands, behind))

  pub flag_is : Some flag ≡ leaf_of_step root false name
  flag_is = ap (λ n. Some n) room.0 ∙ sym (ap (λ b. if b then Some (step_leaf root false name) else None) is.there)

  pub time_is : (time : ℕ) → time ≡ min (flag + 1) 4294967295 → Some time ≡ leaf_of_step root true name
  time_is time after =
      let one = room in
      ap (λ n. Some n) (omega (arith, after, one.0, one.1)) ∙ sym (ap (λ b. if b then Some (step_leaf root true name) else None) is.there)

-- ---- in the tables

module _ (units : List Named) where
  members_counted : (vs : List Declared) → counts (members_of units vs) ≡ members_count units vs
  members_counted [] = refl
  members_counted (v ∷ vs) = ap (λ n. member_count units v + n) (members_counted vs)

  before_is : (u : Option Named) → chart_offset (whole_part units u) ≡ members_count units (variables_among (names_by units u))
  before_is None = refl
  before_is (Some u) =
      ap chart_offset (root_is units (root_name u.name.spelling u.declares) u.declares) ∙ ap counts (without_constants units (own_names u.declares))
      ∙ members_counted (variables_among (own_names u.declares))

  elements_are : (u : Option Named) → chart_within (whole_part units u) ≡ option_map_or chart_in (option_map (λ (x : Named). x.declares) u) []
  elements_are None = refl
  elements_are (Some u) = charts_are_in_bodies units u

  module _ (all : List UnitParts) (are : AreOf units all) (i : ℕ) where
    pub no_elements : slice_get all i ≡ None → [] ≡ chart_within (whole_part units (unit_at units i))
    no_elements is = sym (ap (λ u. chart_within (whole_part units u)) (missing units all are i is))

    pub no_chart : slice_get all i ≡ None → 0 ≡ chart_offset (whole_part units (unit_at units i))
    no_chart is = sym (ap (λ u. chart_offset (whole_part units u)) (missing units all are i is))

    pub no_unit : (is_time : Bool) (name : List ℕ) → slice_get all i ≡ None → None ≡ leaf_of_step (whole_part units (unit_at units i)) is_time name
    no_unit is_time name is = sym (ap (λ u. leaf_of_step (whole_part units u) is_time name) (missing units all are i is))

    module _ (parts : UnitParts) (is : slice_get all i ≡ Some parts) where
      pub known_elements : parts.chart.elements.now ≡ chart_within (whole_part units (unit_at units i))
      known_elements = (are.each i parts is).chart.elements ∙ sym (elements_are (unit_at units i))

      pub known_leaf : (leaf : ℕ) → leaf ≡ min parts.members.count 1000000 → count (whole_part units (unit_at units i)) ≤ 999999 → leaf ≡ chart_offset (whole_part units (unit_at units i))
      known_leaf leaf stands small =
          omega (arith, stands, small, (are.each i parts is).names.members.count, before_is (unit_at units i), before_chart (whole_part units (unit_at units i)))

      found : (name : List ℕ) → IsFoundAt 1 (steps_within (whole_part units (unit_at units i))) name (first_of parts.chart.steps.names name)
      found name =
          subst (λ elements. IsFoundAt 1 (flat_map steps_in elements) name (first_of parts.chart.steps.names name)) (sym (elements_are (unit_at units i)))
          (subst (λ ns. IsFoundAt 1 (flat_map steps_in (chart_at units i)) name (first_of ns name)) (sym (are.each i parts is).chart.steps.names) (found_at name 1 (flat_map steps_in (chart_at units i))))

      pub no_step : (is_time : Bool) (name : List ℕ) → first_of parts.chart.steps.names name ≡ None → None ≡ leaf_of_step (whole_part units (unit_at units i)) is_time name
      no_step is_time name none =
          sym (ap (λ b. if b then Some (step_leaf (whole_part units (unit_at units i)) is_time name) else None)
          (subst (IsFoundAt 1 (steps_within (whole_part units (unit_at units i))) name) none (found name)))

      module _ (name : List ℕ) (k : ℕ) (at : first_of parts.chart.steps.names name ≡ Some k) where
        pub step_at : IsStepAt 1 (steps_within (whole_part units (unit_at units i))) name k
        step_at = subst (IsFoundAt 1 (steps_within (whole_part units (unit_at units i))) name) at (found name)

        read : slice_get parts.chart.steps.offsets k ≡ Some (min (1 + step_offset (steps_within (whole_part units (unit_at units i))) name) 1000000)
        read =
            ap (λ offsets. slice_get offsets k) ((are.each i parts is).chart.steps.offsets ∙ ap (λ elements. offsets_from 1 (flat_map steps_in elements)) (sym (elements_are (unit_at units i))))
            ∙ step_at.item

        pub not_past : {A : Type 0} → slice_get parts.chart.steps.offsets k ≡ None → A
        not_past none = let there = read in absurd (cc)

        pub offset_is : (offset : ℕ) → slice_get parts.chart.steps.offsets k ≡ Some offset → offset ≡ min (1 + step_offset (steps_within (whole_part units (unit_at units i))) name) 1000000
        offset_is offset there = same_Some offset _ (sym there ∙ read)

pub elements_clause : (s t : TablesView) (unit : ℕ) (elements : List ChartElement) → s ≡ t → elements ≡ chart_within (whole_part (units_of s.text) (unit_at (units_of s.text) unit))
    → elements ≡ chart_within (whole_in t unit).variables
unfolding part_in
elements_clause s t unit elements same is = is ∙ ap (λ (x : TablesView). chart_within (part_in x (nodes.Whole unit))) same ∙ ap chart_within (root_part t unit)

pub leaf_clause : (s t : TablesView) (unit leaf : ℕ) → s ≡ t
    → (count (whole_part (units_of s.text) (unit_at (units_of s.text) unit)) ≤ 999999 → leaf ≡ chart_offset (whole_part (units_of s.text) (unit_at (units_of s.text) unit)))
    → IsSmall (whole_in t unit).variables → leaf ≡ chart_offset (whole_in t unit).variables
unfolding part_in
leaf_clause s t unit leaf same is small =
    let root : part_in s (nodes.Whole unit) ≡ (whole_in t unit).variables = ap (λ (x : TablesView). part_in x (nodes.Whole unit)) same ∙ root_part t unit in
    is (subst (λ c. count c ≤ 999999) (sym root) small.few) ∙ ap chart_offset root

pub step_clause : (s t : TablesView) (unit : ℕ) (is_time : Bool) (name : List ℕ) (found : Option ℕ) → s ≡ t
    → (count (whole_part (units_of s.text) (unit_at (units_of s.text) unit)) ≤ 999999 → found ≡ leaf_of_step (whole_part (units_of s.text) (unit_at (units_of s.text) unit)) is_time name)
    → IsSmall (whole_in t unit).variables → found ≡ leaf_of_step (whole_in t unit).variables is_time name
unfolding part_in
step_clause s t unit is_time name found same is small =
    let root : part_in s (nodes.Whole unit) ≡ (whole_in t unit).variables = ap (λ (x : TablesView). part_in x (nodes.Whole unit)) same ∙ root_part t unit in
    is (subst (λ c. count c ≤ 999999) (sym root) small.few) ∙ ap (λ c. leaf_of_step c is_time name) root
