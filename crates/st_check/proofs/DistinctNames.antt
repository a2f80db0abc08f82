-- What variables consist of has distinct names, where the names of each unit are apart.
use Rattle.std.proofs.Common.{◌≡◌, ℕ, zero, suc, Bool, true, false, List, [], ◌∷◌, ◌++◌, if◌then◌else◌, Option, Some, None, map, length, refl, ap, sym, ◌∙◌, subst, append-nil, codes}
use Rattle.std.specs.Char.{to_ascii_uppercase}
use Rattle.std.specs.List.{flat_map}
use Rattle.std.proofs.lemmas.List.{map-append}
use Rattle.st_values.specs.Words.{is_word}
use Rattle.st_tree.specs.declared.tree.declaration.Declaration.{Declaration}
use Rattle.st_tree.specs.declared.tree.declaration.DeclaredType.TheVariants as declared_types
use Rattle.st_tree.specs.declared.tree.declaration.Initial.{Initial}
use Rattle.st_tree.specs.declared.tree.declaration.Initial.TheVariants as initials
use Rattle.st_tree.specs.declared.tree.declaration.Subrange.{Subrange}
use Rattle.st_tree.specs.declared.tree.declaration.VarBlock.{VarBlock}
use Rattle.st_tree.specs.declared.tree.declaration.VarKind.{VarKind}
use Rattle.st_tree.specs.declared.tree.declaration.VarKind.TheVariants as var_kinds
use Rattle.st_tree.specs.declared.tree.position.Identifier.{Identifier}
use Rattle.st_tree.specs.declared.tree.unit.ChartElement.{ChartElement}
use Rattle.st_tree.specs.declared.tree.unit.ChartElement.TheVariants as chart_elements
use Rattle.st_tree.specs.Kinds.{is_constant}
use Rattle.st_types.specs.Compositions.{Composition, unknown, elementary, array, composed, standard, Members, member, composition_of, composition_within, declared_composition, elements_composition, members_by, optional_composition, specified_composition, started, subscripted, unit_composition}
use Rattle.st_types.specs.Initials.{element_initial, initial_of, unit_element_initial}
use Rattle.st_types.specs.Names.{Declared, Declares, Named, chart_of, declared_in, members_of, steps_in, unit_at, variables_of}
use Rattle.st_types.specs.Names as names
use Rattle.st_types.specs.Types.{Elements, elements_in, shape_of}
use Rattle.st_types.specs.declared.base.Base.{Base}
use Rattle.st_types.specs.declared.base.Base.TheVariants as bases
use Rattle.st_leaves.specs.Distinct.{HasDistinctNames, HaveDistinctNames, step_names}
use Rattle.st_leaves.specs.LeavesIn.{member_names}
use Rattle.st_check_units.specs.Declarations.{declared_names}
use Rattle.st_check_units.specs.Repeats.{spellings}
use Rattle.st_check_units.specs.Units.{chart_names, element_names, variable_names}
use Rattle.st_check.proofs.Apart.{NamesAreApart}
use Rattle.st_leaves.proofs.Pairs.{Pairwise, all_pairs}
use Rattle.st_check.proofs.Thinned.{IsThinned, done, kept, left_out, pairwise_thinned, thinned_all, thinned_append, thinned_none}

-- ---- the names that a unit declares, as the rules compare them

abbrev pub own_names : Declares → List Identifier
own_names (names.type (declared_types.Derived specification initial)) = []
own_names (names.type (declared_types.Structure position members)) = declared_names members
own_names (names.function f) = variable_names f.variables
own_names (names.block b) = variable_names b.variables ++ chart_names (chart_of b.body)
own_names (names.program p) = variable_names p.variables ++ chart_names (chart_of p.body)

abbrev pub names_of : List Declared → List (List ℕ)
names_of vs = map (λ v. v.name.spelling) vs

of_declaration : (kind : VarKind) (d : Declaration) (ns : List Identifier)
    → names_of (map (λ n. record { name = n; kind = kind; specification = d.specification; initial = d.initial }) ns) ≡ spellings ns
of_declaration kind d [] = refl
of_declaration kind d (n ∷ ns) = ap (λ t. n.spelling ∷ t) (of_declaration kind d ns)

of_declarations : (kind : VarKind) (ds : List Declaration) → names_of (flat_map (declared_in kind) ds) ≡ spellings (declared_names ds)
of_declarations kind [] = refl
of_declarations kind (d ∷ ds) =
    map-append (λ v. v.name.spelling) (declared_in kind d) (flat_map (declared_in kind) ds) ∙ ap (λ t. t ++ names_of (flat_map (declared_in kind) ds)) (of_declaration kind d d.names)
    ∙ ap (λ t. spellings d.names ++ t) (of_declarations kind ds) ∙ sym (map-append (λ n. n.spelling) d.names (declared_names ds))

pub of_blocks : (blocks : List VarBlock) → names_of (variables_of blocks) ≡ spellings (variable_names blocks)
of_blocks [] = refl
of_blocks (b ∷ bs) =
    map-append (λ v. v.name.spelling) (flat_map (declared_in b.kind) b.declarations) (variables_of bs) ∙ ap (λ t. t ++ names_of (variables_of bs)) (of_declarations b.kind b.declarations)
    ∙ ap (λ t. spellings (declared_names b.declarations) ++ t) (of_blocks bs) ∙ sym (map-append (λ n. n.spelling) (declared_names b.declarations) (variable_names bs))

-- ---- the names in a whole are some of those

of_element : (e : ChartElement) → IsThinned (map (λ s. s.name.spelling) (steps_in e)) (spellings (element_names e))
of_element (chart_elements.Step s) = thinned_all (s.name.spelling ∷ [])
of_element (chart_elements.Transition t) = thinned_none (spellings (element_names (chart_elements.Transition t)))
of_element (chart_elements.Action a) = left_out done

of_chart : (elements : List ChartElement) → IsThinned (step_names elements) (spellings (chart_names elements))
of_chart [] = done
of_chart (e ∷ es) =
    rw (map-append (λ s. s.name.spelling) (steps_in e) (flat_map steps_in es), map-append (λ n. n.spelling) (element_names e) (chart_names es))
    (thinned_append (of_element e) (of_chart es))

module _ (units : List Named) (inside : Base → Composition) where
  -- one name more, where it is no constant's
  one_more : (is_left_out : Bool) (v : Declared) (vs : List Declared) → IsThinned (member_names (members_by units inside vs)) (names_of vs)
      → IsThinned (member_names (if is_left_out then members_by units inside vs else member v.name.spelling v.kind (declared_composition units inside v) (members_by units inside vs))) (names_of (v ∷ vs))
  one_more true v vs more = left_out more
  one_more false v vs more = kept more

  of_members : (vs : List Declared) → IsThinned (member_names (members_by units inside vs)) (names_of vs)
  of_members [] = done
  of_members (v ∷ vs) = one_more (is_constant v.kind) v vs (of_members vs)

-- ---- what consists of such

distinct_started : (initial : Option Initial) (c : Composition) → HasDistinctNames c → HasDistinctNames (started initial c)
distinct_started None c h = h
distinct_started (Some (initials.Constant k)) unknown h = h
distinct_started (Some (initials.Constant k)) (elementary v) h = tt
distinct_started (Some (initials.Constant k)) (array ranges firsts c) h = h
distinct_started (Some (initials.Constant k)) (composed name ms chart) h = h
distinct_started (Some (initials.Constant k)) (standard b) h = h
distinct_started (Some (initials.Array position items)) unknown h = h
distinct_started (Some (initials.Array position items)) (elementary v) h = h
distinct_started (Some (initials.Array position items)) (array ranges firsts c) h = h
distinct_started (Some (initials.Array position items)) (composed name ms chart) h = h
distinct_started (Some (initials.Array position items)) (standard b) h = h

distinct_subscripted : (ranges : Option (List Subrange)) (c : Composition) → HasDistinctNames c → HasDistinctNames (subscripted ranges c)
distinct_subscripted None c h = h
distinct_subscripted (Some ranges) c h = h

-- the names of each unit are apart
abbrev pub UnitsAreApart : List Named → Type 0
UnitsAreApart units = (i : ℕ) (u : Named) → unit_at units i ≡ Some u → NamesAreApart (own_names u.declares)

module _ (units : List Named) (inside : Base → Composition) (distinct : (base : Base) → HasDistinctNames (inside base)) where
  distinct_declared : (v : Declared) → HasDistinctNames (declared_composition units inside v)
  distinct_declared v =
      distinct_started (initial_of units v) (specified_composition units inside v)
      (distinct_subscripted (shape_of units v.specification).subscripts (started (element_initial units v.specification) (inside (shape_of units v.specification).base))
      (distinct_started (element_initial units v.specification) (inside (shape_of units v.specification).base) (distinct (shape_of units v.specification).base)))

  distinct_more : (is_left_out : Bool) (v : Declared) (ms : Members) → HaveDistinctNames ms
      → HaveDistinctNames (if is_left_out then ms else member v.name.spelling v.kind (declared_composition units inside v) ms)
  distinct_more true v ms more = more
  distinct_more false v ms more = (distinct_declared v, more)

  distinct_members : (vs : List Declared) → HaveDistinctNames (members_by units inside vs)
  distinct_members [] = tt
  distinct_members (v ∷ vs) = distinct_more (is_constant v.kind) v (members_by units inside vs) (distinct_members vs)

  -- of what is declared so, and its chart
  pub distinct_composed : (name : List ℕ) (vs : List Declared) (chart : List ChartElement) (ns : List Identifier) → names_of vs ≡ spellings ns
      → NamesAreApart (ns ++ chart_names chart) → HasDistinctNames (composed name (members_by units inside vs) chart)
  distinct_composed name vs chart ns same apart = (
    all_pairs (λ a b. is_word a b ≡ false) (member_names (members_by units inside vs) ++ step_names chart)
        (pairwise_thinned (λ a b. is_word a b ≡ false) (thinned_append (of_members units inside vs) (of_chart chart))
        (subst (Pairwise (λ a b. is_word a b ≡ false)) (map-append (λ n. n.spelling) ns (chart_names chart) ∙ ap (λ t. t ++ spellings (chart_names chart)) (sym same)) apart)),
    distinct_members vs,
  )

  distinct_unit : (name : List ℕ) (unit : Declares) → NamesAreApart (own_names unit) → HasDistinctNames (unit_composition units inside name unit)
  distinct_unit name (names.type (declared_types.Derived specification initial)) apart = distinct_composed name [] [] [] refl tt
  distinct_unit name (names.type (declared_types.Structure position members)) apart =
      distinct_composed name (members_of members) [] (declared_names members) (of_declarations var_kinds.Internal members)
      (subst NamesAreApart (sym (append-nil (declared_names members))) apart)
  distinct_unit name (names.function f) apart =
      distinct_composed name (variables_of f.variables) [] (variable_names f.variables) (of_blocks f.variables)
      (subst NamesAreApart (sym (append-nil (variable_names f.variables))) apart)
  distinct_unit name (names.block b) apart = distinct_composed name (variables_of b.variables) (chart_of b.body) (variable_names b.variables) (of_blocks b.variables) apart
  distinct_unit name (names.program p) apart = distinct_composed name (variables_of p.variables) (chart_of p.body) (variable_names p.variables) (of_blocks p.variables) apart

  distinct_optional : UnitsAreApart units → (i : ℕ) → HasDistinctNames (optional_composition units inside (unit_at units i))
  distinct_optional apart i = by (unit_at units i) refl
    where
      by : (unit : Option Named) → unit_at units i ≡ unit → HasDistinctNames (optional_composition units inside unit)
      by None is = tt
      by (Some unit) is = distinct_unit (map to_ascii_uppercase unit.name.spelling) unit.declares (apart i unit is)

  distinct_elements : (initial : Option Initial) (elements : Option Elements) → HasDistinctNames (elements_composition inside initial elements)
  distinct_elements initial None = tt
  distinct_elements initial (Some elements) = distinct_started initial (inside elements.element) (distinct elements.element)

pub distinct_within : (units : List Named) → UnitsAreApart units → (most : ℕ) (base : Base) → HasDistinctNames (composition_within units most base)
unfolding composition_within
distinct_within units apart zero base = tt
distinct_within units apart (suc most) bases.Unknown = tt
distinct_within units apart (suc most) (bases.Elementary e) = tt
distinct_within units apart (suc most) (bases.Array i) =
    distinct_elements units (composition_within units most) (distinct_within units apart most) (unit_element_initial units (unit_at units i)) (elements_in units (bases.Array i))
distinct_within units apart (suc most) (bases.Structure i) = distinct_optional units (composition_within units most) (distinct_within units apart most) apart i
distinct_within units apart (suc most) (bases.Block i) = distinct_optional units (composition_within units most) (distinct_within units apart most) apart i
distinct_within units apart (suc most) (bases.Standard b) = tt

pub distinct_of : (units : List Named) → UnitsAreApart units → (unit : Declares) → NamesAreApart (own_names unit) → HasDistinctNames (composition_of units unit)
unfolding composition_of
distinct_of units apart unit own =
    distinct_unit units (composition_within units (suc (length units))) (distinct_within units apart (suc (length units))) (codes "PROGRAM") unit own
