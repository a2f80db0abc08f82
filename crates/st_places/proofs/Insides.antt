-- What a unit consists of, where what its variables are made of is given in two ways.
use Rattle.std.proofs.Common.{◌≡◌, ℕ, Bool, true, false, List, [], ◌∷◌, ◌++◌, refl, ap, ◌∙◌, subst, if◌then◌else◌}
use Rattle.std.proofs.lemmas.Grind.{flat_map-append}
use Rattle.std.specs.List.{All, flat_map}
use Rattle.st_tree.specs.declared.tree.declaration.DeclaredType.TheVariants as declared_types
use Rattle.st_tree.specs.declared.tree.declaration.VarKind.{VarKind}
use Rattle.st_tree.specs.declared.tree.unit.ChartElement.{ChartElement}
use Rattle.st_values.specs.declared.elem.Elem.{Elem}
use Rattle.st_check.proofs.Names.{of_shape}
use Rattle.st_references.proofs.Lists.{all_left, all_right}
use Rattle.st_references.specs.References.{contained, declared_names, unit_types}
use Rattle.st_tree.specs.Kinds.{is_constant}
use Rattle.st_types.specs.Compositions.{Composition, composed, Members, member, declared_composition, members_by, started, subscripted, unit_composition}
use Rattle.st_types.specs.Initials.{element_initial, initial_of}
use Rattle.st_types.specs.Names.{Declared, Declares, Named, chart_in, members_of, variables_in}
use Rattle.st_types.specs.Names as names
use Rattle.st_types.specs.Types.{shape_of, type_at}
use Rattle.st_types.specs.declared.base.Base.{Base}
use Rattle.st_types.specs.declared.base.Base.TheVariants as bases
use Rattle.st_types.specs.declared.standard.StandardBlock.{StandardBlock}

one_same : (is_left_out : Bool) (name : List ℕ) (kind : VarKind) (c d : Composition) (ms ns : Members) → c ≡ d → ms ≡ ns
    → (if is_left_out then ms else member name kind c ms) ≡ (if is_left_out then ns else member name kind d ns)
one_same true name kind c d ms ns same more = more
one_same false name kind c d ms ns same more = ap (λ (x : Composition). member name kind x ms) same ∙ ap (member name kind d) more

module _ (units : List Named) (f g : Base → Composition) (none : f bases.Unknown ≡ g bases.Unknown)
    (elementary : (e : Elem) → f (bases.Elementary e) ≡ g (bases.Elementary e)) (standard : (b : StandardBlock) → f (bases.Standard b) ≡ g (bases.Standard b)) where
  abbrev AreSame : ℕ → Type 0
  AreSame i = f (type_at units i) ≡ g (type_at units i)

  declared_same : (v : Declared) → All AreSame (flat_map (contained units) (declared_names v)) → declared_composition units f v ≡ declared_composition units g v
  declared_same v all =
      ap (λ (c : Composition). started (initial_of units v) (subscripted (shape_of units v.specification).subscripts (started (element_initial units v.specification) c)))
      (of_shape units (λ base. f base ≡ g base) none elementary standard v.specification all)

  variables_same : (vs : List Declared) → All AreSame (flat_map (contained units) (flat_map declared_names vs)) → members_by units f vs ≡ members_by units g vs
  variables_same [] all = refl
  variables_same (v ∷ vs) all =
      let apart : All AreSame (flat_map (contained units) (declared_names v) ++ flat_map (contained units) (flat_map declared_names vs)) =
      subst (All AreSame) (flat_map-append (contained units) (declared_names v) (flat_map declared_names vs)) all in
      one_same (is_constant v.kind) v.name.spelling v.kind (declared_composition units f v) (declared_composition units g v) (members_by units f vs) (members_by units g vs)
      (declared_same v (all_left AreSame (flat_map (contained units) (declared_names v)) (flat_map (contained units) (flat_map declared_names vs)) apart))
      (variables_same vs (all_right AreSame (flat_map (contained units) (declared_names v)) (flat_map (contained units) (flat_map declared_names vs)) apart))

  with_chart : (name : List ℕ) (vs : List Declared) (chart : List ChartElement) → All AreSame (flat_map (contained units) (flat_map declared_names vs))
      → composed name (members_by units f vs) chart ≡ composed name (members_by units g vs) chart
  with_chart name vs chart all = ap (λ ms. composed name ms chart) (variables_same vs all)

  pub unit_same : (name : List ℕ) (unit : Declares) → All AreSame (flat_map (contained units) (unit_types unit)) → unit_composition units f name unit ≡ unit_composition units g name unit
  unit_same name (names.type (declared_types.Derived specification initial)) all = refl
  unit_same name (names.type (declared_types.Structure position members)) all = with_chart name (members_of members) [] all
  unit_same name (names.function h) all = with_chart name (variables_in (names.function h)) (chart_in (names.function h)) all
  unit_same name (names.block b) all = with_chart name (variables_in (names.block b)) (chart_in (names.block b)) all
  unit_same name (names.program p) all = with_chart name (variables_in (names.program p)) (chart_in (names.program p)) all
