-- The size of what a variable is made of.
use Rattle.std.proofs.Common.{◌≡◌, ℕ, List, [], ◌∷◌, ◌++◌, Option, Some, None, refl, ap, sym, subst, option_map}
use Rattle.std.specs.List.{All, flat_map}
use Rattle.std.specs.Option.{option_map_or}
use Rattle.std.proofs.lemmas.Grind.{flat_map-append}
use Rattle.std.proofs.lemmas.List.Elements.{All-cons, All-nil}
use Rattle.std.proofs.lemmas.Option.{same_Some}
use Rattle.st_values.specs.Types.{width_of}
use Rattle.st_values.specs.declared.elem.Elem.{Elem}
use Rattle.st_tree.specs.declared.tree.declaration.DeclaredType.TheVariants as declared_types
use Rattle.st_tree.specs.declared.tree.declaration.Specification.{Specification}
use Rattle.st_tree.specs.declared.tree.declaration.Specification.TheVariants as specifications
use Rattle.st_tree.specs.declared.tree.declaration.TypeName.{TypeName}
use Rattle.st_leaves.specs.Leaves.{leaves_within, standard_leaves}
use Rattle.st_leaves.specs.Limits.{sizes_of}
use Rattle.st_references.specs.References.{contained, declared_names, specified_names, type_names_in, unit_types}
use Rattle.st_leaves.specs.Sizes.{IsSize, leaf}
use Rattle.st_leaves.specs.declared.limited.Size.{Size}
use Rattle.st_scopes.specs.Declarations.{names_at, names_in}
use Rattle.st_types.specs.Names.{Declared, Declares, Named, members_of, unit_at, variables_of}
use Rattle.st_types.specs.Names as names
use Rattle.st_types.specs.Types.{Elements, declared_elements, elements_in, name_stands_for, optional_elements, shape_of, specified_elements, type_at, type_named}
use Rattle.st_types.specs.declared.base.Base.{Base}
use Rattle.st_types.specs.declared.base.Base.TheVariants as bases
use Rattle.st_types.specs.declared.standard.StandardBlock.{StandardBlock}
use Rattle.st_check.specs.Sized.{AreSized, IsSized, type_leaves}
use Rattle.st_references.proofs.Lists.{all_left, all_right}
use Rattle.st_check.proofs.Names.{of_name, of_shape}
use Rattle.st_references.proofs.Contents.{contents, of_contents}

-- ---- types that no unit declares

pub unknown_size : (units : List Named) (base : Base) (size : Size) → base ≡ bases.Unknown → IsSize size [] → IsSize size (sizes_of (type_leaves units base))
unfolding leaves_within
unknown_size units base size is sized = subst (λ b. IsSize size (sizes_of (type_leaves units b))) (sym is) sized

pub elementary_size : (units : List Named) (base : Base) (e : Elem) (size : Size) → base ≡ bases.Elementary e → IsSize size (leaf 0 (width_of e) ∷ []) → IsSize size (sizes_of (type_leaves units base))
unfolding leaves_within
elementary_size units base e size is sized = subst (λ b. IsSize size (sizes_of (type_leaves units b))) (sym is) sized

pub standard_size : (units : List Named) (base : Base) (b : StandardBlock) (size : Size) → base ≡ bases.Standard b → IsSize size (sizes_of (standard_leaves b)) → IsSize size (sizes_of (type_leaves units base))
unfolding leaves_within
standard_size units base b size is sized = subst (λ b. IsSize size (sizes_of (type_leaves units b))) (sym is) sized

-- ---- the types that a unit names

module _ (units : List Named) (sizes : List Size) (i : ℕ) (u : Named) (is : unit_at units i ≡ Some u) (all : AreSized units sizes i) where
  contents_sized : All (λ j. IsSized units sizes (type_at units j)) (contents units u)
  contents_sized = of_contents units (λ j. IsSized units sizes (type_at units j)) i u is all

module _ (units : List Named) (sizes : List Size) where
  unknown_sized : IsSized units sizes bases.Unknown
  unknown_sized i is = absurd (cc)

  elementary_sized : (e : Elem) → IsSized units sizes (bases.Elementary e)
  elementary_sized e i is = absurd (cc)

  standard_sized : (b : StandardBlock) → IsSized units sizes (bases.Standard b)
  standard_sized b i is = absurd (cc)

  abbrev IsUnitSized : ℕ → Type 0
  IsUnitSized j = IsSized units sizes (type_at units j)

  abbrev AreContentsSized : List (List ℕ) → Type 0
  AreContentsSized names = All IsUnitSized (flat_map (contained units) names)

  name_sized : (t : TypeName) → AreContentsSized (type_names_in t) → IsSized units sizes (name_stands_for (type_named units) t)
  name_sized t all = of_name units (IsSized units sizes) unknown_sized elementary_sized standard_sized t all

  -- what a variable is made of
  abbrev pub IsShapeSized : Declared → Type 0
  IsShapeSized v = IsSized units sizes (shape_of units v.specification).base

  shape_sized : (v : Declared) → AreContentsSized (declared_names v) → IsShapeSized v
  shape_sized v all = of_shape units (IsSized units sizes) unknown_sized elementary_sized standard_sized v.specification all

  shapes_sized : (vs : List Declared) → AreContentsSized (flat_map declared_names vs) → All IsShapeSized vs
  shapes_sized [] all = All-nil IsShapeSized
  shapes_sized (v ∷ vs) all =
      let apart : All IsUnitSized (flat_map (contained units) (declared_names v) ++ flat_map (contained units) (flat_map declared_names vs)) =
      subst (All IsUnitSized) (flat_map-append (contained units) (declared_names v) (flat_map declared_names vs)) all in
      All-cons IsShapeSized v vs (shape_sized v (all_left IsUnitSized (flat_map (contained units) (declared_names v)) (flat_map (contained units) (flat_map declared_names vs)) apart))
      (shapes_sized vs (all_right IsUnitSized (flat_map (contained units) (declared_names v)) (flat_map (contained units) (flat_map declared_names vs)) apart))

  -- what a unit declares
  names_sized : (unit : Declares) → AreContentsSized (unit_types unit) → All IsShapeSized (names_in unit)
  names_sized (names.type (declared_types.Derived specification initial)) all = All-nil IsShapeSized
  names_sized (names.type (declared_types.Structure position members)) all = shapes_sized (members_of members) all
  names_sized (names.function f) all = shapes_sized (variables_of f.variables) all
  names_sized (names.block b) all = shapes_sized (variables_of b.variables) all
  names_sized (names.program p) all = shapes_sized (variables_of p.variables) all

  optional_names_sized : (i : ℕ) (unit : Option Named) → unit_at units i ≡ unit → AreSized units sizes i → All IsShapeSized (option_map_or names_in (option_map (λ (u : Named). u.declares) unit) [])
  optional_names_sized i None is all = All-nil IsShapeSized
  optional_names_sized i (Some u) is all = names_sized u.declares (contents_sized units sizes i u is all)

  pub variables_sized : (i : ℕ) → AreSized units sizes i → All IsShapeSized (names_at units i)
  variables_sized i all = optional_names_sized i (unit_at units i) refl all

  -- the elements of an array
  specified_elements_sized : (s : Specification) (e : Elements) → specified_elements units s ≡ Some e → AreContentsSized (specified_names s) → IsSized units sizes e.element
  specified_elements_sized (specifications.Simple t) e is all = absurd (cc)
  specified_elements_sized (specifications.Array position ranges t) e is all =
      let same : name_stands_for (type_named units) t ≡ e.element = ap Elements.element (same_Some _ e is) in
      subst (IsSized units sizes) same (name_sized t all)

  declared_elements_sized : (unit : Declares) (e : Elements) → declared_elements units unit ≡ Some e → AreContentsSized (unit_types unit) → IsSized units sizes e.element
  declared_elements_sized (names.type (declared_types.Derived specification initial)) e is all = specified_elements_sized specification e is all
  declared_elements_sized (names.type (declared_types.Structure position members)) e is all = absurd (cc)
  declared_elements_sized (names.function f) e is all = absurd (cc)
  declared_elements_sized (names.block b) e is all = absurd (cc)
  declared_elements_sized (names.program p) e is all = absurd (cc)

  optional_elements_sized : (i : ℕ) (unit : Option Named) (e : Elements) → unit_at units i ≡ unit → optional_elements units unit ≡ Some e → AreSized units sizes i → IsSized units sizes e.element
  optional_elements_sized i None e is array all = absurd (cc)
  optional_elements_sized i (Some u) e is array all = declared_elements_sized u.declares e array (contents_sized units sizes i u is all)

  pub elements_sized : (i : ℕ) (e : Elements) → elements_in units (bases.Array i) ≡ Some e → AreSized units sizes i → IsSized units sizes e.element
  elements_sized i e array all = optional_elements_sized i (unit_at units i) e refl array all
