-- The size of what has a unit as its type.
use Rattle.std.proofs.Common.{◌≡◌, ℕ, ◌<◌, List, [], ◌++◌, length, Some, None, Result, Ok, Err, IfOk, refl, ap, sym, ◌∙◌, subst, option_map}
use Rattle.std.specs.List.{flat_map}
use Rattle.std.specs.Option.{option_map_or}
use Rattle.std.proofs.lemmas.List.{append-nil, map-append}
use Rattle.std.proofs.lemmas.Option.{same_Some}
use Rattle.st_tree.specs.declared.tree.declaration.DeclaredType.TheVariants as declared_types
use Rattle.st_leaves.specs.Charts.{chart_leaves, stored_of}
use Rattle.st_leaves.specs.Leaves.{array_leaves, declared_leaves, leaves_of, unit_leaves}
use Rattle.st_leaves.specs.Limits.{size_of, sizes_of}
use Rattle.st_leaves.specs.Sizes.{IsSize}
use Rattle.st_leaves.specs.declared.limited.Size.{Size}
use Rattle.st_scopes.specs.Declarations.{names_at, names_in}
use Rattle.st_types.specs.Inside.{declared_by, named_by}
use Rattle.st_types.specs.Names.{Declared, Declares, Named, chart_in, members_of, unit_at}
use Rattle.st_types.specs.Names as names
use Rattle.st_types.specs.Types.{Elements, elements_in}
use Rattle.st_types.specs.declared.base.Base.TheVariants as bases
use Rattle.st_types.specs.declared.unit.NamedUnit.{NamedUnit}
use Rattle.st_types.proofs.Units.{there}
use Rattle.st_check.specs.Sized.{made_leaves, own_leaves, type_leaves}

module _ (units : List Named) where
  -- what a unit declares, and then its chart
  in_order : (unit : Declares) → unit_leaves units (type_leaves units) unit ≡ flat_map (declared_leaves units (type_leaves units)) (names_in unit) ++ chart_leaves (stored_of unit) (chart_in unit)
  in_order (names.type (declared_types.Derived specification initial)) = refl
  in_order (names.type (declared_types.Structure position members)) = sym (append-nil (flat_map (declared_leaves units (type_leaves units)) (members_of members)))
  in_order (names.function f) = refl
  in_order (names.block b) = refl
  in_order (names.program p) = refl

  pub unit_sized : (i : ℕ) (read : NamedUnit) (u : Named) (vs : List Declared) (size : Size) → Some (named_by read) ≡ unit_at units i → unit_at units i ≡ Some u → vs ≡ names_at units i
      → IsSize size (sizes_of (flat_map (declared_leaves units (type_leaves units)) vs) ++ sizes_of (chart_leaves (stored_of (declared_by read.kind)) (chart_in (declared_by read.kind)))) → IsSize size (sizes_of (leaves_of units u.declares))
  unfolding leaves_of
  unit_sized i read u vs size at is declared sized =
      let same : declared_by read.kind ≡ u.declares = ap Named.declares (same_Some (named_by read) u (at ∙ is)) in
      let all : vs ≡ names_in u.declares = declared ∙ ap (λ unit. option_map_or names_in (option_map (λ (v : Named). v.declares) unit) []) is in
      subst (λ leaves. IsSize size (sizes_of leaves)) (sym (in_order u.declares))
      (subst (IsSize size) (sym (map-append size_of (flat_map (declared_leaves units (type_leaves units)) (names_in u.declares)) (chart_leaves (stored_of u.declares) (chart_in u.declares))))
      (subst (λ ds. IsSize size (sizes_of (flat_map (declared_leaves units (type_leaves units)) ds) ++ sizes_of (chart_leaves (stored_of u.declares) (chart_in u.declares)))) all
      (subst (λ unit. IsSize size (sizes_of (flat_map (declared_leaves units (type_leaves units)) vs) ++ sizes_of (chart_leaves (stored_of unit) (chart_in unit)))) same sized)))

  -- of an array
  pub array_sized : (i : ℕ) (e : Elements) (size : Size) → elements_in units (bases.Array i) ≡ Some e
      → IsSize size (sizes_of (array_leaves e.subscripts (type_leaves units e.element))) → IsSize size (sizes_of (own_leaves units i))
  array_sized i e size is sized = subst (λ elements. IsSize size (sizes_of (made_leaves units elements (unit_at units i)))) (sym is) sized

-- of what is no array
pub whole_sized : {E : Type 0} (units : List Named) (i : ℕ) (size : Result Size E) → i < length units → elements_in units (bases.Array i) ≡ None
    → IfOk size (λ s. (u : Named) → unit_at units i ≡ Some u → IsSize s (sizes_of (leaves_of units u.declares))) → IfOk size (λ s. IsSize s (sizes_of (own_leaves units i)))
unfolding leaves_of
whole_sized units i (Err e) below plain sized = tt
whole_sized units i (Ok s) below plain sized =
    let unit = there units i below in
    subst (λ elements. IsSize s (sizes_of (made_leaves units elements (unit_at units i)))) (sym plain)
    (subst (λ u. IsSize s (sizes_of (made_leaves units None u))) (sym unit.1) (sized unit.0 unit.1))
