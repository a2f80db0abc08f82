-- Leaves of a unit, where the leaves of what its variables are made of are given in two ways.
use Rattle.std.proofs.Common.{◌≡◌, ℕ, List, [], ◌++◌, codes, Option, Some, None, refl, ap, subst, if◌then◌else◌}
use Rattle.std.specs.List.{All, flat_map}
use Rattle.st_tree.specs.declared.tree.declaration.DeclaredType.TheVariants as declared_types
use Rattle.st_tree.specs.declared.tree.declaration.Subrange.{Subrange}
use Rattle.st_values.specs.declared.elem.Elem.{Elem}
use Rattle.st_leaves.specs.Charts.{LeafBelow, below, chart_leaves, stored_of}
use Rattle.st_tree.specs.Kinds.{is_constant}
use Rattle.st_leaves.specs.Leaves.{array_leaves, declared_leaves, shape_leaves, unit_leaves}
use Rattle.st_references.specs.References.{contained, declared_names, unit_types}
use Rattle.st_references.proofs.Names.{flat_map-flat_map}
use Rattle.st_types.specs.Names.{Declared, Declares, Named, chart_in, members_of, variables_in}
use Rattle.st_types.specs.Names as names
use Rattle.st_types.specs.Types.{shape_of, type_at}
use Rattle.st_types.specs.declared.base.Base.{Base}
use Rattle.st_types.specs.declared.base.Base.TheVariants as bases
use Rattle.st_types.specs.declared.standard.StandardBlock.{StandardBlock}
use Rattle.st_check.proofs.Lists.{flat_map-same}
use Rattle.st_check.proofs.Names.{of_shape}

module _ (units : List Named) (f g : Base → List LeafBelow) (none : f bases.Unknown ≡ g bases.Unknown)
    (elementary : (e : Elem) → f (bases.Elementary e) ≡ g (bases.Elementary e)) (standard : (b : StandardBlock) → f (bases.Standard b) ≡ g (bases.Standard b)) where
  shape_same : (ranges : Option (List Subrange)) (base : Base) → f base ≡ g base → shape_leaves f ranges base ≡ shape_leaves g ranges base
  shape_same None base same = same
  shape_same (Some ranges) base same = ap (array_leaves ranges) same

  abbrev AreSame : ℕ → Type 0
  AreSame i = f (type_at units i) ≡ g (type_at units i)

  declared_same : (v : Declared) → All AreSame (flat_map (contained units) (declared_names v)) → declared_leaves units f v ≡ declared_leaves units g v
  declared_same v all =
      ap (λ leaves. if is_constant v.kind then [] else below (codes "." ++ v.name.spelling) leaves)
      (shape_same (shape_of units v.specification).subscripts (shape_of units v.specification).base (of_shape units (λ base. f base ≡ g base) none elementary standard v.specification all))

  variables_same : (vs : List Declared) → All AreSame (flat_map (contained units) (flat_map declared_names vs)) → flat_map (declared_leaves units f) vs ≡ flat_map (declared_leaves units g) vs
  variables_same vs all =
      flat_map-same AreSame (λ v. flat_map (contained units) (declared_names v)) (declared_leaves units f) (declared_leaves units g) declared_same vs
      (subst (All AreSame) (flat_map-flat_map (contained units) declared_names vs) all)

  with_chart : (unit : Declares) → All AreSame (flat_map (contained units) (flat_map declared_names (variables_in unit)))
      → flat_map (declared_leaves units f) (variables_in unit) ++ chart_leaves (stored_of unit) (chart_in unit) ≡ flat_map (declared_leaves units g) (variables_in unit) ++ chart_leaves (stored_of unit) (chart_in unit)
  with_chart unit all = ap (λ leaves. leaves ++ chart_leaves (stored_of unit) (chart_in unit)) (variables_same (variables_in unit) all)

  pub unit_same : (unit : Declares) → All AreSame (flat_map (contained units) (unit_types unit)) → unit_leaves units f unit ≡ unit_leaves units g unit
  unit_same (names.type (declared_types.Derived specification initial)) all = refl
  unit_same (names.type (declared_types.Structure position members)) all = variables_same (members_of members) all
  unit_same (names.function h) all = with_chart (names.function h) all
  unit_same (names.block b) all = with_chart (names.block b) all
  unit_same (names.program p) all = with_chart (names.program p) all
