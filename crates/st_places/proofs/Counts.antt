-- How many leaves parts have.
use Rattle.std.proofs.Common.{◌≡◌, ℕ, suc, List, length, Option, Some, None, refl, ap, sym, ◌∙◌, subst, arith, ◌⊎◌, inl, inr}
use Rattle.std.specs.Prelude.{min}
use Rattle.std.proofs.lemmas.List.{length-map}
use Rattle.st_tree.specs.declared.tree.declaration.Subrange.{Subrange}
use Rattle.st_types.specs.Compositions.{Composition, composition_within, started, subscripted}
use Rattle.st_types.specs.Initials.{element_initial, initial_of}
use Rattle.st_types.specs.Names.{Declared, Named}
use Rattle.st_types.specs.Types.{shape_of}
use Rattle.st_types.specs.declared.base.Base.{Base}
use Rattle.st_types.specs.declared.base.Base.TheVariants as bases
use Rattle.st_types.specs.declared.standard.StandardBlock.{StandardBlock}
use Rattle.st_values.specs.declared.elem.Elem.{Elem}
use Rattle.st_leaves.specs.Compositions.{counted}
use Rattle.st_leaves.specs.Leaves.{leaves_within, standard_leaves}
use Rattle.st_leaves.specs.LeavesIn.{leaves_in}
use Rattle.st_leaves.specs.Limits.{size_of, sizes_of}
use Rattle.st_leaves.specs.Places.{count}
use Rattle.st_leaves.proofs.Composed.{leaves_of_bases}
use Rattle.st_leaves.proofs.Numbers.{length_is_count}
use Rattle.st_leaves.proofs.Started.{started_count}
use Rattle.st_check.specs.Sized.{IsSized, size_at, type_leaves, unit_of}
use Rattle.st_leaves.specs.Sizes.{IsSize}
use Rattle.st_leaves.specs.declared.limited.Size.{Size}
use Rattle.st_places.specs.Members.{member_count, shape_count}
use Rattle.st_places.specs.Parts.{inside}

-- ---- types

module _ (units : List Named) where
  pub type_count : (base : Base) → length (sizes_of (type_leaves units base)) ≡ count (inside units base)
  type_count base =
      length-map (type_leaves units base) size_of ∙ ap length (leaves_of_bases units (suc (length units)) base)
      ∙ length-map (leaves_in (inside units base)) counted ∙ length_is_count (inside units base)

  pub sized_count : (base : Base) (size : Size) → IsSize size (sizes_of (type_leaves units base)) → size.leaves ≡ min (count (inside units base)) 1000000
  sized_count base size is = is.leaves ∙ ap (λ n. min n 1000000) (type_count base)

-- ---- types that no unit declares, and units

pub unit_is : (base : Base) (i : ℕ) → (base ≡ bases.Array i) ⊎ ((base ≡ bases.Structure i) ⊎ (base ≡ bases.Block i)) → unit_of base ≡ Some i
unit_is base i (inl is) = ap unit_of is
unit_is base i (inr (inl is)) = ap unit_of is
unit_is base i (inr (inr is)) = ap unit_of is

module _ (units : List Named) where
  pub unknown_counted : (base : Base) → base ≡ bases.Unknown → 0 ≡ min (count (inside units base)) 1000000
  unfolding composition_within
  unknown_counted base is = subst (λ b. 0 ≡ min (count (inside units b)) 1000000) (sym is) refl

  pub elementary_counted : (base : Base) (e : Elem) → base ≡ bases.Elementary e → 1 ≡ min (count (inside units base)) 1000000
  unfolding composition_within
  elementary_counted base e is = subst (λ b. 1 ≡ min (count (inside units b)) 1000000) (sym is) refl

  capped_again : (n m : ℕ) {r : ℕ} → n ≡ min m 1000000 → r ≡ min n 1000000 → r ≡ min m 1000000
  capped_again n m is at = omega (arith, is, at)

  pub standard_counted : (base : Base) (b : StandardBlock) (size : Size) {r : ℕ} → base ≡ bases.Standard b → IsSize size (sizes_of (standard_leaves b)) → r ≡ min size.leaves 1000000
      → r ≡ min (count (inside units base)) 1000000
  unfolding leaves_within
  standard_counted base b size is sized at =
      capped_again size.leaves (count (inside units base)) (sized_count units base size (subst (λ b. IsSize size (sizes_of (type_leaves units b))) (sym is) sized)) at

  pub unit_counted : (sizes : List Size) (base : Base) (i : ℕ) {r : ℕ} → unit_of base ≡ Some i → IsSized units sizes base → r ≡ min (size_at sizes i).leaves 1000000
      → r ≡ min (count (inside units base)) 1000000
  unit_counted sizes base i is sized at = capped_again (size_at sizes i).leaves (count (inside units base)) (sized_count units base (size_at sizes i) (sized i is)) at

-- ---- declared names

subscripted_count : (ranges : Option (List Subrange)) (c : Composition) → count (subscripted ranges c) ≡ shape_count ranges (count c)
subscripted_count None c = refl
subscripted_count (Some ranges) c = refl

pub declared_count : (units : List Named) (v : Declared) → member_count units v ≡ shape_count (shape_of units v.specification).subscripts (count (inside units (shape_of units v.specification).base))
declared_count units v =
    let element : Composition = started (element_initial units v.specification) (inside units (shape_of units v.specification).base) in
    started_count (initial_of units v) (subscripted (shape_of units v.specification).subscripts element)
    ∙ subscripted_count (shape_of units v.specification).subscripts element
    ∙ ap (shape_count (shape_of units v.specification).subscripts) (started_count (element_initial units v.specification) (inside units (shape_of units v.specification).base))
