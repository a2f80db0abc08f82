-- The table of the sizes of types, while it is filled.
use Rattle.std.proofs.Common.{◌≡◌, ◌≢◌, ℕ, ◌+◌, ◌<◌, ◌≤◌, List, length, get_or, set, take, ◌∙◌, sym, subst, arith, inl, inr, get_or-set_other, get_or-set_same}
use Rattle.std.specs.List.{All, Contains}
use Rattle.std.proofs.lemmas.Bool.{cases_lt}
use Rattle.std.proofs.lemmas.List.{get_or_default, get_or-take, length-map, length-take-le, take_all}
use Rattle.std.proofs.lemmas.List.Elements.{All-contains, All-more}
use Rattle.st_leaves.specs.Limits.{sizes_of}
use Rattle.st_references.specs.Graphs.{IsOrder}
use Rattle.st_references.proofs.Orders.{references_are_before}
use Rattle.st_references.specs.References.{graph_of, references}
use Rattle.st_leaves.specs.Sizes.{IsSize}
use Rattle.st_leaves.specs.declared.limited.Size.{Size}
use Rattle.st_types.specs.Names.{Named}
use Rattle.st_types.specs.Types.{type_at}
use Rattle.st_types.specs.declared.base.Base.{Base}
use Rattle.st_check.specs.Sized.{AreSized, IsSized, own_leaves, size_at}
use Rattle.st_references.proofs.Lists.{all_of}
use Rattle.st_check.proofs.Names.{past_unknown}
use Rattle.st_check.proofs.Settled.{IsSettled, settled}

-- the table has the size of what has this unit as its type
abbrev pub HasSize : List Named → List Size → ℕ → Type 0
HasSize units sizes i = IsSize (size_at sizes i) (sizes_of (own_leaves units i))

module _ (units : List Named) (order : List ℕ) (ordered : IsOrder (graph_of units) order) (sizes : List Size) where
  sized : (place : ℕ) → All (HasSize units sizes) (take place order) → (base : Base) → IsSettled units (take place order) base → IsSized units sizes base
  sized place all base is i unit =
      subst (λ leaves. IsSize (size_at sizes i) (sizes_of leaves)) (sym (is.own i unit).1) (All-contains (HasSize units sizes) (take place order) i all (is.own i unit).0)

  -- what the unit at a place refers to
  pub references_sized : (place : ℕ) → place < length order → All (HasSize units sizes) (take place order) → AreSized units sizes (get_or order place 0)
  references_sized place below all i refers =
      sized place all (type_at units i)
      (All-contains (λ k. IsSettled units (take place order) (type_at units k)) (take place order) i (settled units order ordered place (omega (arith, below)))
      (references_are_before (graph_of units) order place i ordered below refers))

module _ (units : List Named) (order : List ℕ) (ordered : IsOrder (graph_of units) order) (place : ℕ) where
  -- the unit at a place doesn't stand before it
  other : place < length order → (i : ℕ) → Contains (take place order) i → i ≢ get_or order place 0
  other below i (k, before, at) same =
      let earlier : k < place = omega (arith, before, below, length-take-le place order (omega (arith, below))) in
      ordered.once k place i earlier below (sym (get_or-take place order k i earlier) ∙ at ∙ same ∙ get_or_default order place 0 i below)

  pub unit_below : place < length order → get_or order place 0 < length units
  unit_below below = omega (arith, ordered.rows place 0 below, length-map units (λ u. references units u.declares))

  -- with the size of the unit at a place
  pub sizes_more : (sizes : List Size) (size : Size) → place < length order → length sizes ≡ length units → All (HasSize units sizes) (take place order)
      → IsSize size (sizes_of (own_leaves units (get_or order place 0))) → All (HasSize units (set sizes (get_or order place 0) size)) (take (place + 1) order)
  sizes_more sizes size below len all next =
      All-more (HasSize units (set sizes (get_or order place 0) size)) order place 0 below
      (all_of (HasSize units (set sizes (get_or order place 0) size)) (take place order) (λ i has.
      subst (λ s. IsSize s (sizes_of (own_leaves units i))) (sym (get_or-set_other sizes (get_or order place 0) i size none (other below i has)))
      (All-contains (HasSize units sizes) (take place order) i all has)))
      (subst (λ s. IsSize s (sizes_of (own_leaves units (get_or order place 0)))) (sym (get_or-set_same sizes (get_or order place 0) size none (omega (arith, len, unit_below below)))) next)
    where
      none : Size
      none = record { leaves = 0; bytes = 0; longest = 0 }

  -- after the last place each type is sized
  pub all_sized : (sizes : List Size) → length order ≤ place → All (HasSize units sizes) (take place order) → (i : ℕ) → IsSized units sizes (type_at units i)
  all_sized sizes last all i = elim (cases_lt i (length units)) as (λ _. IsSized units sizes (type_at units i)) [
    | inl below ↦
        let whole : take (length order) order ≡ order = take_all (length order) order (omega arith) in
        let known : All (HasSize units sizes) order = subst (All (HasSize units sizes)) (take_all place order last) all in
        sized units order ordered sizes (length order) (subst (All (HasSize units sizes)) (sym whole) known) (type_at units i)
        (All-contains (λ k. IsSettled units (take (length order) order) (type_at units k)) (take (length order) order) i (settled units order ordered (length order) (omega arith))
        (subst (λ placed. Contains placed i) (sym whole) (ordered.all i (omega (arith, below, length-map units (λ u. references units u.declares))))))
    | inr past ↦ subst (IsSized units sizes) (sym (past_unknown units i past)) (λ j is. absurd (cc))
  ]
