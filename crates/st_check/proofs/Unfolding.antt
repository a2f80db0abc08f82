-- In an order of the units each type is found before the fuel ends.
use Rattle.std.proofs.Common.{◌≡◌, ℕ, zero, suc, ◌<◌, ◌≤◌, List, [], ◌∷◌, ◌++◌, length, get_or, take, Option, Some, None, refl, sym, ◌∙◌, ap, arith, length-append}
use Rattle.std.specs.List.{All, flat_map}
use Rattle.std.proofs.lemmas.List.{length-take-le}
use Rattle.std.proofs.lemmas.List.Elements.{All-weaker}
use Rattle.st_tree.specs.declared.tree.declaration.DeclaredType.TheVariants as declared_types
use Rattle.st_tree.specs.declared.tree.declaration.Specification.TheVariants as specifications
use Rattle.st_tree.specs.declared.tree.declaration.TypeName.{TypeName}
use Rattle.st_references.specs.Graphs.{IsOrder}
use Rattle.st_references.specs.References.{contained, graph_of, type_names_in, unit_types}
use Rattle.st_types.specs.Names.{Declares, Named, unit_at}
use Rattle.st_types.specs.Names as names
use Rattle.st_types.specs.Types.{array_of, name_stands_for, optional_stands_for, type_at, type_named, type_within, unit_stands_for, without_instance}
use Rattle.st_types.specs.declared.base.Base.{Base}
use Rattle.st_check.proofs.Names.{by_name, named_by, others_unknown}
use Rattle.st_references.proofs.Contents.{contents, order_len}
use Rattle.st_references.proofs.InOrder.{all_in_order, of_before}

-- ---- types that are looked up in two ways

module _ (units : List Named) (m n : ℕ) where
  abbrev pub AreSame : ℕ → Type 0
  AreSame i = type_within units m i ≡ type_within units n i

  name_same : (t : TypeName) → All AreSame (flat_map (contained units) (type_names_in t))
      → name_stands_for (named_by units (type_within units m)) t ≡ name_stands_for (named_by units (type_within units n)) t
  name_same t all =
      by_name units (λ (f : (ℕ → Base) → Base). f (type_within units m) ≡ f (type_within units n)) refl (λ e. refl) (λ b. refl)
      (λ i is. others_unknown units m i is ∙ sym (others_unknown units n i is)) t all

  unit_same : (i : ℕ) (unit : Declares) → All AreSame (flat_map (contained units) (unit_types unit))
      → unit_stands_for (named_by units (type_within units m)) i unit ≡ unit_stands_for (named_by units (type_within units n)) i unit
  unit_same i (names.type (declared_types.Derived (specifications.Simple t) initial)) all = ap without_instance (name_same t all)
  unit_same i (names.type (declared_types.Derived (specifications.Array position ranges t) initial)) all = ap (array_of i) (name_same t all)
  unit_same i (names.type (declared_types.Structure position members)) all = refl
  unit_same i (names.function f) all = refl
  unit_same i (names.block b) all = refl
  unit_same i (names.program p) all = refl

  optional_same : (i : ℕ) (unit : Option Named) → ((u : Named) → unit ≡ Some u → All AreSame (contents units u))
      → optional_stands_for (named_by units (type_within units m)) i unit ≡ optional_stands_for (named_by units (type_within units n)) i unit
  optional_same i None all = refl
  optional_same i (Some u) all = unit_same i u.declares (all u refl)

  pub within_same : (i : ℕ) → ((u : Named) → unit_at units i ≡ Some u → All AreSame (contents units u)) → type_within units (suc m) i ≡ type_within units (suc n) i
  unfolding type_within
  within_same i all = optional_same i (unit_at units i) all

unfolds_once : (units : List Named) (n i : ℕ) → type_within units (suc n) i ≡ optional_stands_for (named_by units (type_within units n)) i (unit_at units i)
unfolding type_within
unfolds_once units n i = refl

-- ---- in an order

-- the type takes no more than so many units
abbrev pub IsFound : List Named → ℕ → ℕ → Type 0
IsFound units n i = (m : ℕ) → n ≤ m → type_within units m i ≡ type_at units i

module _ (units : List Named) (order : List ℕ) (ordered : IsOrder (graph_of units) order) where
  next_found : (place : ℕ) → place < length order
      → ((u : Named) → unit_at units (get_or order place 0) ≡ Some u → All (IsFound units (length (take place order))) (contents units u))
      → IsFound units (length (take place order ++ get_or order place 0 ∷ [])) (get_or order place 0)
  unfolding type_at
  next_found place below all zero le = absurd (omega (arith, le, length-append (take place order) (get_or order place 0 ∷ [])))
  next_found place below all (suc m) le =
      let len : length (take place order) ≡ place = length-take-le place order (omega (arith, below)) in
      let longer = length-append (take place order) (get_or order place 0 ∷ []) in
      within_same units m (length units) (get_or order place 0) (λ u is.
      All-weaker (IsFound units (length (take place order))) (AreSame units m (length units)) (λ i known.
      known m (omega (arith, le, longer)) ∙ sym (known (length units) (omega (arith, len, below, order_len units order ordered)))) (contents units u) (all u is))

  found : (place : ℕ) → place ≤ length order → All (IsFound units (length (take place order))) (take place order)
  found place le =
      all_in_order units order ordered (λ placed i. IsFound units (length placed) i)
      (λ placed next i known m more. known m (omega (arith, more, length-append placed (next ∷ [])))) next_found place le

  -- the type of a unit at a place, by the types of those that it names
  pub unfolded : (place : ℕ) → place < length order
      → type_at units (get_or order place 0) ≡ optional_stands_for (type_named units) (get_or order place 0) (unit_at units (get_or order place 0))
  unfolding type_at type_named
  unfolded place below =
      let len : length (take place order) ≡ place = length-take-le place order (omega (arith, below)) in
      within_same units (length units) (suc (length units)) (get_or order place 0) (λ u is.
      All-weaker (IsFound units (length (take place order))) (AreSame units (length units) (suc (length units))) (λ i known.
      known (length units) (omega (arith, len, below, order_len units order ordered))) (contents units u)
      (of_before units order ordered (IsFound units (length (take place order))) place below (found place (omega (arith, below))) u is))
      ∙ unfolds_once units (suc (length units)) (get_or order place 0)
