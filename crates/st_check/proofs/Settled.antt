-- In an order of the units the leaves of each type are found before the fuel ends.
use Rattle.std.proofs.Common.{◌≡◌, ℕ, zero, suc, ◌<◌, ◌≤◌, Bool, true, false, List, [], ◌∷◌, ◌++◌, length, get_or, take, Option, Some, None, refl, sym, ◌∙◌, ap, subst, arith, length-append, if◌then◌else◌}
use Rattle.std.specs.List.{All, Contains, flat_map}
use Rattle.std.proofs.lemmas.List.{length-take-le}
use Rattle.std.proofs.lemmas.List.Elements.{All-weaker, Contains-append_left, Contains-push}
use Rattle.st_values.specs.declared.elem.Elem.{Elem}
use Rattle.st_tree.specs.declared.tree.declaration.DeclaredType.TheVariants as declared_types
use Rattle.st_tree.specs.declared.tree.declaration.Specification.TheVariants as specifications
use Rattle.st_tree.specs.declared.tree.declaration.Subrange.{Subrange}
use Rattle.st_tree.specs.declared.tree.declaration.TypeName.{TypeName}
use Rattle.st_tree.specs.declared.tree.position.Identifier.{Identifier}
use Rattle.st_leaves.specs.Leaves.{array_leaves, elements_leaves, leaves_within, optional_leaves, unit_leaves}
use Rattle.st_references.specs.Graphs.{IsOrder}
use Rattle.st_references.specs.References.{contained, graph_of, type_names_in, unit_types}
use Rattle.st_types.specs.Names.{Declares, Named, named, unit_at}
use Rattle.st_types.specs.Names as names
use Rattle.st_types.specs.Types.{elements_in, is_unknown, name_stands_for, optional_elements, optional_stands_for, type_at, type_named, unit_stands_for, without_instance}
use Rattle.st_types.specs.declared.base.Base.{Base}
use Rattle.st_types.specs.declared.base.Base.TheVariants as bases
use Rattle.st_types.specs.declared.standard.StandardBlock.{StandardBlock}
use Rattle.st_check.specs.Sized.{made_leaves, own_leaves, type_leaves, unit_of}
use Rattle.st_check.proofs.Insides.{unit_same}
use Rattle.st_check.proofs.Names.{of_name}
use Rattle.st_references.proofs.Contents.{contents, order_len}
use Rattle.st_references.proofs.InOrder.{all_in_order}
use Rattle.st_check.proofs.Unfolding.{unfolded}

-- The leaves of the type are found within one unit more than these, one of which declares it, where a unit does.
pub record IsSettled (units : List Named) (placed : List ℕ) (base : Base) : Type 0 where
  pub enough : (n : ℕ) → length placed < n → leaves_within units n base ≡ type_leaves units base
  pub own : (i : ℕ) → unit_of base ≡ Some i → Contains placed i × (type_leaves units base ≡ own_leaves units i)

module _ (units : List Named) (placed : List ℕ) where
  -- ---- types that no unit declares

  unknown_settled : IsSettled units placed bases.Unknown
  unfolding leaves_within
  unknown_settled = record { enough = found; own = λ i is. absurd (cc) }
    where
      found : (n : ℕ) → length placed < n → leaves_within units n bases.Unknown ≡ []
      found zero lt = refl
      found (suc n) lt = refl

  elementary_settled : (e : Elem) → IsSettled units placed (bases.Elementary e)
  unfolding leaves_within
  elementary_settled e = record { enough = found; own = λ i is. absurd (cc) }
    where
      found : (n : ℕ) → length placed < n → leaves_within units n (bases.Elementary e) ≡ type_leaves units (bases.Elementary e)
      found zero lt = absurd (omega (arith, lt))
      found (suc n) lt = refl

  standard_settled : (b : StandardBlock) → IsSettled units placed (bases.Standard b)
  unfolding leaves_within
  standard_settled b = record { enough = found; own = λ i is. absurd (cc) }
    where
      found : (n : ℕ) → length placed < n → leaves_within units n (bases.Standard b) ≡ type_leaves units (bases.Standard b)
      found zero lt = absurd (omega (arith, lt))
      found (suc n) lt = refl

  without_settled : (base : Base) → IsSettled units placed base → IsSettled units placed (without_instance base)
  without_settled bases.Unknown is = is
  without_settled (bases.Elementary e) is = is
  without_settled (bases.Array i) is = is
  without_settled (bases.Structure i) is = is
  without_settled (bases.Block i) is = unknown_settled
  without_settled (bases.Standard b) is = unknown_settled

  name_settled : (t : TypeName) → All (λ i. IsSettled units placed (type_at units i)) (flat_map (contained units) (type_names_in t)) → IsSettled units placed (name_stands_for (type_named units) t)
  name_settled t all = of_name units (IsSettled units placed) unknown_settled elementary_settled standard_settled t all

  -- ---- one unit more

  module _ (j : ℕ) where
    pub grown : (base : Base) → IsSettled units placed base → IsSettled units (placed ++ j ∷ []) base
    grown base is = record {
      enough = λ n lt. is.enough n (omega (arith, lt, length-append placed (j ∷ [])));
      own = λ i unit. (Contains-append_left placed (j ∷ []) i (is.own i unit).0, (is.own i unit).1);
    }

    -- what the unit declares, where its leaves are found within any more than the units before
    own_settled : (base : Base) → unit_of base ≡ Some j → length placed < length units
        → ((n : ℕ) → length placed < n → leaves_within units (suc n) base ≡ own_leaves units j) → IsSettled units (placed ++ j ∷ []) base
    own_settled base unit below reached = record {
      enough = λ n lt. found n (omega (arith, lt, length-append placed (j ∷ [])));
      own = λ i is. let same : j ≡ i = cc in (subst (Contains (placed ++ j ∷ [])) same (Contains-push placed j), reached (length units) below ∙ ap (own_leaves units) same);
    }
      where
        found : (n : ℕ) → suc (length placed) < n → leaves_within units n base ≡ type_leaves units base
        found zero lt = absurd (omega (arith, lt))
        found (suc n) lt = reached n (omega (arith, lt)) ∙ sym (reached (length units) below)

    module _ (below : length placed < length units) (u : Named) (is : unit_at units j ≡ Some u) (all : All (λ i. IsSettled units placed (type_at units i)) (contents units u)) where
      -- what the unit declares, with the leaves within n units of what its variables are made of
      variables_reached : (n : ℕ) → length placed < n → unit_leaves units (leaves_within units n) u.declares ≡ unit_leaves units (type_leaves units) u.declares
      variables_reached n lt =
          unit_same units (leaves_within units n) (type_leaves units) (unknown_settled.enough n lt) (λ e. (elementary_settled e).enough n lt) (λ b. (standard_settled b).enough n lt) u.declares
          (All-weaker (λ i. IsSettled units placed (type_at units i)) (λ i. leaves_within units n (type_at units i) ≡ type_leaves units (type_at units i)) (λ i settled. settled.enough n lt) (contents units u) all)

      -- where it is no array
      whole_reached : optional_elements units (Some u) ≡ None → (n : ℕ) → length placed < n → optional_leaves units (leaves_within units n) (unit_at units j) ≡ own_leaves units j
      whole_reached plain n lt =
          ap (optional_leaves units (leaves_within units n)) is ∙ variables_reached n lt
          ∙ sym (ap (made_leaves units (optional_elements units (unit_at units j))) is ∙ ap (λ elements. made_leaves units elements (Some u)) (ap (optional_elements units) is ∙ plain))

      elements_reached : (ranges : List Subrange) (t : TypeName) → IsSettled units placed (name_stands_for (type_named units) t)
          → optional_elements units (Some u) ≡ Some (record { subscripts = ranges; element = name_stands_for (type_named units) t })
          → (n : ℕ) → length placed < n → elements_leaves (leaves_within units n) (elements_in units (bases.Array j)) ≡ own_leaves units j
      elements_reached ranges t settled array n lt =
          let made : elements_in units (bases.Array j) ≡ Some (record { subscripts = ranges; element = name_stands_for (type_named units) t }) = ap (optional_elements units) is ∙ array in
          ap (elements_leaves (leaves_within units n)) made ∙ ap (array_leaves ranges) (settled.enough n lt)
          ∙ sym (ap (λ elements. made_leaves units elements (unit_at units j)) made)

      array_settled : (ranges : List Subrange) (t : TypeName) (b : Bool) → IsSettled units placed (name_stands_for (type_named units) t)
          → optional_elements units (Some u) ≡ Some (record { subscripts = ranges; element = name_stands_for (type_named units) t })
          → IsSettled units (placed ++ j ∷ []) (if b then bases.Unknown else bases.Array j)
      unfolding leaves_within
      array_settled ranges t true settled array = grown bases.Unknown unknown_settled
      array_settled ranges t false settled array = own_settled (bases.Array j) refl below reached
        where
          reached : (n : ℕ) → length placed < n → leaves_within units (suc n) (bases.Array j) ≡ own_leaves units j
          reached n lt = elements_reached ranges t settled array n lt

      structure_settled : optional_elements units (Some u) ≡ None → IsSettled units (placed ++ j ∷ []) (bases.Structure j)
      unfolding leaves_within
      structure_settled plain = own_settled (bases.Structure j) refl below reached
        where
          reached : (n : ℕ) → length placed < n → leaves_within units (suc n) (bases.Structure j) ≡ own_leaves units j
          reached n lt = whole_reached plain n lt

      block_settled : optional_elements units (Some u) ≡ None → IsSettled units (placed ++ j ∷ []) (bases.Block j)
      unfolding leaves_within
      block_settled plain = own_settled (bases.Block j) refl below reached
        where
          reached : (n : ℕ) → length placed < n → leaves_within units (suc n) (bases.Block j) ≡ own_leaves units j
          reached n lt = whole_reached plain n lt

    -- what a unit stands for, after all that it contains
    unit_settled : length placed < length units → (name : Identifier) (unit : Declares) → unit_at units j ≡ Some (named name unit)
        → All (λ i. IsSettled units placed (type_at units i)) (flat_map (contained units) (unit_types unit)) → IsSettled units (placed ++ j ∷ []) (unit_stands_for (type_named units) j unit)
    unit_settled below name (names.type (declared_types.Derived (specifications.Simple t) initial)) is all =
        grown (without_instance (name_stands_for (type_named units) t)) (without_settled (name_stands_for (type_named units) t) (name_settled t all))
    unit_settled below name (names.type (declared_types.Derived (specifications.Array position ranges t) initial)) is all =
        array_settled below (named name (names.type (declared_types.Derived (specifications.Array position ranges t) initial))) is all ranges t
        (is_unknown (without_instance (name_stands_for (type_named units) t))) (name_settled t all) refl
    unit_settled below name (names.type (declared_types.Structure position members)) is all =
        structure_settled below (named name (names.type (declared_types.Structure position members))) is all refl
    unit_settled below name (names.function f) is all = grown bases.Unknown unknown_settled
    unit_settled below name (names.block b) is all = block_settled below (named name (names.block b)) is all refl
    unit_settled below name (names.program p) is all = grown bases.Unknown unknown_settled

    pub optional_settled : length placed < length units → (unit : Option Named) → unit_at units j ≡ unit
        → ((u : Named) → unit_at units j ≡ Some u → All (λ i. IsSettled units placed (type_at units i)) (contents units u))
        → IsSettled units (placed ++ j ∷ []) (optional_stands_for (type_named units) j unit)
    optional_settled below None is all = grown bases.Unknown unknown_settled
    optional_settled below (Some u) is all = unit_settled below u.name u.declares is (all u is)

-- ---- in an order

module _ (units : List Named) (order : List ℕ) (ordered : IsOrder (graph_of units) order) where
  next_settled : (place : ℕ) → place < length order
      → ((u : Named) → unit_at units (get_or order place 0) ≡ Some u → All (λ i. IsSettled units (take place order) (type_at units i)) (contents units u))
      → IsSettled units (take place order ++ get_or order place 0 ∷ []) (type_at units (get_or order place 0))
  next_settled place below all =
      let len : length (take place order) ≡ place = length-take-le place order (omega (arith, below)) in
      subst (IsSettled units (take place order ++ get_or order place 0 ∷ [])) (sym (unfolded units order ordered place below))
      (optional_settled units (take place order) (get_or order place 0) (omega (arith, len, below, order_len units order ordered)) (unit_at units (get_or order place 0)) refl all)

  pub settled : (place : ℕ) → place ≤ length order → All (λ i. IsSettled units (take place order) (type_at units i)) (take place order)
  settled place le =
      all_in_order units order ordered (λ placed i. IsSettled units placed (type_at units i)) (λ placed next i is. grown units placed next (type_at units i) is) next_settled place le
