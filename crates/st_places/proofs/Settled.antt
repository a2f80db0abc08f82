-- In an order of the units what each type consists of is found before the fuel ends.
use Rattle.std.proofs.Common.{◌≡◌, ℕ, zero, suc, ◌<◌, ◌≤◌, Bool, true, false, List, [], ◌∷◌, ◌++◌, length, get_or, map, take, Option, Some, None, refl, sym, ◌∙◌, ap, subst, arith, length-append, if◌then◌else◌}
use Rattle.std.specs.Char.{to_ascii_uppercase}
use Rattle.std.specs.List.{All, flat_map}
use Rattle.std.proofs.lemmas.List.{length-take-le}
use Rattle.std.proofs.lemmas.List.Elements.{All-weaker}
use Rattle.st_tree.specs.declared.tree.declaration.DeclaredType.TheVariants as declared_types
use Rattle.st_tree.specs.declared.tree.declaration.Specification.TheVariants as specifications
use Rattle.st_tree.specs.declared.tree.declaration.Subrange.{Subrange}
use Rattle.st_tree.specs.declared.tree.declaration.TypeName.{TypeName}
use Rattle.st_tree.specs.declared.tree.position.Identifier.{Identifier}
use Rattle.st_references.specs.Graphs.{IsOrder}
use Rattle.st_check.proofs.Names.{of_name}
use Rattle.st_check.proofs.Unfolding.{unfolded}
use Rattle.st_references.proofs.Contents.{contents, order_len}
use Rattle.st_references.proofs.InOrder.{all_in_order}
use Rattle.st_references.specs.References.{contained, graph_of, type_names_in, unit_types}
use Rattle.st_types.specs.Compositions.{array, composition_within, elements_composition, optional_composition, started, unit_composition}
use Rattle.st_types.specs.Initials.{unit_element_initial}
use Rattle.st_types.specs.Names.{Declares, Named, named, unit_at}
use Rattle.st_types.specs.Names as names
use Rattle.st_types.specs.Types.{elements_in, is_unknown, name_stands_for, optional_elements, optional_stands_for, type_at, type_named, unit_stands_for, without_instance}
use Rattle.st_types.specs.declared.base.Base.{Base}
use Rattle.st_types.specs.declared.base.Base.TheVariants as bases
use Rattle.st_types.specs.declared.standard.StandardBlock.{StandardBlock}
use Rattle.st_values.specs.declared.elem.Elem.{Elem}
use Rattle.st_places.specs.Parts.{inside}
use Rattle.st_places.proofs.Insides.{unit_same}

-- What has the type is found within one unit more than these.
abbrev pub IsSettled : List Named → List ℕ → Base → Type 0
IsSettled units placed base = (n : ℕ) → length placed < n → composition_within units n base ≡ inside units base

module _ (units : List Named) (placed : List ℕ) where
  -- ---- types that no unit declares

  pub unknown_settled : IsSettled units placed bases.Unknown
  unfolding composition_within
  unknown_settled zero lt = refl
  unknown_settled (suc n) lt = refl

  pub elementary_settled : (e : Elem) → IsSettled units placed (bases.Elementary e)
  unfolding composition_within
  elementary_settled e zero lt = absurd (omega (arith, lt))
  elementary_settled e (suc n) lt = refl

  pub standard_settled : (b : StandardBlock) → IsSettled units placed (bases.Standard b)
  unfolding composition_within
  standard_settled b zero lt = absurd (omega (arith, lt))
  standard_settled b (suc n) lt = refl

  without_settled : (base : Base) → IsSettled units placed base → IsSettled units placed (without_instance base)
  without_settled bases.Unknown is = is
  without_settled (bases.Elementary e) is = is
  without_settled (bases.Array i) is = is
  without_settled (bases.Structure i) is = is
  without_settled (bases.Block i) is = unknown_settled
  without_settled (bases.Standard b) is = unknown_settled

  name_settled : (t : TypeName) → All (λ i. IsSettled units placed (type_at units i)) (flat_map (contained units) (type_names_in t)) → IsSettled units placed (name_stands_for (type_named units) t)
  name_settled t all = of_name units (IsSettled units placed) unknown_settled elementary_settled standard_settled t all

  -- ---- one unit more

  module _ (j : ℕ) where
    pub grown : (base : Base) → IsSettled units placed base → IsSettled units (placed ++ j ∷ []) base
    grown base is n lt = is n (omega (arith, lt, length-append placed (j ∷ [])))

    -- what the unit declares, where it is found within any more than the units before
    own_settled : (base : Base) → length placed < length units
        → ((n : ℕ) → length placed < n → composition_within units (suc n) base ≡ composition_within units (suc (length units)) base) → IsSettled units (placed ++ j ∷ []) base
    own_settled base below reached zero lt = absurd (omega (arith, lt))
    own_settled base below reached (suc n) lt = reached n (omega (arith, lt, length-append placed (j ∷ [])))

    module _ (below : length placed < length units) (u : Named) (is : unit_at units j ≡ Some u) (all : All (λ i. IsSettled units placed (type_at units i)) (contents units u)) where
      -- what the unit declares, with what its variables are made of within n units
      variables_reached : (n : ℕ) → length placed < n → (name : List ℕ) → unit_composition units (composition_within units n) name u.declares ≡ unit_composition units (inside units) name u.declares
      variables_reached n lt name =
          unit_same units (composition_within units n) (inside units) (unknown_settled n lt) (λ e. elementary_settled e n lt) (λ b. standard_settled b n lt) name u.declares
          (All-weaker (λ i. IsSettled units placed (type_at units i)) (λ i. composition_within units n (type_at units i) ≡ inside units (type_at units i)) (λ i settled. settled n lt) (contents units u) all)

      whole_reached : (n : ℕ) → length placed < n → optional_composition units (composition_within units n) (unit_at units j) ≡ optional_composition units (composition_within units (length units)) (unit_at units j)
      whole_reached n lt =
          ap (optional_composition units (composition_within units n)) is ∙ variables_reached n lt (map to_ascii_uppercase u.name.spelling)
          ∙ sym (ap (optional_composition units (composition_within units (length units))) is ∙ variables_reached (length units) below (map to_ascii_uppercase u.name.spelling))

      elements_reached : (ranges : List Subrange) (t : TypeName) → IsSettled units placed (name_stands_for (type_named units) t)
          → optional_elements units (Some u) ≡ Some (record { subscripts = ranges; element = name_stands_for (type_named units) t })
          → (n : ℕ) → length placed < n
          → elements_composition (composition_within units n) (unit_element_initial units (unit_at units j)) (elements_in units (bases.Array j))
          ≡ elements_composition (composition_within units (length units)) (unit_element_initial units (unit_at units j)) (elements_in units (bases.Array j))
      elements_reached ranges t settled array_type n lt =
          let made : elements_in units (bases.Array j) ≡ Some (record { subscripts = ranges; element = name_stands_for (type_named units) t }) = ap (optional_elements units) is ∙ array_type in
          ap (elements_composition (composition_within units n) (unit_element_initial units (unit_at units j))) made
          ∙ ap (λ c. array ranges [] (started (unit_element_initial units (unit_at units j)) c)) (settled n lt ∙ sym (settled (length units) below))
          ∙ sym (ap (elements_composition (composition_within units (length units)) (unit_element_initial units (unit_at units j))) made)

      array_settled : (ranges : List Subrange) (t : TypeName) (b : Bool) → IsSettled units placed (name_stands_for (type_named units) t)
          → optional_elements units (Some u) ≡ Some (record { subscripts = ranges; element = name_stands_for (type_named units) t })
          → IsSettled units (placed ++ j ∷ []) (if b then bases.Unknown else bases.Array j)
      unfolding composition_within
      array_settled ranges t true settled array_type = grown bases.Unknown unknown_settled
      array_settled ranges t false settled array_type = own_settled (bases.Array j) below (λ n lt. elements_reached ranges t settled array_type n lt)

      structure_settled : IsSettled units (placed ++ j ∷ []) (bases.Structure j)
      unfolding composition_within
      structure_settled = own_settled (bases.Structure j) below (λ n lt. whole_reached n lt)

      block_settled : IsSettled units (placed ++ j ∷ []) (bases.Block j)
      unfolding composition_within
      block_settled = own_settled (bases.Block j) below (λ n lt. whole_reached n lt)

    -- what a unit stands for, after all that it contains
    unit_settled : length placed < length units → (name : Identifier) (unit : Declares) → unit_at units j ≡ Some (named name unit)
        → All (λ i. IsSettled units placed (type_at units i)) (flat_map (contained units) (unit_types unit)) → IsSettled units (placed ++ j ∷ []) (unit_stands_for (type_named units) j unit)
    unit_settled below name (names.type (declared_types.Derived (specifications.Simple t) initial)) is all =
        grown (without_instance (name_stands_for (type_named units) t)) (without_settled (name_stands_for (type_named units) t) (name_settled t all))
    unit_settled below name (names.type (declared_types.Derived (specifications.Array position ranges t) initial)) is all =
        array_settled below (named name (names.type (declared_types.Derived (specifications.Array position ranges t) initial))) is all ranges t
        (is_unknown (without_instance (name_stands_for (type_named units) t))) (name_settled t all) refl
    unit_settled below name (names.type (declared_types.Structure position members)) is all =
        structure_settled below (named name (names.type (declared_types.Structure position members))) is all
    unit_settled below name (names.function f) is all = grown bases.Unknown unknown_settled
    unit_settled below name (names.block b) is all = block_settled below (named name (names.block b)) is all
    unit_settled below name (names.program p) is all = grown bases.Unknown unknown_settled

    pub optional_settled : length placed < length units → (unit : Option Named) → unit_at units j ≡ unit
        → ((u : Named) → unit_at units j ≡ Some u → All (λ i. IsSettled units placed (type_at units i)) (contents units u))
        → IsSettled units (placed ++ j ∷ []) (optional_stands_for (type_named units) j unit)
    optional_settled below None is all = grown bases.Unknown unknown_settled
    optional_settled below (Some u) is all = unit_settled below u.name u.declares is (all u is)

-- ---- in an order

module _ (units : List Named) (order : List ℕ) (ordered : IsOrder (graph_of units) order) where
  next_settled : (place : ℕ) → place < length order
      → ((u : Named) → unit_at units (get_or order place 0) ≡ Some u → All (λ i. IsSettled units (take place order) (type_at units i)) (contents units u))
      → IsSettled units (take place order ++ get_or order place 0 ∷ []) (type_at units (get_or order place 0))
  next_settled place below all =
      let len : length (take place order) ≡ place = length-take-le place order (omega (arith, below)) in
      subst (IsSettled units (take place order ++ get_or order place 0 ∷ [])) (sym (unfolded units order ordered place below))
      (optional_settled units (take place order) (get_or order place 0) (omega (arith, len, below, order_len units order ordered)) (unit_at units (get_or order place 0)) refl all)

  pub settled : (place : ℕ) → place ≤ length order → All (λ i. IsSettled units (take place order) (type_at units i)) (take place order)
  settled place le =
      all_in_order units order ordered (λ placed i. IsSettled units placed (type_at units i)) (λ placed next i is. grown units placed next (type_at units i) is) next_settled place le
