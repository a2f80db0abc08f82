-- The look-up of what a type begins with ends: no unit is declared as itself, directly or through others.
use Rattle.std.proofs.Common.{◌≡◌, ℕ, zero, suc, ◌≤◌, Bool, true, false, List, [], ◌∷◌, ◌++◌, length, get_or, take, Option, Some, None, refl, sym, ap, ◌∙◌, subst, arith}
use Rattle.std.specs.List.{All}
use Rattle.std.proofs.lemmas.List.{length-append, length-take}
use Rattle.std.proofs.lemmas.List.Elements.{All-contains}
use Rattle.st_tree.specs.declared.tree.declaration.Initial.{Initial}
use Rattle.st_tree.specs.declared.tree.declaration.Specification.{Specification}
use Rattle.st_tree.specs.declared.tree.declaration.Specification.TheVariants as specifications
use Rattle.st_tree.specs.declared.tree.declaration.TypeName.{TypeName}
use Rattle.st_tree.specs.declared.tree.declaration.TypeName.TheVariants as type_names
use Rattle.st_references.specs.Graphs.{IsOrder}
use Rattle.st_references.specs.References.{graph_of, names_type}
use Rattle.st_references.proofs.Contents.{contents, order_len}
use Rattle.st_references.proofs.InOrder.{all_in_order}
use Rattle.st_types.specs.Initials.{initial_at, initial_named, initial_of, initial_within, known, name_initial, specified_initial, standing_initial, unit_initial, written_or}
use Rattle.st_types.specs.Names.{Declared, Declares, Named, number_of, unit_at}
use Rattle.st_types.specs.Standard.{standard_of}
use Rattle.st_types.specs.declared.standard.Standard.{Standard}
use Rattle.st_references.proofs.Aliases.{alias_number, by_unit, no_type_within, of_alias, unit_known}
use Rattle.st_check_units.specs.Units.{node_faults}
use Rattle.st_compile.proofs.Types.{in_order}

module _ (units : List Named) where
  -- within one unit more than so many, and within more
  abbrev IsFound : ℕ → ℕ → Type 0
  IsFound count i = (n : ℕ) → count ≤ n → initial_within units (suc n) i ≡ Some (known units (initial_within units (suc n) i))

  some_known : (o : Option (Option Initial)) (x : Option Initial) → o ≡ Some x → o ≡ Some (known units o)
  some_known o x h = h ∙ ap (λ (y : Option Initial). Some y) (sym (ap (known units) h))

  no_type_found : (count i : ℕ) → names_type (unit_at units i) ≡ false → IsFound count i
  no_type_found count i none n few = some_known (initial_within units (suc n) i) None (no_type_within units n i none)

  -- what is found of the type that a unit is declared as is found of the unit
  unit_found : (count i : ℕ) → ((u : Named) → unit_at units i ≡ Some u → All (IsFound count) (contents units u)) → IsFound (suc count) i
  unfolding initial_within
  unit_found count i all zero few = absurd (omega (arith, few))
  unit_found count i all (suc n) few =
      let f = λ (j : ℕ). Some (known units (initial_within units (suc n) j)) in
      some_known (unit_initial units (initial_within units (suc n)) (unit_at units i)) (known units (unit_initial units f (unit_at units i)))
      (by_unit units f (initial_within units (suc n)) (known units (unit_initial units f (unit_at units i))) (unit_at units i)
      (λ j named y at. settled j (names_type (unit_at units j)) refl named ∙ at) (unit_known units f (λ j. refl) (unit_at units i))) where
        settled : (j : ℕ) (b : Bool) → names_type (unit_at units j) ≡ b → alias_number units (unit_at units i) ≡ Some j → initial_within units (suc n) j ≡ Some (known units (initial_within units (suc n) j))
        settled j true one named = of_alias units (IsFound count) j one (unit_at units i) named all n (omega (arith, few))
        settled j false none named = no_type_found count j none n (omega (arith, few))

module _ (units : List Named) (order : List ℕ) (ordered : IsOrder (graph_of units) order) (faultless : node_faults units ≡ []) (d : Declares) where
  found_in_order : All (IsFound units (length (take (length order) order))) (take (length order) order)
  found_in_order =
      all_in_order units order ordered (λ placed i. IsFound units (length placed) i) (λ placed next i is n few. is n (fewer placed next n few))
      (λ place below all. subst (λ (count : ℕ). IsFound units count (get_or order place 0)) (sym (one_more (take place order) (get_or order place 0)))
      (unit_found units (length (take place order)) (get_or order place 0) all)) (length order) (omega arith) where
        one_more : (placed : List ℕ) (next : ℕ) → length (placed ++ next ∷ []) ≡ suc (length placed)
        one_more placed next = omega (arith, length-append placed (next ∷ []))

        fewer : (placed : List ℕ) (next n : ℕ) → length (placed ++ next ∷ []) ≤ n → length placed ≤ n
        fewer placed next n few = omega (arith, few, one_more placed next)

  initial_found : (i : ℕ) → initial_at units i ≡ Some (known units (initial_at units i))
  unfolding initial_at
  initial_found i = by (unit_at units i) refl where
    few : length (take (length order) order) ≤ length units
    few = omega (arith, length-take (length order) order, order_len units order ordered)

    by : (o : Option Named) → unit_at units i ≡ o → initial_within units (suc (length units)) i ≡ Some (known units (initial_within units (suc (length units)) i))
    by None at = no_type_found units (length (take (length order) order)) i (ap names_type at) (length units) few
    by (Some u) at =
        All-contains (IsFound units (length (take (length order) order))) (take (length order) order) i found_in_order (in_order units order ordered faultless d i u at) (length units) few

  pub name_found : (t : TypeName) → name_initial units (initial_at units) t ≡ Some (initial_named units t)
  name_found (type_names.Elementary position e) = refl
  name_found (type_names.Declared t) = by (standard_of t.spelling) (number_of units t.spelling) where
    by : (s : Option Standard) (n : Option ℕ) → standing_initial (initial_at units) s n ≡ Some (known units (standing_initial (initial_at units) s n))
    by (Some s) n = refl
    by None None = refl
    by None (Some i) = initial_found i

  -- what is declared begins with its own value, or with that of its type
  pub declared_found : (v : Declared) → written_or (specified_initial units (initial_at units) v.specification) v.initial ≡ Some (initial_of units v)
  declared_found v = by v.initial where
    of_type : (s : Specification) → specified_initial units (initial_at units) s ≡ Some (known units (specified_initial units (initial_at units) s))
    of_type (specifications.Simple t) = name_found t
    of_type (specifications.Array position ranges t) = refl

    by : (o : Option Initial) → written_or (specified_initial units (initial_at units) v.specification) o ≡ Some (known units (written_or (specified_initial units (initial_at units) v.specification) o))
    by (Some x) = refl
    by None = of_type v.specification
