-- The table as the code keeps it: of the units that write the values.
use Rattle.std.proofs.Common.{◌≡◌, ◌∙◌, ◌⊎◌, ℕ, suc, ◌+◌, ◌<◌, ◌≤◌, List, length, get_or, set, take, map, replicate, Option, Some, None, refl, ap, sym, subst, arith, inl, inr}
use Rattle.std.proofs.Math.ListN.{get_or-map}
use Rattle.std.proofs.lemmas.Bool.{cases_lt}
use Rattle.std.proofs.lemmas.List.{get_or-replicate, get_or_past, length-map, length-replicate, map-set}
use Rattle.st_tree.specs.declared.tree.declaration.Initial.{Initial}
use Rattle.st_references.specs.Graphs.{IsOrder}
use Rattle.st_references.specs.References.{graph_of, references}
use Rattle.st_types.specs.Initials.{known, unit_initial}
use Rattle.st_types.specs.Names.{Named, unit_at}
use Rattle.st_references.specs.Tables.{by_table, initial_in, written_at}
use Rattle.st_references.proofs.Known.{Knows, knows_more}

same_everywhere : {X : Type 0} (n i : ℕ) (x : X) → get_or (replicate n x) i x ≡ x
same_everywhere n i x = each (cases_lt i n)
  where
    each : (i < n) ⊎ (n ≤ i) → get_or (replicate n x) i x ≡ x
    each (inl below) = get_or-replicate n i x x below
    each (inr past) = get_or_past (replicate n x) i x (omega (arith, past, length-replicate n x))

-- what is a copy of none
pub only_none : {X : Type 0} (IsCopy : Option X → Type 0) → ((x : X) → IsCopy (Some x) → ⊥) → (y : Option X) → IsCopy y → y ≡ None
only_none IsCopy other None is = refl
only_none IsCopy other (Some x) is = absurd (other x is)

-- a table of none
pub none_in : (all : List (Option Initial)) (n i : ℕ) → initial_in (map (written_at all) (replicate n None)) i ≡ None
none_in all n i = get_or-map (written_at all) (replicate n None) i None ∙ ap (written_at all) (same_everywhere n i None)

module _ (units : List Named) (order : List ℕ) (ordered : IsOrder (graph_of units) order) (place : ℕ) (below : place < length order) where
  -- with what is found of the unit at the place
  pub knows_next : (all : List (Option Initial)) (items slice : List (Option ℕ)) (found : Option ℕ) → slice ≡ items → length items ≡ length units
      → Knows units (take place order) (suc place) (map (written_at all) items)
      → written_at all found ≡ known units (unit_initial units (by_table (map (written_at all) slice)) (unit_at units (get_or order place 0)))
      → Knows units (take (place + 1) order) (suc (place + 1)) (map (written_at all) (set items (get_or order place 0) found))
  knows_next all items slice found same len knows is =
      let own : written_at all found ≡ known units (unit_initial units (by_table (map (written_at all) items)) (unit_at units (get_or order place 0))) =
      subst (λ xs. written_at all found ≡ known units (unit_initial units (by_table (map (written_at all) xs)) (unit_at units (get_or order place 0)))) same is in
      let one : suc place ≡ place + 1 = omega arith in
      subst (λ p. Knows units (take p order) (suc p) (map (written_at all) (set items (get_or order place 0) found))) one
      (subst (Knows units (take (suc place) order) (suc (suc place))) (sym (map-set (written_at all) items (get_or order place 0) found ∙ ap (set (map (written_at all) items) (get_or order place 0)) own))
      (knows_more units order ordered place below (map (written_at all) items) knows
      (omega (arith, ordered.rows place 0 below, length-map units (λ u. references units u.declares), length-map items (written_at all), len))))
