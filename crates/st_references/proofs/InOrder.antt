-- What is so of a unit once it is so of all that it contains, is so of all units in an order.
use Rattle.std.proofs.Common.{◌≡◌, ℕ, zero, suc, ◌<◌, ◌≤◌, List, [], ◌∷◌, ◌++◌, length, get_or, take, Some, sym, subst, arith}
use Rattle.std.specs.List.{All, Contains}
use Rattle.std.proofs.Math.Seq.{take-suc}
use Rattle.std.proofs.lemmas.List.Elements.{All-contains, All-nil, All-push, All-weaker}
use Rattle.st_references.specs.Graphs.{IsOrder}
use Rattle.st_references.specs.References.{graph_of}
use Rattle.st_types.specs.Names.{Named, unit_at}
use Rattle.st_references.proofs.Contents.{before_place, contents}

module _ (units : List Named) (order : List ℕ) (ordered : IsOrder (graph_of units) order) where
  -- what is so of all before a place is so of what the unit there contains
  pub of_before : (P : ℕ → Type 0) (place : ℕ) → place < length order → All P (take place order) → (u : Named) → unit_at units (get_or order place 0) ≡ Some u → All P (contents units u)
  of_before P place below all u is =
      All-weaker (Contains (take place order)) P (λ i has. All-contains P (take place order) i all has) (contents units u) (before_place units order ordered place u below is)

  -- what is so of a unit after some, with one unit more too
  module _ (P : List ℕ → ℕ → Type 0) (stays : (placed : List ℕ) (next i : ℕ) → P placed i → P (placed ++ next ∷ []) i)
      (next_is : (place : ℕ) → place < length order → ((u : Named) → unit_at units (get_or order place 0) ≡ Some u → All (P (take place order)) (contents units u))
      → P (take place order ++ get_or order place 0 ∷ []) (get_or order place 0)) where
    pub all_in_order : (place : ℕ) → place ≤ length order → All (P (take place order)) (take place order)
    all_in_order zero le = All-nil (P [])
    all_in_order (suc place) le =
        let below : place < length order = omega (arith, le) in
        let before : All (P (take place order)) (take place order) = all_in_order place (omega (arith, le)) in
        let next : ℕ = get_or order place 0 in
        subst (λ placed. All (P placed) placed) (sym (take-suc order place 0 below))
        (All-push (P (take place order ++ next ∷ [])) (take place order) next
        (All-weaker (P (take place order)) (P (take place order ++ next ∷ [])) (λ i is. stays (take place order) next i is) (take place order) before)
        (next_is place below (of_before (P (take place order)) place below before)))
