-- What a unit contains is in its row of the graph.
use Rattle.std.proofs.Common.{◌≡◌, ℕ, ◌<◌, ◌≤◌, List, length, get_or, take, Some, sym, subst, arith}
use Rattle.std.specs.List.{All, Contains, flat_map}
use Rattle.std.proofs.lemmas.List.{length-map}
use Rattle.st_references.specs.Graphs.{IsOrder, Refers}
use Rattle.st_references.proofs.Orders.{references_are_before}
use Rattle.st_references.specs.Calls.{unit_calls}
use Rattle.st_references.specs.References.{called, contained, graph_of, references, unit_types}
use Rattle.st_references.proofs.Units.{made_of_unit}
use Rattle.st_types.specs.Names.{Named, unit_at}
use Rattle.st_references.proofs.Lists.{all_left, all_of, few}

-- the units that this one contains
abbrev pub contents : List Named → Named → List ℕ
contents units u = flat_map (contained units) (unit_types u.declares)

-- what is so of all to which a unit refers is so of all that it contains
pub of_contents : (units : List Named) (P : ℕ → Type 0) (i : ℕ) (u : Named) → unit_at units i ≡ Some u → ((j : ℕ) → Refers (graph_of units) i j → P j) → All P (contents units u)
of_contents units P i u is each =
    all_left P (contents units u) (flat_map (called units u.declares) (unit_calls u.declares))
    (all_of P (references units u.declares) (λ j has. each j (subst (λ row. Contains row j) (sym (made_of_unit (λ v. references units v.declares) units i u is)) has)))

module _ (units : List Named) (order : List ℕ) (ordered : IsOrder (graph_of units) order) where
  rows : length (graph_of units) ≡ length units
  rows = length-map units (λ u. references units u.declares)

  -- the order has no more places than there are units
  pub order_len : length order ≤ length units
  order_len = omega (arith, few order (length (graph_of units)) ordered.rows ordered.once, rows)

  -- what the unit at a place contains stands before it
  pub before_place : (place : ℕ) (u : Named) → place < length order → unit_at units (get_or order place 0) ≡ Some u → All (Contains (take place order)) (contents units u)
  before_place place u below is =
      of_contents units (Contains (take place order)) (get_or order place 0) u is (λ j refers. references_are_before (graph_of units) order place j ordered below refers)
