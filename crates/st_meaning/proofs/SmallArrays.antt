-- Where a whole has few leaves, so do the elements of each array in it.
use Rattle.std.proofs.Common.{ℕ, zero, suc, ◌*◌, ◌<◌, ◌≤◌, ◌≤ℤ◌, ℤ, pos, negsuc, ◌-ℤ◌, List, [], ◌∷◌, arith}
use Rattle.std.specs.List.{All}
use Rattle.std.proofs.lemmas.Int.{ints}
use Rattle.std.proofs.lemmas.List.Elements.{All-head, All-tail}
use Rattle.st_tree.specs.declared.tree.declaration.Subrange.{Subrange}
use Rattle.st_leaves.specs.Subscripts.{values_from}
use Rattle.st_types.specs.Compositions.{Composition, unknown, elementary, array, composed, standard, Members, none, member}
use Rattle.st_leaves.specs.Bounds.{HasBounds, HaveBounds, IsBounded}
use Rattle.st_tree.specs.Literals.{number_of}
use Rattle.st_leaves.specs.Places.{count, counts, extent, extent_of}
use Rattle.st_meaning.specs.Offsets.{HasSmallArrays, HaveSmallArrays}

some_values : (z : ℤ) → pos 0 ≤ℤ z → 0 < values_from z
some_values (pos n) h = omega arith
some_values (negsuc n) h = absurd (omega (arith, ints, h))

pub some_numbers : (r : Subrange) → IsBounded r → 0 < extent_of r
some_numbers r bounded = some_values (number_of r.upper -ℤ number_of r.lower) (omega (arith, ints, bounded.ordered))

-- a product isn't less than a factor, where the other is none of 0
pub not_less : (a b : ℕ) → 0 < a → b ≤ a * b
not_less zero b some = absurd (omega arith)
not_less (suc a) b some = grind arith

pub some_elements : (rs : List Subrange) → All IsBounded rs → 0 < extent rs
some_elements [] all = omega arith
some_elements (r ∷ rs) all =
    let others : 0 < extent rs = some_elements rs (All-tail IsBounded r rs all) in
    omega (arith, not_less (extent_of r) (extent rs) (some_numbers r (All-head IsBounded r rs all)), others)

mutual
  pub small_arrays : (c : Composition) → HasBounds c → count c ≤ 65536 → HasSmallArrays c
  small_arrays unknown bounds few = tt
  small_arrays (elementary v) bounds few = tt
  small_arrays (array ranges firsts c) bounds few =
      let each : count c ≤ extent ranges * count c = not_less (extent ranges) (count c) (some_elements ranges bounds.0) in
      (few, small_arrays c bounds.1 (omega (arith, few, each)))
  small_arrays (composed whole' ms chart) bounds few = members_small ms bounds (omega (arith, few))
  small_arrays (standard b) bounds few = tt

  members_small : (ms : Members) → HaveBounds ms → counts ms ≤ 65536 → HaveSmallArrays ms
  members_small none bounds few = tt
  members_small (member name kind c ms) bounds few =
      (small_arrays c bounds.0 (omega (arith, few)), members_small ms bounds.1 (omega (arith, few)))
