-- Units by number.
use Rattle.std.proofs.Common.{◌≡◌, ℕ, zero, suc, ◌<◌, ◌≤◌, List, [], ◌∷◌, length, map, get_or, Some, None, refl, sym, ap, arith}
use Rattle.st_types.specs.Names.{Named, unit_at}

-- the unit that is read
pub unit_at-map : {X : Type 0} (f : X → Named) (xs : List X) (i : ℕ) (x : X) → i < length xs → x ≡ get_or xs i x → unit_at (map f xs) i ≡ Some (f x)
unit_at-map f [] i x below is = absurd (omega (arith, below))
unit_at-map f (y ∷ ys) zero x below is = ap (λ z. Some (f z)) (sym is)
unit_at-map f (y ∷ ys) (suc i) x below is = unit_at-map f ys i x (omega (arith, below)) is

-- past the end there is none
pub unit_at-past : (units : List Named) (i : ℕ) → length units ≤ i → unit_at units i ≡ None
unit_at-past [] i past = refl
unit_at-past (u ∷ us) zero past = absurd (omega (arith, past))
unit_at-past (u ∷ us) (suc i) past = unit_at-past us i (omega (arith, past))

-- there is a unit of each number below theirs
pub there : (units : List Named) (i : ℕ) → i < length units → (u : Named) × (unit_at units i ≡ Some u)
there [] i below = absurd (omega (arith, below))
there (u ∷ us) zero below = (u, refl)
there (u ∷ us) (suc i) below = there us i (omega (arith, below))

-- and a unit that is found has such a number
pub found_below : (units : List Named) (i : ℕ) (u : Named) → unit_at units i ≡ Some u → i < length units
found_below [] i u found = absurd cc
found_below (v ∷ vs) zero u found = omega arith
found_below (v ∷ vs) (suc i) u found = let more = found_below vs i u found in omega (arith, more)
