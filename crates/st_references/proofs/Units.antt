-- Units by number.
use Rattle.std.proofs.Common.{◌≡◌, ℕ, zero, suc, List, [], ◌∷◌, map, get_or, Some, ap}
use Rattle.st_types.specs.Names.{Named, unit_at}

-- what is made of the unit of a number stands there
pub made_of_unit : (f : Named → List ℕ) (units : List Named) (i : ℕ) (u : Named) → unit_at units i ≡ Some u → get_or (map f units) i [] ≡ f u
made_of_unit f [] i u is = absurd (cc)
made_of_unit f (v ∷ vs) zero u is = let same : v ≡ u = cc in ap f same
made_of_unit f (v ∷ vs) (suc i) u is = made_of_unit f vs i u is
