-- Where the leaves of a chart's steps begin, one step after the other.
use Rattle.std.specs.Prelude.{◌≡◌, ℕ, ◌+◌, Bool, List, [], ◌∷◌, length}
use Rattle.st_leaves.specs.Charts.{step_types}
use Rattle.st_meaning.specs.Views.{flags_place}
use Rattle.st_meaning.specs.declared.offsets.Offsets.{Offsets}

-- how many leaves stand before those of each of these steps, where so many stand before those of the first
abbrev pub places_from : ℕ → List Bool → List ℕ
places_from n [] = []
places_from n (p ∷ pulses) = n ∷ places_from (n + length (step_types p)) pulses

-- the places of steps, and of the flags behind them
pub record ArePlaces (offsets : Offsets) (pulses : List Bool) : Type 0 where
  pub steps : offsets.steps.items ≡ places_from 1 pulses
  pub flags : offsets.flags ≡ flags_place pulses
