-- The order of the priorities as one of triples: whether a transition has no number, that number, and the place in the text.
use Rattle.std.specs.Prelude.{◌≡◌, ℕ, ◌<◌, Bool, true, false, Option, Some, None, List, get_or, length}
use Rattle.st_charts.specs.Passages.{Passage, passage}

abbrev pub Rank : Type 0
Rank = Bool × ℕ × ℕ

abbrev pub rank : Option ℕ → ℕ → Rank
rank (Some number) place = (false, number, place)
rank None place = (true, 0, place)

abbrev pub no_rank : Rank
no_rank = (false, 0, 0)

-- the ranks of all transitions, in the order of the text
pub record AreRanks (ts : List Passage) (ranks : List Rank) : Type 0 where
  pub count : length ranks ≡ length ts
  pub each : (t : ℕ) → t < length ts → get_or ranks t no_rank ≡ rank (passage ts t).priority t
