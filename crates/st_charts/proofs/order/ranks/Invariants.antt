use Rattle.std.proofs.Common.{◌≡◌, ◌<◌, ℕ, get_or, length}
use Rattle.st_charts.specs.Passages.{passage, passages_of}
use Rattle.st_charts.specs.Ranks.{no_rank, rank}
use Rattle.st_charts.proofs.order.ranks.Given as goal

abbrev pub invariant-loop-place : goal.invariant-loop-place
invariant-loop-place l = record {
  count : length l.ranks.items ≡ l.place;
  each : (t : ℕ) → t < l.place → get_or l.ranks.items t no_rank ≡ rank (passage (passages_of l.transitions) t).priority t;
}
