use Rattle.std.proofs.Common.{◌≡◌, ◌<◌, ◌≤◌, ℕ, ◌+◌, drop, get_or, length}
use Rattle.st_check.specs.Programs.{level_in}
use Rattle.st_compile.proofs.levels.levels_of.Given as goal

-- the places from this one on are known
abbrev pub invariant-loop-place : goal.invariant-loop-place
invariant-loop-place l = record {
  within : l.place ≤ length l.order;
  len : length l.levels.items ≡ l.units;
  known : (number : ℕ) → number < l.units → get_or l.levels.items number 0 ≡ l.place + level_in (drop l.place l.order) number;
}

-- the places that are left
abbrev pub decreases-loop-place : goal.decreases-loop-place
decreases-loop-place l = l.place
