-- Runs of numbers that follow one another.
use Rattle.std.specs.Prelude.{ℕ, ◌≡◌, ◌+◌, ◌-◌, ◌^◌, ◌<◌, ◌≤◌, nat_lt, if◌then◌else◌, List, [], ◌∷◌, length, map, get_or, Option, Some, None}
use Rattle.std.specs.List.{range_with_len}
use Rattle.st_layout.specs.Pairs.{number_at}
use Rattle.st_layout.specs.declared.runs.Run.{Run}

-- what stands past the end of a list of runs
abbrev pub no_run : Run
no_run = record { first = 0; to = 0; count = 0 }

abbrev pub run_at : List Run → ℕ → Run
run_at runs k = get_or runs k no_run

-- the place behind a run
abbrev pub end_of : Run → ℕ
end_of run = run.first + run.count

-- the number that a run has at a place before its end
abbrev pub number_of_run : Run → ℕ → Option ℕ
number_of_run run i = if nat_lt i run.first then None else Some (run.to + (i - run.first))

-- the number at a place: that of the first run that ends behind it
abbrev pub number_in : List Run → ℕ → Option ℕ
number_in [] i = None
number_in (run ∷ runs) i = if nat_lt i (end_of run) then number_of_run run i else number_in runs i

-- the numbers at so many places
abbrev pub numbers_of : ℕ → List Run → List (Option ℕ)
numbers_of count runs = map (number_in runs) (range_with_len 0 count)

-- The runs stand in order, none is empty, the last one ends before the places do, and no number is above 2^32.
pub record AreRuns (count : ℕ) (runs : List Run) : Type 0 where
  pub apart : (k m : ℕ) → k < m → m < length runs → end_of (run_at runs k) ≤ (run_at runs m).first
  pub some : (k : ℕ) → k < length runs → 1 ≤ (run_at runs k).count
  pub within : (k : ℕ) → k < length runs → end_of (run_at runs k) ≤ count
  pub fits : (k : ℕ) → k < length runs → (run_at runs k).to + (run_at runs k).count ≤ 2 ^ 32

-- The first run from a place on, or what is left of the one that the place is in, or an empty one of 0 behind the last number.
pub record IsNextRun (numbers : List (Option ℕ)) (from : ℕ) (run : Run) : Type 0 where
  pub after : from ≤ run.first
  pub on : from < length numbers → from < end_of run
  pub within : end_of run ≤ length numbers
  pub gap : (i : ℕ) → from ≤ i → i < run.first → number_at numbers i ≡ None
  pub kept : (k : ℕ) → k < run.count → number_at numbers (run.first + k) ≡ Some (run.to + k)
  pub none : run.count ≡ 0 → run.to ≡ 0
