-- The transitions of a chart: which steps stand before and behind them, and which of two goes first.
use Rattle.std.specs.Prelude.{◌≡◌, ℕ, zero, suc, ◌<◌, Bool, true, false, ◌&&◌, ◌||◌, ◌==◌, nat_lt, not, IsTrue, length, Option, Some, None, List, [], get_or, map}
use Rattle.std.specs.List.{All, AllPairs, list_any}
use Rattle.st_charts.specs.declared.table.Transition.{Transition}

-- a set of steps, of transitions or of names, which are numbers
abbrev pub Set : Type 0
Set = ℕ → Bool

-- the numbers that stand in a list
abbrev pub members : List ℕ → Set
members ns n = list_any (λ m. m == n) ns

-- the numbers whose mark is TRUE
abbrev pub marked : List Bool → Set
marked marks n = get_or marks n false

-- whether one of the first `count` numbers is in the set
abbrev pub some_below : ℕ → Set → Bool
some_below zero set = false
some_below (suc n) set = set n || some_below n set

-- a transition, whatever memory holds it
pub record Passage : Type 0 where
  -- the steps that precede it
  pub before : List ℕ
  -- the steps that follow it
  pub after : List ℕ
  -- its number, where it has one
  pub priority : Option ℕ

abbrev pub passage_of : Transition → Passage
passage_of t = record { before = t.before.items; after = t.after.items; priority = t.priority }

-- the transitions of a chart, in the order of the text
abbrev pub passages_of : List Transition → List Passage
passages_of ts = map passage_of ts

abbrev pub no_passage : Passage
no_passage = record { before = []; after = []; priority = None }

-- the transition with this number
abbrev pub passage : List Passage → ℕ → Passage
passage ts t = get_or ts t no_passage

-- a lower number goes first, and one without a number behind all that have one
abbrev pub is_sooner : Option ℕ → Option ℕ → Bool
is_sooner (Some a) (Some b) = nat_lt a b
is_sooner (Some a) None = true
is_sooner None b = false

-- Transition `t` goes first of two: by its priority, and where both have the same by its place in the text.
abbrev pub comes_before : List Passage → ℕ → ℕ → Bool
comes_before ts t u =
    is_sooner (passage ts t).priority (passage ts u).priority
    || (not (is_sooner (passage ts u).priority (passage ts t).priority) && nat_lt t u)

-- a list of the numbers of all transitions, by their priorities
pub record IsByPriority (ts : List Passage) (order : List ℕ) : Type 0 where
  pub count : length order ≡ length ts
  pub numbers : All (λ t. t < length ts) order
  pub complete : (t : ℕ) → t < length ts → IsTrue (members order t)
  pub ordered : AllPairs (λ t u. IsTrue (comes_before ts t u)) order

-- Some step precedes both.
abbrev pub share_step : List Passage → ℕ → ℕ → Bool
share_step ts t u = list_any (members (passage ts t).before) (passage ts u).before
