-- The faults of a text that are found behind its first one.
use Rattle.std.specs.Prelude.{ℕ, ◌+◌, ◌<◌, ◌≤◌, List, [], ◌∷◌, length}
use Rattle.std.specs.List.{All}
use Rattle.st_tree.specs.declared.tree.unit.Unit.{Unit as Section}
use Rattle.st_faults.specs.declared.fault.Fault.{Fault}
use Rattle.st_check.specs.Recursions.{HasNoneFrom, IsFirstOfUnitsFrom}

-- these faults are in the order of their tokens
abbrev pub AreInOrder : List Fault → Type 0
AreInOrder [] = Unit {0}
AreInOrder (f ∷ fs) = All (λ g. f.position.number < g.position.number) fs × AreInOrder fs

-- the number of the token of the last of these faults, or this one
abbrev pub last_number : ℕ → List Fault → ℕ
last_number number [] = number
last_number number (g ∷ gs) = last_number g.position.number gs

-- each of these faults is the first one behind the token of the one before it, and the first of them behind this token
abbrev pub AreNext : List Section → ℕ → List Fault → Type 0
AreNext us number [] = Unit {0}
AreNext us number (g ∷ gs) = IsFirstOfUnitsFrom (number + 1) us g × AreNext us g.position.number gs

-- Of the faults from this one on these are the later ones: all of them, or as many as make up so many with the first.
pub record AreLater (us : List Section) (most : ℕ) (f : Fault) (later : List Fault) : Type 0 where
  pub next : AreNext us f.position.number later
  pub few : length (f ∷ later) ≤ most
  pub all : length (f ∷ later) < most → HasNoneFrom (last_number f.position.number later + 1) us
