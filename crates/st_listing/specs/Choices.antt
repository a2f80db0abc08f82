-- The choices of subscripts that are still to come.
use Rattle.std.specs.Prelude.{◌≡◌, ◌<◌, ◌-ℤ◌, ◌++◌, ℤ, Bool, true, false, List, [], ◌∷◌, length, map}
use Rattle.std.specs.List.{All, flat_map}
use Rattle.st_leaves.specs.Subscripts.{next, numbers, value_of, values_from}
use Rattle.st_leaves.specs.declared.subrange.Number.{Number}
use Rattle.st_tree.specs.declared.tree.constant.SignedInteger.{SignedInteger}
use Rattle.st_tree.specs.declared.tree.declaration.Subrange.{Subrange}
use Rattle.st_tree.specs.Literals.{number_of}
use Rattle.st_leaves.specs.LeavesIn.{subscript_lists}
use Rattle.st_listing.specs.declared.subscripts.Subscripts.TheInside.{Inside}

-- all numbers between two
abbrev pub between : ℤ → ℤ → List ℤ
between lower upper = numbers (values_from (upper -ℤ lower)) lower

-- the choices from this one on
abbrev pub choices_from : List Subrange → List ℤ → List (List ℤ)
choices_from [] is = [] ∷ []
choices_from (r ∷ rs) [] = [] ∷ []
choices_from (r ∷ rs) (i ∷ is) = map (λ js. i ∷ js) (choices_from rs is) ++ flat_map (λ j. map (λ js. j ∷ js) (subscript_lists rs)) (between (next i) (number_of r.upper))

-- the first choice
abbrev pub lowers : List Subrange → List ℤ
lowers ranges = map (λ r. number_of r.lower) ranges

abbrev pub HasNumbers : Subrange → Type 0
HasNumbers r = 0 < values_from (number_of r.upper -ℤ number_of r.lower)

-- behind this choice comes that one, or none, and that one is the first
abbrev pub IsStep : List Subrange → List ℤ → Bool → List ℤ → Type 0
IsStep ranges is true js = choices_from ranges is ≡ is ∷ choices_from ranges js
IsStep ranges is false js = (choices_from ranges is ≡ is ∷ []) × (js ≡ lowers ranges)

abbrev pub left_if : Bool → List (List ℤ) → List (List ℤ)
left_if true choices = []
left_if false choices = choices

abbrev pub choices_left : Inside → List (List ℤ)
choices_left s = left_if s.is_done (choices_from s.ranges.now (map value_of s.chosen.items))

-- a choice has one number of each range, where any is left
pub record AreSubscripts (s : Inside) : Type 0 where
  pub len : length s.ranges.now ≡ length s.chosen.items
  pub some : s.is_done ≡ false → All HasNumbers s.ranges.now
