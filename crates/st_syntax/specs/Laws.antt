-- What follows of lengths.
use Rattle.std.specs.Prelude.{ℕ, ◌≤◌, ◌^◌, List}
use Rattle.std.specs.List.{All}
use Rattle.st_tree.specs.declared.tree.unit.Unit.{Unit as Section}
use Rattle.st_syntax.specs.Lengths.{IsShort, total, unit_length}

abbrev pub NoneIsMore : Type 0
NoneIsMore = (lengths : List ℕ) → All (λ n. n ≤ total lengths) lengths

abbrev pub UnitsOfShortTextsAreShort : Type 0
UnitsOfShortTextsAreShort = (text : List Section) → IsShort text → All (λ unit. unit_length unit ≤ 2 ^ 20) text
