-- Subscripts of arrays that lie in the range of LINT (2.4.1.2).
use Rattle.std.specs.Prelude.{◌≤ℤ◌, IsTrue}
use Rattle.std.specs.List.{All}
use Rattle.st_values.specs.Values.{in_range}
use Rattle.st_values.specs.declared.elem.Elem.TheVariants as elems
use Rattle.st_tree.specs.declared.tree.declaration.Subrange.{Subrange}
use Rattle.st_types.specs.Compositions.{Composition, array, composed, Members, none, member}
use Rattle.st_tree.specs.Literals.{number_of}

-- both bounds are values of LINT, and the lower one isn't above the upper one
pub record IsBounded (r : Subrange) : Type 0 where
  pub lower : IsTrue (in_range elems.Lint (number_of r.lower))
  pub upper : IsTrue (in_range elems.Lint (number_of r.upper))
  pub ordered : number_of r.lower ≤ℤ number_of r.upper

-- those of all arrays in a whole are
abbrev mutual
  pub HasBounds : Composition → Type 0
  HasBounds (array ranges firsts c) = All IsBounded ranges × HasBounds c
  HasBounds (composed whole ms chart) = HaveBounds ms
  HasBounds _ = Unit {0}

  pub HaveBounds : Members → Type 0
  HaveBounds none = Unit {0}
  HaveBounds (member name kind c ms) = HasBounds c × HaveBounds ms
