use Rattle.std.proofs.Common.{◌≡◌, map, take}
use Rattle.std.specs.List.{flat_map}
use Rattle.st_charts.specs.Passages.{passages_of}
use Rattle.st_meaning.specs.Sketched.{passage_in, transitions_in}
use Rattle.st_meaning.proofs.numbers.transitions_of.Given as goal

-- the transitions of the elements so far
abbrev pub invariant-elements : goal.invariant-elements
invariant-elements l = passages_of l.transitions.items ≡ map (passage_in l.steps) (flat_map transitions_in (take l.element-index l.elements))
