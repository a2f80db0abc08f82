use Rattle.std.proofs.Common.{◌≡◌, map, take}
use Rattle.std.specs.List.{flat_map}
use Rattle.st_types.specs.Names.{actions_in}
use Rattle.st_meaning.specs.Sketched.{number_among}
use Rattle.st_meaning.proofs.parts.actions_of.Given as goal

-- of the elements so far
abbrev pub invariant-elements : goal.invariant-elements
invariant-elements l = l.numbers.items ≡ map (λ a. number_among l.names a.name.spelling) (flat_map actions_in (take l.element-index l.elements))
