use Rattle.std.proofs.Common.{◌≡◌, map, take}
use Rattle.std.specs.List.{flat_map}
use Rattle.st_types.specs.Names.{steps_in}
use Rattle.st_meaning.proofs.numbers.step_names.Given as goal

-- the names of the elements so far
abbrev pub invariant-elements : goal.invariant-elements
invariant-elements l = l.names ≡ map (λ s. s.name.spelling) (flat_map steps_in (take l.element-index l.elements))
