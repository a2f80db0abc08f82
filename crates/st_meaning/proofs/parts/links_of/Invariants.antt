use Rattle.std.proofs.Common.{◌≡◌, length, take}
use Rattle.std.specs.List.{flat_map}
use Rattle.st_types.specs.Names.{steps_in}
use Rattle.st_meaning.specs.Sketched.{links_from}
use Rattle.st_meaning.proofs.parts.links_of.Given as goal

-- of the elements so far, and the number of the next step
abbrev pub invariant-elements : goal.invariant-elements
invariant-elements l = record {
  links : l.links.items ≡ links_from l.names 0 (flat_map steps_in (take l.element-index l.elements));
  number : l.number ≡ length (flat_map steps_in (take l.element-index l.elements));
}
