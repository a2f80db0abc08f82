use Rattle.std.proofs.Common.{◌≡◌, map, take}
use Rattle.std.specs.List.{flat_map, list_any}
use Rattle.st_types.specs.Names.{steps_in}
use Rattle.st_leaves.specs.Charts.{is_pulse}
use Rattle.st_meaning.proofs.parts.pulses_of.Given as goal

-- of the elements so far
abbrev pub invariant-elements : goal.invariant-elements
invariant-elements l = l.pulses.items ≡ map (λ s. list_any is_pulse s.associations) (flat_map steps_in (take l.element-index l.elements))
