use Rattle.std.proofs.Common.{◌≡◌, take}
use Rattle.std.specs.List.{flat_map}
use Rattle.st_types.specs.Names.{steps_in}
use Rattle.st_chart_parts.proofs.parts.step_parts.Given as goal

-- of the elements so far
abbrev pub invariant-elements : goal.invariant-elements
invariant-elements l = l.steps.items ≡ flat_map steps_in (take l.element-index l.elements)
