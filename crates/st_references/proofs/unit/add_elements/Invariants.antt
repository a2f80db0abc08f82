use Rattle.std.proofs.Common.{◌≡◌, ◌++◌, drop}
use Rattle.std.specs.List.{flat_map}
use Rattle.st_references.specs.Callers.{called_by}
use Rattle.st_references.specs.Calls.{element_calls}
use Rattle.st_references.proofs.unit.add_elements.Given as goal

-- with what is left the row becomes what it becomes with all
abbrev pub invariant-items : goal.invariant-items
invariant-items l =
    l.row ++ flat_map (called_by l.caller) (flat_map element_calls (drop l.element-index l.elements))
    ≡ l.initial.row ++ flat_map (called_by l.caller) (flat_map element_calls l.elements)
