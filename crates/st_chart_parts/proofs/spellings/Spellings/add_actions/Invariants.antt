use Rattle.std.proofs.Common.{◌≡◌, ◌++◌, take}
use Rattle.st_leaves.specs.Charts.{action_names}
use Rattle.st_chart_parts.proofs.spellings.Spellings.add_actions.Given as goal

-- of the elements so far
abbrev pub invariant-elements : goal.invariant-elements
invariant-elements l = l.self ≡ l.initial.self ++ action_names (take l.element-index l.elements)
