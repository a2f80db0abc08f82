use Rattle.std.proofs.Common.{◌≡◌, ◌+◌, ◌≤◌, drop, length}
use Rattle.std.specs.List.{flat_map}
use Rattle.st_types.specs.Names.{actions_in}
use Rattle.st_code.proofs.depth.count_actions.Given as goal

-- what is left makes it the whole
abbrev pub invariant-items : goal.invariant-items
invariant-items l = record {
  few : l.count ≤ l.item-index;
  left : l.count + length (flat_map actions_in (drop l.item-index l.elements)) ≡ length (flat_map actions_in l.elements);
}
