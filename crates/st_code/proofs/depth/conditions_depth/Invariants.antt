use Rattle.std.proofs.Common.{◌≡◌, ◌-◌, ◌^◌, ◌≤◌, true, drop}
use Rattle.std.specs.List.{flat_map}
use Rattle.std.specs.Prelude.{max, min}
use Rattle.st_code.specs.Depths.{condition_depths, in_turn}
use Rattle.st_code.proofs.depth.conditions_depth.Given as goal

-- what is left makes it the whole
abbrev pub invariant-items : goal.invariant-items
invariant-items l = record {
  few : l.below ≤ l.item-index;
  left : max l.depth (min (in_turn true l.below (flat_map (condition_depths l.inputs) (drop l.item-index l.elements))) (2 ^ 64 - 1)) ≡ min (in_turn true 0 (flat_map (condition_depths l.inputs) l.elements)) (2 ^ 64 - 1);
}
