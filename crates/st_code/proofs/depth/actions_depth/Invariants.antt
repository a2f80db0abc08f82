use Rattle.std.proofs.Common.{◌≡◌, ◌-◌, ◌^◌, drop, map}
use Rattle.std.specs.List.{flat_map}
use Rattle.std.specs.Prelude.{max, min}
use Rattle.st_types.specs.Names.{actions_in}
use Rattle.st_code.specs.Depths.{action_depth, most}
use Rattle.st_code.proofs.depth.actions_depth.Given as goal

-- what is left makes it the whole
abbrev pub invariant-items : goal.invariant-items
invariant-items l = max l.depth (min (most (map (action_depth l.inputs) (flat_map actions_in (drop l.item-index l.elements)))) (2 ^ 64 - 1)) ≡ min (most (map (action_depth l.inputs) (flat_map actions_in l.elements))) (2 ^ 64 - 1)
