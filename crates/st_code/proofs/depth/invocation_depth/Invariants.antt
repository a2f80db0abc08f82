use Rattle.std.proofs.Common.{◌≡◌, ◌-◌, ◌^◌, drop, map}
use Rattle.std.specs.Prelude.{max, min}
use Rattle.st_tree.specs.declared.tree.expression.Call.{out-Call}
use Rattle.st_code.specs.Depths.{most, move_depth}
use Rattle.st_code.proofs.depth.invocation_depth.Given as goal

-- what is left makes it the whole
abbrev pub invariant-items : goal.invariant-items
invariant-items l = max l.depth (min (most (map (move_depth l.inputs) (drop l.item-index (out-Call l.call).arguments))) (2 ^ 64 - 1)) ≡ min (most (map (move_depth l.inputs) (out-Call l.call).arguments)) (2 ^ 64 - 1)
