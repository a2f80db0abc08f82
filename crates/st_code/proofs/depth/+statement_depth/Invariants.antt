use Rattle.std.proofs.Common.{◌≡◌, ◌-◌, ◌^◌, drop, map}
use Rattle.std.specs.Prelude.{max, min}
use Rattle.st_code.specs.Depths.{branch_depth, element_depth, most, statement_depth}
use Rattle.st_code.proofs.depth.+statement_depth.Given as goal

-- what is left makes it the whole
abbrev pub invariant-statements_depth-items : goal.invariant-statements_depth-items
invariant-statements_depth-items l = max l.depth (min (most (map (statement_depth l.inputs) (drop l.item-index l.statements))) (2 ^ 64 - 1)) ≡ min (most (map (statement_depth l.inputs) l.statements)) (2 ^ 64 - 1)

abbrev pub invariant-branches_depth-items : goal.invariant-branches_depth-items
invariant-branches_depth-items l = max l.depth (min (most (map (branch_depth l.inputs) (drop l.item-index l.branches))) (2 ^ 64 - 1)) ≡ min (most (map (branch_depth l.inputs) l.branches)) (2 ^ 64 - 1)

abbrev pub invariant-elements_depth-items : goal.invariant-elements_depth-items
invariant-elements_depth-items l = max l.depth (min (most (map (element_depth l.inputs) (drop l.item-index l.elements))) (2 ^ 64 - 1)) ≡ min (most (map (element_depth l.inputs) l.elements)) (2 ^ 64 - 1)
