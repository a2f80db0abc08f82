use Rattle.std.proofs.Common.{◌≡◌, ◌+◌, length, ◌-◌, ◌^◌, ◌≤◌, true, drop, map}
use Rattle.std.specs.List.{flat_map}
use Rattle.std.specs.Prelude.{max, min}
use Rattle.st_code.specs.Depths.{all_cells, argument_depths, expression_depth, in_turn, most, operation_depth, part_depth, unnamed_cells}
use Rattle.st_code.proofs.depth.+expression_depth.Given as goal

-- what is left makes it the whole
abbrev pub invariant-operations_depth-items : goal.invariant-operations_depth-items
invariant-operations_depth-items l = max l.depth (min (most (map (operation_depth l.inputs) (drop l.item-index l.operations))) (2 ^ 64 - 1)) ≡ min (most (map (operation_depth l.inputs) l.operations)) (2 ^ 64 - 1)

abbrev pub invariant-parts_depth-items : goal.invariant-parts_depth-items
invariant-parts_depth-items l = max l.depth (min (most (map (part_depth l.inputs) (drop l.item-index l.parts))) (2 ^ 64 - 1)) ≡ min (most (map (part_depth l.inputs) l.parts)) (2 ^ 64 - 1)

abbrev pub invariant-subscripts_depth-items : goal.invariant-subscripts_depth-items
invariant-subscripts_depth-items l =
    max l.depth (min (in_turn true l.below (map (expression_depth l.inputs) (drop l.below l.subscripts))) (2 ^ 64 - 1)) ≡ min (in_turn true 0 (map (expression_depth l.inputs) l.subscripts)) (2 ^ 64 - 1)

abbrev pub invariant-unnamed_depth-items : goal.invariant-unnamed_depth-items
invariant-unnamed_depth-items l = record {
  few : l.below ≤ l.item-index;
  left : max l.depth (min (in_turn l.stay l.below (unnamed_cells (flat_map (λ a. a) (map (argument_depths l.inputs) (drop l.item-index l.arguments))))) (2 ^ 64 - 1)) ≡ min (in_turn l.stay 0 (unnamed_cells (flat_map (λ a. a) (map (argument_depths l.inputs) l.arguments)))) (2 ^ 64 - 1);
}

abbrev pub invariant-passed_depth-items : goal.invariant-passed_depth-items
invariant-passed_depth-items l = record {
  few : l.below ≤ l.item-index;
  count : l.below + length (flat_map (λ a. a) (map (argument_depths l.inputs) (drop l.item-index l.arguments))) ≡ length (flat_map (λ a. a) (map (argument_depths l.inputs) l.arguments));
  left : max l.depth (min (in_turn true l.below (all_cells (flat_map (λ a. a) (map (argument_depths l.inputs) (drop l.item-index l.arguments))))) (2 ^ 64 - 1)) ≡ min (in_turn true 0 (all_cells (flat_map (λ a. a) (map (argument_depths l.inputs) l.arguments)))) (2 ^ 64 - 1);
}
