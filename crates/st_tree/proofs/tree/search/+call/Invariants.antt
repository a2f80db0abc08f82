use Rattle.std.proofs.Common.{◌≡◌, drop, map}
use Rattle.st_tree.specs.Trees.{any, has_call, operation_has_call, part_has_call}
use Rattle.st_tree.proofs.tree.search.+call.Given as goal

-- what is left has the answer
abbrev pub invariant-any_operation-items : goal.invariant-any_operation-items
invariant-any_operation-items l = any (map operation_has_call (drop l.item-index l.operations)) ≡ any (map operation_has_call l.operations)

abbrev pub invariant-any_part-items : goal.invariant-any_part-items
invariant-any_part-items l = any (map part_has_call (drop l.item-index l.parts)) ≡ any (map part_has_call l.parts)

abbrev pub invariant-any_expression-items : goal.invariant-any_expression-items
invariant-any_expression-items l = any (map has_call (drop l.item-index l.expressions)) ≡ any (map has_call l.expressions)
