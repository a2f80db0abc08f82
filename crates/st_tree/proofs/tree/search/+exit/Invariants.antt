use Rattle.std.proofs.Common.{◌≡◌, drop, map}
use Rattle.st_tree.specs.Trees.{any, conditional_has_exit, element_has_exit, has_exit}
use Rattle.st_tree.proofs.tree.search.+exit.Given as goal

-- what is left has the answer
abbrev pub invariant-any_statement-items : goal.invariant-any_statement-items
invariant-any_statement-items l = any (map has_exit (drop l.item-index l.statements)) ≡ any (map has_exit l.statements)

abbrev pub invariant-any_conditional-items : goal.invariant-any_conditional-items
invariant-any_conditional-items l = any (map conditional_has_exit (drop l.item-index l.parts)) ≡ any (map conditional_has_exit l.parts)

abbrev pub invariant-any_element-items : goal.invariant-any_element-items
invariant-any_element-items l = any (map element_has_exit (drop l.item-index l.elements)) ≡ any (map element_has_exit l.elements)
