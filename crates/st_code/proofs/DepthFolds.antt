-- How many cells a node needs is told by its parts.
use Rattle.std.proofs.Common.{rules, ◌≡◌, ap, sym, ◌∙◌, Option, ℕ, ◌+◌, List, ◌∷◌, [], map, true, false}
use Rattle.std.specs.List.{flat_map}
use Rattle.std.specs.Prelude.{max}
use Rattle.st_tree.specs.declared.tree.expression.Argument as the_argument
use Rattle.st_tree.specs.declared.tree.expression.Argument.TheVariants as arguments
use Rattle.st_tree.specs.declared.tree.expression.Call as the_call
use Rattle.st_tree.specs.declared.tree.expression.Call.{Call}
use Rattle.st_tree.specs.declared.tree.expression.Expression as the_expression
use Rattle.st_tree.specs.declared.tree.expression.Expression.{Expression}
use Rattle.st_tree.specs.declared.tree.expression.Expression.TheVariants as expressions
use Rattle.st_tree.specs.declared.tree.expression.Operation.{Operation}
use Rattle.st_tree.specs.declared.tree.expression.Part as the_part
use Rattle.st_tree.specs.declared.tree.expression.Part.TheVariants as parts
use Rattle.st_tree.specs.declared.tree.expression.Variable.{Variable}
use Rattle.st_tree.specs.declared.tree.position.Identifier.{Identifier}
use Rattle.st_tree.specs.declared.tree.position.Position.{Position}
use Rattle.st_tree.specs.declared.tree.statement.CaseElement as the_element
use Rattle.st_tree.specs.declared.tree.statement.CaseElement.{CaseElement}
use Rattle.st_tree.specs.declared.tree.statement.CaseStatement as the_case
use Rattle.st_tree.specs.declared.tree.statement.CaseStatement.{CaseStatement, out-CaseStatement}
use Rattle.st_tree.specs.declared.tree.statement.ConditionalPart as the_branch
use Rattle.st_tree.specs.declared.tree.statement.ConditionalPart.{ConditionalPart}
use Rattle.st_tree.specs.declared.tree.statement.ForStatement as the_for
use Rattle.st_tree.specs.declared.tree.statement.ForStatement.{ForStatement}
use Rattle.st_tree.specs.declared.tree.statement.IfStatement as the_if
use Rattle.st_tree.specs.declared.tree.statement.IfStatement.{IfStatement, out-IfStatement}
use Rattle.st_tree.specs.declared.tree.statement.RepeatStatement as the_repeat
use Rattle.st_tree.specs.declared.tree.statement.RepeatStatement.{RepeatStatement}
use Rattle.st_tree.specs.declared.tree.statement.WhileStatement as the_while
use Rattle.st_tree.specs.declared.tree.statement.WhileStatement.{WhileStatement}
use Rattle.st_types.specs.Standard.{standard_of}
use Rattle.st_types.specs.declared.standard.Standard.{Standard}
use Rattle.st_code.specs.Depths.{argument_depths, branch_depth, call_depth, called_cells, case_depth, element_depth, expression_depth, for_depth, if_depth, in_turn, most, operation_depth, part_depth, repeat_depth, statement_depth, step_depth, while_depth}

module _ (inputs : ℕ) where
  pub if_is : (s : IfStatement) → if_depth inputs s ≡ max (most (map (branch_depth inputs) (out-IfStatement s).parts)) (most (map (statement_depth inputs) (out-IfStatement s).otherwise))
  if_is s = search (rules, the_if.the_lemmas)

  pub branch_is : (b : ConditionalPart) → branch_depth inputs b ≡ max (expression_depth inputs b.condition) (most (map (statement_depth inputs) b.statements))
  branch_is b = search (rules, the_branch.the_lemmas)

  pub case_is : (s : CaseStatement)
      → case_depth inputs s ≡ max (expression_depth inputs (out-CaseStatement s).selector) (max (most (map (element_depth inputs) (out-CaseStatement s).cases)) (most (map (statement_depth inputs) (out-CaseStatement s).otherwise)))
  case_is s = search (rules, the_case.the_lemmas)

  pub element_is : (e : CaseElement) → element_depth inputs e ≡ max 4 (most (map (statement_depth inputs) e.statements))
  element_is e = search (rules, the_element.the_lemmas)

  pub for_is : (s : ForStatement)
      → for_depth inputs s ≡ max (max (max (expression_depth inputs s.first) (1 + expression_depth inputs s.last)) (2 + step_depth inputs s.step)) (3 + most (map (statement_depth inputs) s.statements))
  for_is s = search (rules, the_for.the_lemmas)

  pub while_is : (s : WhileStatement) → while_depth inputs s ≡ max (expression_depth inputs s.condition) (most (map (statement_depth inputs) s.statements))
  while_is s = search (rules, the_while.the_lemmas)

  pub repeat_is : (s : RepeatStatement) → repeat_depth inputs s ≡ max (expression_depth inputs s.condition) (most (map (statement_depth inputs) s.statements))
  repeat_is s = search (rules, the_repeat.the_lemmas)

  pub chain_is : (p : Position) (x : Expression) (os : List Operation) → expression_depth inputs (expressions.Chain p x os) ≡ max (expression_depth inputs x) (most (map (operation_depth inputs) os))
  chain_is p x os = search (rules, the_expression.the_lemmas)

  pub subscripts_is : (p : Position) (xs : List Expression) → part_depth inputs (parts.Subscripts p xs) ≡ max 2 (1 + in_turn true 0 (map (expression_depth inputs) xs))
  subscripts_is p xs = search (rules, the_part.the_lemmas)

  pub call_is : (c : Call) → call_depth inputs c ≡ called_cells inputs (standard_of c.name.spelling) (flat_map (λ a. a) (map (argument_depths inputs) c.arguments))
  call_is c = search (rules, the_call.the_lemmas)

  -- by what stands under its name
  pub called_is : (c : Call) (name : List ℕ) (s : Option Standard) → name ≡ c.name.spelling → standard_of name ≡ s
      → call_depth inputs c ≡ called_cells inputs s (flat_map (λ a. a) (map (argument_depths inputs) c.arguments))
  called_is c name s same is = call_is c ∙ ap (λ o. called_cells inputs o (flat_map (λ a. a) (map (argument_depths inputs) c.arguments))) (ap standard_of (sym same) ∙ is)

  pub positional_is : (x : Expression) → argument_depths inputs (arguments.Positional x) ≡ record { named = false; cells = expression_depth inputs x } ∷ []
  positional_is x = search (rules, the_argument.the_lemmas)

  pub input_is : (n : Identifier) (x : Expression) → argument_depths inputs (arguments.Input n x) ≡ record { named = true; cells = expression_depth inputs x } ∷ []
  input_is n x = search (rules, the_argument.the_lemmas)

  pub output_is : (n : Identifier) (v : Variable) → argument_depths inputs (arguments.Output n v) ≡ []
  output_is n v = search (rules, the_argument.the_lemmas)
