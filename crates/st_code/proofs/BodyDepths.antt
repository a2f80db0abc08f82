-- Trees need at least as many cells as what they are typed as: statements.
use Rattle.std.proofs.Common.{ℕ, ◌+◌, ◌≤◌, List, [], ◌∷◌, map, Option, Some, None, subst, arith}
use Rattle.std.specs.Prelude.{max}
use Rattle.st_values.specs.declared.elem.Elem.{Elem}
use Rattle.st_values.specs.declared.elem.Elem.TheVariants as elems
use Rattle.st_tree.specs.declared.tree.expression.Argument.{Argument, out-Argument}
use Rattle.st_tree.specs.declared.tree.expression.Argument.TheOpen.{Argument-F}
use Rattle.st_tree.specs.declared.tree.expression.Call.{Call, out-Call}
use Rattle.st_tree.specs.declared.tree.expression.Expression.{Expression}
use Rattle.st_tree.specs.declared.tree.expression.Operation.{Operation}
use Rattle.st_tree.specs.declared.tree.expression.Part.{Part}
use Rattle.st_tree.specs.declared.tree.expression.Variable.{Variable}
use Rattle.st_tree.specs.declared.tree.statement.Statement.{Statement, fold-roll-Statement, ind-Statement, map-Statement, roll-Statement}
use Rattle.st_tree.specs.declared.tree.statement.CaseElement.{CaseElement, fold-roll-CaseElement, map-CaseElement, roll-CaseElement}
use Rattle.st_tree.specs.declared.tree.statement.CaseStatement.{CaseStatement, fold-roll-CaseStatement, map-CaseStatement, roll-CaseStatement}
use Rattle.st_tree.specs.declared.tree.statement.ConditionalPart.{ConditionalPart, fold-roll-ConditionalPart, map-ConditionalPart, roll-ConditionalPart}
use Rattle.st_tree.specs.declared.tree.statement.ForStatement.{ForStatement, fold-roll-ForStatement, map-ForStatement, roll-ForStatement}
use Rattle.st_tree.specs.declared.tree.statement.IfStatement.{IfStatement, fold-roll-IfStatement, map-IfStatement, roll-IfStatement}
use Rattle.st_tree.specs.declared.tree.statement.RepeatStatement.{RepeatStatement, fold-roll-RepeatStatement, map-RepeatStatement, roll-RepeatStatement}
use Rattle.st_tree.specs.declared.tree.statement.WhileStatement.{WhileStatement, fold-roll-WhileStatement, map-WhileStatement, roll-WhileStatement}
use Rattle.st_tree.specs.declared.tree.statement.Statement.TheOpen.{CaseElement-F, CaseStatement-F, ConditionalPart-F, ForStatement-F, IfStatement-F, RepeatStatement-F, Statement-F, WhileStatement-F}
use Rattle.st_types.specs.OwnTypes.{or_lint}
use Rattle.st_types.specs.declared.standard.StandardBlock.{StandardBlock}
use Rattle.st_leaves.specs.Selected.{selected_by}
use Rattle.st_meaning.specs.Terms.{Parts, whole, field_part, Command, Moves, Branches, Cases}
use Rattle.st_meaning.specs.Typing.{Typed, assignment, branch_of, branches_of, call_command, case_of, cases_of, command_of, commands_of, entrance, for_command, input_moves, input_of, inputs_of, invocation, output_moves, output_of, outputs_of, pin_of, place_of, step_typed, typed}
use Rattle.st_meaning.specs.Wholes.{Invoked, Whole, block_of, type_of}
use Rattle.st_meaning.proofs.TypedStatements.{case_statement_of, for_of, if_of, repeat_of, while_of}
use Rattle.st_code.specs.Depth.{branches_depth, cases_depth, command_depth, commands_depth, moves_depth, parts_depth, term_depth}
use Rattle.st_code.specs.Depths.{branch_depth, case_depth, element_depth, expression_depth, for_depth, if_depth, invocation_depth, most, move_cells, move_depth, place_depth, repeat_depth, statement_depth, step_depth, while_depth}
use Rattle.st_code.proofs.ExpressionDepths.{along, expression_deep, place_deep}
use Rattle.st_code.proofs.TypedDepths.{HasDepth, TakeAtMost, place_typed_depth}

-- ---- what needs at most so many cells

abbrev CommandDepth : Command → ℕ → Type 0
CommandDepth c d = command_depth c ≤ d

-- what puts a case or a branch before others
abbrev CasesDepth : (Elem → Cases → Cases) → ℕ → Type 0
CasesDepth f d = (e : Elem) (cs : Cases) → cases_depth (f e cs) ≤ max d (cases_depth cs)

abbrev BranchesDepth : (Branches → Branches) → ℕ → Type 0
BranchesDepth f d = (bs : Branches) → branches_depth (f bs) ≤ max d (branches_depth bs)

module _ (w : Whole) (inputs : ℕ) (few : TakeAtMost w inputs) where
  -- ---- one statement

  assignment_deep : (line : ℕ) (ps : Parts) (e : Option Elem) (x : Typed) (n m : ℕ) → HasDepth x n → parts_depth ps ≤ m → command_depth (assignment line ps e x) ≤ max n (1 + m)
  assignment_deep line ps None x n m h k = omega arith
  assignment_deep line ps (Some e) x n m h k = omega (arith, h.most e, k)

  step_deep : (step : Option Expression) (e : Elem) → term_depth (step_typed w step e) ≤ step_depth inputs step
  step_deep None e = omega arith
  step_deep (Some x) e = (expression_deep w inputs few x).most e

  for_deep : (line : ℕ) (ps : Parts) (e : Option Elem) (first last : Expression) (step : Option Expression) (ss : List Command) (d : ℕ) → commands_depth (commands_of ss) ≤ d
      → command_depth (for_command w line ps e first last step (commands_of ss)) ≤ max (max (max (expression_depth inputs first) (1 + expression_depth inputs last)) (2 + step_depth inputs step)) (3 + d)
  for_deep line ps None first last step ss d h = omega arith
  for_deep line ps (Some e) first last step ss d h = omega (arith, h, (expression_deep w inputs few first).most e, (expression_deep w inputs few last).most e, step_deep step e)

  -- ---- invocations

  input_deep : (name pin : List ℕ) (e : Option Elem) (x : Expression) (more : Moves) → moves_depth (input_moves w name e pin x more) ≤ max (max 1 (expression_depth inputs x)) (moves_depth more)
  input_deep name pin None x more = omega arith
  input_deep name pin (Some e) x more = omega (arith, (expression_deep w inputs few x).most e)

  one_input_deep : (name : List ℕ) (a : Argument-F Argument Expression Part Call Operation Variable) (more : Moves) → moves_depth (input_of w name a more) ≤ max (move_cells inputs a) (moves_depth more)
  one_input_deep name (Argument-F.Positional x) more = omega arith
  one_input_deep name (Argument-F.Input n x) more = input_deep name n.spelling (type_of w.variables (pin_of name n.spelling)) x more
  one_input_deep name (Argument-F.Output n v) more = omega arith

  inputs_deep : (name : List ℕ) (xs : List Argument) → moves_depth (inputs_of w name xs) ≤ most (map (move_depth inputs) xs)
  inputs_deep name [] = omega arith
  inputs_deep name (a ∷ more) = omega (arith, one_input_deep name (out-Argument a) (inputs_of w name more), inputs_deep name more)

  output_deep : (name pin : List ℕ) (e : Option Elem) (v : Variable) (more : Moves) → moves_depth (output_moves w name e pin v more) ≤ max (1 + place_depth inputs v) (moves_depth more)
  output_deep name pin None v more = omega arith
  output_deep name pin (Some e) v more = omega (arith, (place_typed_depth (pin_of name pin) (type_of w.variables (pin_of name pin))).most e, place_deep w inputs few v)

  one_output_deep : (name : List ℕ) (a : Argument-F Argument Expression Part Call Operation Variable) (more : Moves) → moves_depth (output_of w name a more) ≤ max (move_cells inputs a) (moves_depth more)
  one_output_deep name (Argument-F.Positional x) more = omega arith
  one_output_deep name (Argument-F.Input n x) more = omega arith
  one_output_deep name (Argument-F.Output n v) more = output_deep name n.spelling (type_of w.variables (place_of w v)) v more

  outputs_deep : (name : List ℕ) (xs : List Argument) → moves_depth (outputs_of w name xs) ≤ most (map (move_depth inputs) xs)
  outputs_deep name [] = omega arith
  outputs_deep name (a ∷ more) = omega (arith, one_output_deep name (out-Argument a) (outputs_of w name more), outputs_deep name more)

  entrance_deep : (line : ℕ) (name : List ℕ) (unit : Option Invoked) (xs : List Argument) → command_depth (entrance w line name unit xs) ≤ most (map (move_depth inputs) xs)
  entrance_deep line name None xs = omega arith
  entrance_deep line name (Some unit) xs = omega (arith, inputs_deep name xs, outputs_deep name xs)

  invocation_deep : (line : ℕ) (name : List ℕ) (b : Option StandardBlock) (xs : List Argument) → command_depth (invocation w line name b xs) ≤ most (map (move_depth inputs) xs)
  invocation_deep line name None xs = entrance_deep line name (w.invoked name) xs
  invocation_deep line name (Some b) xs = omega (arith, inputs_deep name xs, outputs_deep name xs)

  call_deep : (c : Call) → command_depth (call_command w c) ≤ invocation_depth inputs c
  call_deep c =
      let x = out-Call c in invocation_deep x.name.position.line x.name.spelling (block_of (selected_by w.variables x.name.spelling)) x.arguments

  -- ---- each kind of tree

  abbrev DeepStatement : Statement → Type 0
  DeepStatement z = CommandDepth (command_of w z) (statement_depth inputs z)

  abbrev DeepCaseElement : CaseElement → Type 0
  DeepCaseElement z = CasesDepth (case_of w z) (element_depth inputs z)

  abbrev DeepCaseStatement : CaseStatement → Type 0
  DeepCaseStatement z = CommandDepth (case_statement_of w z) (case_depth inputs z)

  abbrev DeepConditionalPart : ConditionalPart → Type 0
  DeepConditionalPart z = BranchesDepth (branch_of w z) (branch_depth inputs z)

  abbrev DeepForStatement : ForStatement → Type 0
  DeepForStatement z = CommandDepth (for_of w z) (for_depth inputs z)

  abbrev DeepIfStatement : IfStatement → Type 0
  DeepIfStatement z = CommandDepth (if_of w z) (if_depth inputs z)

  abbrev DeepRepeatStatement : RepeatStatement → Type 0
  DeepRepeatStatement z = CommandDepth (repeat_of w z) (repeat_depth inputs z)

  abbrev DeepWhileStatement : WhileStatement → Type 0
  DeepWhileStatement z = CommandDepth (while_of w z) (while_depth inputs z)

  abbrev SomeStatement : Type 0
  SomeStatement = (z : Statement) × DeepStatement z

  abbrev SomeCaseElement : Type 0
  SomeCaseElement = (z : CaseElement) × DeepCaseElement z

  abbrev SomeCaseStatement : Type 0
  SomeCaseStatement = (z : CaseStatement) × DeepCaseStatement z

  abbrev SomeConditionalPart : Type 0
  SomeConditionalPart = (z : ConditionalPart) × DeepConditionalPart z

  abbrev SomeForStatement : Type 0
  SomeForStatement = (z : ForStatement) × DeepForStatement z

  abbrev SomeIfStatement : Type 0
  SomeIfStatement = (z : IfStatement) × DeepIfStatement z

  abbrev SomeRepeatStatement : Type 0
  SomeRepeatStatement = (z : RepeatStatement) × DeepRepeatStatement z

  abbrev SomeWhileStatement : Type 0
  SomeWhileStatement = (z : WhileStatement) × DeepWhileStatement z

  -- ---- lists

  each_command : (xs : List SomeStatement) → commands_depth (commands_of (map (command_of w) (map (λ e. e.0) xs))) ≤ most (map (statement_depth inputs) (map (λ e. e.0) xs))
  each_command [] = omega arith
  each_command (x ∷ xs) = omega (arith, x.1, each_command xs)

  each_branch : (xs : List SomeConditionalPart) → branches_depth (branches_of (map (branch_of w) (map (λ e. e.0) xs))) ≤ most (map (branch_depth inputs) (map (λ e. e.0) xs))
  each_branch [] = omega arith
  each_branch (x ∷ xs) = omega (arith, x.1 (branches_of (map (branch_of w) (map (λ e. e.0) xs))), each_branch xs)

  each_case : (e : Elem) (xs : List SomeCaseElement) → cases_depth (cases_of e (map (case_of w) (map (λ z. z.0) xs))) ≤ most (map (element_depth inputs) (map (λ z. z.0) xs))
  each_case e [] = omega arith
  each_case e (x ∷ xs) = omega (arith, x.1 e (cases_of e (map (case_of w) (map (λ z. z.0) xs))), each_case e xs)

  -- ---- one layer of a tree

  statement_made : (y : Statement-F SomeStatement SomeCaseElement SomeCaseStatement SomeConditionalPart SomeForStatement SomeIfStatement SomeRepeatStatement SomeWhileStatement) → DeepStatement (roll-Statement (map-Statement _ _ _ _ _ _ _ _ Statement CaseElement CaseStatement ConditionalPart ForStatement IfStatement RepeatStatement WhileStatement (λ e. e.0) (λ e. e.0) (λ e. e.0) (λ e. e.0) (λ e. e.0) (λ e. e.0) (λ e. e.0) (λ e. e.0) y))
  statement_made (Statement-F.Empty p) =
      along CommandDepth (fold-roll-Statement _ _ _ _ _ _ _ _ _ _ _ _ _ _ _ _ _) (fold-roll-Statement _ _ _ _ _ _ _ _ _ _ _ _ _ _ _ _ _)
      (omega arith)
  statement_made (Statement-F.Assignment v x) =
      along CommandDepth (fold-roll-Statement _ _ _ _ _ _ _ _ _ _ _ _ _ _ _ _ _) (fold-roll-Statement _ _ _ _ _ _ _ _ _ _ _ _ _ _ _ _ _)
      (assignment_deep v.name.position.line (place_of w v) (type_of w.variables (place_of w v)) (typed w x) (expression_depth inputs x) (place_depth inputs v) (expression_deep w inputs few x) (place_deep w inputs few v))
  statement_made (Statement-F.Call c) =
      along CommandDepth (fold-roll-Statement _ _ _ _ _ _ _ _ _ _ _ _ _ _ _ _ _) (fold-roll-Statement _ _ _ _ _ _ _ _ _ _ _ _ _ _ _ _ _)
      (call_deep c)
  statement_made (Statement-F.Return p) =
      along CommandDepth (fold-roll-Statement _ _ _ _ _ _ _ _ _ _ _ _ _ _ _ _ _) (fold-roll-Statement _ _ _ _ _ _ _ _ _ _ _ _ _ _ _ _ _)
      (omega arith)
  statement_made (Statement-F.Exit p) =
      along CommandDepth (fold-roll-Statement _ _ _ _ _ _ _ _ _ _ _ _ _ _ _ _ _) (fold-roll-Statement _ _ _ _ _ _ _ _ _ _ _ _ _ _ _ _ _)
      (omega arith)
  statement_made (Statement-F.If c) =
      along CommandDepth (fold-roll-Statement _ _ _ _ _ _ _ _ _ _ _ _ _ _ _ _ _) (fold-roll-Statement _ _ _ _ _ _ _ _ _ _ _ _ _ _ _ _ _)
      (c.1)
  statement_made (Statement-F.Case c) =
      along CommandDepth (fold-roll-Statement _ _ _ _ _ _ _ _ _ _ _ _ _ _ _ _ _) (fold-roll-Statement _ _ _ _ _ _ _ _ _ _ _ _ _ _ _ _ _)
      (c.1)
  statement_made (Statement-F.For c) =
      along CommandDepth (fold-roll-Statement _ _ _ _ _ _ _ _ _ _ _ _ _ _ _ _ _) (fold-roll-Statement _ _ _ _ _ _ _ _ _ _ _ _ _ _ _ _ _)
      (c.1)
  statement_made (Statement-F.While c) =
      along CommandDepth (fold-roll-Statement _ _ _ _ _ _ _ _ _ _ _ _ _ _ _ _ _) (fold-roll-Statement _ _ _ _ _ _ _ _ _ _ _ _ _ _ _ _ _)
      (c.1)
  statement_made (Statement-F.Repeat c) =
      along CommandDepth (fold-roll-Statement _ _ _ _ _ _ _ _ _ _ _ _ _ _ _ _ _) (fold-roll-Statement _ _ _ _ _ _ _ _ _ _ _ _ _ _ _ _ _)
      (c.1)

  element_made : (y : CaseElement-F SomeStatement SomeCaseElement SomeCaseStatement SomeConditionalPart SomeForStatement SomeIfStatement SomeRepeatStatement SomeWhileStatement) → DeepCaseElement (roll-CaseElement (map-CaseElement _ _ _ _ _ _ _ _ Statement CaseElement CaseStatement ConditionalPart ForStatement IfStatement RepeatStatement WhileStatement (λ e. e.0) (λ e. e.0) (λ e. e.0) (λ e. e.0) (λ e. e.0) (λ e. e.0) (λ e. e.0) (λ e. e.0) y))
  element_made y =
      along CasesDepth (fold-roll-CaseElement _ _ _ _ _ _ _ _ _ _ _ _ _ _ _ _ _) (fold-roll-CaseElement _ _ _ _ _ _ _ _ _ _ _ _ _ _ _ _ _)
      (λ e cs. omega (arith, each_command y.statements))

  case_made : (y : CaseStatement-F SomeStatement SomeCaseElement SomeCaseStatement SomeConditionalPart SomeForStatement SomeIfStatement SomeRepeatStatement SomeWhileStatement) → DeepCaseStatement (roll-CaseStatement (map-CaseStatement _ _ _ _ _ _ _ _ Statement CaseElement CaseStatement ConditionalPart ForStatement IfStatement RepeatStatement WhileStatement (λ e. e.0) (λ e. e.0) (λ e. e.0) (λ e. e.0) (λ e. e.0) (λ e. e.0) (λ e. e.0) (λ e. e.0) y))
  case_made y =
      along CommandDepth (fold-roll-CaseStatement _ _ _ _ _ _ _ _ _ _ _ _ _ _ _ _ _) (fold-roll-CaseStatement _ _ _ _ _ _ _ _ _ _ _ _ _ _ _ _ _)
      (let x = typed w y.selector in omega (arith, (expression_deep w inputs few y.selector).most (or_lint x.own), each_case (or_lint x.own) y.cases, each_command y.otherwise))

  part_made : (y : ConditionalPart-F SomeStatement SomeCaseElement SomeCaseStatement SomeConditionalPart SomeForStatement SomeIfStatement SomeRepeatStatement SomeWhileStatement) → DeepConditionalPart (roll-ConditionalPart (map-ConditionalPart _ _ _ _ _ _ _ _ Statement CaseElement CaseStatement ConditionalPart ForStatement IfStatement RepeatStatement WhileStatement (λ e. e.0) (λ e. e.0) (λ e. e.0) (λ e. e.0) (λ e. e.0) (λ e. e.0) (λ e. e.0) (λ e. e.0) y))
  part_made y =
      along BranchesDepth (fold-roll-ConditionalPart _ _ _ _ _ _ _ _ _ _ _ _ _ _ _ _ _) (fold-roll-ConditionalPart _ _ _ _ _ _ _ _ _ _ _ _ _ _ _ _ _)
      (λ bs. omega (arith, (expression_deep w inputs few y.condition).most elems.Bool, each_command y.statements))

  for_made : (y : ForStatement-F SomeStatement SomeCaseElement SomeCaseStatement SomeConditionalPart SomeForStatement SomeIfStatement SomeRepeatStatement SomeWhileStatement) → DeepForStatement (roll-ForStatement (map-ForStatement _ _ _ _ _ _ _ _ Statement CaseElement CaseStatement ConditionalPart ForStatement IfStatement RepeatStatement WhileStatement (λ e. e.0) (λ e. e.0) (λ e. e.0) (λ e. e.0) (λ e. e.0) (λ e. e.0) (λ e. e.0) (λ e. e.0) y))
  for_made y =
      along CommandDepth (fold-roll-ForStatement _ _ _ _ _ _ _ _ _ _ _ _ _ _ _ _ _) (fold-roll-ForStatement _ _ _ _ _ _ _ _ _ _ _ _ _ _ _ _ _)
      (let ps = field_part y.variable.spelling whole in for_deep y.position.line ps (type_of w.variables ps) y.first y.last y.step (map (command_of w) (map (λ e. e.0) y.statements)) (most (map (statement_depth inputs) (map (λ e. e.0) y.statements))) (each_command y.statements))

  if_made : (y : IfStatement-F SomeStatement SomeCaseElement SomeCaseStatement SomeConditionalPart SomeForStatement SomeIfStatement SomeRepeatStatement SomeWhileStatement) → DeepIfStatement (roll-IfStatement (map-IfStatement _ _ _ _ _ _ _ _ Statement CaseElement CaseStatement ConditionalPart ForStatement IfStatement RepeatStatement WhileStatement (λ e. e.0) (λ e. e.0) (λ e. e.0) (λ e. e.0) (λ e. e.0) (λ e. e.0) (λ e. e.0) (λ e. e.0) y))
  if_made y =
      along CommandDepth (fold-roll-IfStatement _ _ _ _ _ _ _ _ _ _ _ _ _ _ _ _ _) (fold-roll-IfStatement _ _ _ _ _ _ _ _ _ _ _ _ _ _ _ _ _)
      (omega (arith, each_branch y.parts, each_command y.otherwise))

  repeat_made : (y : RepeatStatement-F SomeStatement SomeCaseElement SomeCaseStatement SomeConditionalPart SomeForStatement SomeIfStatement SomeRepeatStatement SomeWhileStatement) → DeepRepeatStatement (roll-RepeatStatement (map-RepeatStatement _ _ _ _ _ _ _ _ Statement CaseElement CaseStatement ConditionalPart ForStatement IfStatement RepeatStatement WhileStatement (λ e. e.0) (λ e. e.0) (λ e. e.0) (λ e. e.0) (λ e. e.0) (λ e. e.0) (λ e. e.0) (λ e. e.0) y))
  repeat_made y =
      along CommandDepth (fold-roll-RepeatStatement _ _ _ _ _ _ _ _ _ _ _ _ _ _ _ _ _) (fold-roll-RepeatStatement _ _ _ _ _ _ _ _ _ _ _ _ _ _ _ _ _)
      (omega (arith, (expression_deep w inputs few y.condition).most elems.Bool, each_command y.statements))

  while_made : (y : WhileStatement-F SomeStatement SomeCaseElement SomeCaseStatement SomeConditionalPart SomeForStatement SomeIfStatement SomeRepeatStatement SomeWhileStatement) → DeepWhileStatement (roll-WhileStatement (map-WhileStatement _ _ _ _ _ _ _ _ Statement CaseElement CaseStatement ConditionalPart ForStatement IfStatement RepeatStatement WhileStatement (λ e. e.0) (λ e. e.0) (λ e. e.0) (λ e. e.0) (λ e. e.0) (λ e. e.0) (λ e. e.0) (λ e. e.0) y))
  while_made y =
      along CommandDepth (fold-roll-WhileStatement _ _ _ _ _ _ _ _ _ _ _ _ _ _ _ _ _) (fold-roll-WhileStatement _ _ _ _ _ _ _ _ _ _ _ _ _ _ _ _ _)
      (omega (arith, (expression_deep w inputs few y.condition).most elems.Bool, each_command y.statements))

  -- ---- whole trees

  statement_deep : (x : Statement) → DeepStatement x
  statement_deep =
      ind-Statement DeepStatement DeepCaseElement DeepCaseStatement DeepConditionalPart DeepForStatement DeepIfStatement DeepRepeatStatement DeepWhileStatement
      (λ x y is. subst (λ z. DeepStatement (roll-Statement z)) is (statement_made y))
      (λ x y is. subst (λ z. DeepCaseElement (roll-CaseElement z)) is (element_made y))
      (λ x y is. subst (λ z. DeepCaseStatement (roll-CaseStatement z)) is (case_made y))
      (λ x y is. subst (λ z. DeepConditionalPart (roll-ConditionalPart z)) is (part_made y))
      (λ x y is. subst (λ z. DeepForStatement (roll-ForStatement z)) is (for_made y))
      (λ x y is. subst (λ z. DeepIfStatement (roll-IfStatement z)) is (if_made y))
      (λ x y is. subst (λ z. DeepRepeatStatement (roll-RepeatStatement z)) is (repeat_made y))
      (λ x y is. subst (λ z. DeepWhileStatement (roll-WhileStatement z)) is (while_made y))

  pub body_deep : (body : List Statement) → commands_depth (commands_of (map (command_of w) body)) ≤ most (map (statement_depth inputs) body)
  body_deep [] = omega arith
  body_deep (x ∷ body) = omega (arith, statement_deep x, body_deep body)
