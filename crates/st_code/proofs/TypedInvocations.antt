-- What the commands invoke that typing makes of statements: the bodies of the units that the names are instances of.
use Rattle.std.proofs.Common.{◌≡◌, ℕ, List, [], ◌∷◌, map, Option, Some, None, refl, sym, subst}
use Rattle.std.specs.List.{flat_map}
use Rattle.st_values.specs.declared.elem.Elem.{Elem}
use Rattle.st_tree.specs.declared.tree.expression.Argument.{Argument}
use Rattle.st_tree.specs.declared.tree.expression.Call.{Call, out-Call}
use Rattle.st_tree.specs.declared.tree.expression.Expression.{Expression}
use Rattle.st_tree.specs.declared.tree.statement.CaseElement.{CaseElement, fold-roll-CaseElement, map-CaseElement, roll-CaseElement}
use Rattle.st_tree.specs.declared.tree.statement.CaseStatement.{CaseStatement, fold-roll-CaseStatement, map-CaseStatement, roll-CaseStatement}
use Rattle.st_tree.specs.declared.tree.statement.ConditionalPart.{ConditionalPart, fold-roll-ConditionalPart, map-ConditionalPart, roll-ConditionalPart}
use Rattle.st_tree.specs.declared.tree.statement.ForStatement.{ForStatement, fold-roll-ForStatement, map-ForStatement, roll-ForStatement}
use Rattle.st_tree.specs.declared.tree.statement.IfStatement.{IfStatement, fold-roll-IfStatement, map-IfStatement, roll-IfStatement}
use Rattle.st_tree.specs.declared.tree.statement.RepeatStatement.{RepeatStatement, fold-roll-RepeatStatement, map-RepeatStatement, roll-RepeatStatement}
use Rattle.st_tree.specs.declared.tree.statement.Statement.{Statement, fold-roll-Statement, ind-Statement, map-Statement, roll-Statement}
use Rattle.st_tree.specs.declared.tree.statement.Statement.TheOpen.{CaseElement-F, CaseStatement-F, ConditionalPart-F, ForStatement-F, IfStatement-F, RepeatStatement-F, Statement-F, WhileStatement-F}
use Rattle.st_tree.specs.declared.tree.statement.WhileStatement.{WhileStatement, fold-roll-WhileStatement, map-WhileStatement, roll-WhileStatement}
use Rattle.st_tree.specs.declared.tree.unit.Action.{Action}
use Rattle.st_tree.specs.declared.tree.unit.ChartElement.{ChartElement}
use Rattle.st_types.specs.Names.{actions_in}
use Rattle.st_types.specs.OwnTypes.{or_lint}
use Rattle.st_types.specs.declared.standard.StandardBlock.{StandardBlock}
use Rattle.st_leaves.specs.Selected.{selected_by}
use Rattle.st_meaning.specs.Steps.{chart_within}
use Rattle.st_meaning.specs.Terms.{Parts, whole, field_part, Command, Commands, Branches, Cases}
use Rattle.st_meaning.specs.Typing.{Typed, actions_of, assignment, body_in, body_of, branch_of, branches_of, call_command, case_of, cases_of, chart_or, command_of, commands_of, entrance, for_command, invocation, place_of, typed}
use Rattle.st_meaning.specs.Wholes.{Invoked, Whole, block_of, type_of}
use Rattle.st_code.specs.Entrances.{IsInvokedWhere, TypingEntersInstances}
use Rattle.st_code.specs.Invocations.{ActionsInvoke, Asked, BodyInvokes, BranchesInvoke, CasesInvoke, CommandInvokes, Invoke, IsInvokedAs, TypingInvokesBodies}

module _ (w : Whole) (asked : Asked) (are : (name : List ℕ) (unit : Invoked) → w.invoked name ≡ Some unit → asked name unit.number unit.body) where
  abbrev Invokes : Command → Type 0
  Invokes = CommandInvokes asked

  -- ---- one statement

  entrance_invokes : (line : ℕ) (name : List ℕ) (unit : Option Invoked) (xs : List Argument) → w.invoked name ≡ unit
      → Invokes (entrance w line name unit xs)
  entrance_invokes line name None xs h = tt
  entrance_invokes line name (Some unit) xs h = are name unit h

  invocation_invokes : (line : ℕ) (name : List ℕ) (b : Option StandardBlock) (xs : List Argument) → Invokes (invocation w line name b xs)
  invocation_invokes line name None xs = entrance_invokes line name (w.invoked name) xs refl
  invocation_invokes line name (Some b) xs = tt

  call_invokes : (c : Call) → Invokes (call_command w c)
  call_invokes c =
      let x = out-Call c in
      invocation_invokes x.name.position.line x.name.spelling (block_of (selected_by w.variables x.name.spelling)) x.arguments

  assignment_invokes : (line : ℕ) (ps : Parts) (e : Option Elem) (x : Typed) → Invokes (assignment line ps e x)
  assignment_invokes line ps None x = tt
  assignment_invokes line ps (Some e) x = tt

  for_invokes : (line : ℕ) (ps : Parts) (e : Option Elem) (first last : Expression) (step : Option Expression) (cs : Commands)
      → Invoke asked cs → Invokes (for_command w line ps e first last step cs)
  for_invokes line ps None first last step cs calls = tt
  for_invokes line ps (Some e) first last step cs calls = calls

  -- ---- lists

  each_command : (xs : List ((z : Statement) × Invokes (command_of w z))) → Invoke asked (commands_of (map (command_of w) (map (λ e. e.0) xs)))
  each_command [] = tt
  each_command (x ∷ xs) = (x.1, each_command xs)

  -- a branch before others, and a case before others
  abbrev PartInvokes : ConditionalPart → Type 0
  PartInvokes z = (bs : Branches) → BranchesInvoke asked bs → BranchesInvoke asked (branch_of w z bs)

  each_branch : (xs : List ((z : ConditionalPart) × PartInvokes z)) → BranchesInvoke asked (branches_of (map (branch_of w) (map (λ e. e.0) xs)))
  each_branch [] = tt
  each_branch (x ∷ xs) = x.1 (branches_of (map (branch_of w) (map (λ e. e.0) xs))) (each_branch xs)

  abbrev ElementInvokes : CaseElement → Type 0
  ElementInvokes z = (e : Elem) (cs : Cases) → CasesInvoke asked cs → CasesInvoke asked (case_of w z e cs)

  each_case : (e : Elem) (xs : List ((z : CaseElement) × ElementInvokes z)) → CasesInvoke asked (cases_of e (map (case_of w) (map (λ z. z.0) xs)))
  each_case e [] = tt
  each_case e (x ∷ xs) = x.1 e (cases_of e (map (case_of w) (map (λ z. z.0) xs))) (each_case e xs)

  -- ---- one layer of a tree, where each part does

  abbrev StatementInvokes : Statement → Type 0
  StatementInvokes z = Invokes (command_of w z)

  abbrev CaseInvokes : CaseStatement → Type 0
  CaseInvokes z = StatementInvokes (roll-Statement (Statement-F.Case z))

  abbrev ForInvokes : ForStatement → Type 0
  ForInvokes z = StatementInvokes (roll-Statement (Statement-F.For z))

  abbrev IfInvokes : IfStatement → Type 0
  IfInvokes z = StatementInvokes (roll-Statement (Statement-F.If z))

  abbrev RepeatInvokes : RepeatStatement → Type 0
  RepeatInvokes z = StatementInvokes (roll-Statement (Statement-F.Repeat z))

  abbrev WhileInvokes : WhileStatement → Type 0
  WhileInvokes z = StatementInvokes (roll-Statement (Statement-F.While z))

  abbrev InStatement : Type 0
  InStatement = (z : Statement) × StatementInvokes z

  abbrev InElement : Type 0
  InElement = (z : CaseElement) × ElementInvokes z

  abbrev InCase : Type 0
  InCase = (z : CaseStatement) × CaseInvokes z

  abbrev InPart : Type 0
  InPart = (z : ConditionalPart) × PartInvokes z

  abbrev InFor : Type 0
  InFor = (z : ForStatement) × ForInvokes z

  abbrev InIf : Type 0
  InIf = (z : IfStatement) × IfInvokes z

  abbrev InRepeat : Type 0
  InRepeat = (z : RepeatStatement) × RepeatInvokes z

  abbrev InWhile : Type 0
  InWhile = (z : WhileStatement) × WhileInvokes z

  statement_made : (y : Statement-F InStatement InElement InCase InPart InFor InIf InRepeat InWhile) → StatementInvokes (roll-Statement (map-Statement _ _ _ _ _ _ _ _ Statement CaseElement CaseStatement ConditionalPart ForStatement IfStatement RepeatStatement WhileStatement (λ e. e.0) (λ e. e.0) (λ e. e.0) (λ e. e.0) (λ e. e.0) (λ e. e.0) (λ e. e.0) (λ e. e.0) y))
  statement_made (Statement-F.Empty p) = subst Invokes (sym (fold-roll-Statement _ _ _ _ _ _ _ _ _ _ _ _ _ _ _ _ _)) (tt)
  statement_made (Statement-F.Assignment v x) = subst Invokes (sym (fold-roll-Statement _ _ _ _ _ _ _ _ _ _ _ _ _ _ _ _ _)) (assignment_invokes v.name.position.line (place_of w v) (type_of w.variables (place_of w v)) (typed w x))
  statement_made (Statement-F.Call c) = subst Invokes (sym (fold-roll-Statement _ _ _ _ _ _ _ _ _ _ _ _ _ _ _ _ _)) (call_invokes c)
  statement_made (Statement-F.Return p) = subst Invokes (sym (fold-roll-Statement _ _ _ _ _ _ _ _ _ _ _ _ _ _ _ _ _)) (tt)
  statement_made (Statement-F.Exit p) = subst Invokes (sym (fold-roll-Statement _ _ _ _ _ _ _ _ _ _ _ _ _ _ _ _ _)) (tt)
  statement_made (Statement-F.If c) = c.1
  statement_made (Statement-F.Case c) = c.1
  statement_made (Statement-F.For c) = c.1
  statement_made (Statement-F.While c) = c.1
  statement_made (Statement-F.Repeat c) = c.1

  element_made : (y : CaseElement-F InStatement InElement InCase InPart InFor InIf InRepeat InWhile) → ElementInvokes (roll-CaseElement (map-CaseElement _ _ _ _ _ _ _ _ Statement CaseElement CaseStatement ConditionalPart ForStatement IfStatement RepeatStatement WhileStatement (λ e. e.0) (λ e. e.0) (λ e. e.0) (λ e. e.0) (λ e. e.0) (λ e. e.0) (λ e. e.0) (λ e. e.0) y))
  element_made y e cs h = subst (λ (f : Elem → Cases → Cases). CasesInvoke asked (f e cs)) (sym (fold-roll-CaseElement _ _ _ _ _ _ _ _ _ _ _ _ _ _ _ _ _)) (each_command y.statements, h)

  part_made : (y : ConditionalPart-F InStatement InElement InCase InPart InFor InIf InRepeat InWhile) → PartInvokes (roll-ConditionalPart (map-ConditionalPart _ _ _ _ _ _ _ _ Statement CaseElement CaseStatement ConditionalPart ForStatement IfStatement RepeatStatement WhileStatement (λ e. e.0) (λ e. e.0) (λ e. e.0) (λ e. e.0) (λ e. e.0) (λ e. e.0) (λ e. e.0) (λ e. e.0) y))
  part_made y bs h = subst (λ (f : Branches → Branches). BranchesInvoke asked (f bs)) (sym (fold-roll-ConditionalPart _ _ _ _ _ _ _ _ _ _ _ _ _ _ _ _ _)) (each_command y.statements, h)

  case_made : (y : CaseStatement-F InStatement InElement InCase InPart InFor InIf InRepeat InWhile) → CaseInvokes (roll-CaseStatement (map-CaseStatement _ _ _ _ _ _ _ _ Statement CaseElement CaseStatement ConditionalPart ForStatement IfStatement RepeatStatement WhileStatement (λ e. e.0) (λ e. e.0) (λ e. e.0) (λ e. e.0) (λ e. e.0) (λ e. e.0) (λ e. e.0) (λ e. e.0) y))
  case_made y =
      subst Invokes (sym (fold-roll-Statement _ _ _ _ _ _ _ _ _ _ _ _ _ _ _ _ _))
      (subst Invokes (sym (fold-roll-CaseStatement _ _ _ _ _ _ _ _ _ _ _ _ _ _ _ _ _))
      (each_case (or_lint (typed w y.selector).own) y.cases, each_command y.otherwise))

  for_made : (y : ForStatement-F InStatement InElement InCase InPart InFor InIf InRepeat InWhile) → ForInvokes (roll-ForStatement (map-ForStatement _ _ _ _ _ _ _ _ Statement CaseElement CaseStatement ConditionalPart ForStatement IfStatement RepeatStatement WhileStatement (λ e. e.0) (λ e. e.0) (λ e. e.0) (λ e. e.0) (λ e. e.0) (λ e. e.0) (λ e. e.0) (λ e. e.0) y))
  for_made y =
      subst Invokes (sym (fold-roll-Statement _ _ _ _ _ _ _ _ _ _ _ _ _ _ _ _ _))
      (subst Invokes (sym (fold-roll-ForStatement _ _ _ _ _ _ _ _ _ _ _ _ _ _ _ _ _))
      (for_invokes y.position.line (field_part y.variable.spelling whole) (type_of w.variables (field_part y.variable.spelling whole)) y.first y.last y.step (commands_of (map (command_of w) (map (λ e. e.0) y.statements))) (each_command y.statements)))

  if_made : (y : IfStatement-F InStatement InElement InCase InPart InFor InIf InRepeat InWhile) → IfInvokes (roll-IfStatement (map-IfStatement _ _ _ _ _ _ _ _ Statement CaseElement CaseStatement ConditionalPart ForStatement IfStatement RepeatStatement WhileStatement (λ e. e.0) (λ e. e.0) (λ e. e.0) (λ e. e.0) (λ e. e.0) (λ e. e.0) (λ e. e.0) (λ e. e.0) y))
  if_made y =
      subst Invokes (sym (fold-roll-Statement _ _ _ _ _ _ _ _ _ _ _ _ _ _ _ _ _))
      (subst Invokes (sym (fold-roll-IfStatement _ _ _ _ _ _ _ _ _ _ _ _ _ _ _ _ _))
      (each_branch y.parts, each_command y.otherwise))

  repeat_made : (y : RepeatStatement-F InStatement InElement InCase InPart InFor InIf InRepeat InWhile) → RepeatInvokes (roll-RepeatStatement (map-RepeatStatement _ _ _ _ _ _ _ _ Statement CaseElement CaseStatement ConditionalPart ForStatement IfStatement RepeatStatement WhileStatement (λ e. e.0) (λ e. e.0) (λ e. e.0) (λ e. e.0) (λ e. e.0) (λ e. e.0) (λ e. e.0) (λ e. e.0) y))
  repeat_made y =
      subst Invokes (sym (fold-roll-Statement _ _ _ _ _ _ _ _ _ _ _ _ _ _ _ _ _))
      (subst Invokes (sym (fold-roll-RepeatStatement _ _ _ _ _ _ _ _ _ _ _ _ _ _ _ _ _))
      (each_command y.statements))

  while_made : (y : WhileStatement-F InStatement InElement InCase InPart InFor InIf InRepeat InWhile) → WhileInvokes (roll-WhileStatement (map-WhileStatement _ _ _ _ _ _ _ _ Statement CaseElement CaseStatement ConditionalPart ForStatement IfStatement RepeatStatement WhileStatement (λ e. e.0) (λ e. e.0) (λ e. e.0) (λ e. e.0) (λ e. e.0) (λ e. e.0) (λ e. e.0) (λ e. e.0) y))
  while_made y =
      subst Invokes (sym (fold-roll-Statement _ _ _ _ _ _ _ _ _ _ _ _ _ _ _ _ _))
      (subst Invokes (sym (fold-roll-WhileStatement _ _ _ _ _ _ _ _ _ _ _ _ _ _ _ _ _))
      (each_command y.statements))

  -- ---- whole trees

  statement_invokes : (x : Statement) → StatementInvokes x
  statement_invokes =
      ind-Statement StatementInvokes ElementInvokes CaseInvokes PartInvokes ForInvokes IfInvokes RepeatInvokes WhileInvokes
      (λ x y is. subst (λ z. StatementInvokes (roll-Statement z)) is (statement_made y))
      (λ x y is. subst (λ z. ElementInvokes (roll-CaseElement z)) is (element_made y))
      (λ x y is. subst (λ z. CaseInvokes (roll-CaseStatement z)) is (case_made y))
      (λ x y is. subst (λ z. PartInvokes (roll-ConditionalPart z)) is (part_made y))
      (λ x y is. subst (λ z. ForInvokes (roll-ForStatement z)) is (for_made y))
      (λ x y is. subst (λ z. IfInvokes (roll-IfStatement z)) is (if_made y))
      (λ x y is. subst (λ z. RepeatInvokes (roll-RepeatStatement z)) is (repeat_made y))
      (λ x y is. subst (λ z. WhileInvokes (roll-WhileStatement z)) is (while_made y))

  body_invokes : (body : List Statement) → Invoke asked (body_of w body)
  body_invokes [] = tt
  body_invokes (x ∷ body) = (statement_invokes x, body_invokes body)

  -- ---- charts

  actions_invoke : (as' : List Action) → ActionsInvoke asked (actions_of w as')
  actions_invoke [] = tt
  actions_invoke (a ∷ more) = (body_invokes a.statements, actions_invoke more)

  chart_invokes : (cs : Commands) (unit : ℕ) (elements : List ChartElement) → Invoke asked cs → BodyInvokes asked (chart_or cs w unit elements)
  chart_invokes cs unit [] h = h
  chart_invokes cs unit (e ∷ elements) h = actions_invoke (flat_map actions_in (e ∷ elements))

  unit_invokes : (unit : ℕ) (statements : List Statement) → BodyInvokes asked (body_in w unit statements)
  unit_invokes unit statements = chart_invokes (body_of w statements) unit (chart_within w.variables) (body_invokes statements)

pub typing_invokes_bodies : TypingInvokesBodies
typing_invokes_bodies calls w bodies are number body = unit_invokes w (IsInvokedAs calls w.variables bodies) are number body

pub typing_enters_instances : TypingEntersInstances
typing_enters_instances w test are number body = unit_invokes w (IsInvokedWhere w.variables test) are number body
