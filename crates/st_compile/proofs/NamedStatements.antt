-- What typing makes of statements calls what is named in them.
use Rattle.std.proofs.Common.{◌≡◌, ℕ, List, [], ◌∷◌, ◌++◌, map, Option, Some, None, refl, sym, subst, rules}
use Rattle.std.specs.List.{flat_map}
use Rattle.st_values.specs.declared.elem.Elem.{Elem}
use Rattle.st_values.specs.declared.elem.Elem.TheVariants as elems
use Rattle.st_tree.specs.declared.tree.expression.Argument.{Argument, map-Argument, out-Argument, the_lemmas}
use Rattle.st_tree.specs.declared.tree.expression.Argument.TheOpen.{Argument-F}
use Rattle.st_tree.specs.declared.tree.expression.Call.{Call, out-Call}
use Rattle.st_tree.specs.declared.tree.expression.Expression.{Expression}
use Rattle.st_tree.specs.declared.tree.expression.Operation.{Operation}
use Rattle.st_tree.specs.declared.tree.expression.Part.{Part}
use Rattle.st_tree.specs.declared.tree.expression.Variable.{Variable}
use Rattle.st_tree.specs.declared.tree.statement.CaseElement.{CaseElement, fold-roll-CaseElement, map-CaseElement, roll-CaseElement}
use Rattle.st_tree.specs.declared.tree.statement.CaseStatement.{CaseStatement, fold-roll-CaseStatement, map-CaseStatement, roll-CaseStatement}
use Rattle.st_tree.specs.declared.tree.statement.ConditionalPart.{ConditionalPart, fold-roll-ConditionalPart, map-ConditionalPart, roll-ConditionalPart}
use Rattle.st_tree.specs.declared.tree.statement.ForStatement.{ForStatement, fold-roll-ForStatement, map-ForStatement, roll-ForStatement}
use Rattle.st_tree.specs.declared.tree.statement.IfStatement.{IfStatement, fold-roll-IfStatement, map-IfStatement, roll-IfStatement}
use Rattle.st_tree.specs.declared.tree.statement.RepeatStatement.{RepeatStatement, fold-roll-RepeatStatement, map-RepeatStatement, roll-RepeatStatement}
use Rattle.st_tree.specs.declared.tree.statement.Statement.{Statement, fold-roll-Statement, ind-Statement, map-Statement, roll-Statement}
use Rattle.st_tree.specs.declared.tree.statement.Statement.TheOpen.{CaseElement-F, CaseStatement-F, ConditionalPart-F, ForStatement-F, IfStatement-F, RepeatStatement-F, Statement-F, WhileStatement-F}
use Rattle.st_tree.specs.declared.tree.statement.WhileStatement.{WhileStatement, fold-roll-WhileStatement, map-WhileStatement, roll-WhileStatement}
use Rattle.st_types.specs.OwnTypes.{or_lint}
use Rattle.st_types.specs.declared.standard.StandardBlock.{StandardBlock}
use Rattle.st_leaves.specs.Selected.{selected_by}
use Rattle.st_references.specs.Calls.{Calls, all, argument_calls, argument_step, call_calls, case_calls, case_element_calls, conditional_calls, expression_calls, for_calls, if_calls, operation_calls, optional_calls, part_calls, repeat_calls, statement_calls, variable_calls, while_calls}
use Rattle.st_meaning.specs.CalledBy.{BranchesCall, CalledTest, CasesCall, CommandCalls, CommandsCall, MovesCall, PartsCall, TermCalls}
use Rattle.st_meaning.specs.Terms.{Parts, whole, field_part, Command, Moves, Commands, Branches, Cases}
use Rattle.st_meaning.specs.Typing.{Typed, assignment, body_of, branch_of, branches_of, call_command, case_of, cases_of, command_of, commands_of, entrance, for_command, input_moves, input_of, inputs_of, invocation, output_moves, output_of, outputs_of, pin_of, place_of, step_typed, typed}
use Rattle.st_meaning.specs.Wholes.{Invoked, Whole, block_of, type_of}
use Rattle.st_compile.specs.Named.{BodiesPass, NamesPass, TypingCallsWhatIsNamed}
use Rattle.st_compile.proofs.NamedExpressions.{expression_passes, named_left, named_right, variable_parts}
use Rattle.st_compile.proofs.NamedTerms.{Passes, place_passes}

-- what is named in a call, and in an argument
call_names : (c : Call) → call_calls c ≡ (out-Call c).name.spelling ∷ all (map argument_calls (out-Call c).arguments)
call_names c = search (rules, the_lemmas)

argument_names : (a : Argument) → argument_calls a
    ≡ argument_step (map-Argument Argument Expression Part Call Operation Variable Calls Calls Calls Calls Calls Calls argument_calls expression_calls part_calls call_calls operation_calls variable_calls (out-Argument a))
argument_names a = search (rules, the_lemmas)

module _ (w : Whole) (test : CalledTest) (bodies : BodiesPass w test) where
  abbrev Is : Command → Type 0
  Is = CommandCalls test

  abbrev In : List (List ℕ) → Type 0
  In = NamesPass w test

  -- ---- call statements

  abbrev ArgumentNames : Argument-F Argument Expression Part Call Operation Variable → List (List ℕ)
  ArgumentNames y = argument_step (map-Argument Argument Expression Part Call Operation Variable Calls Calls Calls Calls Calls Calls argument_calls expression_calls part_calls call_calls operation_calls variable_calls y)

  input_calls : (name pin : List ℕ) (e : Option Elem) (x : Expression) (more : Moves) → In (expression_calls x) → MovesCall test more → MovesCall test (input_moves w name e pin x more)
  input_calls name pin None x more h rest = rest
  input_calls name pin (Some e) x more h rest = (tt, expression_passes w test x h e, rest)

  one_input : (name : List ℕ) (y : Argument-F Argument Expression Part Call Operation Variable) (more : Moves) → In (ArgumentNames y) → MovesCall test more → MovesCall test (input_of w name y more)
  one_input name (Argument-F.Positional x) more h rest = rest
  one_input name (Argument-F.Input n x) more h rest = input_calls name n.spelling (type_of w.variables (pin_of name n.spelling)) x more h rest
  one_input name (Argument-F.Output n v) more h rest = rest

  inputs_call : (name : List ℕ) (xs : List Argument) → In (all (map argument_calls xs)) → MovesCall test (inputs_of w name xs)
  inputs_call name [] h = tt
  inputs_call name (a ∷ more) h =
      let rest = all (map argument_calls more) in
      one_input name (out-Argument a) (inputs_of w name more) (subst In (argument_names a) (named_left w test (argument_calls a) rest h)) (inputs_call name more (named_right w test (argument_calls a) rest h))

  output_calls : (name pin : List ℕ) (e : Option Elem) (v : Variable) (more : Moves) → In (variable_calls v) → MovesCall test more → MovesCall test (output_moves w name e pin v more)
  output_calls name pin None v more h rest = rest
  output_calls name pin (Some e) v more h rest =
      (variable_parts w test v h, place_passes test (pin_of name pin) (type_of w.variables (pin_of name pin)) tt e, rest)

  one_output : (name : List ℕ) (y : Argument-F Argument Expression Part Call Operation Variable) (more : Moves) → In (ArgumentNames y) → MovesCall test more → MovesCall test (output_of w name y more)
  one_output name (Argument-F.Positional x) more h rest = rest
  one_output name (Argument-F.Input n x) more h rest = rest
  one_output name (Argument-F.Output n v) more h rest = output_calls name n.spelling (type_of w.variables (place_of w v)) v more h rest

  outputs_call : (name : List ℕ) (xs : List Argument) → In (all (map argument_calls xs)) → MovesCall test (outputs_of w name xs)
  outputs_call name [] h = tt
  outputs_call name (a ∷ more) h =
      let rest = all (map argument_calls more) in
      one_output name (out-Argument a) (outputs_of w name more) (subst In (argument_names a) (named_left w test (argument_calls a) rest h)) (outputs_call name more (named_right w test (argument_calls a) rest h))

  entrance_calls : (line : ℕ) (name : List ℕ) (unit : Option Invoked) (xs : List Argument) → w.invoked name ≡ unit → In (all (map argument_calls xs)) → Is (entrance w line name unit xs)
  entrance_calls line name None xs is h = tt
  entrance_calls line name (Some unit) xs is h = (inputs_call name xs h, bodies name unit is, outputs_call name xs h)

  invocation_calls : (line : ℕ) (name : List ℕ) (b : Option StandardBlock) (xs : List Argument) → In (all (map argument_calls xs)) → Is (invocation w line name b xs)
  invocation_calls line name None xs h = entrance_calls line name (w.invoked name) xs refl h
  invocation_calls line name (Some b) xs h = (inputs_call name xs h, outputs_call name xs h)

  call_is : (c : Call) → In (call_calls c) → Is (call_command w c)
  call_is c h =
      let x = out-Call c in
      let both : In (x.name.spelling ∷ all (map argument_calls x.arguments)) = subst In (call_names c) h in
      invocation_calls x.name.position.line x.name.spelling (block_of (selected_by w.variables x.name.spelling)) x.arguments both.1

  -- ---- other statements

  assignment_is : (line : ℕ) (ps : Parts) (e : Option Elem) (x : Typed) → PartsCall test ps → Passes test x → Is (assignment line ps e x)
  assignment_is line ps None x h k = tt
  assignment_is line ps (Some e) x h k = (h, k e)

  step_is : (step : Option Expression) (e : Elem) → In (optional_calls step) → TermCalls test (step_typed w step e)
  step_is None e h = tt
  step_is (Some x) e h = expression_passes w test x h e

  for_is : (line : ℕ) (ps : Parts) (e : Option Elem) (first last : Expression) (step : Option Expression) (cs : Commands) → PartsCall test ps → In (expression_calls first)
      → In (expression_calls last) → In (optional_calls step) → CommandsCall test cs → Is (for_command w line ps e first last step cs)
  for_is line ps None first last step cs h a b c k = tt
  for_is line ps (Some e) first last step cs h a b c k = (h, expression_passes w test first a e, expression_passes w test last b e, step_is step e c, k)

  -- ---- of each kind of tree

  abbrev StatementIs : Statement → Type 0
  StatementIs z = In (statement_calls z) → Is (command_of w z)

  abbrev ElementIs : CaseElement → Type 0
  ElementIs z = In (case_element_calls z) → (e : Elem) (cs : Cases) → CasesCall test cs → CasesCall test (case_of w z e cs)

  abbrev PartIs : ConditionalPart → Type 0
  PartIs z = In (conditional_calls z) → (bs : Branches) → BranchesCall test bs → BranchesCall test (branch_of w z bs)

  abbrev CaseIs : CaseStatement → Type 0
  CaseIs z = In (case_calls z) → Is (command_of w (roll-Statement (Statement-F.Case z)))

  abbrev ForIs : ForStatement → Type 0
  ForIs z = In (for_calls z) → Is (command_of w (roll-Statement (Statement-F.For z)))

  abbrev IfIs : IfStatement → Type 0
  IfIs z = In (if_calls z) → Is (command_of w (roll-Statement (Statement-F.If z)))

  abbrev RepeatIs : RepeatStatement → Type 0
  RepeatIs z = In (repeat_calls z) → Is (command_of w (roll-Statement (Statement-F.Repeat z)))

  abbrev WhileIs : WhileStatement → Type 0
  WhileIs z = In (while_calls z) → Is (command_of w (roll-Statement (Statement-F.While z)))

  -- ---- lists

  each_command : (xs : List ((z : Statement) × StatementIs z)) → In (all (map statement_calls (map (λ e. e.0) xs))) → CommandsCall test (commands_of (map (command_of w) (map (λ e. e.0) xs)))
  each_command [] h = tt
  each_command (x ∷ xs) h =
      let rest = all (map statement_calls (map (λ e. e.0) xs)) in
      (x.1 (named_left w test (statement_calls x.0) rest h), each_command xs (named_right w test (statement_calls x.0) rest h))

  each_branch : (xs : List ((z : ConditionalPart) × PartIs z)) → In (all (map conditional_calls (map (λ e. e.0) xs))) → BranchesCall test (branches_of (map (branch_of w) (map (λ e. e.0) xs)))
  each_branch [] h = tt
  each_branch (x ∷ xs) h =
      let rest = all (map conditional_calls (map (λ e. e.0) xs)) in
      x.1 (named_left w test (conditional_calls x.0) rest h) (branches_of (map (branch_of w) (map (λ e. e.0) xs))) (each_branch xs (named_right w test (conditional_calls x.0) rest h))

  each_case : (e : Elem) (xs : List ((z : CaseElement) × ElementIs z)) → In (all (map case_element_calls (map (λ z. z.0) xs))) → CasesCall test (cases_of e (map (case_of w) (map (λ z. z.0) xs)))
  each_case e [] h = tt
  each_case e (x ∷ xs) h =
      let rest = all (map case_element_calls (map (λ z. z.0) xs)) in
      x.1 (named_left w test (case_element_calls x.0) rest h) e (cases_of e (map (case_of w) (map (λ z. z.0) xs))) (each_case e xs (named_right w test (case_element_calls x.0) rest h))

  -- ---- one layer of a tree

  abbrev InStatement : Type 0
  InStatement = (z : Statement) × StatementIs z

  abbrev InElement : Type 0
  InElement = (z : CaseElement) × ElementIs z

  abbrev InCase : Type 0
  InCase = (z : CaseStatement) × CaseIs z

  abbrev InPart : Type 0
  InPart = (z : ConditionalPart) × PartIs z

  abbrev InFor : Type 0
  InFor = (z : ForStatement) × ForIs z

  abbrev InIf : Type 0
  InIf = (z : IfStatement) × IfIs z

  abbrev InRepeat : Type 0
  InRepeat = (z : RepeatStatement) × RepeatIs z

  abbrev InWhile : Type 0
  InWhile = (z : WhileStatement) × WhileIs z

  statement_made : (y : Statement-F InStatement InElement InCase InPart InFor InIf InRepeat InWhile) → StatementIs (roll-Statement (map-Statement _ _ _ _ _ _ _ _ Statement CaseElement CaseStatement ConditionalPart ForStatement IfStatement RepeatStatement WhileStatement (λ e. e.0) (λ e. e.0) (λ e. e.0) (λ e. e.0) (λ e. e.0) (λ e. e.0) (λ e. e.0) (λ e. e.0) y))
  statement_made (Statement-F.Empty p) h = subst Is (sym (fold-roll-Statement _ _ _ _ _ _ _ _ _ _ _ _ _ _ _ _ _)) tt
  statement_made (Statement-F.Assignment v x) h =
      let both : In (variable_calls v ++ expression_calls x) = subst In (fold-roll-Statement _ _ _ _ _ _ _ _ _ _ _ _ _ _ _ _ _) h in
      subst Is (sym (fold-roll-Statement _ _ _ _ _ _ _ _ _ _ _ _ _ _ _ _ _))
      (assignment_is v.name.position.line (place_of w v) (type_of w.variables (place_of w v)) (typed w x) (variable_parts w test v (named_left w test (variable_calls v) (expression_calls x) both))
      (expression_passes w test x (named_right w test (variable_calls v) (expression_calls x) both)))
  statement_made (Statement-F.Call c) h = subst Is (sym (fold-roll-Statement _ _ _ _ _ _ _ _ _ _ _ _ _ _ _ _ _)) (call_is c (subst In (fold-roll-Statement _ _ _ _ _ _ _ _ _ _ _ _ _ _ _ _ _) h))
  statement_made (Statement-F.Return p) h = subst Is (sym (fold-roll-Statement _ _ _ _ _ _ _ _ _ _ _ _ _ _ _ _ _)) tt
  statement_made (Statement-F.Exit p) h = subst Is (sym (fold-roll-Statement _ _ _ _ _ _ _ _ _ _ _ _ _ _ _ _ _)) tt
  statement_made (Statement-F.If c) h = c.1 (subst In (fold-roll-Statement _ _ _ _ _ _ _ _ _ _ _ _ _ _ _ _ _) h)
  statement_made (Statement-F.Case c) h = c.1 (subst In (fold-roll-Statement _ _ _ _ _ _ _ _ _ _ _ _ _ _ _ _ _) h)
  statement_made (Statement-F.For c) h = c.1 (subst In (fold-roll-Statement _ _ _ _ _ _ _ _ _ _ _ _ _ _ _ _ _) h)
  statement_made (Statement-F.While c) h = c.1 (subst In (fold-roll-Statement _ _ _ _ _ _ _ _ _ _ _ _ _ _ _ _ _) h)
  statement_made (Statement-F.Repeat c) h = c.1 (subst In (fold-roll-Statement _ _ _ _ _ _ _ _ _ _ _ _ _ _ _ _ _) h)

  element_made : (y : CaseElement-F InStatement InElement InCase InPart InFor InIf InRepeat InWhile) → ElementIs (roll-CaseElement (map-CaseElement _ _ _ _ _ _ _ _ Statement CaseElement CaseStatement ConditionalPart ForStatement IfStatement RepeatStatement WhileStatement (λ e. e.0) (λ e. e.0) (λ e. e.0) (λ e. e.0) (λ e. e.0) (λ e. e.0) (λ e. e.0) (λ e. e.0) y))
  element_made y h e cs k =
      subst (λ (f : Elem → Cases → Cases). CasesCall test (f e cs)) (sym (fold-roll-CaseElement _ _ _ _ _ _ _ _ _ _ _ _ _ _ _ _ _))
      (each_command y.statements (subst In (fold-roll-CaseElement _ _ _ _ _ _ _ _ _ _ _ _ _ _ _ _ _) h), k)

  part_made : (y : ConditionalPart-F InStatement InElement InCase InPart InFor InIf InRepeat InWhile) → PartIs (roll-ConditionalPart (map-ConditionalPart _ _ _ _ _ _ _ _ Statement CaseElement CaseStatement ConditionalPart ForStatement IfStatement RepeatStatement WhileStatement (λ e. e.0) (λ e. e.0) (λ e. e.0) (λ e. e.0) (λ e. e.0) (λ e. e.0) (λ e. e.0) (λ e. e.0) y))
  part_made y h bs k =
      let rest = all (map statement_calls (map (λ e. e.0) y.statements)) in
      let both : In (expression_calls y.condition ++ rest) = subst In (fold-roll-ConditionalPart _ _ _ _ _ _ _ _ _ _ _ _ _ _ _ _ _) h in
      subst (λ (f : Branches → Branches). BranchesCall test (f bs)) (sym (fold-roll-ConditionalPart _ _ _ _ _ _ _ _ _ _ _ _ _ _ _ _ _))
      (expression_passes w test y.condition (named_left w test (expression_calls y.condition) rest both) elems.Bool, each_command y.statements (named_right w test (expression_calls y.condition) rest both), k)

  case_made : (y : CaseStatement-F InStatement InElement InCase InPart InFor InIf InRepeat InWhile) → CaseIs (roll-CaseStatement (map-CaseStatement _ _ _ _ _ _ _ _ Statement CaseElement CaseStatement ConditionalPart ForStatement IfStatement RepeatStatement WhileStatement (λ e. e.0) (λ e. e.0) (λ e. e.0) (λ e. e.0) (λ e. e.0) (λ e. e.0) (λ e. e.0) (λ e. e.0) y))
  case_made y h =
      let cs = all (map case_element_calls (map (λ e. e.0) y.cases)) in
      let others = all (map statement_calls (map (λ e. e.0) y.otherwise)) in
      let both : In ((expression_calls y.selector ++ cs) ++ others) = subst In (fold-roll-CaseStatement _ _ _ _ _ _ _ _ _ _ _ _ _ _ _ _ _) h in
      let front = named_left w test (expression_calls y.selector ++ cs) others both in
      subst Is (sym (fold-roll-Statement _ _ _ _ _ _ _ _ _ _ _ _ _ _ _ _ _))
      (subst Is (sym (fold-roll-CaseStatement _ _ _ _ _ _ _ _ _ _ _ _ _ _ _ _ _))
      (expression_passes w test y.selector (named_left w test (expression_calls y.selector) cs front) (or_lint (typed w y.selector).own), each_case (or_lint (typed w y.selector).own) y.cases (named_right w test (expression_calls y.selector) cs front), each_command y.otherwise (named_right w test (expression_calls y.selector ++ cs) others both)))

  for_made : (y : ForStatement-F InStatement InElement InCase InPart InFor InIf InRepeat InWhile) → ForIs (roll-ForStatement (map-ForStatement _ _ _ _ _ _ _ _ Statement CaseElement CaseStatement ConditionalPart ForStatement IfStatement RepeatStatement WhileStatement (λ e. e.0) (λ e. e.0) (λ e. e.0) (λ e. e.0) (λ e. e.0) (λ e. e.0) (λ e. e.0) (λ e. e.0) y))
  for_made y h =
      let a = expression_calls y.first in
      let b = expression_calls y.last in
      let c = optional_calls y.step in
      let cs = all (map statement_calls (map (λ e. e.0) y.statements)) in
      let both : In (((a ++ b) ++ c) ++ cs) = subst In (fold-roll-ForStatement _ _ _ _ _ _ _ _ _ _ _ _ _ _ _ _ _) h in
      let three = named_left w test ((a ++ b) ++ c) cs both in
      let two = named_left w test (a ++ b) c three in
      subst Is (sym (fold-roll-Statement _ _ _ _ _ _ _ _ _ _ _ _ _ _ _ _ _))
      (subst Is (sym (fold-roll-ForStatement _ _ _ _ _ _ _ _ _ _ _ _ _ _ _ _ _))
      (for_is y.position.line (field_part y.variable.spelling whole) (type_of w.variables (field_part y.variable.spelling whole)) y.first y.last y.step (commands_of (map (command_of w) (map (λ e. e.0) y.statements))) tt
      (named_left w test a b two) (named_right w test a b two) (named_right w test (a ++ b) c three) (each_command y.statements (named_right w test ((a ++ b) ++ c) cs both))))

  if_made : (y : IfStatement-F InStatement InElement InCase InPart InFor InIf InRepeat InWhile) → IfIs (roll-IfStatement (map-IfStatement _ _ _ _ _ _ _ _ Statement CaseElement CaseStatement ConditionalPart ForStatement IfStatement RepeatStatement WhileStatement (λ e. e.0) (λ e. e.0) (λ e. e.0) (λ e. e.0) (λ e. e.0) (λ e. e.0) (λ e. e.0) (λ e. e.0) y))
  if_made y h =
      let bs = all (map conditional_calls (map (λ e. e.0) y.parts)) in
      let others = all (map statement_calls (map (λ e. e.0) y.otherwise)) in
      let both : In (bs ++ others) = subst In (fold-roll-IfStatement _ _ _ _ _ _ _ _ _ _ _ _ _ _ _ _ _) h in
      subst Is (sym (fold-roll-Statement _ _ _ _ _ _ _ _ _ _ _ _ _ _ _ _ _))
      (subst Is (sym (fold-roll-IfStatement _ _ _ _ _ _ _ _ _ _ _ _ _ _ _ _ _))
      (each_branch y.parts (named_left w test bs others both), each_command y.otherwise (named_right w test bs others both)))

  repeat_made : (y : RepeatStatement-F InStatement InElement InCase InPart InFor InIf InRepeat InWhile) → RepeatIs (roll-RepeatStatement (map-RepeatStatement _ _ _ _ _ _ _ _ Statement CaseElement CaseStatement ConditionalPart ForStatement IfStatement RepeatStatement WhileStatement (λ e. e.0) (λ e. e.0) (λ e. e.0) (λ e. e.0) (λ e. e.0) (λ e. e.0) (λ e. e.0) (λ e. e.0) y))
  repeat_made y h =
      let cs = all (map statement_calls (map (λ e. e.0) y.statements)) in
      let both : In (cs ++ expression_calls y.condition) = subst In (fold-roll-RepeatStatement _ _ _ _ _ _ _ _ _ _ _ _ _ _ _ _ _) h in
      subst Is (sym (fold-roll-Statement _ _ _ _ _ _ _ _ _ _ _ _ _ _ _ _ _))
      (subst Is (sym (fold-roll-RepeatStatement _ _ _ _ _ _ _ _ _ _ _ _ _ _ _ _ _))
      (each_command y.statements (named_left w test cs (expression_calls y.condition) both), expression_passes w test y.condition (named_right w test cs (expression_calls y.condition) both) elems.Bool))

  while_made : (y : WhileStatement-F InStatement InElement InCase InPart InFor InIf InRepeat InWhile) → WhileIs (roll-WhileStatement (map-WhileStatement _ _ _ _ _ _ _ _ Statement CaseElement CaseStatement ConditionalPart ForStatement IfStatement RepeatStatement WhileStatement (λ e. e.0) (λ e. e.0) (λ e. e.0) (λ e. e.0) (λ e. e.0) (λ e. e.0) (λ e. e.0) (λ e. e.0) y))
  while_made y h =
      let cs = all (map statement_calls (map (λ e. e.0) y.statements)) in
      let both : In (expression_calls y.condition ++ cs) = subst In (fold-roll-WhileStatement _ _ _ _ _ _ _ _ _ _ _ _ _ _ _ _ _) h in
      subst Is (sym (fold-roll-Statement _ _ _ _ _ _ _ _ _ _ _ _ _ _ _ _ _))
      (subst Is (sym (fold-roll-WhileStatement _ _ _ _ _ _ _ _ _ _ _ _ _ _ _ _ _))
      (expression_passes w test y.condition (named_left w test (expression_calls y.condition) cs both) elems.Bool, each_command y.statements (named_right w test (expression_calls y.condition) cs both)))

  -- ---- whole trees

  statement_is : (x : Statement) → StatementIs x
  statement_is =
      ind-Statement StatementIs ElementIs CaseIs PartIs ForIs IfIs RepeatIs WhileIs
      (λ x y is. subst (λ z. StatementIs (roll-Statement z)) is (statement_made y))
      (λ x y is. subst (λ z. ElementIs (roll-CaseElement z)) is (element_made y))
      (λ x y is. subst (λ z. CaseIs (roll-CaseStatement z)) is (case_made y))
      (λ x y is. subst (λ z. PartIs (roll-ConditionalPart z)) is (part_made y))
      (λ x y is. subst (λ z. ForIs (roll-ForStatement z)) is (for_made y))
      (λ x y is. subst (λ z. IfIs (roll-IfStatement z)) is (if_made y))
      (λ x y is. subst (λ z. RepeatIs (roll-RepeatStatement z)) is (repeat_made y))
      (λ x y is. subst (λ z. WhileIs (roll-WhileStatement z)) is (while_made y))

  body_is : (body : List Statement) → In (flat_map statement_calls body) → CommandsCall test (body_of w body)
  body_is [] h = tt
  body_is (x ∷ body) h =
      let rest = flat_map statement_calls body in
      (statement_is x (named_left w test (statement_calls x) rest h), body_is body (named_right w test (statement_calls x) rest h))

pub typing_calls_what_is_named : TypingCallsWhatIsNamed
typing_calls_what_is_named w test body named bodies = body_is w test bodies body named
