-- What typing makes of statements is sound.
use Rattle.std.proofs.Common.{◌≡◌, ℕ, pos, Bool, true, false, List, [], ◌∷◌, length, map, Option, Some, None, if◌then◌else◌, IsTrue, refl, ap, sym, ◌∙◌, subst, arith}
use Rattle.std.specs.List.{All, flat_map}
use Rattle.std.proofs.lemmas.List.{length-map}
use Rattle.std.proofs.lemmas.List.Elements.{All-cons, All-nil}
use Rattle.st_values.specs.Types.{is_same}
use Rattle.st_values.specs.Values.{in_range}
use Rattle.st_values.specs.declared.elem.Elem.{Elem}
use Rattle.st_values.specs.declared.elem.Elem.TheVariants as elems
use Rattle.st_tree.specs.declared.tree.constant.Constant.{Constant}
use Rattle.st_tree.specs.declared.tree.expression.Expression.{Expression}
use Rattle.st_tree.specs.declared.tree.statement.CaseElement.{CaseElement, fold-roll-CaseElement, map-CaseElement, roll-CaseElement}
use Rattle.st_tree.specs.declared.tree.statement.CaseStatement.{CaseStatement, fold-CaseStatement, fold-roll-CaseStatement, map-CaseStatement, roll-CaseStatement}
use Rattle.st_tree.specs.declared.tree.statement.ConditionalPart.{ConditionalPart, fold-roll-ConditionalPart, map-ConditionalPart, roll-ConditionalPart}
use Rattle.st_tree.specs.declared.tree.statement.ForStatement.{ForStatement, fold-ForStatement, fold-roll-ForStatement, map-ForStatement, roll-ForStatement}
use Rattle.st_tree.specs.declared.tree.statement.IfStatement.{IfStatement, fold-IfStatement, fold-roll-IfStatement, map-IfStatement, roll-IfStatement}
use Rattle.st_tree.specs.declared.tree.statement.Label.{Label}
use Rattle.st_tree.specs.declared.tree.statement.Label.TheVariants as label_kinds
use Rattle.st_tree.specs.declared.tree.statement.RepeatStatement.{RepeatStatement, fold-RepeatStatement, fold-roll-RepeatStatement, map-RepeatStatement, roll-RepeatStatement}
use Rattle.st_tree.specs.declared.tree.statement.Statement.{Statement, fold-roll-Statement, ind-Statement, map-Statement, roll-Statement}
use Rattle.st_tree.specs.declared.tree.statement.Statement.TheOpen.{CaseElement-F, CaseStatement-F, ConditionalPart-F, ForStatement-F, IfStatement-F, RepeatStatement-F, Statement-F, WhileStatement-F}
use Rattle.st_tree.specs.declared.tree.statement.WhileStatement.{WhileStatement, fold-WhileStatement, fold-roll-WhileStatement, map-WhileStatement, roll-WhileStatement}
use Rattle.st_tree.specs.declared.tree.unit.Action.{Action}
use Rattle.st_tree.specs.declared.tree.unit.Transition.{Transition}
use Rattle.st_types.specs.Compositions.{Composition, unknown, elementary, array, composed, standard}
use Rattle.st_types.specs.Initials.{number_in, value_written}
use Rattle.st_types.specs.Names.{actions_in, steps_in}
use Rattle.st_types.specs.OwnTypes.{or_lint}
use Rattle.st_operators.proofs.Results.{wrapped_is}
use Rattle.st_leaves.specs.Charts.{associated_names, associations_of}
use Rattle.st_meaning.specs.Sketched.{bool_named, number_among, passage_in, sketch_of, transitions_in, variable_named}
use Rattle.st_meaning.specs.Sound.{AreBoolVariables, AreSoundActions, AreSoundBranches, AreSoundCases, AreSoundCommands, AreSoundParts, AreSoundTests, HasChartLeaves, IsCount, IsLabelOf, IsPlaceOf, IsSoundBody, IsSoundCommand, IsTermOf, is_fixed, term_type}
use Rattle.st_meaning.specs.Steps.{chart_within}
use Rattle.st_meaning.specs.Terms.{Parts, whole, field_part, Command, choice, while_loop, repeat_loop, Commands, Branches, more_branches, Cases, more_cases, count_actions, count_tests}
use Rattle.st_meaning.specs.Typing.{Typed, actions_of, alone, assignment, body_in, body_of, branch_of, branches_of, case_command, case_of, cases_of, chart_or, command_of, commands_of, condition, for_command, label_range, place_of, step_typed, tests_of, typed, typed_statement}
use Rattle.st_meaning.specs.Wholes.{Functions, Whole, type_of}
use Rattle.st_meaning.proofs.ChartTypes.{chart_leaves_are}
use Rattle.st_meaning.proofs.TypedCalls.{AreSoundBodies, call_command_sound}
use Rattle.st_meaning.proofs.TypedExpressions.{expression_sound, place_parts}
use Rattle.st_meaning.proofs.TypedFunctions.{KnowsNames}
use Rattle.st_meaning.proofs.TypedTerms.{IsSound, alone_sound, same_type}

-- ---- labels and numbers

written_in_range : (e : Elem) (c : Constant) → IsTrue (in_range e (value_written e c).bits)
written_in_range e c = let is = wrapped_is e (number_in c) in subst (λ d. IsTrue (in_range d (value_written e c).bits)) is.of_type is.in_range

label_sound : (e : Elem) (l : Label) → IsLabelOf e (label_range e l)
label_sound e (label_kinds.Value c) = record { least = written_in_range e c; greatest = written_in_range e c }
label_sound e (label_kinds.Range a b) = record { least = written_in_range e a; greatest = written_in_range e b }

labels_sound : (e : Elem) (ls : List Label) → All (IsLabelOf e) (map (label_range e) ls)
labels_sound e [] = All-nil (IsLabelOf e)
labels_sound e (l ∷ ls) = All-cons (IsLabelOf e) (label_range e l) (map (label_range e) ls) (label_sound e l) (labels_sound e ls)

one_is_value : (e : Elem) → IsTrue (in_range e (pos 1))
one_is_value elems.Bool = refl
one_is_value elems.Sint = refl
one_is_value elems.Int = refl
one_is_value elems.Dint = refl
one_is_value elems.Lint = refl
one_is_value elems.Usint = refl
one_is_value elems.Uint = refl
one_is_value elems.Udint = refl
one_is_value elems.Ulint = refl
one_is_value elems.Byte = refl
one_is_value elems.Word = refl
one_is_value elems.Dword = refl
one_is_value elems.Lword = refl
one_is_value elems.Time = refl

-- ---- the folds that have no names of their own

abbrev pub case_statement_of : Whole → CaseStatement → Command
case_statement_of w x = fold-CaseStatement Command (Elem → Cases → Cases) Command (Branches → Branches) Command Command Command Command (typed_statement w) (λ e t. more_cases (map (label_range t) e.labels) (commands_of e.statements)) (λ s. case_command s.position.line (typed w s.selector) s.cases s.otherwise) (λ b. more_branches (condition w b.condition) (commands_of b.statements)) (λ s. for_command w s.position.line (field_part s.variable.spelling whole) (type_of w.variables (field_part s.variable.spelling whole)) s.first s.last s.step (commands_of s.statements)) (λ s. choice s.position.line (branches_of s.parts) (commands_of s.otherwise)) (λ s. repeat_loop s.position.line (commands_of s.statements) (condition w s.condition)) (λ s. while_loop s.position.line (condition w s.condition) (commands_of s.statements)) x

abbrev pub for_of : Whole → ForStatement → Command
for_of w x = fold-ForStatement Command (Elem → Cases → Cases) Command (Branches → Branches) Command Command Command Command (typed_statement w) (λ e t. more_cases (map (label_range t) e.labels) (commands_of e.statements)) (λ s. case_command s.position.line (typed w s.selector) s.cases s.otherwise) (λ b. more_branches (condition w b.condition) (commands_of b.statements)) (λ s. for_command w s.position.line (field_part s.variable.spelling whole) (type_of w.variables (field_part s.variable.spelling whole)) s.first s.last s.step (commands_of s.statements)) (λ s. choice s.position.line (branches_of s.parts) (commands_of s.otherwise)) (λ s. repeat_loop s.position.line (commands_of s.statements) (condition w s.condition)) (λ s. while_loop s.position.line (condition w s.condition) (commands_of s.statements)) x

abbrev pub if_of : Whole → IfStatement → Command
if_of w x = fold-IfStatement Command (Elem → Cases → Cases) Command (Branches → Branches) Command Command Command Command (typed_statement w) (λ e t. more_cases (map (label_range t) e.labels) (commands_of e.statements)) (λ s. case_command s.position.line (typed w s.selector) s.cases s.otherwise) (λ b. more_branches (condition w b.condition) (commands_of b.statements)) (λ s. for_command w s.position.line (field_part s.variable.spelling whole) (type_of w.variables (field_part s.variable.spelling whole)) s.first s.last s.step (commands_of s.statements)) (λ s. choice s.position.line (branches_of s.parts) (commands_of s.otherwise)) (λ s. repeat_loop s.position.line (commands_of s.statements) (condition w s.condition)) (λ s. while_loop s.position.line (condition w s.condition) (commands_of s.statements)) x

abbrev pub repeat_of : Whole → RepeatStatement → Command
repeat_of w x = fold-RepeatStatement Command (Elem → Cases → Cases) Command (Branches → Branches) Command Command Command Command (typed_statement w) (λ e t. more_cases (map (label_range t) e.labels) (commands_of e.statements)) (λ s. case_command s.position.line (typed w s.selector) s.cases s.otherwise) (λ b. more_branches (condition w b.condition) (commands_of b.statements)) (λ s. for_command w s.position.line (field_part s.variable.spelling whole) (type_of w.variables (field_part s.variable.spelling whole)) s.first s.last s.step (commands_of s.statements)) (λ s. choice s.position.line (branches_of s.parts) (commands_of s.otherwise)) (λ s. repeat_loop s.position.line (commands_of s.statements) (condition w s.condition)) (λ s. while_loop s.position.line (condition w s.condition) (commands_of s.statements)) x

abbrev pub while_of : Whole → WhileStatement → Command
while_of w x = fold-WhileStatement Command (Elem → Cases → Cases) Command (Branches → Branches) Command Command Command Command (typed_statement w) (λ e t. more_cases (map (label_range t) e.labels) (commands_of e.statements)) (λ s. case_command s.position.line (typed w s.selector) s.cases s.otherwise) (λ b. more_branches (condition w b.condition) (commands_of b.statements)) (λ s. for_command w s.position.line (field_part s.variable.spelling whole) (type_of w.variables (field_part s.variable.spelling whole)) s.first s.last s.step (commands_of s.statements)) (λ s. choice s.position.line (branches_of s.parts) (commands_of s.otherwise)) (λ s. repeat_loop s.position.line (commands_of s.statements) (condition w s.condition)) (λ s. while_loop s.position.line (condition w s.condition) (commands_of s.statements)) x

-- ---- lists

each_command : (functions : Functions) (w : Whole) (xs : List ((z : Statement) × IsSoundCommand functions w.variables (command_of w z))) → AreSoundCommands functions w.variables (commands_of (map (command_of w) (map (λ e. e.0) xs)))
each_command functions w [] = tt
each_command functions w (x ∷ xs) = (x.1, each_command functions w xs)

abbrev KeepsBranches : Functions → Whole → ConditionalPart → Type 0
KeepsBranches functions w z = (bs : Branches) → AreSoundBranches functions w.variables bs → AreSoundBranches functions w.variables (branch_of w z bs)

each_branch : (functions : Functions) (w : Whole) (xs : List ((z : ConditionalPart) × KeepsBranches functions w z)) → AreSoundBranches functions w.variables (branches_of (map (branch_of w) (map (λ e. e.0) xs)))
each_branch functions w [] = tt
each_branch functions w (x ∷ xs) = x.1 (branches_of (map (branch_of w) (map (λ e. e.0) xs))) (each_branch functions w xs)

abbrev KeepsCases : Functions → Whole → CaseElement → Type 0
KeepsCases functions w z = (e : Elem) (cs : Cases) → AreSoundCases functions w.variables e cs → AreSoundCases functions w.variables e (case_of w z e cs)

each_case : (functions : Functions) (w : Whole) (e : Elem) (xs : List ((z : CaseElement) × KeepsCases functions w z)) → AreSoundCases functions w.variables e (cases_of e (map (case_of w) (map (λ e. e.0) xs)))
each_case functions w e [] = tt
each_case functions w e (x ∷ xs) = x.1 e (cases_of e (map (case_of w) (map (λ e. e.0) xs))) (each_case functions w e xs)

-- ---- one statement

assignment_sound : (functions : Functions) (root : Composition) (line : ℕ) (ps : Parts) (e : Option Elem) (x : Typed) → type_of root ps ≡ e → AreSoundParts functions root ps → IsSound functions root x → IsSoundCommand functions root (assignment line ps e x)
assignment_sound functions root line ps None x h parts k = tt
assignment_sound functions root line ps (Some e) x h parts k =
    let place : IsPlaceOf functions root (term_type root (x.as_type e)) ps = record { type = h ∙ ap (λ d. Some d) (sym (k e).type); parts = parts } in
    (place, (k e).sound)

-- ---- charts

tests_count : (w : Whole) (ts : List Transition) → count_tests (tests_of w ts) ≡ length ts
tests_count w [] = refl
tests_count w (t ∷ ts) = let e = tests_count w ts in omega (arith, e)

actions_count : (w : Whole) (as' : List Action) → count_actions (actions_of w as') ≡ length as'
actions_count w [] = refl
actions_count w (a ∷ more) = let e = actions_count w more in omega (arith, e)

named_is : (root : Composition) (name : List ℕ) (e : Option Elem) (others : List (Option (List ℕ))) → type_of root (field_part name whole) ≡ e → AreBoolVariables root others
    → AreBoolVariables root (bool_named name e ∷ others)
named_is root name None others h rest = rest
named_is root name (Some e) others h rest = by (is_same e elems.Bool) refl where
  by : (b : Bool) → is_same e elems.Bool ≡ b → AreBoolVariables root ((if b then Some name else None) ∷ others)
  by true q = (h ∙ ap (λ d. Some d) (same_type e elems.Bool q), rest)
  by false q = rest

variables_are : (root : Composition) (names : List (List ℕ)) → AreBoolVariables root (map (variable_named root) names)
variables_are root [] = tt
variables_are root (name ∷ names) = named_is root name (type_of root (field_part name whole)) (map (variable_named root) names) refl (variables_are root names)

module _ (functions : Functions) (w : Whole) (known : KnowsNames functions w) (bodies : AreSoundBodies functions w) where
  step_sound : (step : Option Expression) (e : Elem) → IsTermOf functions w.variables e (step_typed w step e)
  step_sound None e = record { type = refl; sound = one_is_value e }
  step_sound (Some x) e = expression_sound functions w known x e

  for_sound : (line : ℕ) (ps : Parts) (e : Option Elem) (first last : Expression) (step : Option Expression) (cs : Commands) → type_of w.variables ps ≡ e → AreSoundParts functions w.variables ps
      → IsTrue (is_fixed ps) → AreSoundCommands functions w.variables cs → IsSoundCommand functions w.variables (for_command w line ps e first last step cs)
  for_sound line ps None first last step cs h parts fixed sound = tt
  for_sound line ps (Some e) first last step cs h parts fixed sound =
      let root = w.variables in
      let a = expression_sound functions w known first e in
      let b = expression_sound functions w known last e in
      let c = step_sound step e in
      let is : IsCount functions root ps ((typed w first).as_type e) ((typed w last).as_type e) (step_typed w step e) = record {
        variable = record { type = h ∙ ap (λ d. Some d) (sym a.type); parts = parts };
        fixed = fixed;
        first = a.sound;
        last = record { type = b.type ∙ sym a.type; sound = b.sound };
        step = record { type = c.type ∙ sym a.type; sound = c.sound };
      } in
      (is, sound)

  -- ---- one layer of a tree, where each part is sound

  abbrev SoundStatement : Type 0
  SoundStatement = (z : Statement) × IsSoundCommand functions w.variables (command_of w z)

  abbrev SoundElement : Type 0
  SoundElement = (z : CaseElement) × KeepsCases functions w z

  abbrev SoundCase : Type 0
  SoundCase = (z : CaseStatement) × IsSoundCommand functions w.variables (case_statement_of w z)

  abbrev SoundPart : Type 0
  SoundPart = (z : ConditionalPart) × KeepsBranches functions w z

  abbrev SoundFor : Type 0
  SoundFor = (z : ForStatement) × IsSoundCommand functions w.variables (for_of w z)

  abbrev SoundIf : Type 0
  SoundIf = (z : IfStatement) × IsSoundCommand functions w.variables (if_of w z)

  abbrev SoundRepeat : Type 0
  SoundRepeat = (z : RepeatStatement) × IsSoundCommand functions w.variables (repeat_of w z)

  abbrev SoundWhile : Type 0
  SoundWhile = (z : WhileStatement) × IsSoundCommand functions w.variables (while_of w z)

  statement_made : (y : Statement-F SoundStatement SoundElement SoundCase SoundPart SoundFor SoundIf SoundRepeat SoundWhile) → IsSoundCommand functions w.variables (command_of w (roll-Statement (map-Statement _ _ _ _ _ _ _ _ Statement CaseElement CaseStatement ConditionalPart ForStatement IfStatement RepeatStatement WhileStatement (λ e. e.0) (λ e. e.0) (λ e. e.0) (λ e. e.0) (λ e. e.0) (λ e. e.0) (λ e. e.0) (λ e. e.0) y)))
  statement_made (Statement-F.Empty p) = subst (IsSoundCommand functions w.variables) (sym (fold-roll-Statement _ _ _ _ _ _ _ _ _ _ _ _ _ _ _ _ _)) tt
  statement_made (Statement-F.Assignment v x) =
      subst (IsSoundCommand functions w.variables) (sym (fold-roll-Statement _ _ _ _ _ _ _ _ _ _ _ _ _ _ _ _ _))
      (assignment_sound functions w.variables v.name.position.line (place_of w v) (type_of w.variables (place_of w v)) (typed w x) refl (place_parts functions w known v) (expression_sound functions w known x))
  statement_made (Statement-F.Call c) = subst (IsSoundCommand functions w.variables) (sym (fold-roll-Statement _ _ _ _ _ _ _ _ _ _ _ _ _ _ _ _ _)) (call_command_sound functions w known bodies c)
  statement_made (Statement-F.Return p) = subst (IsSoundCommand functions w.variables) (sym (fold-roll-Statement _ _ _ _ _ _ _ _ _ _ _ _ _ _ _ _ _)) tt
  statement_made (Statement-F.Exit p) = subst (IsSoundCommand functions w.variables) (sym (fold-roll-Statement _ _ _ _ _ _ _ _ _ _ _ _ _ _ _ _ _)) tt
  statement_made (Statement-F.If c) = subst (IsSoundCommand functions w.variables) (sym (fold-roll-Statement _ _ _ _ _ _ _ _ _ _ _ _ _ _ _ _ _)) c.1
  statement_made (Statement-F.Case c) = subst (IsSoundCommand functions w.variables) (sym (fold-roll-Statement _ _ _ _ _ _ _ _ _ _ _ _ _ _ _ _ _)) c.1
  statement_made (Statement-F.For c) = subst (IsSoundCommand functions w.variables) (sym (fold-roll-Statement _ _ _ _ _ _ _ _ _ _ _ _ _ _ _ _ _)) c.1
  statement_made (Statement-F.While c) = subst (IsSoundCommand functions w.variables) (sym (fold-roll-Statement _ _ _ _ _ _ _ _ _ _ _ _ _ _ _ _ _)) c.1
  statement_made (Statement-F.Repeat c) = subst (IsSoundCommand functions w.variables) (sym (fold-roll-Statement _ _ _ _ _ _ _ _ _ _ _ _ _ _ _ _ _)) c.1

  element_made : (y : CaseElement-F SoundStatement SoundElement SoundCase SoundPart SoundFor SoundIf SoundRepeat SoundWhile) → KeepsCases functions w (roll-CaseElement (map-CaseElement _ _ _ _ _ _ _ _ Statement CaseElement CaseStatement ConditionalPart ForStatement IfStatement RepeatStatement WhileStatement (λ e. e.0) (λ e. e.0) (λ e. e.0) (λ e. e.0) (λ e. e.0) (λ e. e.0) (λ e. e.0) (λ e. e.0) y))
  element_made y e cs h =
      subst (λ (f : Elem → Cases → Cases). AreSoundCases functions w.variables e (f e cs)) (sym (fold-roll-CaseElement _ _ _ _ _ _ _ _ _ _ _ _ _ _ _ _ _)) (labels_sound e y.labels, each_command functions w y.statements, h)

  case_made : (y : CaseStatement-F SoundStatement SoundElement SoundCase SoundPart SoundFor SoundIf SoundRepeat SoundWhile) → IsSoundCommand functions w.variables (case_statement_of w (roll-CaseStatement (map-CaseStatement _ _ _ _ _ _ _ _ Statement CaseElement CaseStatement ConditionalPart ForStatement IfStatement RepeatStatement WhileStatement (λ e. e.0) (λ e. e.0) (λ e. e.0) (λ e. e.0) (λ e. e.0) (λ e. e.0) (λ e. e.0) (λ e. e.0) y)))
  case_made y =
      let x = typed w y.selector in
      let is = alone_sound functions w.variables x (expression_sound functions w known y.selector) in
      let all : AreSoundCases functions w.variables (term_type w.variables (alone x)) (cases_of (or_lint x.own) (map (case_of w) (map (λ e. e.0) y.cases))) =
      subst (λ e. AreSoundCases functions w.variables e (cases_of (or_lint x.own) (map (case_of w) (map (λ z. z.0) y.cases)))) (sym is.type) (each_case functions w (or_lint x.own) y.cases) in
      subst (IsSoundCommand functions w.variables) (sym (fold-roll-CaseStatement _ _ _ _ _ _ _ _ _ _ _ _ _ _ _ _ _)) (is.sound, all, each_command functions w y.otherwise)

  part_made : (y : ConditionalPart-F SoundStatement SoundElement SoundCase SoundPart SoundFor SoundIf SoundRepeat SoundWhile) → KeepsBranches functions w (roll-ConditionalPart (map-ConditionalPart _ _ _ _ _ _ _ _ Statement CaseElement CaseStatement ConditionalPart ForStatement IfStatement RepeatStatement WhileStatement (λ e. e.0) (λ e. e.0) (λ e. e.0) (λ e. e.0) (λ e. e.0) (λ e. e.0) (λ e. e.0) (λ e. e.0) y))
  part_made y bs h =
      subst (λ (f : Branches → Branches). AreSoundBranches functions w.variables (f bs)) (sym (fold-roll-ConditionalPart _ _ _ _ _ _ _ _ _ _ _ _ _ _ _ _ _)) ((expression_sound functions w known y.condition elems.Bool).sound, each_command functions w y.statements, h)

  for_made : (y : ForStatement-F SoundStatement SoundElement SoundCase SoundPart SoundFor SoundIf SoundRepeat SoundWhile) → IsSoundCommand functions w.variables (for_of w (roll-ForStatement (map-ForStatement _ _ _ _ _ _ _ _ Statement CaseElement CaseStatement ConditionalPart ForStatement IfStatement RepeatStatement WhileStatement (λ e. e.0) (λ e. e.0) (λ e. e.0) (λ e. e.0) (λ e. e.0) (λ e. e.0) (λ e. e.0) (λ e. e.0) y)))
  for_made y =
      let ps = field_part y.variable.spelling whole in
      subst (IsSoundCommand functions w.variables) (sym (fold-roll-ForStatement _ _ _ _ _ _ _ _ _ _ _ _ _ _ _ _ _))
      (for_sound y.position.line ps (type_of w.variables ps) y.first y.last y.step (commands_of (map (command_of w) (map (λ e. e.0) y.statements))) refl tt refl (each_command functions w y.statements))

  if_made : (y : IfStatement-F SoundStatement SoundElement SoundCase SoundPart SoundFor SoundIf SoundRepeat SoundWhile) → IsSoundCommand functions w.variables (if_of w (roll-IfStatement (map-IfStatement _ _ _ _ _ _ _ _ Statement CaseElement CaseStatement ConditionalPart ForStatement IfStatement RepeatStatement WhileStatement (λ e. e.0) (λ e. e.0) (λ e. e.0) (λ e. e.0) (λ e. e.0) (λ e. e.0) (λ e. e.0) (λ e. e.0) y)))
  if_made y = subst (IsSoundCommand functions w.variables) (sym (fold-roll-IfStatement _ _ _ _ _ _ _ _ _ _ _ _ _ _ _ _ _)) (each_branch functions w y.parts, each_command functions w y.otherwise)

  repeat_made : (y : RepeatStatement-F SoundStatement SoundElement SoundCase SoundPart SoundFor SoundIf SoundRepeat SoundWhile) → IsSoundCommand functions w.variables (repeat_of w (roll-RepeatStatement (map-RepeatStatement _ _ _ _ _ _ _ _ Statement CaseElement CaseStatement ConditionalPart ForStatement IfStatement RepeatStatement WhileStatement (λ e. e.0) (λ e. e.0) (λ e. e.0) (λ e. e.0) (λ e. e.0) (λ e. e.0) (λ e. e.0) (λ e. e.0) y)))
  repeat_made y = subst (IsSoundCommand functions w.variables) (sym (fold-roll-RepeatStatement _ _ _ _ _ _ _ _ _ _ _ _ _ _ _ _ _)) (each_command functions w y.statements, (expression_sound functions w known y.condition elems.Bool).sound)

  while_made : (y : WhileStatement-F SoundStatement SoundElement SoundCase SoundPart SoundFor SoundIf SoundRepeat SoundWhile) → IsSoundCommand functions w.variables (while_of w (roll-WhileStatement (map-WhileStatement _ _ _ _ _ _ _ _ Statement CaseElement CaseStatement ConditionalPart ForStatement IfStatement RepeatStatement WhileStatement (λ e. e.0) (λ e. e.0) (λ e. e.0) (λ e. e.0) (λ e. e.0) (λ e. e.0) (λ e. e.0) (λ e. e.0) y)))
  while_made y = subst (IsSoundCommand functions w.variables) (sym (fold-roll-WhileStatement _ _ _ _ _ _ _ _ _ _ _ _ _ _ _ _ _)) ((expression_sound functions w known y.condition elems.Bool).sound, each_command functions w y.statements)

  -- ---- whole trees

  command_sound : (x : Statement) → IsSoundCommand functions w.variables (command_of w x)
  command_sound =
      ind-Statement (λ z. IsSoundCommand functions w.variables (command_of w z)) (KeepsCases functions w) (λ z. IsSoundCommand functions w.variables (case_statement_of w z)) (KeepsBranches functions w)
      (λ z. IsSoundCommand functions w.variables (for_of w z)) (λ z. IsSoundCommand functions w.variables (if_of w z)) (λ z. IsSoundCommand functions w.variables (repeat_of w z)) (λ z. IsSoundCommand functions w.variables (while_of w z))
      (λ x y is. subst (λ z. IsSoundCommand functions w.variables (command_of w (roll-Statement z))) is (statement_made y))
      (λ x y is. subst (λ z. KeepsCases functions w (roll-CaseElement z)) is (element_made y))
      (λ x y is. subst (λ z. IsSoundCommand functions w.variables (case_statement_of w (roll-CaseStatement z))) is (case_made y))
      (λ x y is. subst (λ z. KeepsBranches functions w (roll-ConditionalPart z)) is (part_made y))
      (λ x y is. subst (λ z. IsSoundCommand functions w.variables (for_of w (roll-ForStatement z))) is (for_made y))
      (λ x y is. subst (λ z. IsSoundCommand functions w.variables (if_of w (roll-IfStatement z))) is (if_made y))
      (λ x y is. subst (λ z. IsSoundCommand functions w.variables (repeat_of w (roll-RepeatStatement z))) is (repeat_made y))
      (λ x y is. subst (λ z. IsSoundCommand functions w.variables (while_of w (roll-WhileStatement z))) is (while_made y))

  pub body_sound : (body : List Statement) → AreSoundCommands functions w.variables (commands_of (map (command_of w) body))
  body_sound [] = tt
  body_sound (x ∷ body) = (command_sound x, body_sound body)

  -- ---- charts

  tests_sound : (ts : List Transition) → AreSoundTests functions w.variables (tests_of w ts)
  tests_sound [] = tt
  tests_sound (t ∷ ts) = (expression_sound functions w known t.condition elems.Bool, tests_sound ts)

  actions_sound : (as' : List Action) → AreSoundActions functions w.variables (actions_of w as')
  actions_sound [] = tt
  actions_sound (a ∷ more) = (body_sound a.statements, actions_sound more)

  -- a chart that the variables end with
  whole_sound : (cs : Commands) (unit : ℕ) (root : Composition) → w.variables ≡ root → AreSoundCommands functions w.variables cs
      → IsSoundBody functions w.variables (chart_or cs w unit (chart_within root))
  whole_sound cs unit unknown same sound = sound
  whole_sound cs unit (elementary v) same sound = sound
  whole_sound cs unit (array ranges firsts c) same sound = sound
  whole_sound cs unit (standard b) same sound = sound
  whole_sound cs unit (composed name ms []) same sound = sound
  whole_sound cs unit (composed name ms (e ∷ es)) same sound =
      let ts = flat_map transitions_in (e ∷ es) in
      let as' = flat_map actions_in (e ∷ es) in
      let steps = flat_map steps_in (e ∷ es) in
      let sketch = sketch_of w.variables (e ∷ es) in
      let leaves : HasChartLeaves w.variables sketch = subst (λ c. HasChartLeaves c sketch) (sym same) (chart_leaves_are name ms e es w.variables) in (
        record {
          leaves = leaves;
          conditions = tests_sound ts;
          as_many_tests = length-map ts (passage_in (map (λ s. s.name.spelling) steps)) ∙ sym (tests_count w ts);
          variables = variables_are w.variables (associated_names (associations_of steps));
          as_many_actions = length-map as' (λ a. number_among (associated_names (associations_of steps)) a.name.spelling) ∙ sym (actions_count w as');
        },
        actions_sound as',
      )

  pub unit_body_sound : (unit : ℕ) (statements : List Statement) → IsSoundBody functions w.variables (body_in w unit statements)
  unit_body_sound unit statements = whole_sound (body_of w statements) unit w.variables refl (body_sound statements)
