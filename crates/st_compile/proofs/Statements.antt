-- Whole statements: where no fault is found, each has a command by the strict cases, the one that typing gives.
use Rattle.std.proofs.Common.{◌≡◌, ℕ, Bool, true, false, ◌&&◌, ◌||◌, if◌then◌else◌, not, List, [], ◌∷◌, ◌++◌, map, Option, Some, None, refl, sym, ap, ◌∙◌, subst}
use Rattle.std.specs.List.{flat_map}
use Rattle.std.specs.Option.{is_some}
use Rattle.st_values.specs.declared.elem.Elem.{Elem}
use Rattle.st_values.specs.declared.elem.Elem.TheVariants as elems
use Rattle.st_tree.specs.declared.tree.expression.Expression.{Expression}
use Rattle.st_tree.specs.declared.tree.expression.Variable.{Variable}
use Rattle.st_tree.specs.declared.tree.statement.CaseElement.{CaseElement, fold-roll-CaseElement, map-CaseElement, roll-CaseElement}
use Rattle.st_tree.specs.declared.tree.statement.CaseStatement.{CaseStatement, fold-roll-CaseStatement, map-CaseStatement, roll-CaseStatement}
use Rattle.st_tree.specs.declared.tree.statement.ConditionalPart.{ConditionalPart, fold-roll-ConditionalPart, map-ConditionalPart, roll-ConditionalPart}
use Rattle.st_tree.specs.declared.tree.statement.ForStatement.{ForStatement, fold-roll-ForStatement, map-ForStatement, roll-ForStatement}
use Rattle.st_tree.specs.declared.tree.statement.IfStatement.{IfStatement, fold-roll-IfStatement, map-IfStatement, roll-IfStatement}
use Rattle.st_tree.specs.declared.tree.statement.RepeatStatement.{RepeatStatement, fold-roll-RepeatStatement, map-RepeatStatement, roll-RepeatStatement}
use Rattle.st_tree.specs.declared.tree.statement.Statement.{Statement, fold-roll-Statement, ind-Statement, map-Statement, roll-Statement}
use Rattle.st_tree.specs.declared.tree.statement.WhileStatement.{WhileStatement, fold-roll-WhileStatement, map-WhileStatement, roll-WhileStatement}
use Rattle.st_tree.specs.declared.tree.statement.Label.{Label}
use Rattle.st_tree.specs.declared.tree.statement.Label.TheVariants as label_kinds
use Rattle.st_tree.specs.declared.tree.statement.Statement.TheOpen.{CaseElement-F, CaseStatement-F, ConditionalPart-F, ForStatement-F, IfStatement-F, RepeatStatement-F, Statement-F, WhileStatement-F}
use Rattle.st_faults.specs.Faults.{fault, when}
use Rattle.st_faults.specs.declared.fault.Rule.TheVariants as rules
use Rattle.st_operators.specs.Operators.{is_integer}
use Rattle.st_types.specs.OwnTypes.{or_lint}
use Rattle.st_types.specs.Scopes.{Scope, elem_due}
use Rattle.st_types.specs.Types.{elem_of}
use Rattle.st_types.specs.declared.symbol.Due.{Due}
use Rattle.st_types.specs.declared.symbol.Due.TheVariants as dues
use Rattle.st_check_expressions.specs.Known.{Known, alone, faults_alone, faults_as, literal_faults, literal_position, selected}
use Rattle.st_check_expressions.specs.Variables.{VariableKnown, target_faults}
use Rattle.st_check_expressions.specs.Walk.{known, known_variable}
use Rattle.st_check_statements.specs.Statements.{Around, InStatement, all_faults, case_faults, condition_faults, counter_due, counter_faults, element_faults, for_faults, if_faults, inside_for, inside_loop, label_faults, optional_faults, part_faults, range_faults, repeat_faults, statement_faults, while_faults}
use Rattle.st_check.proofs.Apart.{nothing_parts}
use Rattle.st_meaning.proofs.TypedStatements.{case_statement_of, for_of, if_of, repeat_of, while_of}
use Rattle.st_meaning.specs.Terms.{whole, field_part, Command, count_loop, exit, Branches, Cases}
use Rattle.st_meaning.specs.Typing.{alone as alone_term, assignment, branch_of, branches_of, case_of, cases_of, command_of, commands_of, for_command, label_range, place_of, step_typed, typed}
use Rattle.st_meaning.specs.Wholes.{Whole, type_of}
use Rattle.st_compile.specs.Commands.{AreBranches, AreCases, AreCommands, AreLabels, IsCommand, IsStepOf}
use Rattle.st_compile.specs.Commands as strict
use Rattle.st_compile.specs.Terms.{IsTerm, own_type}
use Rattle.st_compile.specs.Ties.{Ties}
use Rattle.st_compile.proofs.Chains.{holds}
use Rattle.st_compile.proofs.Expressions.{expression_fits, parts_fit}
use Rattle.st_compile.proofs.Invocations.{call_statement_strict, target_strict}
use Rattle.st_compile.proofs.Literals.{literal_is}
use Rattle.st_compile.proofs.Places.{either_true}
use Rattle.st_compile.proofs.Targets.{counter_is}

-- ---- labels

labels_strict : (e : Elem) (ls : List Label) → flat_map (label_faults (Some e)) ls ≡ [] → AreLabels e ls (map (label_range e) ls)
labels_strict e [] h = strict.no_label
labels_strict e (label_kinds.Value c ∷ ls) h =
    let parts = nothing_parts (literal_faults c (literal_position c) e) (flat_map (label_faults (Some e)) ls) h in
    strict.single (literal_is c (literal_position c) e parts.0) (labels_strict e ls parts.1)
labels_strict e (label_kinds.Range a b ∷ ls) h =
    let parts = nothing_parts (literal_faults a (literal_position a) e ++ literal_faults b (literal_position b) e) (flat_map (label_faults (Some e)) ls) h in
    let two = nothing_parts (literal_faults a (literal_position a) e) (literal_faults b (literal_position b) e) parts.0 in
    strict.range (literal_is a (literal_position a) e two.0) (literal_is b (literal_position b) e two.1) (labels_strict e ls parts.1)

module _ (scope : Scope) (w : Whole) (ties : Ties scope w) where
  -- where this type is due
  term_as : (x : Expression) (e : Elem) → faults_as (known scope x) (dues.Type e) ≡ [] → IsTerm w e x ((typed w x).as_type e)
  term_as x e h = (expression_fits scope w ties x (Known.position (known scope x)) e h).term

  -- the type of what a part selects by can be known
  selected_alone : (own : Option Elem) (unknown : Bool) → unknown ≡ false → (if not (is_some own) && unknown then None else Some (or_lint own)) ≡ Some (or_lint own)
  selected_alone None unknown h = ap (λ (b : Bool). if b then None else Some elems.Lint) h
  selected_alone (Some e) unknown h = refl

  -- of an integer type of its own
  record Selects (x : Expression) : Type 0 where
    pub own : selected (known scope x) ≡ Some (or_lint (own_type w x))
    pub integer : is_integer (or_lint (own_type w x)) ≡ true
    pub term : IsTerm w (or_lint (own_type w x)) x (alone_term (typed w x))

  selects : (x : Expression) → faults_as (known scope x) dues.Integer ≡ [] → Selects x
  selects x h =
      let k = known scope x in
      let own = nothing_parts (faults_alone k) (when (not (is_integer (alone k) || k.fits_all)) (fault k.position rules.TypeMismatch)) h in
      let is = expression_fits scope w ties x k.position (alone k) own.0 in
      let whole_number = either_true (is_integer (alone k)) k.fits_all (holds (is_integer (alone k) || k.fits_all) (fault k.position rules.TypeMismatch) own.1) is.known in
      let same : alone k ≡ or_lint (typed w x).own = ap or_lint is.own in
      record {
        own = selected_alone k.own k.fits_all is.known ∙ ap (λ (e : Elem). Some e) same;
        integer = subst (λ (e : Elem). is_integer e ≡ true) same whole_number;
        term = subst (λ (e : Elem). IsTerm w e x ((typed w x).as_type e)) same is.term;
      }

  step_strict : (e : Elem) (step : Option Expression) → optional_faults scope (dues.Type e) step ≡ [] → IsStepOf w e step (step_typed w step e)
  step_strict e None h = strict.one
  step_strict e (Some x) h = strict.by (term_as x e h)

  -- ---- what is to hold of each node

  abbrev OfStatement : Statement → Type 0
  OfStatement s = (a : Around) → statement_faults scope s a ≡ [] → IsCommand w a.in_loop s (command_of w s)

  abbrev OfCaseElement : CaseElement → Type 0
  OfCaseElement c = (e : Elem) (a : Around) → element_faults scope c (Some e) a ≡ [] → (cs : List CaseElement) (more : Cases) → AreCases w a.in_loop e cs more → AreCases w a.in_loop e (c ∷ cs) (case_of w c e more)

  abbrev OfCaseStatement : CaseStatement → Type 0
  OfCaseStatement s = (a : Around) → case_faults scope s a ≡ [] → IsCommand w a.in_loop (roll-Statement (Statement-F.Case s)) (case_statement_of w s)

  abbrev OfConditionalPart : ConditionalPart → Type 0
  OfConditionalPart p = (a : Around) → part_faults scope p a ≡ [] → (ps : List ConditionalPart) (bs : Branches) → AreBranches w a.in_loop ps bs → AreBranches w a.in_loop (p ∷ ps) (branch_of w p bs)

  abbrev OfForStatement : ForStatement → Type 0
  OfForStatement s = (a : Around) → for_faults scope s a ≡ [] → IsCommand w a.in_loop (roll-Statement (Statement-F.For s)) (for_of w s)

  abbrev OfIfStatement : IfStatement → Type 0
  OfIfStatement s = (a : Around) → if_faults scope s a ≡ [] → IsCommand w a.in_loop (roll-Statement (Statement-F.If s)) (if_of w s)

  abbrev OfRepeatStatement : RepeatStatement → Type 0
  OfRepeatStatement s = (a : Around) → repeat_faults scope s a ≡ [] → IsCommand w a.in_loop (roll-Statement (Statement-F.Repeat s)) (repeat_of w s)

  abbrev OfWhileStatement : WhileStatement → Type 0
  OfWhileStatement s = (a : Around) → while_faults scope s a ≡ [] → IsCommand w a.in_loop (roll-Statement (Statement-F.While s)) (while_of w s)

  -- ---- one layer of a tree, where each part is as it is to be

  abbrev DoneStatement : Type 0
  DoneStatement = (z : Statement) × OfStatement z

  abbrev DoneCaseElement : Type 0
  DoneCaseElement = (z : CaseElement) × OfCaseElement z

  abbrev DoneCaseStatement : Type 0
  DoneCaseStatement = (z : CaseStatement) × OfCaseStatement z

  abbrev DoneConditionalPart : Type 0
  DoneConditionalPart = (z : ConditionalPart) × OfConditionalPart z

  abbrev DoneForStatement : Type 0
  DoneForStatement = (z : ForStatement) × OfForStatement z

  abbrev DoneIfStatement : Type 0
  DoneIfStatement = (z : IfStatement) × OfIfStatement z

  abbrev DoneRepeatStatement : Type 0
  DoneRepeatStatement = (z : RepeatStatement) × OfRepeatStatement z

  abbrev DoneWhileStatement : Type 0
  DoneWhileStatement = (z : WhileStatement) × OfWhileStatement z

  each_command : (xs : List DoneStatement) → (a : Around) → all_faults (map (statement_faults scope) (map (λ e. e.0) xs)) a ≡ []
      → AreCommands w a.in_loop (map (λ e. e.0) xs) (commands_of (map (command_of w) (map (λ e. e.0) xs)))
  each_command [] a h = strict.no_command
  each_command (x ∷ xs) a h =
      let parts = nothing_parts (statement_faults scope x.0 a) (all_faults (map (statement_faults scope) (map (λ e. e.0) xs)) a) h in
      strict.command_then (x.1 a parts.0) (each_command xs a parts.1)

  each_branch : (xs : List DoneConditionalPart) → (a : Around) → all_faults (map (part_faults scope) (map (λ e. e.0) xs)) a ≡ []
      → AreBranches w a.in_loop (map (λ e. e.0) xs) (branches_of (map (branch_of w) (map (λ e. e.0) xs)))
  each_branch [] a h = strict.no_branch
  each_branch (x ∷ xs) a h =
      let parts = nothing_parts (part_faults scope x.0 a) (all_faults (map (part_faults scope) (map (λ e. e.0) xs)) a) h in
      x.1 a parts.0 (map (λ e. e.0) xs) (branches_of (map (branch_of w) (map (λ e. e.0) xs))) (each_branch xs a parts.1)

  each_case : (e : Elem) (xs : List DoneCaseElement) → (a : Around)
      → flat_map (λ (c : Option Elem → InStatement). c (Some e) a) (map (element_faults scope) (map (λ e. e.0) xs)) ≡ [] → AreCases w a.in_loop e (map (λ e. e.0) xs) (cases_of e (map (case_of w) (map (λ e. e.0) xs)))
  each_case e [] a h = strict.no_case
  each_case e (x ∷ xs) a h =
      let parts = nothing_parts (element_faults scope x.0 (Some e) a) (flat_map (λ (c : Option Elem → InStatement). c (Some e) a) (map (element_faults scope) (map (λ e. e.0) xs))) h in
      x.1 e a parts.0 (map (λ e. e.0) xs) (cases_of e (map (case_of w) (map (λ e. e.0) xs))) (each_case e xs a parts.1)

  -- the folds at a node
  statement_at : (s : Statement) (f : InStatement) (c : Command) → statement_faults scope s ≡ f → command_of w s ≡ c → (a : Around) → (f a ≡ [] → IsCommand w a.in_loop s c)
      → statement_faults scope s a ≡ [] → IsCommand w a.in_loop s (command_of w s)
  statement_at s f c p q a done h = subst (IsCommand w a.in_loop s) (sym q) (done (subst (λ (g : InStatement). g a ≡ []) p h))

  assignment_strict : (loop : Bool) (v : Variable) (x : Expression) (counters : List (List ℕ))
      → target_faults counters (known_variable scope v) ++ faults_as (known scope x) (elem_due (elem_of (VariableKnown.reached (known_variable scope v)).shape)) ≡ []
      → IsCommand w loop (roll-Statement (Statement-F.Assignment v x)) (assignment v.name.position.line (place_of w v) (type_of w.variables (place_of w v)) (typed w x))
  assignment_strict loop v x counters h =
      let k = known_variable scope v in
      let parts = nothing_parts (target_faults counters k) (faults_as (known scope x) (elem_due (elem_of k.reached.shape))) h in
      let target = target_strict scope w ties v counters (parts_fit scope w ties v) parts.0 in
      let none = subst (λ (o : Option Elem). faults_as (known scope x) (elem_due o) ≡ []) target.own parts.1 in
      subst (λ (o : Option Elem). IsCommand w loop (roll-Statement (Statement-F.Assignment v x)) (assignment v.name.position.line (place_of w v) o (typed w x))) (sym target.type)
      (strict.assignment target.place target.type (term_as x target.elem none))

  statement_made : (y : Statement-F DoneStatement DoneCaseElement DoneCaseStatement DoneConditionalPart DoneForStatement DoneIfStatement DoneRepeatStatement DoneWhileStatement) → OfStatement (roll-Statement (map-Statement _ _ _ _ _ _ _ _ Statement CaseElement CaseStatement ConditionalPart ForStatement IfStatement RepeatStatement WhileStatement (λ e. e.0) (λ e. e.0) (λ e. e.0) (λ e. e.0) (λ e. e.0) (λ e. e.0) (λ e. e.0) (λ e. e.0) y))
  statement_made (Statement-F.Empty position) a = statement_at _ _ _ (fold-roll-Statement _ _ _ _ _ _ _ _ _ _ _ _ _ _ _ _ _) (fold-roll-Statement _ _ _ _ _ _ _ _ _ _ _ _ _ _ _ _ _) a (λ h. strict.empty position)
  statement_made (Statement-F.Return position) a = statement_at _ _ _ (fold-roll-Statement _ _ _ _ _ _ _ _ _ _ _ _ _ _ _ _ _) (fold-roll-Statement _ _ _ _ _ _ _ _ _ _ _ _ _ _ _ _ _) a (λ h. strict.return_is position)
  statement_made (Statement-F.Exit position) a = statement_at _ _ _ (fold-roll-Statement _ _ _ _ _ _ _ _ _ _ _ _ _ _ _ _ _) (fold-roll-Statement _ _ _ _ _ _ _ _ _ _ _ _ _ _ _ _ _) a
      (λ h. let inside : true ≡ a.in_loop = sym (holds a.in_loop (fault position rules.CallMismatch) h) in subst (λ (l : Bool). IsCommand w l (roll-Statement (Statement-F.Exit position)) (exit position.line)) inside (strict.exit_is position))
  statement_made (Statement-F.Assignment v x) a = statement_at _ _ _ (fold-roll-Statement _ _ _ _ _ _ _ _ _ _ _ _ _ _ _ _ _) (fold-roll-Statement _ _ _ _ _ _ _ _ _ _ _ _ _ _ _ _ _) a
      (assignment_strict a.in_loop v x a.counters)
  statement_made (Statement-F.Call c) a = statement_at _ _ _ (fold-roll-Statement _ _ _ _ _ _ _ _ _ _ _ _ _ _ _ _ _) (fold-roll-Statement _ _ _ _ _ _ _ _ _ _ _ _ _ _ _ _ _) a
      (λ h. strict.invocation (call_statement_strict scope w ties c a.counters h))
  statement_made (Statement-F.If s) a = statement_at _ _ _ (fold-roll-Statement _ _ _ _ _ _ _ _ _ _ _ _ _ _ _ _ _) (fold-roll-Statement _ _ _ _ _ _ _ _ _ _ _ _ _ _ _ _ _) a (s.1 a)
  statement_made (Statement-F.Case s) a = statement_at _ _ _ (fold-roll-Statement _ _ _ _ _ _ _ _ _ _ _ _ _ _ _ _ _) (fold-roll-Statement _ _ _ _ _ _ _ _ _ _ _ _ _ _ _ _ _) a (s.1 a)
  statement_made (Statement-F.For s) a = statement_at _ _ _ (fold-roll-Statement _ _ _ _ _ _ _ _ _ _ _ _ _ _ _ _ _) (fold-roll-Statement _ _ _ _ _ _ _ _ _ _ _ _ _ _ _ _ _) a (s.1 a)
  statement_made (Statement-F.While s) a = statement_at _ _ _ (fold-roll-Statement _ _ _ _ _ _ _ _ _ _ _ _ _ _ _ _ _) (fold-roll-Statement _ _ _ _ _ _ _ _ _ _ _ _ _ _ _ _ _) a (s.1 a)
  statement_made (Statement-F.Repeat s) a = statement_at _ _ _ (fold-roll-Statement _ _ _ _ _ _ _ _ _ _ _ _ _ _ _ _ _) (fold-roll-Statement _ _ _ _ _ _ _ _ _ _ _ _ _ _ _ _ _) a (s.1 a)

  element_made : (y : CaseElement-F DoneStatement DoneCaseElement DoneCaseStatement DoneConditionalPart DoneForStatement DoneIfStatement DoneRepeatStatement DoneWhileStatement) → OfCaseElement (roll-CaseElement (map-CaseElement _ _ _ _ _ _ _ _ Statement CaseElement CaseStatement ConditionalPart ForStatement IfStatement RepeatStatement WhileStatement (λ e. e.0) (λ e. e.0) (λ e. e.0) (λ e. e.0) (λ e. e.0) (λ e. e.0) (λ e. e.0) (λ e. e.0) y))
  element_made y e a h cs more rest =
      let c = map-CaseElement _ _ _ _ _ _ _ _ Statement CaseElement CaseStatement ConditionalPart ForStatement IfStatement RepeatStatement WhileStatement (λ z. z.0) (λ z. z.0) (λ z. z.0) (λ z. z.0) (λ z. z.0) (λ z. z.0) (λ z. z.0) (λ z. z.0) y in
      let none = subst (λ (f : Option Elem → InStatement). f (Some e) a ≡ []) (fold-roll-CaseElement _ _ _ _ _ _ _ _ _ _ _ _ _ _ _ _ _) h in
      let parts = nothing_parts (flat_map (label_faults (Some e)) y.labels) (all_faults (map (statement_faults scope) (map (λ z. z.0) y.statements)) a) none in
      subst (λ (f : Elem → Cases → Cases). AreCases w a.in_loop e (roll-CaseElement c ∷ cs) (f e more)) (sym (fold-roll-CaseElement _ _ _ _ _ _ _ _ _ _ _ _ _ _ _ _ _))
      (strict.case_then c (labels_strict e y.labels parts.0) (each_command y.statements a parts.1) rest)

  part_made : (y : ConditionalPart-F DoneStatement DoneCaseElement DoneCaseStatement DoneConditionalPart DoneForStatement DoneIfStatement DoneRepeatStatement DoneWhileStatement) → OfConditionalPart (roll-ConditionalPart (map-ConditionalPart _ _ _ _ _ _ _ _ Statement CaseElement CaseStatement ConditionalPart ForStatement IfStatement RepeatStatement WhileStatement (λ e. e.0) (λ e. e.0) (λ e. e.0) (λ e. e.0) (λ e. e.0) (λ e. e.0) (λ e. e.0) (λ e. e.0) y))
  part_made y a h ps bs rest =
      let p = map-ConditionalPart _ _ _ _ _ _ _ _ Statement CaseElement CaseStatement ConditionalPart ForStatement IfStatement RepeatStatement WhileStatement (λ e. e.0) (λ e. e.0) (λ e. e.0) (λ e. e.0) (λ e. e.0) (λ e. e.0) (λ e. e.0) (λ e. e.0) y in
      let none = subst (λ (f : InStatement). f a ≡ []) (fold-roll-ConditionalPart _ _ _ _ _ _ _ _ _ _ _ _ _ _ _ _ _) h in
      let parts = nothing_parts (condition_faults scope y.condition) (all_faults (map (statement_faults scope) (map (λ e. e.0) y.statements)) a) none in
      subst (λ (f : Branches → Branches). AreBranches w a.in_loop (roll-ConditionalPart p ∷ ps) (f bs)) (sym (fold-roll-ConditionalPart _ _ _ _ _ _ _ _ _ _ _ _ _ _ _ _ _))
      (strict.branch_then p (term_as y.condition elems.Bool parts.0) (each_command y.statements a parts.1) rest)

  if_made : (y : IfStatement-F DoneStatement DoneCaseElement DoneCaseStatement DoneConditionalPart DoneForStatement DoneIfStatement DoneRepeatStatement DoneWhileStatement) → OfIfStatement (roll-IfStatement (map-IfStatement _ _ _ _ _ _ _ _ Statement CaseElement CaseStatement ConditionalPart ForStatement IfStatement RepeatStatement WhileStatement (λ e. e.0) (λ e. e.0) (λ e. e.0) (λ e. e.0) (λ e. e.0) (λ e. e.0) (λ e. e.0) (λ e. e.0) y))
  if_made y a h =
      let s = map-IfStatement _ _ _ _ _ _ _ _ Statement CaseElement CaseStatement ConditionalPart ForStatement IfStatement RepeatStatement WhileStatement (λ e. e.0) (λ e. e.0) (λ e. e.0) (λ e. e.0) (λ e. e.0) (λ e. e.0) (λ e. e.0) (λ e. e.0) y in
      let none = subst (λ (f : InStatement). f a ≡ []) (fold-roll-IfStatement _ _ _ _ _ _ _ _ _ _ _ _ _ _ _ _ _) h in
      let parts = nothing_parts (all_faults (map (part_faults scope) (map (λ e. e.0) y.parts)) a) (all_faults (map (statement_faults scope) (map (λ e. e.0) y.otherwise)) a) none in
      subst (IsCommand w a.in_loop (roll-Statement (Statement-F.If (roll-IfStatement s)))) (sym (fold-roll-IfStatement _ _ _ _ _ _ _ _ _ _ _ _ _ _ _ _ _))
      (strict.if_is s (each_branch y.parts a parts.0) (each_command y.otherwise a parts.1))

  case_made : (y : CaseStatement-F DoneStatement DoneCaseElement DoneCaseStatement DoneConditionalPart DoneForStatement DoneIfStatement DoneRepeatStatement DoneWhileStatement) → OfCaseStatement (roll-CaseStatement (map-CaseStatement _ _ _ _ _ _ _ _ Statement CaseElement CaseStatement ConditionalPart ForStatement IfStatement RepeatStatement WhileStatement (λ e. e.0) (λ e. e.0) (λ e. e.0) (λ e. e.0) (λ e. e.0) (λ e. e.0) (λ e. e.0) (λ e. e.0) y))
  case_made y a h =
      let s = map-CaseStatement _ _ _ _ _ _ _ _ Statement CaseElement CaseStatement ConditionalPart ForStatement IfStatement RepeatStatement WhileStatement (λ e. e.0) (λ e. e.0) (λ e. e.0) (λ e. e.0) (λ e. e.0) (λ e. e.0) (λ e. e.0) (λ e. e.0) y in
      let none = subst (λ (f : InStatement). f a ≡ []) (fold-roll-CaseStatement _ _ _ _ _ _ _ _ _ _ _ _ _ _ _ _ _) h in
      let k = known scope y.selector in
      let bodies = flat_map (λ (c : Option Elem → InStatement). c (selected k) a) (map (element_faults scope) (map (λ e. e.0) y.cases)) in
      let parts = nothing_parts (faults_as k dues.Integer ++ bodies) (all_faults (map (statement_faults scope) (map (λ e. e.0) y.otherwise)) a) none in
      let two = nothing_parts (faults_as k dues.Integer) bodies parts.0 in
      let selector = selects y.selector two.0 in
      let at_own = subst (λ (e : Option Elem). flat_map (λ (c : Option Elem → InStatement). c e a) (map (element_faults scope) (map (λ z. z.0) y.cases)) ≡ []) selector.own two.1 in
      subst (IsCommand w a.in_loop (roll-Statement (Statement-F.Case (roll-CaseStatement s)))) (sym (fold-roll-CaseStatement _ _ _ _ _ _ _ _ _ _ _ _ _ _ _ _ _))
      (strict.case_is s selector.integer selector.term (each_case (or_lint (own_type w y.selector)) y.cases a at_own) (each_command y.otherwise a parts.1))

  for_made : (y : ForStatement-F DoneStatement DoneCaseElement DoneCaseStatement DoneConditionalPart DoneForStatement DoneIfStatement DoneRepeatStatement DoneWhileStatement) → OfForStatement (roll-ForStatement (map-ForStatement _ _ _ _ _ _ _ _ Statement CaseElement CaseStatement ConditionalPart ForStatement IfStatement RepeatStatement WhileStatement (λ e. e.0) (λ e. e.0) (λ e. e.0) (λ e. e.0) (λ e. e.0) (λ e. e.0) (λ e. e.0) (λ e. e.0) y))
  for_made y a h =
      let s = map-ForStatement _ _ _ _ _ _ _ _ Statement CaseElement CaseStatement ConditionalPart ForStatement IfStatement RepeatStatement WhileStatement (λ e. e.0) (λ e. e.0) (λ e. e.0) (λ e. e.0) (λ e. e.0) (λ e. e.0) (λ e. e.0) (λ e. e.0) y in
      let none = subst (λ (f : InStatement). f a ≡ []) (fold-roll-ForStatement _ _ _ _ _ _ _ _ _ _ _ _ _ _ _ _ _) h in
      let symbol = scope.variable y.variable.spelling in
      let counted = counter_faults a.counters y.variable symbol in
      let due = counter_due symbol in
      let inside = all_faults (map (statement_faults scope) (map (λ e. e.0) y.statements)) (inside_for y.variable.spelling a) in
      let parts = nothing_parts (counted ++ range_faults scope due y.first y.last y.step) inside none in
      let front = nothing_parts counted (range_faults scope due y.first y.last y.step) parts.0 in
      let counter = counter_is scope w ties y.variable a.counters front.0 in
      let e = counter.elem in
      let at_elem = subst (λ (d : Due). range_faults scope d y.first y.last y.step ≡ []) counter.due front.1 in
      let ranges = nothing_parts (faults_as (known scope y.first) (dues.Type e) ++ faults_as (known scope y.last) (dues.Type e)) (optional_faults scope (dues.Type e) y.step) at_elem in
      let ends = nothing_parts (faults_as (known scope y.first) (dues.Type e)) (faults_as (known scope y.last) (dues.Type e)) ranges.0 in
      let cs = commands_of (map (command_of w) (map (λ e. e.0) y.statements)) in
      let ps = field_part y.variable.spelling whole in
      let commands = each_command y.statements (inside_for y.variable.spelling a) parts.1 in
      let found : for_of w (roll-ForStatement s) ≡ count_loop y.position.line ps ((typed w y.first).as_type e) ((typed w y.last).as_type e) (step_typed w y.step e) cs =
      (fold-roll-ForStatement _ _ _ _ _ _ _ _ _ _ _ _ _ _ _ _ _) ∙ ap (λ (o : Option Elem). for_command w y.position.line ps o y.first y.last y.step cs) counter.type in
      subst (IsCommand w a.in_loop (roll-Statement (Statement-F.For (roll-ForStatement s)))) (sym found)
      (strict.for_is s counter.type counter.integer (term_as y.first e ends.0) (term_as y.last e ends.1) (step_strict e y.step ranges.1) commands)

  while_made : (y : WhileStatement-F DoneStatement DoneCaseElement DoneCaseStatement DoneConditionalPart DoneForStatement DoneIfStatement DoneRepeatStatement DoneWhileStatement) → OfWhileStatement (roll-WhileStatement (map-WhileStatement _ _ _ _ _ _ _ _ Statement CaseElement CaseStatement ConditionalPart ForStatement IfStatement RepeatStatement WhileStatement (λ e. e.0) (λ e. e.0) (λ e. e.0) (λ e. e.0) (λ e. e.0) (λ e. e.0) (λ e. e.0) (λ e. e.0) y))
  while_made y a h =
      let s = map-WhileStatement _ _ _ _ _ _ _ _ Statement CaseElement CaseStatement ConditionalPart ForStatement IfStatement RepeatStatement WhileStatement (λ e. e.0) (λ e. e.0) (λ e. e.0) (λ e. e.0) (λ e. e.0) (λ e. e.0) (λ e. e.0) (λ e. e.0) y in
      let none = subst (λ (f : InStatement). f a ≡ []) (fold-roll-WhileStatement _ _ _ _ _ _ _ _ _ _ _ _ _ _ _ _ _) h in
      let parts = nothing_parts (condition_faults scope y.condition) (all_faults (map (statement_faults scope) (map (λ e. e.0) y.statements)) (inside_loop a)) none in
      subst (IsCommand w a.in_loop (roll-Statement (Statement-F.While (roll-WhileStatement s)))) (sym (fold-roll-WhileStatement _ _ _ _ _ _ _ _ _ _ _ _ _ _ _ _ _))
      (strict.while_is s (term_as y.condition elems.Bool parts.0) (each_command y.statements (inside_loop a) parts.1))

  repeat_made : (y : RepeatStatement-F DoneStatement DoneCaseElement DoneCaseStatement DoneConditionalPart DoneForStatement DoneIfStatement DoneRepeatStatement DoneWhileStatement) → OfRepeatStatement (roll-RepeatStatement (map-RepeatStatement _ _ _ _ _ _ _ _ Statement CaseElement CaseStatement ConditionalPart ForStatement IfStatement RepeatStatement WhileStatement (λ e. e.0) (λ e. e.0) (λ e. e.0) (λ e. e.0) (λ e. e.0) (λ e. e.0) (λ e. e.0) (λ e. e.0) y))
  repeat_made y a h =
      let s = map-RepeatStatement _ _ _ _ _ _ _ _ Statement CaseElement CaseStatement ConditionalPart ForStatement IfStatement RepeatStatement WhileStatement (λ e. e.0) (λ e. e.0) (λ e. e.0) (λ e. e.0) (λ e. e.0) (λ e. e.0) (λ e. e.0) (λ e. e.0) y in
      let none = subst (λ (f : InStatement). f a ≡ []) (fold-roll-RepeatStatement _ _ _ _ _ _ _ _ _ _ _ _ _ _ _ _ _) h in
      let parts = nothing_parts (all_faults (map (statement_faults scope) (map (λ e. e.0) y.statements)) (inside_loop a)) (condition_faults scope y.condition) none in
      subst (IsCommand w a.in_loop (roll-Statement (Statement-F.Repeat (roll-RepeatStatement s)))) (sym (fold-roll-RepeatStatement _ _ _ _ _ _ _ _ _ _ _ _ _ _ _ _ _))
      (strict.repeat_is s (each_command y.statements (inside_loop a) parts.0) (term_as y.condition elems.Bool parts.1))

  -- ---- whole trees

  pub command_strict : (s : Statement) → OfStatement s
  command_strict =
      ind-Statement OfStatement OfCaseElement OfCaseStatement OfConditionalPart OfForStatement OfIfStatement OfRepeatStatement OfWhileStatement
      (λ x y is. subst (λ z. OfStatement (roll-Statement z)) is (statement_made y))
      (λ x y is. subst (λ z. OfCaseElement (roll-CaseElement z)) is (element_made y))
      (λ x y is. subst (λ z. OfCaseStatement (roll-CaseStatement z)) is (case_made y))
      (λ x y is. subst (λ z. OfConditionalPart (roll-ConditionalPart z)) is (part_made y))
      (λ x y is. subst (λ z. OfForStatement (roll-ForStatement z)) is (for_made y))
      (λ x y is. subst (λ z. OfIfStatement (roll-IfStatement z)) is (if_made y))
      (λ x y is. subst (λ z. OfRepeatStatement (roll-RepeatStatement z)) is (repeat_made y))
      (λ x y is. subst (λ z. OfWhileStatement (roll-WhileStatement z)) is (while_made y))

  pub body_strict : (body : List Statement) → (a : Around) → all_faults (map (statement_faults scope) body) a ≡ []
      → AreCommands w a.in_loop body (commands_of (map (command_of w) body))
  body_strict [] a h = strict.no_command
  body_strict (s ∷ body) a h =
      let parts = nothing_parts (statement_faults scope s a) (all_faults (map (statement_faults scope) body) a) h in
      strict.command_then (command_strict s a parts.0) (body_strict body a parts.1)
