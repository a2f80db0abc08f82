-- A strict command is the one that typing gives: there are no two.
use Rattle.std.proofs.Common.{◌≡◌, ℕ, Bool, true, List, ◌∷◌, map, Option, refl, ap, ◌∙◌}
use Rattle.st_values.specs.declared.elem.Elem.{Elem}
use Rattle.st_values.specs.declared.elem.Elem.TheVariants as elems
use Rattle.st_values.specs.declared.value.Value.{Value}
use Rattle.st_tree.specs.declared.tree.expression.Argument.{Argument, out-roll-Argument}
use Rattle.st_tree.specs.declared.tree.expression.Argument.TheOpen.{Argument-F}
use Rattle.st_tree.specs.declared.tree.expression.Call.{Call}
use Rattle.st_tree.specs.declared.tree.expression.Expression.{Expression}
use Rattle.st_tree.specs.declared.tree.expression.Operation.{Operation}
use Rattle.st_tree.specs.declared.tree.expression.Part.{Part}
use Rattle.st_tree.specs.declared.tree.expression.Variable.{Variable}
use Rattle.st_tree.specs.declared.tree.statement.CaseElement.{CaseElement, fold-roll-CaseElement}
use Rattle.st_tree.specs.declared.tree.statement.CaseStatement.{fold-roll-CaseStatement, roll-CaseStatement}
use Rattle.st_tree.specs.declared.tree.statement.ConditionalPart.{ConditionalPart, fold-roll-ConditionalPart}
use Rattle.st_tree.specs.declared.tree.statement.ForStatement.{fold-roll-ForStatement, roll-ForStatement}
use Rattle.st_tree.specs.declared.tree.statement.IfStatement.{fold-roll-IfStatement, roll-IfStatement}
use Rattle.st_tree.specs.declared.tree.statement.RepeatStatement.{fold-roll-RepeatStatement, roll-RepeatStatement}
use Rattle.st_tree.specs.declared.tree.statement.Statement.{Statement, fold-roll-Statement}
use Rattle.st_tree.specs.declared.tree.statement.WhileStatement.{fold-roll-WhileStatement, roll-WhileStatement}
use Rattle.st_tree.specs.declared.tree.statement.Label.{Label}
use Rattle.st_tree.specs.declared.tree.statement.Statement.TheOpen.{Statement-F}
use Rattle.st_types.specs.Initials.{value_written}
use Rattle.st_types.specs.OwnTypes.{or_lint}
use Rattle.st_types.specs.declared.standard.StandardBlock.{StandardBlock}
use Rattle.st_meaning.specs.Terms.{Term, stored, Parts, whole, field_part, LabelRange, Command, assign, choice, cases, count_loop, while_loop, repeat_loop, invoke, enter, Moves, more_moves, Commands, more_commands, Branches, more_branches, Cases, more_cases}
use Rattle.st_meaning.specs.Typing.{assignment, branch_of, branches_of, call_command, case_of, cases_of, command_of, commands_of, entrance, for_command, input_moves, input_of, inputs_of, invocation, label_range, output_moves, output_of, outputs_of, pin_of, place_of, place_typed, step_typed, typed}
use Rattle.st_meaning.specs.Wholes.{Invoked, Whole, type_of}
use Rattle.st_compile.specs.Commands as strict
use Rattle.st_compile.specs.Commands.{AreBranches, AreCases, AreCommands, AreInputs, AreLabels, AreOutputs, IsCommand, IsInvoked, IsStepOf}
use Rattle.st_compile.specs.Terms.{own_type}
use Rattle.st_compile.proofs.OneTerm.{literal_one, place_one, term_one}
use Rattle.st_compile.proofs.Variables.{fitted_own}

abbrev range_of : Value → Value → LabelRange
range_of u v = record { least = u.bits; greatest = v.bits }

labels_one : (e : Elem) (ls : List Label) (rs : List LabelRange) → AreLabels e ls rs → map (label_range e) ls ≡ rs
labels_one e ls rs strict.no_label = refl
labels_one e ls rs (strict.single {c = c} {v = v} {ls = more} {rs = others} h k) =
    ap (λ (x : Value). range_of x x ∷ map (label_range e) more) (literal_one e c v h) ∙ ap (λ (r : List LabelRange). range_of v v ∷ r) (labels_one e more others k)
labels_one e ls rs (strict.range {a = a} {b = b} {u = u} {v = v} {ls = more} {rs = others} h k l) =
    ap (λ (x : Value). range_of x (value_written e b) ∷ map (label_range e) more) (literal_one e a u h) ∙ ap (λ (x : Value). range_of u x ∷ map (label_range e) more) (literal_one e b v k)
    ∙ ap (λ (r : List LabelRange). range_of u v ∷ r) (labels_one e more others l)

module _ (w : Whole) where
  inputs_one : (name : List ℕ) (as' : List Argument) (ms : Moves) → AreInputs w name as' ms → inputs_of w name as' ≡ ms
  inputs_one name as' ms strict.no_input = refl
  inputs_one name as' ms (strict.input n {e = e} {x = x} {t = t} {as' = more} {ms = others} type h k) =
      ap (λ (a : Argument-F Argument Expression Part Call Operation Variable). input_of w name a (inputs_of w name more)) (out-roll-Argument (Argument-F.Input n x))
      ∙ ap (λ (o : Option Elem). input_moves w name o n.spelling x (inputs_of w name more)) type ∙ ap (λ (z : Term). more_moves (pin_of name n.spelling) z (inputs_of w name more)) (term_one w e x t h)
      ∙ ap (more_moves (pin_of name n.spelling) t) (inputs_one name more others k)
  inputs_one name as' ms (strict.not_output n v {as' = more} {ms = others} k) =
      ap (λ (a : Argument-F Argument Expression Part Call Operation Variable). input_of w name a (inputs_of w name more)) (out-roll-Argument (Argument-F.Output n v)) ∙ inputs_one name more others k

  outputs_one : (name : List ℕ) (as' : List Argument) (ms : Moves) → AreOutputs w name as' ms → outputs_of w name as' ≡ ms
  outputs_one name as' ms strict.no_output = refl
  outputs_one name as' ms (strict.output n {v = v} {ps = ps} {e = e} {as' = more} {ms = others} place type own k) =
      let rest = outputs_of w name more in
      let pin = pin_of name n.spelling in
      ap (λ (a : Argument-F Argument Expression Part Call Operation Variable). output_of w name a rest) (out-roll-Argument (Argument-F.Output n v))
      ∙ ap (λ (o : Option Elem). output_moves w name o n.spelling v rest) (ap (type_of w.variables) (place_one w v ps place) ∙ type)
      ∙ ap (λ (o : Option Elem). more_moves (place_of w v) ((place_typed pin o).as_type e) rest) own ∙ ap (λ (z : Term). more_moves (place_of w v) z rest) (fitted_own e (stored pin))
      ∙ ap (λ (z : Parts). more_moves z (stored pin) rest) (place_one w v ps place) ∙ ap (more_moves ps (stored pin)) (outputs_one name more others k)
  outputs_one name as' ms (strict.not_input n x {as' = more} {ms = others} k) =
      ap (λ (a : Argument-F Argument Expression Part Call Operation Variable). output_of w name a (outputs_of w name more)) (out-roll-Argument (Argument-F.Input n x)) ∙ outputs_one name more others k

  invoked_one : (c : Call) (command : Command) → IsInvoked w c command → call_command w c ≡ command
  invoked_one c command (strict.standard_block b {ins = ins} {outs = outs} is h k) =
      ap (λ (o : Option StandardBlock). invocation w c.name.position.line c.name.spelling o c.arguments) is
      ∙ ap (λ (m : Moves). invoke c.name.position.line c.name.spelling b m (outputs_of w c.name.spelling c.arguments)) (inputs_one c.name.spelling c.arguments ins h)
      ∙ ap (invoke c.name.position.line c.name.spelling b ins) (outputs_one c.name.spelling c.arguments outs k)
  invoked_one c command (strict.own_block unit {ins = ins} {outs = outs} is found h k) =
      ap (λ (o : Option StandardBlock). invocation w c.name.position.line c.name.spelling o c.arguments) is ∙ ap (λ (o : Option Invoked). entrance w c.name.position.line c.name.spelling o c.arguments) found
      ∙ ap (λ (m : Moves). enter c.name.position.line c.name.spelling unit.number unit.body m (outputs_of w c.name.spelling c.arguments)) (inputs_one c.name.spelling c.arguments ins h)
      ∙ ap (enter c.name.position.line c.name.spelling unit.number unit.body ins) (outputs_one c.name.spelling c.arguments outs k)

  step_one : (e : Elem) (step : Option Expression) (t : Term) → IsStepOf w e step t → step_typed w step e ≡ t
  step_one e step t strict.one = refl
  step_one e step t (strict.by {x = x} {t = a} h) = term_one w e x a h

  mutual
    pub command_one : (loop : Bool) (s : Statement) (c : Command) → IsCommand w loop s c → command_of w s ≡ c
    command_one loop s c (strict.empty position) = (fold-roll-Statement _ _ _ _ _ _ _ _ _ _ _ _ _ _ _ _ (Statement-F.Empty position))
    command_one loop s c (strict.return_is position) = (fold-roll-Statement _ _ _ _ _ _ _ _ _ _ _ _ _ _ _ _ (Statement-F.Return position))
    command_one loop s c (strict.exit_is position) = (fold-roll-Statement _ _ _ _ _ _ _ _ _ _ _ _ _ _ _ _ (Statement-F.Exit position))
    command_one loop s c (strict.assignment {e = e} {v = v} {x = x} {ps = ps} {t = t} place type h) =
        (fold-roll-Statement _ _ _ _ _ _ _ _ _ _ _ _ _ _ _ _ (Statement-F.Assignment v x)) ∙ ap (λ (z : Parts). assignment v.name.position.line z (type_of w.variables z) (typed w x)) (place_one w v ps place)
        ∙ ap (λ (o : Option Elem). assignment v.name.position.line ps o (typed w x)) type ∙ ap (assign v.name.position.line ps) (term_one w e x t h)
    command_one loop s c (strict.invocation {c = call_is} {command = d} h) = (fold-roll-Statement _ _ _ _ _ _ _ _ _ _ _ _ _ _ _ _ (Statement-F.Call call_is)) ∙ invoked_one call_is d h
    command_one loop s c (strict.if_is y {bs = bs} {cs = cs} h k) =
        (fold-roll-Statement _ _ _ _ _ _ _ _ _ _ _ _ _ _ _ _ (Statement-F.If (roll-IfStatement y))) ∙ (fold-roll-IfStatement _ _ _ _ _ _ _ _ _ _ _ _ _ _ _ _ y)
        ∙ ap (λ (z : Branches). choice y.position.line z (commands_of (map (command_of w) y.otherwise))) (branches_one loop y.parts bs h) ∙ ap (choice y.position.line bs) (commands_one loop y.otherwise cs k)
    command_one loop s c (strict.case_is y {t = t} {cs = cs} {others = others} integer h k l) =
        let e = or_lint (own_type w y.selector) in
        (fold-roll-Statement _ _ _ _ _ _ _ _ _ _ _ _ _ _ _ _ (Statement-F.Case (roll-CaseStatement y))) ∙ (fold-roll-CaseStatement _ _ _ _ _ _ _ _ _ _ _ _ _ _ _ _ y)
        ∙ ap (λ (z : Term). cases y.position.line z (cases_of e (map (case_of w) y.cases)) (commands_of (map (command_of w) y.otherwise))) (term_one w e y.selector t h)
        ∙ ap (λ (z : Cases). cases y.position.line t z (commands_of (map (command_of w) y.otherwise))) (cases_one loop e y.cases cs k) ∙ ap (cases y.position.line t cs) (commands_one loop y.otherwise others l)
    command_one loop s c (strict.for_is y {e = e} {a = a} {b = b} {c = d} {cs = cs} type integer h k l m) =
        let ps = field_part y.variable.spelling whole in
        let body = commands_of (map (command_of w) y.statements) in
        (fold-roll-Statement _ _ _ _ _ _ _ _ _ _ _ _ _ _ _ _ (Statement-F.For (roll-ForStatement y))) ∙ (fold-roll-ForStatement _ _ _ _ _ _ _ _ _ _ _ _ _ _ _ _ y)
        ∙ ap (λ (o : Option Elem). for_command w y.position.line ps o y.first y.last y.step body) type
        ∙ ap (λ (z : Term). count_loop y.position.line ps z ((typed w y.last).as_type e) (step_typed w y.step e) body) (term_one w e y.first a h)
        ∙ ap (λ (z : Term). count_loop y.position.line ps a z (step_typed w y.step e) body) (term_one w e y.last b k)
        ∙ ap (λ (z : Term). count_loop y.position.line ps a b z body) (step_one e y.step d l) ∙ ap (count_loop y.position.line ps a b d) (commands_one true y.statements cs m)
    command_one loop s c (strict.while_is y {t = t} {cs = cs} h k) =
        (fold-roll-Statement _ _ _ _ _ _ _ _ _ _ _ _ _ _ _ _ (Statement-F.While (roll-WhileStatement y))) ∙ (fold-roll-WhileStatement _ _ _ _ _ _ _ _ _ _ _ _ _ _ _ _ y)
        ∙ ap (λ (z : Term). while_loop y.position.line z (commands_of (map (command_of w) y.statements))) (term_one w elems.Bool y.condition t h) ∙ ap (while_loop y.position.line t) (commands_one true y.statements cs k)
    command_one loop s c (strict.repeat_is y {t = t} {cs = cs} h k) =
        (fold-roll-Statement _ _ _ _ _ _ _ _ _ _ _ _ _ _ _ _ (Statement-F.Repeat (roll-RepeatStatement y))) ∙ (fold-roll-RepeatStatement _ _ _ _ _ _ _ _ _ _ _ _ _ _ _ _ y)
        ∙ ap (λ (z : Commands). repeat_loop y.position.line z ((typed w y.condition).as_type elems.Bool)) (commands_one true y.statements cs h) ∙ ap (repeat_loop y.position.line cs) (term_one w elems.Bool y.condition t k)

    pub commands_one : (loop : Bool) (ss : List Statement) (cs : Commands) → AreCommands w loop ss cs → commands_of (map (command_of w) ss) ≡ cs
    commands_one loop ss cs strict.no_command = refl
    commands_one loop ss cs (strict.command_then {s = s} {ss = more} {c = c} {cs = others} h k) =
        ap (λ (z : Command). more_commands z (commands_of (map (command_of w) more))) (command_one loop s c h) ∙ ap (more_commands c) (commands_one loop more others k)

    branches_one : (loop : Bool) (ps : List ConditionalPart) (bs : Branches) → AreBranches w loop ps bs → branches_of (map (branch_of w) ps) ≡ bs
    branches_one loop ps bs strict.no_branch = refl
    branches_one loop ps bs (strict.branch_then p {ps = more} {t = t} {cs = cs} {bs = others} h k l) =
        let rest = branches_of (map (branch_of w) more) in
        ap (λ (f : Branches → Branches). f rest) (fold-roll-ConditionalPart _ _ _ _ _ _ _ _ _ _ _ _ _ _ _ _ p)
        ∙ ap (λ (z : Term). more_branches z (commands_of (map (command_of w) p.statements)) rest) (term_one w elems.Bool p.condition t h)
        ∙ ap (λ (z : Commands). more_branches t z rest) (commands_one loop p.statements cs k) ∙ ap (more_branches t cs) (branches_one loop more others l)

    cases_one : (loop : Bool) (e : Elem) (cs : List CaseElement) (more : Cases) → AreCases w loop e cs more → cases_of e (map (case_of w) cs) ≡ more
    cases_one loop e cs more strict.no_case = refl
    cases_one loop e cs more (strict.case_then c {cs = others} {rs = rs} {body = body} {more = rest} h k l) =
        let after = cases_of e (map (case_of w) others) in
        ap (λ (f : Elem → Cases → Cases). f e after) (fold-roll-CaseElement _ _ _ _ _ _ _ _ _ _ _ _ _ _ _ _ c)
        ∙ ap (λ (z : List LabelRange). more_cases z (commands_of (map (command_of w) c.statements)) after) (labels_one e c.labels rs h)
        ∙ ap (λ (z : Commands). more_cases rs z after) (commands_one loop c.statements body k) ∙ ap (more_cases rs body) (cases_one loop e others rest l)
