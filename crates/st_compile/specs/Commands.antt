-- Which command a statement is: by cases, and none where no case fits.
use Rattle.std.specs.Prelude.{◌≡◌, ℕ, Bool, true, List, [], ◌∷◌, pos, Option, Some, None}
use Rattle.st_values.specs.declared.elem.Elem.{Elem}
use Rattle.st_values.specs.declared.elem.Elem.TheVariants as elems
use Rattle.st_values.specs.declared.value.Value.{Value}
use Rattle.st_tree.specs.declared.tree.constant.Constant.{Constant}
use Rattle.st_tree.specs.declared.tree.expression.Argument.{Argument, roll-Argument}
use Rattle.st_tree.specs.declared.tree.expression.Argument.TheOpen.{Argument-F}
use Rattle.st_tree.specs.declared.tree.expression.Call.{Call}
use Rattle.st_tree.specs.declared.tree.expression.Expression.{Expression}
use Rattle.st_tree.specs.declared.tree.expression.Variable.{Variable}
use Rattle.st_tree.specs.declared.tree.position.Identifier.{Identifier}
use Rattle.st_tree.specs.declared.tree.position.Position.{Position}
use Rattle.st_tree.specs.declared.tree.statement.CaseElement.{CaseElement, roll-CaseElement}
use Rattle.st_tree.specs.declared.tree.statement.CaseStatement.{CaseStatement, roll-CaseStatement}
use Rattle.st_tree.specs.declared.tree.statement.ConditionalPart.{ConditionalPart, roll-ConditionalPart}
use Rattle.st_tree.specs.declared.tree.statement.ForStatement.{ForStatement, roll-ForStatement}
use Rattle.st_tree.specs.declared.tree.statement.IfStatement.{IfStatement, roll-IfStatement}
use Rattle.st_tree.specs.declared.tree.statement.Label.{Label}
use Rattle.st_tree.specs.declared.tree.statement.Label.TheVariants as label_kinds
use Rattle.st_tree.specs.declared.tree.statement.RepeatStatement.{RepeatStatement, roll-RepeatStatement}
use Rattle.st_tree.specs.declared.tree.statement.Statement.{Statement, roll-Statement}
use Rattle.st_tree.specs.declared.tree.statement.Statement.TheOpen.{CaseElement-F, CaseStatement-F, ConditionalPart-F, ForStatement-F, IfStatement-F, RepeatStatement-F, Statement-F, WhileStatement-F}
use Rattle.st_tree.specs.declared.tree.statement.WhileStatement.{WhileStatement, roll-WhileStatement}
use Rattle.st_operators.specs.Operators.{is_integer}
use Rattle.st_types.specs.OwnTypes.{or_lint}
use Rattle.st_types.specs.declared.standard.StandardBlock.{StandardBlock}
use Rattle.st_leaves.specs.Selected.{selected_by}
use Rattle.st_meaning.specs.Terms.{Term, constant, stored, Parts, whole, field_part, LabelRange, Command, nothing, assign, choice, cases, count_loop, while_loop, repeat_loop, invoke, enter, exit, finish, Moves, no_moves, more_moves, Commands, no_commands, more_commands, Branches, no_branches, more_branches, Cases, no_cases, more_cases}
use Rattle.st_meaning.specs.Typing.{pin_of}
use Rattle.st_meaning.specs.Wholes.{Invoked, Whole, block_of, type_of}
use Rattle.st_compile.specs.Terms.{IsLiteral, IsPlace, IsTerm, own_type, value}

-- ---- CASE: each label is a literal of the selector's type, or two

pub data AreLabels (e : Elem) : List Label → List LabelRange → Type 0 where
  no_label : AreLabels e [] []
  single : {c : Constant} {v : Value} {ls : List Label} {rs : List LabelRange} → IsLiteral e c v → AreLabels e ls rs
      → AreLabels e (label_kinds.Value c ∷ ls) (record { least = v.bits; greatest = v.bits } ∷ rs)
  range : {a b : Constant} {u v : Value} {ls : List Label} {rs : List LabelRange} → IsLiteral e a u → IsLiteral e b v
      → AreLabels e ls rs
      → AreLabels e (label_kinds.Range a b ∷ ls) (record { least = u.bits; greatest = v.bits } ∷ rs)

-- ---- FOR: without BY the values are 1 apart

pub data IsStepOf (w : Whole) (e : Elem) : Option Expression → Term → Type 0 where
  one : IsStepOf w e None (constant (value e (pos 1)))
  by : {x : Expression} {t : Term} → IsTerm w e x t → IsStepOf w e (Some x) t

-- ---- invocations (3.3.2.2), of an instance of this name: an input takes a value of its type, ..

pub data AreInputs (w : Whole) (name : List ℕ) : List Argument → Moves → Type 0 where
  no_input : AreInputs w name [] no_moves
  input : (n : Identifier) {e : Elem} {x : Expression} {t : Term} {as' : List Argument} {ms : Moves}
      → type_of w.variables (pin_of name n.spelling) ≡ Some e → IsTerm w e x t
      → AreInputs w name as' ms
      → AreInputs w name (roll-Argument (Argument-F.Input n x) ∷ as') (more_moves (pin_of name n.spelling) t ms)
  not_output : (n : Identifier) (v : Variable) {as' : List Argument} {ms : Moves} → AreInputs w name as' ms
      → AreInputs w name (roll-Argument (Argument-F.Output n v) ∷ as') ms

-- .. and a variable of the type of an output takes its value
pub data AreOutputs (w : Whole) (name : List ℕ) : List Argument → Moves → Type 0 where
  no_output : AreOutputs w name [] no_moves
  output : (n : Identifier) {v : Variable} {ps : Parts} {e : Elem} {as' : List Argument} {ms : Moves} → IsPlace w v ps
      → type_of w.variables ps ≡ Some e
      → type_of w.variables (pin_of name n.spelling) ≡ Some e → AreOutputs w name as' ms
      → AreOutputs w name (roll-Argument (Argument-F.Output n v) ∷ as') (more_moves ps (stored (pin_of name n.spelling)) ms)
  not_input : (n : Identifier) (x : Expression) {as' : List Argument} {ms : Moves} → AreOutputs w name as' ms
      → AreOutputs w name (roll-Argument (Argument-F.Input n x) ∷ as') ms

pub data IsInvoked (w : Whole) : Call → Command → Type 0 where
  standard_block : {c : Call} (b : StandardBlock) {ins outs : Moves} → block_of (selected_by w.variables c.name.spelling) ≡ Some b
      → AreInputs w c.name.spelling c.arguments ins
      → AreOutputs w c.name.spelling c.arguments outs → IsInvoked w c (invoke c.name.position.line c.name.spelling b ins outs)
  own_block : {c : Call} (unit : Invoked) {ins outs : Moves} → block_of (selected_by w.variables c.name.spelling) ≡ None
      → w.invoked c.name.spelling ≡ Some unit
      → AreInputs w c.name.spelling c.arguments ins → AreOutputs w c.name.spelling c.arguments outs
      → IsInvoked w c (enter c.name.position.line c.name.spelling unit.number unit.body ins outs)

-- ---- what each kind of statement holds

abbrev pub IfFields : Type 0
IfFields = IfStatement-F Statement CaseElement CaseStatement ConditionalPart ForStatement IfStatement RepeatStatement WhileStatement

abbrev pub CaseFields : Type 0
CaseFields = CaseStatement-F Statement CaseElement CaseStatement ConditionalPart ForStatement IfStatement RepeatStatement WhileStatement

abbrev pub ForFields : Type 0
ForFields = ForStatement-F Statement CaseElement CaseStatement ConditionalPart ForStatement IfStatement RepeatStatement WhileStatement

abbrev pub WhileFields : Type 0
WhileFields = WhileStatement-F Statement CaseElement CaseStatement ConditionalPart ForStatement IfStatement RepeatStatement WhileStatement

abbrev pub RepeatFields : Type 0
RepeatFields = RepeatStatement-F Statement CaseElement CaseStatement ConditionalPart ForStatement IfStatement RepeatStatement WhileStatement

abbrev pub BranchFields : Type 0
BranchFields = ConditionalPart-F Statement CaseElement CaseStatement ConditionalPart ForStatement IfStatement RepeatStatement WhileStatement

abbrev pub CaseElementFields : Type 0
CaseElementFields = CaseElement-F Statement CaseElement CaseStatement ConditionalPart ForStatement IfStatement RepeatStatement WhileStatement

-- ---- statements (3.3.2), inside a loop or not

mutual
  pub data IsCommand (w : Whole) : Bool → Statement → Command → Type 0 where
    empty : {loop : Bool} (position : Position)
        → IsCommand w loop (roll-Statement (Statement-F.Empty position)) (nothing position.line)
    assignment : {loop : Bool} {e : Elem} {v : Variable} {x : Expression} {ps : Parts} {t : Term} → IsPlace w v ps
        → type_of w.variables ps ≡ Some e → IsTerm w e x t
        → IsCommand w loop (roll-Statement (Statement-F.Assignment v x)) (assign v.name.position.line ps t)
    invocation : {loop : Bool} {c : Call} {command : Command} → IsInvoked w c command
        → IsCommand w loop (roll-Statement (Statement-F.Call c)) command
    return_is : {loop : Bool} (position : Position)
        → IsCommand w loop (roll-Statement (Statement-F.Return position)) (finish position.line)
    exit_is : (position : Position) → IsCommand w true (roll-Statement (Statement-F.Exit position)) (exit position.line)
    if_is : {loop : Bool} (s : IfFields) {bs : Branches} {cs : Commands}
        → AreBranches w loop s.parts bs → AreCommands w loop s.otherwise cs
        → IsCommand w loop (roll-Statement (Statement-F.If (roll-IfStatement s))) (choice s.position.line bs cs)
    case_is : {loop : Bool} (s : CaseFields) {t : Term} {cs : Cases} {others : Commands}
        → is_integer (or_lint (own_type w s.selector)) ≡ true
        → IsTerm w (or_lint (own_type w s.selector)) s.selector t → AreCases w loop (or_lint (own_type w s.selector)) s.cases cs
        → AreCommands w loop s.otherwise others
        → IsCommand w loop (roll-Statement (Statement-F.Case (roll-CaseStatement s))) (cases s.position.line t cs others)
    for_is : {loop : Bool} (s : ForFields) {e : Elem} {a b c : Term} {cs : Commands}
        → type_of w.variables (field_part s.variable.spelling whole) ≡ Some e → is_integer e ≡ true
        → IsTerm w e s.first a → IsTerm w e s.last b → IsStepOf w e s.step c → AreCommands w true s.statements cs
        → IsCommand w loop (roll-Statement (Statement-F.For (roll-ForStatement s))) (count_loop s.position.line (field_part s.variable.spelling whole) a b c cs)
    while_is : {loop : Bool} (s : WhileFields) {t : Term} {cs : Commands}
        → IsTerm w elems.Bool s.condition t → AreCommands w true s.statements cs
        → IsCommand w loop (roll-Statement (Statement-F.While (roll-WhileStatement s))) (while_loop s.position.line t cs)
    repeat_is : {loop : Bool} (s : RepeatFields) {t : Term} {cs : Commands}
        → AreCommands w true s.statements cs → IsTerm w elems.Bool s.condition t
        → IsCommand w loop (roll-Statement (Statement-F.Repeat (roll-RepeatStatement s))) (repeat_loop s.position.line cs t)

  pub data AreCommands (w : Whole) : Bool → List Statement → Commands → Type 0 where
    no_command : {loop : Bool} → AreCommands w loop [] no_commands
    command_then : {loop : Bool} {s : Statement} {ss : List Statement} {c : Command} {cs : Commands} → IsCommand w loop s c
        → AreCommands w loop ss cs
        → AreCommands w loop (s ∷ ss) (more_commands c cs)

  pub data AreBranches (w : Whole) : Bool → List ConditionalPart → Branches → Type 0 where
    no_branch : {loop : Bool} → AreBranches w loop [] no_branches
    branch_then : {loop : Bool} (p : BranchFields) {ps : List ConditionalPart} {t : Term} {cs : Commands} {bs : Branches}
        → IsTerm w elems.Bool p.condition t
        → AreCommands w loop p.statements cs → AreBranches w loop ps bs
        → AreBranches w loop (roll-ConditionalPart p ∷ ps) (more_branches t cs bs)

  pub data AreCases (w : Whole) : Bool → Elem → List CaseElement → Cases → Type 0 where
    no_case : {loop : Bool} {e : Elem} → AreCases w loop e [] no_cases
    case_then : {loop : Bool} {e : Elem} (c : CaseElementFields) {cs : List CaseElement} {rs : List LabelRange} {body : Commands} {more : Cases}
        → AreLabels e c.labels rs
        → AreCommands w loop c.statements body → AreCases w loop e cs more
        → AreCases w loop e (roll-CaseElement c ∷ cs) (more_cases rs body more)
