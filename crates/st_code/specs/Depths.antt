-- How many cells of the stack a body needs, by its structure: at least as many as its code. Functions that it calls run on stacks of
-- their own.
use Rattle.std.specs.Prelude.{ℕ, ◌+◌, max, Bool, true, false, if◌then◌else◌, List, [], ◌∷◌, map, length, Option, Some, None}
use Rattle.std.specs.List.{flat_map}
use Rattle.st_tree.specs.declared.tree.expression.Argument.TheOpen.{Argument-F, Expression-F, Part-F}
use Rattle.st_tree.specs.declared.tree.expression.Argument.{Argument, fold-Argument, out-Argument}
use Rattle.st_tree.specs.declared.tree.expression.Call.{Call, fold-Call, out-Call}
use Rattle.st_tree.specs.declared.tree.expression.Expression.{Expression, fold-Expression}
use Rattle.st_tree.specs.declared.tree.expression.Operation.{Operation, fold-Operation}
use Rattle.st_tree.specs.declared.tree.expression.Part.{Part, fold-Part}
use Rattle.st_tree.specs.declared.tree.expression.Variable.{Variable, fold-Variable}
use Rattle.st_tree.specs.declared.tree.statement.CaseElement.{CaseElement, fold-CaseElement}
use Rattle.st_tree.specs.declared.tree.statement.CaseStatement.{CaseStatement, fold-CaseStatement}
use Rattle.st_tree.specs.declared.tree.statement.ConditionalPart.{ConditionalPart, fold-ConditionalPart}
use Rattle.st_tree.specs.declared.tree.statement.ForStatement.{ForStatement, fold-ForStatement}
use Rattle.st_tree.specs.declared.tree.statement.IfStatement.{IfStatement, fold-IfStatement}
use Rattle.st_tree.specs.declared.tree.statement.RepeatStatement.{RepeatStatement, fold-RepeatStatement}
use Rattle.st_tree.specs.declared.tree.statement.Statement.{Statement, fold-Statement}
use Rattle.st_tree.specs.declared.tree.statement.Statement.TheOpen.{Statement-F}
use Rattle.st_tree.specs.declared.tree.statement.WhileStatement.{WhileStatement, fold-WhileStatement}
use Rattle.st_tree.specs.declared.tree.unit.Action.{Action}
use Rattle.st_tree.specs.declared.tree.unit.Body.{Body}
use Rattle.st_tree.specs.declared.tree.unit.Body.TheVariants as bodies
use Rattle.st_tree.specs.declared.tree.unit.ChartElement.{ChartElement}
use Rattle.st_tree.specs.declared.tree.unit.ChartElement.TheVariants as chart_elements
use Rattle.st_types.specs.Names.{Declares, actions_in, steps_in}
use Rattle.st_types.specs.Names as names
use Rattle.st_types.specs.Standard.{standard_of}
use Rattle.st_types.specs.declared.standard.Standard.{Standard}
use Rattle.st_types.specs.declared.standard.Standard.TheVariants as standards
use Rattle.st_types.specs.declared.standard.StandardFunction.TheVariants as functions
use Rattle.st_leaves.specs.Charts.{associations_of}

-- the greatest of them
abbrev pub most : List ℕ → ℕ
most [] = 0
most (d ∷ ds) = max d (most ds)

-- ---- expressions

-- Values one after the other, the first above so many cells. They all stay there, or only what one number is made of.
abbrev pub in_turn : Bool → ℕ → List ℕ → ℕ
in_turn stay below [] = 0
in_turn stay below (d ∷ ds) = max (below + d) (in_turn stay (if stay then 1 + below else 1) ds)

-- the values of SEL are all known before one of them is taken
abbrev pub is_choice : Option Standard → Bool
is_choice (Some (standards.Function functions.Sel)) = true
is_choice _ = false

-- of an argument: whether it is written with a name, and how many cells it needs
pub record Cells : Type 0 where
  pub named : Bool
  pub cells : ℕ

abbrev pub argument_cells : Argument-F (List Cells) ℕ ℕ ℕ ℕ ℕ → List Cells
argument_cells (Argument-F.Positional x) = record { named = false; cells = x } ∷ []
argument_cells (Argument-F.Input n x) = record { named = true; cells = x } ∷ []
argument_cells (Argument-F.Output n v) = []

abbrev pub unnamed_before : Bool → ℕ → List ℕ → List ℕ
unnamed_before true d ds = ds
unnamed_before false d ds = d ∷ ds

-- standard functions take the arguments without names
abbrev pub unnamed_cells : List Cells → List ℕ
unnamed_cells [] = []
unnamed_cells (c ∷ cs) = unnamed_before c.named c.cells (unnamed_cells cs)

abbrev pub all_cells : List Cells → List ℕ
all_cells cs = map (λ (c : Cells). c.cells) cs

-- The arguments of a function of the text stay there, above them at most so many inputs, and then its value.
abbrev pub called_cells : ℕ → Option Standard → List Cells → ℕ
called_cells inputs None cs = max (in_turn true 0 (all_cells cs)) (1 + length cs + inputs)
called_cells inputs (Some s) cs = max 1 (in_turn (is_choice (Some s)) 0 (unnamed_cells cs))

abbrev pub expression_cells : Expression-F (List Cells) ℕ ℕ ℕ ℕ ℕ → ℕ
expression_cells (Expression-F.Constant c) = 1
expression_cells (Expression-F.Variable v) = max 1 v
expression_cells (Expression-F.Call c) = c
expression_cells (Expression-F.Parenthesized p x) = x
expression_cells (Expression-F.Negate p x) = x
expression_cells (Expression-F.Not p x) = x
expression_cells (Expression-F.Chain p x os) = max x (most os)

-- subscripts stay on the stack until the distance is known
abbrev pub part_cells : Part-F (List Cells) ℕ ℕ ℕ ℕ ℕ → ℕ
part_cells (Part-F.Field n) = 0
part_cells (Part-F.Subscripts p xs) = max 2 (1 + in_turn true 0 xs)

-- `inputs` is how many a function of the text takes at most
module _ (inputs : ℕ) where
  abbrev pub expression_depth : Expression → ℕ
  expression_depth x = fold-Expression (List Cells) ℕ ℕ ℕ ℕ ℕ argument_cells expression_cells part_cells (λ c. called_cells inputs (standard_of c.name.spelling) (flat_map (λ a. a) c.arguments)) (λ o. 1 + o.operand) (λ v. most v.parts) x

  abbrev pub argument_depths : Argument → List Cells
  argument_depths x = fold-Argument (List Cells) ℕ ℕ ℕ ℕ ℕ argument_cells expression_cells part_cells (λ c. called_cells inputs (standard_of c.name.spelling) (flat_map (λ a. a) c.arguments)) (λ o. 1 + o.operand) (λ v. most v.parts) x

  abbrev pub part_depth : Part → ℕ
  part_depth x = fold-Part (List Cells) ℕ ℕ ℕ ℕ ℕ argument_cells expression_cells part_cells (λ c. called_cells inputs (standard_of c.name.spelling) (flat_map (λ a. a) c.arguments)) (λ o. 1 + o.operand) (λ v. most v.parts) x

  abbrev pub call_depth : Call → ℕ
  call_depth x = fold-Call (List Cells) ℕ ℕ ℕ ℕ ℕ argument_cells expression_cells part_cells (λ c. called_cells inputs (standard_of c.name.spelling) (flat_map (λ a. a) c.arguments)) (λ o. 1 + o.operand) (λ v. most v.parts) x

  -- an operand stands above the one before it
  abbrev pub operation_depth : Operation → ℕ
  operation_depth x = fold-Operation (List Cells) ℕ ℕ ℕ ℕ ℕ argument_cells expression_cells part_cells (λ c. called_cells inputs (standard_of c.name.spelling) (flat_map (λ a. a) c.arguments)) (λ o. 1 + o.operand) (λ v. most v.parts) x

  -- of the place of a variable
  abbrev pub place_depth : Variable → ℕ
  place_depth x = fold-Variable (List Cells) ℕ ℕ ℕ ℕ ℕ argument_cells expression_cells part_cells (λ c. called_cells inputs (standard_of c.name.spelling) (flat_map (λ a. a) c.arguments)) (λ o. 1 + o.operand) (λ v. most v.parts) x

  -- ---- statements

  -- without BY the values are 1 apart
  abbrev pub step_depth : Option Expression → ℕ
  step_depth None = 1
  step_depth (Some x) = expression_depth x

  abbrev pub move_cells : Argument-F Argument Expression Part Call Operation Variable → ℕ
  move_cells (Argument-F.Positional x) = 0
  move_cells (Argument-F.Input n x) = max 1 (expression_depth x)
  move_cells (Argument-F.Output n v) = 1 + place_depth v

  -- of an input that is stored, or an output that is assigned
  abbrev pub move_depth : Argument → ℕ
  move_depth a = move_cells (out-Argument a)

  abbrev pub invocation_depth : Call → ℕ
  invocation_depth c = most (map move_depth (out-Call c).arguments)

  abbrev pub statement_cells : Statement-F ℕ ℕ ℕ ℕ ℕ ℕ ℕ ℕ → ℕ
  statement_cells (Statement-F.Assignment v x) = max (expression_depth x) (1 + place_depth v)
  statement_cells (Statement-F.Call c) = invocation_depth c
  statement_cells (Statement-F.If s) = s
  statement_cells (Statement-F.Case s) = s
  statement_cells (Statement-F.For s) = s
  statement_cells (Statement-F.While s) = s
  statement_cells (Statement-F.Repeat s) = s
  statement_cells _ = 0

  abbrev pub statement_depth : Statement → ℕ
  statement_depth x = fold-Statement ℕ ℕ ℕ ℕ ℕ ℕ ℕ ℕ statement_cells (λ e. max 4 (most e.statements)) (λ s. max (expression_depth s.selector) (max (most s.cases) (most s.otherwise))) (λ b. max (expression_depth b.condition) (most b.statements)) (λ s. max (max (max (expression_depth s.first) (1 + expression_depth s.last)) (2 + step_depth s.step)) (3 + most s.statements)) (λ s. max (most s.parts) (most s.otherwise)) (λ s. max (expression_depth s.condition) (most s.statements)) (λ s. max (expression_depth s.condition) (most s.statements)) x

  -- the selector, whether it has a label, and the two ends of one stand there
  abbrev pub element_depth : CaseElement → ℕ
  element_depth x = fold-CaseElement ℕ ℕ ℕ ℕ ℕ ℕ ℕ ℕ statement_cells (λ e. max 4 (most e.statements)) (λ s. max (expression_depth s.selector) (max (most s.cases) (most s.otherwise))) (λ b. max (expression_depth b.condition) (most b.statements)) (λ s. max (max (max (expression_depth s.first) (1 + expression_depth s.last)) (2 + step_depth s.step)) (3 + most s.statements)) (λ s. max (most s.parts) (most s.otherwise)) (λ s. max (expression_depth s.condition) (most s.statements)) (λ s. max (expression_depth s.condition) (most s.statements)) x

  abbrev pub case_depth : CaseStatement → ℕ
  case_depth x = fold-CaseStatement ℕ ℕ ℕ ℕ ℕ ℕ ℕ ℕ statement_cells (λ e. max 4 (most e.statements)) (λ s. max (expression_depth s.selector) (max (most s.cases) (most s.otherwise))) (λ b. max (expression_depth b.condition) (most b.statements)) (λ s. max (max (max (expression_depth s.first) (1 + expression_depth s.last)) (2 + step_depth s.step)) (3 + most s.statements)) (λ s. max (most s.parts) (most s.otherwise)) (λ s. max (expression_depth s.condition) (most s.statements)) (λ s. max (expression_depth s.condition) (most s.statements)) x

  abbrev pub branch_depth : ConditionalPart → ℕ
  branch_depth x = fold-ConditionalPart ℕ ℕ ℕ ℕ ℕ ℕ ℕ ℕ statement_cells (λ e. max 4 (most e.statements)) (λ s. max (expression_depth s.selector) (max (most s.cases) (most s.otherwise))) (λ b. max (expression_depth b.condition) (most b.statements)) (λ s. max (max (max (expression_depth s.first) (1 + expression_depth s.last)) (2 + step_depth s.step)) (3 + most s.statements)) (λ s. max (most s.parts) (most s.otherwise)) (λ s. max (expression_depth s.condition) (most s.statements)) (λ s. max (expression_depth s.condition) (most s.statements)) x

  -- the first value, the last one and the step stay on the stack
  abbrev pub for_depth : ForStatement → ℕ
  for_depth x = fold-ForStatement ℕ ℕ ℕ ℕ ℕ ℕ ℕ ℕ statement_cells (λ e. max 4 (most e.statements)) (λ s. max (expression_depth s.selector) (max (most s.cases) (most s.otherwise))) (λ b. max (expression_depth b.condition) (most b.statements)) (λ s. max (max (max (expression_depth s.first) (1 + expression_depth s.last)) (2 + step_depth s.step)) (3 + most s.statements)) (λ s. max (most s.parts) (most s.otherwise)) (λ s. max (expression_depth s.condition) (most s.statements)) (λ s. max (expression_depth s.condition) (most s.statements)) x

  abbrev pub if_depth : IfStatement → ℕ
  if_depth x = fold-IfStatement ℕ ℕ ℕ ℕ ℕ ℕ ℕ ℕ statement_cells (λ e. max 4 (most e.statements)) (λ s. max (expression_depth s.selector) (max (most s.cases) (most s.otherwise))) (λ b. max (expression_depth b.condition) (most b.statements)) (λ s. max (max (max (expression_depth s.first) (1 + expression_depth s.last)) (2 + step_depth s.step)) (3 + most s.statements)) (λ s. max (most s.parts) (most s.otherwise)) (λ s. max (expression_depth s.condition) (most s.statements)) (λ s. max (expression_depth s.condition) (most s.statements)) x

  abbrev pub repeat_depth : RepeatStatement → ℕ
  repeat_depth x = fold-RepeatStatement ℕ ℕ ℕ ℕ ℕ ℕ ℕ ℕ statement_cells (λ e. max 4 (most e.statements)) (λ s. max (expression_depth s.selector) (max (most s.cases) (most s.otherwise))) (λ b. max (expression_depth b.condition) (most b.statements)) (λ s. max (max (max (expression_depth s.first) (1 + expression_depth s.last)) (2 + step_depth s.step)) (3 + most s.statements)) (λ s. max (most s.parts) (most s.otherwise)) (λ s. max (expression_depth s.condition) (most s.statements)) (λ s. max (expression_depth s.condition) (most s.statements)) x

  abbrev pub while_depth : WhileStatement → ℕ
  while_depth x = fold-WhileStatement ℕ ℕ ℕ ℕ ℕ ℕ ℕ ℕ statement_cells (λ e. max 4 (most e.statements)) (λ s. max (expression_depth s.selector) (max (most s.cases) (most s.otherwise))) (λ b. max (expression_depth b.condition) (most b.statements)) (λ s. max (max (max (expression_depth s.first) (1 + expression_depth s.last)) (2 + step_depth s.step)) (3 + most s.statements)) (λ s. max (most s.parts) (most s.otherwise)) (λ s. max (expression_depth s.condition) (most s.statements)) (λ s. max (expression_depth s.condition) (most s.statements)) x

  abbrev pub statements_depth : List Statement → ℕ
  statements_depth statements = most (map statement_depth statements)

  -- ---- charts

  -- of an element: what its condition needs, where it is a transition
  abbrev pub condition_depths : ChartElement → List ℕ
  condition_depths (chart_elements.Transition t) = expression_depth t.condition ∷ []
  condition_depths _ = []

  abbrev pub action_depth : Action → ℕ
  action_depth a = statements_depth a.statements

  -- The conditions all stay on the stack. Then a number stands there for each action, and above those one for each associated
  -- variable, or what one of the actions needs.
  abbrev pub chart_depth : List ChartElement → ℕ
  chart_depth elements =
      let actions = flat_map actions_in elements in
      max (in_turn true 0 (flat_map condition_depths elements)) (length actions + max (length (associations_of (flat_map steps_in elements))) (most (map action_depth actions)))

  -- ---- units

  abbrev pub unit_depth : Body → ℕ
  unit_depth (bodies.Statements statements) = statements_depth statements
  unit_depth (bodies.Chart elements) = chart_depth elements

  -- of what a unit declares
  abbrev pub declared_depth : Declares → ℕ
  declared_depth (names.program p) = unit_depth p.body
  declared_depth (names.block b) = unit_depth b.body
  declared_depth (names.function f) = statements_depth f.statements
  declared_depth (names.type t) = 0
