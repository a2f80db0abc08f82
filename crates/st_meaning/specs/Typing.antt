-- Which type each literal has, and what each name stands for (2.2, 2.4, 3.3.1): from trees to programs without names. An expression
-- is a term where a type is due of it. In a program that keeps the rules it fits that type; elsewhere it is 0.
use Rattle.std.specs.Prelude.{ℕ, suc, ◌==◌, Bool, true, false, if◌then◌else◌, pos, List, [], ◌∷◌, codes, map, slice_get, Option, Some, None}
use Rattle.std.specs.List.{flat_map, position}
use Rattle.st_values.specs.Types.{is_same}
use Rattle.st_values.specs.Words.{is_word}
use Rattle.st_values.specs.declared.elem.Elem.{Elem}
use Rattle.st_values.specs.declared.elem.Elem.TheVariants as elems
use Rattle.st_values.specs.declared.value.Value.{Value}
use Rattle.st_tree.specs.declared.operator.BinOp.{BinOp}
use Rattle.st_tree.specs.declared.tree.constant.Constant.{Constant}
use Rattle.st_tree.specs.declared.tree.expression.Argument.TheOpen.{Argument-F, Expression-F, Part-F}
use Rattle.st_tree.specs.declared.tree.expression.Expression.{Expression, fold-Expression}
use Rattle.st_tree.specs.declared.tree.expression.Operation.{Operation, fold-Operation}
use Rattle.st_tree.specs.declared.tree.expression.Part.{Part, fold-Part}
use Rattle.st_tree.specs.declared.tree.expression.Variable.{Variable, fold-Variable}
use Rattle.st_tree.specs.declared.tree.expression.Argument.{Argument, fold-Argument, out-Argument}
use Rattle.st_tree.specs.declared.tree.expression.Call.{Call, fold-Call, out-Call}
use Rattle.st_tree.specs.declared.tree.statement.CaseElement.{CaseElement, fold-CaseElement}
use Rattle.st_tree.specs.declared.tree.statement.ConditionalPart.{ConditionalPart, fold-ConditionalPart}
use Rattle.st_tree.specs.declared.tree.statement.Label.{Label}
use Rattle.st_tree.specs.declared.tree.statement.Label.TheVariants as label_kinds
use Rattle.st_tree.specs.declared.tree.statement.Statement.{Statement, fold-Statement}
use Rattle.st_tree.specs.declared.tree.statement.Statement.TheOpen.{Statement-F}
use Rattle.st_tree.specs.declared.tree.unit.Action.{Action}
use Rattle.st_tree.specs.declared.tree.unit.ChartElement.{ChartElement}
use Rattle.st_tree.specs.declared.tree.unit.Transition.{Transition}
use Rattle.st_types.specs.Compositions.{Composition}
use Rattle.st_types.specs.Initials.{value_written, zero_of}
use Rattle.st_types.specs.Names.{actions_in}
use Rattle.st_operators.specs.Operators.{is_comparison}
use Rattle.st_types.specs.OwnTypes.{first_own, literal_own, or_lint}
use Rattle.st_types.specs.Standard.{standard_of}
use Rattle.st_types.specs.declared.standard.StandardBlock.{StandardBlock}
use Rattle.st_types.specs.declared.standard.Standard.{Standard}
use Rattle.st_types.specs.declared.standard.Standard.TheVariants as standards
use Rattle.st_types.specs.declared.standard.StandardFunction.{StandardFunction}
use Rattle.st_types.specs.declared.standard.StandardFunction.TheVariants as functions
use Rattle.st_leaves.specs.Selected.{selected_by}
use Rattle.st_meaning.specs.Operations.{takes_one, takes_two}
use Rattle.st_meaning.specs.Sketched.{sketch_of, transitions_in}
use Rattle.st_meaning.specs.Steps.{chart_within, has_step, step_elem}
use Rattle.st_meaning.specs.Terms.{Source, written, left_out, Term, constant, stored, of_step, unary, binary, selection, call, Terms, no_terms, more_terms, Parts, whole, field_part, element_part, LabelRange, Command, nothing, assign, choice, cases, count_loop, while_loop, repeat_loop, invoke, enter, exit, finish, Moves, no_moves, more_moves, Commands, no_commands, more_commands, Branches, no_branches, more_branches, Cases, no_cases, more_cases, Tests, no_tests, more_tests, Actions, no_actions, more_actions, Body, plain_body, chart_body}
use Rattle.st_meaning.specs.Wholes.{Called, Input, Invoked, Whole, block_of, type_of}
use Rattle.st_meaning.specs.declared.operation.Binary.{Binary}
use Rattle.st_meaning.specs.declared.operation.Binary.TheVariants as binaries
use Rattle.st_meaning.specs.declared.operation.Unary.{Unary}
use Rattle.st_meaning.specs.declared.operation.Unary.TheVariants as unaries

-- an expression: its own type, where it has one, and the term that it is where a type is due
pub record Typed : Type 0 where
  pub own : Option Elem
  pub as_type : Elem → Term

-- 0 of a type
abbrev pub nil : Elem → Term
nil t = constant (zero_of t)

-- a term of this type, where that type is due
abbrev pub fitted : Elem → Term → Elem → Term
fitted e term t = if is_same e t then term else nil t

-- where no type is due an expression has its own one, else LINT
abbrev pub alone : Typed → Term
alone x = x.as_type (or_lint x.own)

-- what isn't an expression of one value
abbrev pub untyped : Typed
untyped = record { own = None; as_type = nil }

-- ---- literals, constants and variables

abbrev pub literal : Constant → Typed
literal c = record { own = literal_own c; as_type = λ t. constant (value_written t c) }

abbrev pub named_value : Value → Typed
named_value v = record { own = Some v.elem; as_type = fitted v.elem (constant v) }

abbrev pub place_typed : Parts → Option Elem → Typed
place_typed ps None = untyped
place_typed ps (Some e) = record { own = Some e; as_type = fitted e (stored ps) }

-- a constant, or else a variable
abbrev pub constant_or : Typed → Option Value → Typed
constant_or x None = x
constant_or x (Some v) = named_value v

-- X of a step, which says whether it is active, and T, which says for how long (2.6.2)
abbrev pub step_part : List ℕ → Option Bool
step_part part = if is_word (codes "X") part then Some false else if is_word (codes "T") part then Some true else None

abbrev pub step_value : Composition → List ℕ → Option Bool → Typed
step_value root name None = untyped
step_value root name (Some is_time) =
    if has_step root name then record { own = Some (step_elem is_time); as_type = fitted (step_elem is_time) (of_step is_time name) } else untyped

-- a part of a variable, or else one of a step
abbrev pub part_or_step : Composition → List ℕ → List ℕ → Option Elem → Typed
part_or_step root name part None = step_value root name (step_part part)
part_or_step root name part (Some e) = place_typed (field_part name (field_part part whole)) (Some e)

abbrev pub variable_typed : Whole → Parts → Typed
variable_typed w (field_part name whole) = constant_or (place_typed (field_part name whole) (type_of w.variables (field_part name whole))) (w.constants name)
variable_typed w (field_part name (field_part part whole)) = part_or_step w.variables name part (type_of w.variables (field_part name (field_part part whole)))
variable_typed w ps = place_typed ps (type_of w.variables ps)

-- ---- operators

-- an operator before an operand, of which the type is due that is due of the whole
abbrev pub prefixed : Unary → Typed → Typed
prefixed o x = record { own = x.own; as_type = λ t. if takes_one o t then unary o (x.as_type t) else nil t }

-- the two sides of a comparison are taken at the first own type of the two
abbrev pub compared : BinOp → ℕ → Typed → Typed → Typed
compared o line a b =
    let e = or_lint (first_own (a.own ∷ b.own ∷ [])) in
    record { own = Some elems.Bool; as_type = fitted elems.Bool (binary (binaries.Operator o) line (a.as_type e) (b.as_type e)) }

-- two operands of which the type is due that is due of the whole
abbrev pub combined : Binary → ℕ → Typed → Typed → Typed
combined o line a b = record {
  own = first_own (a.own ∷ b.own ∷ []);
  as_type = λ t. if takes_two o t then binary o line (a.as_type t) (b.as_type t) else nil t;
}

abbrev pub joined : BinOp → ℕ → Typed → Typed → Typed
joined o line a b = if is_comparison o then compared o line a b else combined (binaries.Operator o) line a b

-- one operator after the other, from left to right
abbrev pub chained : Typed → List (Typed → Typed) → Typed
chained x [] = x
chained x (f ∷ fs) = chained (f x) fs

-- ---- standard functions and conversions (2.5.1.5)

-- MIN and MAX of two or more
abbrev pub combined_all : Binary → Typed → List Typed → Typed
combined_all o x [] = x
combined_all o x (y ∷ ys) = combined_all o (combined o 0 x y) ys

-- a shift or a rotation, whose count has its own type
abbrev pub shifted : Binary → Typed → Typed → Typed
shifted o x n = record { own = x.own; as_type = λ t. if takes_two o t then binary o 0 (x.as_type t) (alone n) else nil t }

-- SEL
abbrev pub selected : Typed → Typed → Typed → Typed
selected g x y = record { own = first_own (x.own ∷ y.own ∷ []); as_type = λ t. selection (g.as_type elems.Bool) (x.as_type t) (y.as_type t) }

abbrev pub function_typed : StandardFunction → List Typed → Typed
function_typed functions.Abs (x ∷ []) = prefixed unaries.Absolute x
function_typed functions.Min (x ∷ ys) = combined_all binaries.Least x ys
function_typed functions.Max (x ∷ ys) = combined_all binaries.Greatest x ys
-- LIMIT(MN, IN, MX) is MIN(MAX(MN, IN), MX)
function_typed functions.Limit (low ∷ x ∷ high ∷ []) = combined binaries.Least 0 (combined binaries.Greatest 0 low x) high
function_typed functions.Sel (g ∷ x ∷ y ∷ []) = selected g x y
function_typed functions.Shl (x ∷ n ∷ []) = shifted binaries.ShiftLeft x n
function_typed functions.Shr (x ∷ n ∷ []) = shifted binaries.ShiftRight x n
function_typed functions.Rol (x ∷ n ∷ []) = shifted binaries.RotateLeft x n
function_typed functions.Ror (x ∷ n ∷ []) = shifted binaries.RotateRight x n
function_typed _ _ = untyped

abbrev pub converted : Elem → Elem → List Typed → Typed
converted from to (x ∷ []) = record { own = Some to; as_type = fitted to (unary (unaries.Convert to) (x.as_type from)) }
converted from to _ = untyped

-- ---- functions of the text (2.5.1)

-- an argument of a call: the name of the input that it is for, where that is written, and its value
pub record Passed : Type 0 where
  pub name : Option (List ℕ)
  pub value : Typed

abbrev pub passed : Option (List ℕ) → Typed → List Passed
passed name x = record { name = name; value = x } ∷ []

abbrev pub unnamed_before : Option (List ℕ) → Typed → List Typed → List Typed
unnamed_before None x xs = x ∷ xs
unnamed_before (Some name) x xs = xs

-- the arguments that are written without names
abbrev pub unnamed : List Passed → List Typed
unnamed [] = []
unnamed (x ∷ xs) = unnamed_before x.name x.value (unnamed xs)

-- the number of the input that an argument goes to: the one of its name, or else the one of its place
abbrev pub goes_to : List Input → ℕ → Option (List ℕ) → Option ℕ
goes_to inputs place None = Some place
goes_to inputs place (Some name) = position (λ i. is_word i.name name) inputs

-- of the arguments from this place on
abbrev pub go_to : List Input → ℕ → List Passed → List (Option ℕ)
go_to inputs place [] = []
go_to inputs place (x ∷ xs) = goes_to inputs place x.name ∷ go_to inputs (suc place) xs

-- the input of this number
abbrev pub input_at : List Input → Option ℕ → Option Input
input_at inputs None = None
input_at inputs (Some n) = slice_get inputs n

-- An argument has the type of its input. In a program that keeps the rules there is one.
abbrev pub as_input : Typed → Option Input → Term
as_input x None = alone x
as_input x (Some i) = x.as_type i.initial.elem

-- the arguments from this place on
abbrev pub arguments_from : List Input → ℕ → List Passed → Terms
arguments_from inputs place [] = no_terms
arguments_from inputs place (x ∷ xs) = more_terms (as_input x.value (input_at inputs (goes_to inputs place x.name))) (arguments_from inputs (suc place) xs)

abbrev pub is_number : ℕ → Option ℕ → Bool
is_number n None = false
is_number n (Some m) = m == n

-- the argument of this place, or else what the input begins with
abbrev pub source_of : Value → Option ℕ → Source
source_of initial None = left_out initial
source_of initial (Some place) = written place

-- of the inputs from this number on, where the arguments go to these: the first argument that goes to an input
abbrev pub sources_from : List (Option ℕ) → ℕ → List Input → List Source
sources_from places n [] = []
sources_from places n (i ∷ is) = source_of i.initial (position (is_number n) places) ∷ sources_from places (suc n) is

abbrev pub function_called : ℕ → Option Called → List Passed → Typed
function_called line None xs = untyped
function_called line (Some f) xs = record {
  own = Some f.result;
  as_type = fitted f.result (call line f.number f.result (arguments_from f.inputs 0 xs) (sources_from (go_to f.inputs 0 xs) 0 f.inputs));
}

-- a call on this line: a standard name has its meaning everywhere
abbrev pub call_typed : Whole → ℕ → List ℕ → Option Standard → List Passed → Typed
call_typed w line name (Some (standards.Function f)) xs = function_typed f (unnamed xs)
call_typed w line name (Some (standards.Conversion from to)) xs = converted from to (unnamed xs)
call_typed w line name (Some (standards.Block b)) xs = untyped
call_typed w line name None xs = function_called line (w.functions name) xs

-- ---- expressions: of an operation the fold gives what it makes of its left operand, of a part what it puts before the further
-- parts, of an argument its value with the name that is written before it

abbrev pub terms_of : List Typed → Terms
terms_of [] = no_terms
terms_of (x ∷ xs) = more_terms (alone x) (terms_of xs)

abbrev pub through : List (Parts → Parts) → Parts
through [] = whole
through (f ∷ fs) = f (through fs)

abbrev pub typed_expression : Whole → Expression-F (List Passed) Typed (Parts → Parts) Typed (Typed → Typed) Parts → Typed
typed_expression w (Expression-F.Constant c) = literal c
typed_expression w (Expression-F.Variable ps) = variable_typed w ps
typed_expression w (Expression-F.Call x) = x
typed_expression w (Expression-F.Parenthesized p x) = x
typed_expression w (Expression-F.Negate p x) = prefixed unaries.Negate x
typed_expression w (Expression-F.Not p x) = prefixed unaries.Complement x
typed_expression w (Expression-F.Chain p x fs) = chained x fs

abbrev pub typed_argument : Argument-F (List Passed) Typed (Parts → Parts) Typed (Typed → Typed) Parts → List Passed
typed_argument (Argument-F.Positional x) = passed None x
typed_argument (Argument-F.Input n x) = passed (Some n.spelling) x
typed_argument (Argument-F.Output n ps) = []

abbrev pub typed_part : Part-F (List Passed) Typed (Parts → Parts) Typed (Typed → Typed) Parts → Parts → Parts
typed_part (Part-F.Field n) ps = field_part n.spelling ps
typed_part (Part-F.Subscripts p xs) ps = element_part p.line (terms_of xs) ps

abbrev pub typed : Whole → Expression → Typed
typed w x = fold-Expression (List Passed) Typed (Parts → Parts) Typed (Typed → Typed) Parts typed_argument (typed_expression w) typed_part (λ c. call_typed w c.name.position.line c.name.spelling (standard_of c.name.spelling) (flat_map (λ a. a) c.arguments)) (λ o x. joined o.operator o.position.line x o.operand) (λ v. field_part v.name.spelling (through v.parts)) x

abbrev pub argument_typed : Whole → Argument → List Passed
argument_typed w x = fold-Argument (List Passed) Typed (Parts → Parts) Typed (Typed → Typed) Parts typed_argument (typed_expression w) typed_part (λ c. call_typed w c.name.position.line c.name.spelling (standard_of c.name.spelling) (flat_map (λ a. a) c.arguments)) (λ o x. joined o.operator o.position.line x o.operand) (λ v. field_part v.name.spelling (through v.parts)) x

abbrev pub operation_typed : Whole → Operation → Typed → Typed
operation_typed w x = fold-Operation (List Passed) Typed (Parts → Parts) Typed (Typed → Typed) Parts typed_argument (typed_expression w) typed_part (λ c. call_typed w c.name.position.line c.name.spelling (standard_of c.name.spelling) (flat_map (λ a. a) c.arguments)) (λ o x. joined o.operator o.position.line x o.operand) (λ v. field_part v.name.spelling (through v.parts)) x

abbrev pub part_typed : Whole → Part → Parts → Parts
part_typed w x = fold-Part (List Passed) Typed (Parts → Parts) Typed (Typed → Typed) Parts typed_argument (typed_expression w) typed_part (λ c. call_typed w c.name.position.line c.name.spelling (standard_of c.name.spelling) (flat_map (λ a. a) c.arguments)) (λ o x. joined o.operator o.position.line x o.operand) (λ v. field_part v.name.spelling (through v.parts)) x

abbrev pub call_typed_in : Whole → Call → Typed
call_typed_in w x = fold-Call (List Passed) Typed (Parts → Parts) Typed (Typed → Typed) Parts typed_argument (typed_expression w) typed_part (λ c. call_typed w c.name.position.line c.name.spelling (standard_of c.name.spelling) (flat_map (λ a. a) c.arguments)) (λ o x. joined o.operator o.position.line x o.operand) (λ v. field_part v.name.spelling (through v.parts)) x

-- the place of a variable
abbrev pub place_of : Whole → Variable → Parts
place_of w x = fold-Variable (List Passed) Typed (Parts → Parts) Typed (Typed → Typed) Parts typed_argument (typed_expression w) typed_part (λ c. call_typed w c.name.position.line c.name.spelling (standard_of c.name.spelling) (flat_map (λ a. a) c.arguments)) (λ o x. joined o.operator o.position.line x o.operand) (λ v. field_part v.name.spelling (through v.parts)) x

-- ---- statements: of a branch the fold gives what it puts before the further ones, of a case too, once the selector's type is known

abbrev pub condition : Whole → Expression → Term
condition w x = (typed w x).as_type elems.Bool

abbrev pub commands_of : List Command → Commands
commands_of [] = no_commands
commands_of (c ∷ cs) = more_commands c (commands_of cs)

abbrev pub branches_of : List (Branches → Branches) → Branches
branches_of [] = no_branches
branches_of (f ∷ fs) = f (branches_of fs)

abbrev pub cases_of : Elem → List (Elem → Cases → Cases) → Cases
cases_of e [] = no_cases
cases_of e (f ∷ fs) = f e (cases_of e fs)

-- the variable takes the value, where it has a type
abbrev pub assignment : ℕ → Parts → Option Elem → Typed → Command
assignment line ps None x = nothing line
assignment line ps (Some e) x = assign line ps (x.as_type e)

-- a label has the selector's type
abbrev pub label_range : Elem → Label → LabelRange
label_range e (label_kinds.Value c) = record { least = (value_written e c).bits; greatest = (value_written e c).bits }
label_range e (label_kinds.Range a b) = record { least = (value_written e a).bits; greatest = (value_written e b).bits }

abbrev pub case_command : ℕ → Typed → List (Elem → Cases → Cases) → List Command → Command
case_command line x fs others = cases line (alone x) (cases_of (or_lint x.own) fs) (commands_of others)

-- without BY the values are 1 apart
abbrev pub step_typed : Whole → Option Expression → Elem → Term
step_typed w None e = constant (record { elem = e; bits = pos 1 })
step_typed w (Some x) e = (typed w x).as_type e

abbrev pub for_command : Whole → ℕ → Parts → Option Elem → Expression → Expression → Option Expression → Commands → Command
for_command w line ps None first last step cs = nothing line
for_command w line ps (Some e) first last step cs = count_loop line ps ((typed w first).as_type e) ((typed w last).as_type e) (step_typed w step e) cs

-- ---- invocations of function blocks (3.3.2.2): arguments are inputs with `:=` and outputs with `=>`

-- an input or an output of an instance
abbrev pub pin_of : List ℕ → List ℕ → Parts
pin_of name pin = field_part name (field_part pin whole)

-- an input takes the value, where it has a type
abbrev pub input_moves : Whole → List ℕ → Option Elem → List ℕ → Expression → Moves → Moves
input_moves w name None pin x more = more
input_moves w name (Some e) pin x more = more_moves (pin_of name pin) ((typed w x).as_type e) more

abbrev pub input_of : Whole → List ℕ → Argument-F Argument Expression Part Call Operation Variable → Moves → Moves
input_of w name (Argument-F.Input n x) more = input_moves w name (type_of w.variables (pin_of name n.spelling)) n.spelling x more
input_of w name _ more = more

abbrev pub inputs_of : Whole → List ℕ → List Argument → Moves
inputs_of w name [] = no_moves
inputs_of w name (a ∷ more) = input_of w name (out-Argument a) (inputs_of w name more)

-- a variable takes the value of an output, where it has a type
abbrev pub output_moves : Whole → List ℕ → Option Elem → List ℕ → Variable → Moves → Moves
output_moves w name None pin v more = more
output_moves w name (Some e) pin v more = more_moves (place_of w v) ((place_typed (pin_of name pin) (type_of w.variables (pin_of name pin))).as_type e) more

abbrev pub output_of : Whole → List ℕ → Argument-F Argument Expression Part Call Operation Variable → Moves → Moves
output_of w name (Argument-F.Output n v) more = output_moves w name (type_of w.variables (place_of w v)) n.spelling v more
output_of w name _ more = more

abbrev pub outputs_of : Whole → List ℕ → List Argument → Moves
outputs_of w name [] = no_moves
outputs_of w name (a ∷ more) = output_of w name (out-Argument a) (outputs_of w name more)

-- of an instance of a function block of the text
abbrev pub entrance : Whole → ℕ → List ℕ → Option Invoked → List Argument → Command
entrance w line name None xs = nothing line
entrance w line name (Some unit) xs = enter line name unit.number unit.body (inputs_of w name xs) (outputs_of w name xs)

-- of an instance of a standard function block
abbrev pub invocation : Whole → ℕ → List ℕ → Option StandardBlock → List Argument → Command
invocation w line name None xs = entrance w line name (w.invoked name) xs
invocation w line name (Some b) xs = invoke line name b (inputs_of w name xs) (outputs_of w name xs)

-- a call statement
abbrev pub call_command : Whole → Call → Command
call_command w c =
    let x = out-Call c in invocation w x.name.position.line x.name.spelling (block_of (selected_by w.variables x.name.spelling)) x.arguments

abbrev pub typed_statement : Whole → Statement-F Command (Elem → Cases → Cases) Command (Branches → Branches) Command Command Command Command → Command
typed_statement w (Statement-F.Empty p) = nothing p.line
typed_statement w (Statement-F.Assignment v x) = assignment v.name.position.line (place_of w v) (type_of w.variables (place_of w v)) (typed w x)
typed_statement w (Statement-F.Call c) = call_command w c
typed_statement w (Statement-F.Return p) = finish p.line
typed_statement w (Statement-F.Exit p) = exit p.line
typed_statement w (Statement-F.If c) = c
typed_statement w (Statement-F.Case c) = c
typed_statement w (Statement-F.For c) = c
typed_statement w (Statement-F.While c) = c
typed_statement w (Statement-F.Repeat c) = c

abbrev pub command_of : Whole → Statement → Command
command_of w x = fold-Statement Command (Elem → Cases → Cases) Command (Branches → Branches) Command Command Command Command (typed_statement w) (λ e t. more_cases (map (label_range t) e.labels) (commands_of e.statements)) (λ s. case_command s.position.line (typed w s.selector) s.cases s.otherwise) (λ b. more_branches (condition w b.condition) (commands_of b.statements)) (λ s. for_command w s.position.line (field_part s.variable.spelling whole) (type_of w.variables (field_part s.variable.spelling whole)) s.first s.last s.step (commands_of s.statements)) (λ s. choice s.position.line (branches_of s.parts) (commands_of s.otherwise)) (λ s. repeat_loop s.position.line (commands_of s.statements) (condition w s.condition)) (λ s. while_loop s.position.line (condition w s.condition) (commands_of s.statements)) x

abbrev pub branch_of : Whole → ConditionalPart → Branches → Branches
branch_of w x = fold-ConditionalPart Command (Elem → Cases → Cases) Command (Branches → Branches) Command Command Command Command (typed_statement w) (λ e t. more_cases (map (label_range t) e.labels) (commands_of e.statements)) (λ s. case_command s.position.line (typed w s.selector) s.cases s.otherwise) (λ b. more_branches (condition w b.condition) (commands_of b.statements)) (λ s. for_command w s.position.line (field_part s.variable.spelling whole) (type_of w.variables (field_part s.variable.spelling whole)) s.first s.last s.step (commands_of s.statements)) (λ s. choice s.position.line (branches_of s.parts) (commands_of s.otherwise)) (λ s. repeat_loop s.position.line (commands_of s.statements) (condition w s.condition)) (λ s. while_loop s.position.line (condition w s.condition) (commands_of s.statements)) x

abbrev pub case_of : Whole → CaseElement → Elem → Cases → Cases
case_of w x = fold-CaseElement Command (Elem → Cases → Cases) Command (Branches → Branches) Command Command Command Command (typed_statement w) (λ e t. more_cases (map (label_range t) e.labels) (commands_of e.statements)) (λ s. case_command s.position.line (typed w s.selector) s.cases s.otherwise) (λ b. more_branches (condition w b.condition) (commands_of b.statements)) (λ s. for_command w s.position.line (field_part s.variable.spelling whole) (type_of w.variables (field_part s.variable.spelling whole)) s.first s.last s.step (commands_of s.statements)) (λ s. choice s.position.line (branches_of s.parts) (commands_of s.otherwise)) (λ s. repeat_loop s.position.line (commands_of s.statements) (condition w s.condition)) (λ s. while_loop s.position.line (condition w s.condition) (commands_of s.statements)) x

-- the commands that a body of statements is
abbrev pub body_of : Whole → List Statement → Commands
body_of w statements = commands_of (map (command_of w) statements)

-- ---- charts (2.6)

abbrev pub tests_of : Whole → List Transition → Tests
tests_of w [] = no_tests
tests_of w (t ∷ ts) = more_tests t.position.line (condition w t.condition) (tests_of w ts)

abbrev pub actions_of : Whole → List Action → Actions
actions_of w [] = no_actions
actions_of w (a ∷ more) = more_actions (body_of w a.statements) (actions_of w more)

-- the chart of these elements, in the unit of this number, and other statements where there are none
abbrev pub chart_or : Commands → Whole → ℕ → List ChartElement → Body
chart_or cs w unit [] = plain_body cs
chart_or cs w unit (e ∷ elements) =
    chart_body unit (sketch_of w.variables (e ∷ elements)) (tests_of w (flat_map transitions_in (e ∷ elements))) (actions_of w (flat_map actions_in (e ∷ elements)))

-- the body of the unit of this number: the chart that its variables end with, or else these statements
abbrev pub body_in : Whole → ℕ → List Statement → Body
body_in w unit statements = chart_or (body_of w statements) w unit (chart_within w.variables)
