-- The reading of expressions as functions: what each function that reads them answers.
use Rattle.std.specs.Prelude.{ℕ, zero, suc, Bool, true, false, ◌==◌, List, [], ◌∷◌, Option, Some, None}
use Rattle.st_tokens.specs.declared.keyword.Keyword.TheVariants as keywords
use Rattle.st_tokens.specs.declared.symbol.Symbol.TheVariants as symbols
use Rattle.st_tokens.specs.declared.token.Kind.TheVariants as token_kinds
use Rattle.st_tree.specs.declared.tree.constant.Constant.TheVariants as constants
use Rattle.st_tree.specs.declared.tree.expression.Expression.TheVariants as expressions
use Rattle.st_tree.specs.declared.tree.expression.Part.TheVariants as part_kinds
use Rattle.st_tree.specs.declared.tree.expression.Argument.TheVariants as argument_kinds
use Rattle.st_parser.specs.Reader.Parsers.{Parser, ◌>>=◌, ◌>>◌, pure, refuse, bump, peek, peek_second, here, expect_symbol, is_symbol, enter, identifier, identifier_before, number, many, listed}
use Rattle.st_parser.specs.Grammar.Expressions.{integer_of, typed_of, duration_of, operation_of, variable_of, call_of, operator_of, precedence_of}
use Rattle.st_parser.specs.Names.{Argument, BinOp, Call, Constant, Expression, Kind, Operation, Part, Position, SignedInteger, Variable}

-- ---- literals

-- a sign, and its number
unfoldable pub signed : Bool → Parser SignedInteger
signed negative = do
  p ← bump
  n ← number
  pure (integer_of p negative n)

abbrev pub integer_by : Option Kind → Parser SignedInteger
integer_by (Some (token_kinds.Number n)) = do p ← bump; pure (integer_of p false n)
integer_by (Some (token_kinds.Symbol symbols.Plus)) = signed false
integer_by (Some (token_kinds.Symbol symbols.Minus)) = signed true
integer_by _ = refuse

unfoldable pub signed_integer : Parser SignedInteger
signed_integer = peek >>= integer_by

abbrev pub constant_by : Option Kind → Parser Constant
constant_by (Some (token_kinds.Typed elem n)) = do p ← bump; pure (typed_of p elem n)
constant_by (Some (token_kinds.Duration d)) = do p ← bump; pure (constants.Duration (duration_of p d))
constant_by (Some (token_kinds.Keyword keywords.True)) = do p ← bump; pure (constants.Bool p true)
constant_by (Some (token_kinds.Keyword keywords.False)) = do p ← bump; pure (constants.Bool p false)
constant_by _ = do i ← signed_integer; pure (constants.Integer i)

unfoldable pub constant : Parser Constant
constant = peek >>= constant_by

-- ---- variables and calls. What stands in their brackets is read inside one more open level.

pub record Inside : Type 0 where
  pub expression : Parser Expression
  pub variable : Parser Variable

unfoldable pub field : Parser Part
field = do
  bump
  name ← identifier
  pure (part_kinds.Field name)

unfoldable pub subscripts : ℕ → Inside → Parser Part
subscripts depth_left inside = do
  p ← enter depth_left
  xs ← listed inside.expression
  expect_symbol symbols.CloseBracket
  pure (part_kinds.Subscripts p xs)

abbrev pub begins_part : Option Kind → Bool
begins_part (Some (token_kinds.Symbol symbols.Dot)) = true
begins_part (Some (token_kinds.Symbol symbols.OpenBracket)) = true
begins_part _ = false

abbrev pub part_by : ℕ → Inside → Option Kind → Parser Part
part_by depth_left inside (Some (token_kinds.Symbol symbols.Dot)) = field
part_by depth_left inside _ = subscripts depth_left inside

unfoldable pub part_of : ℕ → Inside → Parser Part
part_of depth_left inside = peek >>= part_by depth_left inside

abbrev pub parts : ℕ → Inside → Parser (List Part)
parts depth_left inside = many begins_part (part_of depth_left inside)

unfoldable pub variable : ℕ → Inside → Parser Variable
variable depth_left inside = do
  name ← identifier
  ps ← parts depth_left inside
  pure (variable_of name ps)

unfoldable pub input : Inside → Parser Argument
input inside = do
  name ← identifier_before symbols.Assign
  x ← inside.expression
  pure (argument_kinds.Input name x)

unfoldable pub output : Inside → Parser Argument
output inside = do
  name ← identifier_before symbols.Output
  x ← inside.variable
  pure (argument_kinds.Output name x)

unfoldable pub positional : Inside → Parser Argument
positional inside = do
  x ← inside.expression
  pure (argument_kinds.Positional x)

-- how an argument begins: with a word, and with what after it
abbrev pub argument_by : Inside → Option Kind → Option Kind → Parser Argument
argument_by inside (Some (token_kinds.Word n)) (Some (token_kinds.Symbol symbols.Assign)) = input inside
argument_by inside (Some (token_kinds.Word n)) (Some (token_kinds.Symbol symbols.Output)) = output inside
argument_by inside _ _ = positional inside

unfoldable pub argument : Inside → Parser Argument
argument inside = do
  t ← peek
  u ← peek_second
  argument_by inside t u

abbrev pub arguments_by : Inside → Bool → Parser (List Argument)
arguments_by inside true = do bump; pure []
arguments_by inside false = do xs ← listed (argument inside); expect_symbol symbols.Close; pure xs

-- after the '(' of a call
unfoldable pub arguments : Inside → Parser (List Argument)
arguments inside = do
  t ← peek
  arguments_by inside (is_symbol symbols.Close t)

unfoldable pub call : ℕ → Inside → Parser Call
call depth_left inside = do
  name ← identifier
  enter depth_left
  xs ← arguments inside
  pure (call_of name xs)

-- ---- operands

unfoldable pub parenthesized : ℕ → Inside → Parser Expression
parenthesized depth_left inside = do
  p ← enter depth_left
  x ← inside.expression
  expect_symbol symbols.Close
  pure (expressions.Parenthesized p x)

abbrev pub named_by : ℕ → Inside → Bool → Parser Expression
named_by depth_left inside true = do x ← call depth_left inside; pure (expressions.Call x)
named_by depth_left inside false = do x ← variable depth_left inside; pure (expressions.Variable x)

-- what begins with a word
unfoldable pub named : ℕ → Inside → Parser Expression
named depth_left inside = do
  t ← peek_second
  named_by depth_left inside (is_symbol symbols.Open t)

abbrev pub primary_by : ℕ → Inside → Option Kind → Parser Expression
primary_by depth_left inside (Some (token_kinds.Word n)) = named depth_left inside
primary_by depth_left inside (Some (token_kinds.Symbol symbols.Open)) = parenthesized depth_left inside
primary_by depth_left inside _ = do x ← constant; pure (expressions.Constant x)

unfoldable pub primary : ℕ → Inside → Parser Expression
primary depth_left inside = peek >>= primary_by depth_left inside

abbrev pub is_number : Option Kind → Bool
is_number (Some (token_kinds.Number n)) = true
is_number _ = false

unfoldable pub negation : ℕ → Inside → Parser Expression
negation depth_left inside = do
  p ← bump
  x ← primary depth_left inside
  pure (expressions.Negate p x)

unfoldable pub complement : ℕ → Inside → Parser Expression
complement depth_left inside = do
  p ← bump
  x ← primary depth_left inside
  pure (expressions.Not p x)

abbrev pub minus_by : ℕ → Inside → Bool → Parser Expression
minus_by depth_left inside true = primary depth_left inside
minus_by depth_left inside false = negation depth_left inside

abbrev pub unary_by : ℕ → Inside → Option Kind → Option Kind → Parser Expression
unary_by depth_left inside (Some (token_kinds.Keyword keywords.Not)) u = complement depth_left inside
unary_by depth_left inside (Some (token_kinds.Symbol symbols.Minus)) u = minus_by depth_left inside (is_number u)
unary_by depth_left inside _ u = primary depth_left inside

unfoldable pub unary : ℕ → Inside → Parser Expression
unary depth_left inside = do
  t ← peek
  u ← peek_second
  unary_by depth_left inside t u

-- ---- operators

abbrev pub has_precedence : ℕ → Option BinOp → Bool
has_precedence r (Some op) = precedence_of op == r
has_precedence r None = false

abbrev pub operator_at : Option Kind → Option BinOp
operator_at (Some t) = operator_of t
operator_at None = None

-- an operator of precedence r + 1
abbrev pub is_operator : ℕ → Option Kind → Bool
is_operator r t = has_precedence (suc r) (operator_at t)

abbrev pub operation_by : Parser Expression → Position → Option BinOp → Parser Operation
operation_by operand p (Some op) = do x ← operand; pure (operation_of p op x)
operation_by operand p None = refuse

unfoldable pub operation : Parser Expression → Parser Operation
operation operand = do
  t ← peek
  p ← bump
  operation_by operand p (operator_at t)

abbrev pub operations : Parser Expression → ℕ → Parser (List Operation)
operations operand r = many (is_operator r) (operation operand)

unfoldable pub chain : Position → Expression → List Operation → Expression
chain p x [] = x
chain p x (l ∷ ls) = expressions.Chain p x (l ∷ ls)

unfoldable pub binary : ℕ → Inside → ℕ → Parser Expression
binary depth_left inside zero = unary depth_left inside
binary depth_left inside (suc r) = do
  p ← here
  x ← binary depth_left inside r
  ls ← operations (binary depth_left inside r) r
  pure (chain p x ls)

-- what is read inside one more open level, of which there may be this many
unfoldable pub inside_of : ℕ → Inside
inside_of zero = record { expression = refuse; variable = refuse }
inside_of (suc depth_left) = record { expression = binary depth_left (inside_of depth_left) 7; variable = variable depth_left (inside_of depth_left) }

-- an expression, where this many levels may be opened
unfoldable pub expression : ℕ → Parser Expression
expression depth_left = binary depth_left (inside_of depth_left) 7
