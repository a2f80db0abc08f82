-- The tokens of expressions are at least as many as their length says.
use Rattle.std.proofs.Common.{ℕ, suc, ◌+◌, ◌≤◌, List, ◌∷◌, length, map, arith}
use Rattle.st_parser.specs.Grammar.Tokens.{Tok, identifier_of, position}
use Rattle.st_parser.specs.Names.{Argument, Call, Constant, Expression, Operation, Part, SignedInteger, Variable}
use Rattle.st_parser.specs.Grammar.Expressions.{call_of, operation_of, variable_of, IsSignedInteger, unsigned, plus, minus, IsConstant, integer, typed, duration, truth, falsehood, IsBinary, unary, alone, chain, IsOperations, no_operation, operations, IsOperation, operation, IsUnary, negation, complement, primary, IsPrimary, constant, variable, call, parenthesized, IsVariable, named, IsParts, no_part, parts, IsPart, field, subscripts, IsNextExpressions, no_expression, next_expressions, IsCall, called, IsArguments, no_arguments, arguments, IsNextArguments, no_argument, next_arguments, IsArgument, positional, input, output}
use Rattle.st_syntax.proofs.Folds.{call_is, chain_is, complement_is, field_is, input_is, literal_is, negation_is, operation_is, output_is, parenthesized_is, place_is, positional_is, subscripts_is, value_is, variable_is}
use Rattle.st_syntax.specs.Lengths.{argument_length, call_length, expression_length, operation_length, part_length, total, variable_length}

pub integer_takes : {ts rest : List Tok} {x : SignedInteger} → IsSignedInteger ts x rest → 1 + length rest ≤ length ts
integer_takes unsigned = omega arith
integer_takes plus = omega arith
integer_takes minus = omega arith

pub constant_takes : {ts rest : List Tok} {x : Constant} → IsConstant ts x rest → 1 + length rest ≤ length ts
constant_takes (integer d) = integer_takes d
constant_takes typed = omega arith
constant_takes duration = omega arith
constant_takes truth = omega arith
constant_takes falsehood = omega arith

mutual
  pub binary_takes : {r : ℕ} {ts rest : List Tok} {x : Expression} → IsBinary r ts x rest → expression_length x + length rest ≤ length ts
  binary_takes (unary d) = unary_takes d
  binary_takes (alone d) = binary_takes d
  binary_takes (chain {ts = ts} {x = x} {l = l} {ls = ls} d e) = omega (arith, chain_is (position ts) x (l ∷ ls), binary_takes d, operations_take e)

  operations_take : {r : ℕ} {ts rest : List Tok} {xs : List Operation} → IsOperations r ts xs rest → total (map operation_length xs) + length rest ≤ length ts
  operations_take no_operation = omega arith
  operations_take (operations d e) = omega (arith, operation_takes d, operations_take e)

  operation_takes : {r : ℕ} {ts rest : List Tok} {x : Operation} → IsOperation r ts x rest → operation_length x + length rest ≤ length ts
  operation_takes (operation {p = p} {op = op} {x = x} is of d) = omega (arith, operation_is (operation_of p op x), binary_takes d)

  unary_takes : {ts rest : List Tok} {x : Expression} → IsUnary ts x rest → expression_length x + length rest ≤ length ts
  unary_takes (negation {p = p} {x = x} other d) = omega (arith, negation_is p x, primary_takes d)
  unary_takes (complement {p = p} {x = x} d) = omega (arith, complement_is p x, primary_takes d)
  unary_takes (primary d) = primary_takes d

  primary_takes : {ts rest : List Tok} {x : Expression} → IsPrimary ts x rest → expression_length x + length rest ≤ length ts
  primary_takes (constant {x = x} d) = omega (arith, literal_is x, constant_takes d)
  primary_takes (variable {x = x} d) = omega (arith, place_is x, variable_takes d)
  primary_takes (call {x = x} d) = omega (arith, value_is x, call_takes d)
  primary_takes (parenthesized {p = p} {x = x} d) = omega (arith, parenthesized_is p x, binary_takes d)

  pub variable_takes : {ts rest : List Tok} {x : Variable} → IsVariable ts x rest → variable_length x + length rest ≤ length ts
  variable_takes (named {p = p} {n = n} {ps = ps} d) = omega (arith, variable_is (variable_of (identifier_of p n) ps), parts_take d)

  parts_take : {ts rest : List Tok} {xs : List Part} → IsParts ts xs rest → total (map part_length xs) + length rest ≤ length ts
  parts_take no_part = omega arith
  parts_take (parts d e) = omega (arith, part_takes d, parts_take e)

  part_takes : {ts rest : List Tok} {x : Part} → IsPart ts x rest → part_length x + length rest ≤ length ts
  part_takes (field {q = q} {n = n}) = omega (arith, field_is (identifier_of q n))
  part_takes (subscripts {p = p} {x = x} {xs = xs} d e) = omega (arith, subscripts_is p (x ∷ xs), binary_takes d, expressions_take e)

  expressions_take : {ts rest : List Tok} {xs : List Expression} → IsNextExpressions ts xs rest → total (map expression_length xs) + length rest ≤ length ts
  expressions_take no_expression = omega arith
  expressions_take (next_expressions d e) = omega (arith, binary_takes d, expressions_take e)

  pub call_takes : {ts rest : List Tok} {x : Call} → IsCall ts x rest → call_length x + length rest ≤ length ts
  call_takes (called {p = p} {n = n} {xs = xs} d) = omega (arith, call_is (call_of (identifier_of p n) xs), arguments_take d)

  arguments_take : {ts rest : List Tok} {xs : List Argument} → IsArguments ts xs rest → total (map argument_length xs) + length rest ≤ length ts
  arguments_take no_arguments = omega arith
  arguments_take (arguments d e) = omega (arith, argument_takes d, next_arguments_take e)

  next_arguments_take : {ts rest : List Tok} {xs : List Argument} → IsNextArguments ts xs rest → total (map argument_length xs) + length rest ≤ length ts
  next_arguments_take no_argument = omega arith
  next_arguments_take (next_arguments d e) = omega (arith, argument_takes d, next_arguments_take e)

  argument_takes : {ts rest : List Tok} {x : Argument} → IsArgument ts x rest → argument_length x + length rest ≤ suc (length ts)
  argument_takes (positional {x = x} d) = omega (arith, positional_is x, binary_takes d)
  argument_takes (input {p = p} {n = n} {x = x} d) = omega (arith, input_is (identifier_of p n) x, binary_takes d)
  argument_takes (output {p = p} {n = n} {x = x} d) = omega (arith, output_is (identifier_of p n) x, variable_takes d)
