-- The grammar of expressions (IEC 61131-3:2003, annex B.3.1). `IsX ts x rest`: the tokens ts, up to rest, are the X x.
use Rattle.std.specs.Prelude.{◌≡◌, ℕ, suc, Bool, true, false, ℤ, List, [], ◌∷◌, Option, Some, None}
use Rattle.st_tokens.specs.declared.keyword.Keyword.TheVariants as keywords
use Rattle.st_tokens.specs.declared.symbol.Symbol.TheVariants as symbols
use Rattle.st_tokens.specs.declared.token.Kind.TheVariants as token_kinds
use Rattle.st_tree.specs.declared.operator.BinOp.TheVariants as operators
use Rattle.st_values.specs.declared.elem.Elem.{Elem}
use Rattle.st_tree.specs.declared.tree.constant.Constant.TheVariants as constants
use Rattle.st_tree.specs.declared.tree.expression.Expression.TheVariants as expressions
use Rattle.st_tree.specs.declared.tree.expression.Operation.{roll-Operation}
use Rattle.st_tree.specs.declared.tree.expression.Variable.{roll-Variable}
use Rattle.st_tree.specs.declared.tree.expression.Part.TheVariants as part_kinds
use Rattle.st_tree.specs.declared.tree.expression.Call.{roll-Call}
use Rattle.st_tree.specs.declared.tree.expression.Argument.TheVariants as argument_kinds
use Rattle.st_parser.specs.Grammar.Tokens.{identifier_of, Tok, kind, position}
use Rattle.st_parser.specs.Names.{Argument, BinOp, Call, Constant, Duration, Expression, Identifier, Kind, Operation, Part, Position, SignedInteger, Variable}

-- ---- what the nodes are made of

abbrev pub integer_of : Position → Bool → ℕ → SignedInteger
integer_of p negative n = record { position = p; is_negative = negative; magnitude = n }

abbrev pub typed_of : Position → Elem → ℤ → Constant
typed_of p elem n = constants.Typed p (record { elem = elem; bits = n })

abbrev pub duration_of : Position → ℤ → Duration
duration_of p d = record { position = p; milliseconds = d }

abbrev pub operation_of : Position → BinOp → Expression → Operation
operation_of p op x = roll-Operation (record { position = p; operator = op; operand = x })

abbrev pub variable_of : Identifier → List Part → Variable
variable_of name ps = roll-Variable (record { name = name; parts = ps })

abbrev pub call_of : Identifier → List Argument → Call
call_of name xs = roll-Call (record { name = name; arguments = xs })

-- the operator that a token is
abbrev pub operator_of : Kind → Option BinOp
operator_of (token_kinds.Keyword keywords.Or) = Some operators.Or
operator_of (token_kinds.Keyword keywords.Xor) = Some operators.Xor
operator_of (token_kinds.Keyword keywords.And) = Some operators.And
operator_of (token_kinds.Symbol symbols.Ampersand) = Some operators.And
operator_of (token_kinds.Symbol symbols.Equal) = Some operators.Eq
operator_of (token_kinds.Symbol symbols.NotEqual) = Some operators.Ne
operator_of (token_kinds.Symbol symbols.Less) = Some operators.Lt
operator_of (token_kinds.Symbol symbols.Greater) = Some operators.Gt
operator_of (token_kinds.Symbol symbols.LessEqual) = Some operators.Le
operator_of (token_kinds.Symbol symbols.GreaterEqual) = Some operators.Ge
operator_of (token_kinds.Symbol symbols.Plus) = Some operators.Add
operator_of (token_kinds.Symbol symbols.Minus) = Some operators.Sub
operator_of (token_kinds.Symbol symbols.Times) = Some operators.Mul
operator_of (token_kinds.Symbol symbols.Divide) = Some operators.Div
operator_of (token_kinds.Keyword keywords.Mod) = Some operators.Mod
operator_of _ = None

-- The operators' precedence (3.3.1, table 55): each binds its operands before those of a higher number do.
abbrev pub precedence_of : BinOp → ℕ
precedence_of operators.Mul = 1
precedence_of operators.Div = 1
precedence_of operators.Mod = 1
precedence_of operators.Add = 2
precedence_of operators.Sub = 2
precedence_of operators.Lt = 3
precedence_of operators.Gt = 3
precedence_of operators.Le = 3
precedence_of operators.Ge = 3
precedence_of operators.Eq = 4
precedence_of operators.Ne = 4
precedence_of operators.And = 5
precedence_of operators.Xor = 6
precedence_of operators.Or = 7

-- the first token is a number
abbrev pub IsNumberFirst : Option Kind → Type 0
IsNumberFirst (Some (token_kinds.Number n)) = Unit {0}
IsNumberFirst _ = ⊥

-- ---- literals

-- ['+' | '-'] number
pub data IsSignedInteger : List Tok → SignedInteger → List Tok → Type 0 where
  unsigned : {p : Position} {n : ℕ} {rest : List Tok} → IsSignedInteger ((p, token_kinds.Number n) ∷ rest) (integer_of p false n) rest
  plus : {p q : Position} {n : ℕ} {rest : List Tok}
      → IsSignedInteger ((p, token_kinds.Symbol symbols.Plus) ∷ (q, token_kinds.Number n) ∷ rest) (integer_of p false n) rest
  minus : {p q : Position} {n : ℕ} {rest : List Tok}
      → IsSignedInteger ((p, token_kinds.Symbol symbols.Minus) ∷ (q, token_kinds.Number n) ∷ rest) (integer_of p true n) rest

-- signed integer | typed literal | duration | TRUE | FALSE
pub data IsConstant : List Tok → Constant → List Tok → Type 0 where
  integer : {ts rest : List Tok} {i : SignedInteger} → IsSignedInteger ts i rest → IsConstant ts (constants.Integer i) rest
  typed : {p : Position} {elem : Elem} {n : ℤ} {rest : List Tok} → IsConstant ((p, token_kinds.Typed elem n) ∷ rest) (typed_of p elem n) rest
  duration : {p : Position} {d : ℤ} {rest : List Tok} → IsConstant ((p, token_kinds.Duration d) ∷ rest) (constants.Duration (duration_of p d)) rest
  truth : {p : Position} {rest : List Tok} → IsConstant ((p, token_kinds.Keyword keywords.True) ∷ rest) (constants.Bool p true) rest
  falsehood : {p : Position} {rest : List Tok} → IsConstant ((p, token_kinds.Keyword keywords.False) ∷ rest) (constants.Bool p false) rest

-- ---- expressions

mutual
  -- operand { operator operand }, where the operators have precedence n, and the operands are n - 1. At 0 it is a unary expression, and at 7 any.
  pub data IsBinary : ℕ → List Tok → Expression → List Tok → Type 0 where
    unary : {ts rest : List Tok} {x : Expression} → IsUnary ts x rest → IsBinary 0 ts x rest
    alone : {r : ℕ} {ts rest : List Tok} {x : Expression} → IsBinary r ts x rest → IsBinary (suc r) ts x rest
    chain : {r : ℕ} {ts mid rest : List Tok} {x : Expression} {l : Operation} {ls : List Operation}
        → IsBinary r ts x mid → IsOperations r mid (l ∷ ls) rest → IsBinary (suc r) ts (expressions.Chain (position ts) x (l ∷ ls)) rest

  pub data IsOperations : ℕ → List Tok → List Operation → List Tok → Type 0 where
    no_operation : {r : ℕ} {ts : List Tok} → IsOperations r ts [] ts
    operations : {r : ℕ} {ts mid rest : List Tok} {l : Operation} {ls : List Operation}
        → IsOperation r ts l mid → IsOperations r mid ls rest → IsOperations r ts (l ∷ ls) rest

  -- operator operand, where the operator has precedence r + 1, and the operand is r
  pub data IsOperation : ℕ → List Tok → Operation → List Tok → Type 0 where
    operation : {r : ℕ} {ts rest : List Tok} {p : Position} {t : Kind} {op : BinOp} {x : Expression}
        → operator_of t ≡ Some op → precedence_of op ≡ suc r → IsBinary r ts x rest
        → IsOperation r ((p, t) ∷ ts) (operation_of p op x) rest

  -- ['-' | NOT] primary. A '-' before a number belongs to the number.
  pub data IsUnary : List Tok → Expression → List Tok → Type 0 where
    negation : {ts rest : List Tok} {p : Position} {x : Expression} → (IsNumberFirst (kind ts) → ⊥) → IsPrimary ts x rest
        → IsUnary ((p, token_kinds.Symbol symbols.Minus) ∷ ts) (expressions.Negate p x) rest
    complement : {ts rest : List Tok} {p : Position} {x : Expression} → IsPrimary ts x rest
        → IsUnary ((p, token_kinds.Keyword keywords.Not) ∷ ts) (expressions.Not p x) rest
    primary : {ts rest : List Tok} {x : Expression} → IsPrimary ts x rest → IsUnary ts x rest

  -- literal | variable | call | '(' expression ')'
  pub data IsPrimary : List Tok → Expression → List Tok → Type 0 where
    constant : {ts rest : List Tok} {x : Constant} → IsConstant ts x rest → IsPrimary ts (expressions.Constant x) rest
    variable : {ts rest : List Tok} {x : Variable} → IsVariable ts x rest → IsPrimary ts (expressions.Variable x) rest
    call : {ts rest : List Tok} {x : Call} → IsCall ts x rest → IsPrimary ts (expressions.Call x) rest
    parenthesized : {p q : Position} {ts rest : List Tok} {x : Expression} → IsBinary 7 ts x ((q, token_kinds.Symbol symbols.Close) ∷ rest)
        → IsPrimary ((p, token_kinds.Symbol symbols.Open) ∷ ts) (expressions.Parenthesized p x) rest

  -- word { part }
  pub data IsVariable : List Tok → Variable → List Tok → Type 0 where
    named : {p : Position} {n : List ℕ} {ts rest : List Tok} {ps : List Part} → IsParts ts ps rest
        → IsVariable ((p, token_kinds.Word n) ∷ ts) (variable_of (identifier_of p n) ps) rest

  pub data IsParts : List Tok → List Part → List Tok → Type 0 where
    no_part : {ts : List Tok} → IsParts ts [] ts
    parts : {ts mid rest : List Tok} {x : Part} {xs : List Part} → IsPart ts x mid → IsParts mid xs rest
        → IsParts ts (x ∷ xs) rest

  -- '.' word | '[' expression { ',' expression } ']'
  pub data IsPart : List Tok → Part → List Tok → Type 0 where
    field : {p q : Position} {n : List ℕ} {rest : List Tok}
        → IsPart ((p, token_kinds.Symbol symbols.Dot) ∷ (q, token_kinds.Word n) ∷ rest) (part_kinds.Field (identifier_of q n)) rest
    subscripts : {p q : Position} {ts mid rest : List Tok} {x : Expression} {xs : List Expression}
        → IsBinary 7 ts x mid → IsNextExpressions mid xs ((q, token_kinds.Symbol symbols.CloseBracket) ∷ rest)
        → IsPart ((p, token_kinds.Symbol symbols.OpenBracket) ∷ ts) (part_kinds.Subscripts p (x ∷ xs)) rest

  -- { ',' expression }
  pub data IsNextExpressions : List Tok → List Expression → List Tok → Type 0 where
    no_expression : {ts : List Tok} → IsNextExpressions ts [] ts
    next_expressions : {p : Position} {ts mid rest : List Tok} {x : Expression} {xs : List Expression} → IsBinary 7 ts x mid
        → IsNextExpressions mid xs rest → IsNextExpressions ((p, token_kinds.Symbol symbols.Comma) ∷ ts) (x ∷ xs) rest

  -- word arguments
  pub data IsCall : List Tok → Call → List Tok → Type 0 where
    called : {p : Position} {n : List ℕ} {ts rest : List Tok} {xs : List Argument} → IsArguments ts xs rest
        → IsCall ((p, token_kinds.Word n) ∷ ts) (call_of (identifier_of p n) xs) rest

  -- '(' [ argument { ',' argument } ] ')'
  pub data IsArguments : List Tok → List Argument → List Tok → Type 0 where
    no_arguments : {p q : Position} {rest : List Tok} → IsArguments ((p, token_kinds.Symbol symbols.Open) ∷ (q, token_kinds.Symbol symbols.Close) ∷ rest) [] rest
    arguments : {p q : Position} {ts mid rest : List Tok} {x : Argument} {xs : List Argument}
        → IsArgument ts x mid → IsNextArguments mid xs ((q, token_kinds.Symbol symbols.Close) ∷ rest)
        → IsArguments ((p, token_kinds.Symbol symbols.Open) ∷ ts) (x ∷ xs) rest

  -- { ',' argument }
  pub data IsNextArguments : List Tok → List Argument → List Tok → Type 0 where
    no_argument : {ts : List Tok} → IsNextArguments ts [] ts
    next_arguments : {p : Position} {ts mid rest : List Tok} {x : Argument} {xs : List Argument} → IsArgument ts x mid
        → IsNextArguments mid xs rest → IsNextArguments ((p, token_kinds.Symbol symbols.Comma) ∷ ts) (x ∷ xs) rest

  -- expression | word ':=' expression | word '=>' variable
  pub data IsArgument : List Tok → Argument → List Tok → Type 0 where
    positional : {ts rest : List Tok} {x : Expression} → IsBinary 7 ts x rest → IsArgument ts (argument_kinds.Positional x) rest
    input : {p q : Position} {n : List ℕ} {ts rest : List Tok} {x : Expression} → IsBinary 7 ts x rest
        → IsArgument ((p, token_kinds.Word n) ∷ (q, token_kinds.Symbol symbols.Assign) ∷ ts) (argument_kinds.Input (identifier_of p n) x) rest
    output : {p q : Position} {n : List ℕ} {ts rest : List Tok} {x : Variable} → IsVariable ts x rest
        → IsArgument ((p, token_kinds.Word n) ∷ (q, token_kinds.Symbol symbols.Output) ∷ ts) (argument_kinds.Output (identifier_of p n) x) rest

-- expression
abbrev pub IsExpression : List Tok → Expression → List Tok → Type 0
IsExpression = IsBinary 7
