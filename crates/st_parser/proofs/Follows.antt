-- What may follow an expression, and how its parts begin.
use Rattle.std.proofs.Common.{◌≡◌, ℕ, suc, ◌<◌, List, ◌∷◌, refl, sym, ap, subst, Bool, true, false, arith}
use lib.Dec.{eqb→eq, T}
use Rattle.std.proofs.Math.Dec.{eqb_refl}
use Rattle.std.specs.Prelude.{Option, Some, None, ◌==◌}
use Rattle.st_tokens.specs.declared.keyword.Keyword.TheVariants as keywords
use Rattle.st_tokens.specs.declared.symbol.Symbol.TheVariants as symbols
use Rattle.st_tokens.specs.declared.token.Kind.TheVariants as token_kinds
use Rattle.st_parser.specs.Grammar.Expressions.{IsSignedInteger, unsigned, plus, minus, IsConstant, integer, typed, duration, truth, falsehood, IsBinary, unary, alone, chain, IsOperations, operations, IsOperation, operation, IsUnary, negation, complement, primary, IsPrimary, constant, variable, call, parenthesized, named, no_part, parts, IsPart, field, subscripts, called, no_arguments, arguments, IsArgument, positional, input, output, operator_of, precedence_of}
use Rattle.st_parser.specs.Reader.Expressions.{begins_part, is_operator, has_precedence, operator_at}
use Rattle.st_parser.specs.Grammar.Tokens.{Tok, kind}
use Rattle.st_parser.specs.Names.{Argument, BinOp, Constant, Expression, Kind, Operation, Part, Position, SignedInteger}

-- the next operator has a precedence above n
abbrev pub Above : ℕ → Option BinOp → Type 0
Above n (Some op) = n < precedence_of op
Above n None = Unit {0}

-- an expression of precedence n can't go on here
abbrev pub Stops : ℕ → Option Kind → Type 0
Stops n (Some (token_kinds.Symbol symbols.Dot)) = ⊥
Stops n (Some (token_kinds.Symbol symbols.OpenBracket)) = ⊥
Stops n (Some (token_kinds.Symbol symbols.Open)) = ⊥
Stops n t = Above n (operator_at t)

above_less : (n : ℕ) (op : Option BinOp) → Above (suc n) op → Above n op
above_less n (Some op) h = omega arith
above_less n None h = tt

pub stops_less : (n : ℕ) (t : Option Kind) → Stops (suc n) t → Stops n t
stops_less n (Some (token_kinds.Symbol symbols.Dot)) h = h
stops_less n (Some (token_kinds.Symbol symbols.OpenBracket)) h = h
stops_less n (Some (token_kinds.Symbol symbols.Open)) h = h
stops_less n t h = above_less n (operator_at t) h

above_is : (n : ℕ) (t : Kind) (op : BinOp) → operator_of t ≡ Some op → n < precedence_of op → Above n (operator_of t)
above_is n t op is above = subst (λ x. Above n x) (sym is) above

-- an operator of precedence n+1 may follow an expression of precedence n
pub stops_at : (n : ℕ) (t : Kind) (op : BinOp) → operator_of t ≡ Some op → n < precedence_of op → Stops n (Some t)
stops_at n (token_kinds.Symbol symbols.Dot) op is above = absurd (cc)
stops_at n (token_kinds.Symbol symbols.OpenBracket) op is above = absurd (cc)
stops_at n (token_kinds.Symbol symbols.Open) op is above = absurd (cc)
stops_at n t op is above = above_is n t op is above

pub stops_part : (n : ℕ) (t : Option Kind) → Stops n t → begins_part t ≡ false
stops_part n (Some (token_kinds.Symbol symbols.Dot)) h = absurd h
stops_part n (Some (token_kinds.Symbol symbols.OpenBracket)) h = absurd h
stops_part n _ h = refl

other_precedence : (a b : ℕ) → (a ≡ b → ⊥) → (a == b) ≡ false
other_precedence a b differ = by (a == b) refl where
  by : (v : Bool) → (a == b) ≡ v → v ≡ false
  by false h = refl
  by true h = absurd (differ (eqb→eq a b (subst T (sym h) tt)))

pub same_precedence : (a b : ℕ) → a ≡ b → (a == b) ≡ true
same_precedence a b h = subst (λ c. (a == c) ≡ true) h (by (a == a) refl) where
  by : (v : Bool) → (a == a) ≡ v → v ≡ true
  by true g = refl
  by false g = absurd (subst T g (eqb_refl a))

pub precedence_is : (a b : ℕ) → (a == b) ≡ true → a ≡ b
precedence_is a b h = eqb→eq a b (subst T (sym h) tt)

above_none : (n : ℕ) (op : Option BinOp) → Above (suc n) op → has_precedence (suc n) op ≡ false
above_none n (Some op) h = other_precedence (precedence_of op) (suc n) (λ e. omega (arith, e, h))
above_none n None h = refl

pub stops_operator : (n : ℕ) (t : Option Kind) → Stops (suc n) t → is_operator n t ≡ false
stops_operator n (Some (token_kinds.Symbol symbols.Dot)) h = absurd h
stops_operator n (Some (token_kinds.Symbol symbols.OpenBracket)) h = absurd h
stops_operator n (Some (token_kinds.Symbol symbols.Open)) h = absurd h
stops_operator n t h = above_none n (operator_at t) h

-- ---- first tokens

-- an integer begins so
abbrev pub begins_integer : Option Kind → Bool
begins_integer (Some (token_kinds.Number n)) = true
begins_integer (Some (token_kinds.Symbol symbols.Plus)) = true
begins_integer (Some (token_kinds.Symbol symbols.Minus)) = true
begins_integer _ = false

pub integer_begins : {ts rest : List Tok} {x : SignedInteger} → IsSignedInteger ts x rest → begins_integer (kind ts) ≡ true
integer_begins unsigned = refl
integer_begins plus = refl
integer_begins minus = refl

-- a literal begins so
abbrev pub begins_constant : Option Kind → Bool
begins_constant (Some (token_kinds.Typed elem n)) = true
begins_constant (Some (token_kinds.Duration d)) = true
begins_constant (Some (token_kinds.Keyword keywords.True)) = true
begins_constant (Some (token_kinds.Keyword keywords.False)) = true
begins_constant t = begins_integer t

from_integer : (t : Option Kind) → begins_integer t ≡ true → begins_constant t ≡ true
from_integer (Some (token_kinds.Typed elem n)) h = refl
from_integer (Some (token_kinds.Duration d)) h = refl
from_integer (Some (token_kinds.Keyword keywords.True)) h = refl
from_integer (Some (token_kinds.Keyword keywords.False)) h = refl
from_integer _ h = h

pub constant_begins : {ts rest : List Tok} {x : Constant} → IsConstant ts x rest → begins_constant (kind ts) ≡ true
constant_begins {ts} (integer d) = from_integer (kind ts) (integer_begins d)
constant_begins typed = refl
constant_begins duration = refl
constant_begins truth = refl
constant_begins falsehood = refl

-- a primary expression begins so
abbrev pub begins_primary : Option Kind → Bool
begins_primary (Some (token_kinds.Word n)) = true
begins_primary (Some (token_kinds.Symbol symbols.Open)) = true
begins_primary t = begins_constant t

from_constant : (t : Option Kind) → begins_constant t ≡ true → begins_primary t ≡ true
from_constant (Some (token_kinds.Word n)) h = refl
from_constant (Some (token_kinds.Symbol symbols.Open)) h = refl
from_constant _ h = h

pub primary_begins : {ts rest : List Tok} {x : Expression} → IsPrimary ts x rest → begins_primary (kind ts) ≡ true
primary_begins {ts} (constant d) = from_constant (kind ts) (constant_begins d)
primary_begins (variable (named d)) = refl
primary_begins (call (called d)) = refl
primary_begins (parenthesized d) = refl

-- an expression begins so
abbrev pub begins_expression : Option Kind → Bool
begins_expression (Some (token_kinds.Keyword keywords.Not)) = true
begins_expression t = begins_primary t

from_primary : (t : Option Kind) → begins_primary t ≡ true → begins_expression t ≡ true
from_primary (Some (token_kinds.Keyword keywords.Not)) h = refl
from_primary _ h = h

pub binary_begins : {n : ℕ} {ts rest : List Tok} {x : Expression} → IsBinary n ts x rest → begins_expression (kind ts) ≡ true
binary_begins (unary (negation h d)) = refl
binary_begins (unary (complement d)) = refl
binary_begins {ts = ts} (unary (primary d)) = from_primary (kind ts) (primary_begins d)
binary_begins (alone d) = binary_begins d
binary_begins (chain d m) = binary_begins d

pub part_begins : (ts : List Tok) (x : Part) (rest : List Tok) → IsPart ts x rest → begins_part (kind ts) ≡ true
part_begins ts x rest field = refl
part_begins ts x rest (subscripts d m) = refl

pub argument_begins : {ts rest : List Tok} {x : Argument} → IsArgument ts x rest → begins_expression (kind ts) ≡ true
argument_begins (positional d) = binary_begins d
argument_begins (input d) = refl
argument_begins (output d) = refl

operation_by : (n : ℕ) (t : Kind) (op : BinOp) → operator_of t ≡ Some op → precedence_of op ≡ suc n → is_operator n (Some t) ≡ true
operation_by n t op is precedence = subst (λ x. has_precedence (suc n) x ≡ true) (sym is) (same_precedence (precedence_of op) (suc n) precedence)

pub operation_begins : (n : ℕ) (ts : List Tok) (x : Operation) (rest : List Tok) → IsOperation n ts x rest → is_operator n (kind ts) ≡ true
operation_begins n ts x rest (operation {t = t} {op = op} is precedence d) = operation_by n t op is precedence

-- ---- a word, and a token that no expression has after one

-- such a token
abbrev pub Ending : Kind → Type 0
Ending t = (Stops 7 (Some t)) × (operator_of t ≡ None)

operation_not : {n : ℕ} {t : Kind} {ts rest : List Tok} {l : Operation} {ls : List Operation} → kind ts ≡ Some t → operator_of t ≡ None → IsOperations n ts (l ∷ ls) rest → ⊥
operation_not {t = t} first nothing (operations (operation {t = u} {op = op} is precedence d) m) =
    let same : u ≡ t = cc (first) in let e = ap operator_of same in absurd (cc (e, is, nothing))

primary_word : {p q : Position} {n : List ℕ} {t : Kind} {us rest : List Tok} {x : Expression} → Stops 7 (Some t) → IsPrimary ((p, token_kinds.Word n) ∷ (q, t) ∷ us) x rest → kind rest ≡ Some t
primary_word stops (constant (integer d)) = absurd (let e = integer_begins d in cc)
primary_word stops (variable (named no_part)) = refl
primary_word stops (variable (named (parts field m))) = absurd stops
primary_word stops (variable (named (parts (subscripts d e) m))) = absurd stops
primary_word stops (call (called no_arguments)) = absurd stops
primary_word stops (call (called (arguments d m))) = absurd stops

unary_word : {p q : Position} {n : List ℕ} {t : Kind} {us rest : List Tok} {x : Expression} → Stops 7 (Some t) → IsUnary ((p, token_kinds.Word n) ∷ (q, t) ∷ us) x rest → kind rest ≡ Some t
unary_word stops (primary d) = primary_word stops d

-- where such a token comes after a word, an expression ends before it
pub binary_word : {r : ℕ} {p q : Position} {n : List ℕ} {t : Kind} {us rest : List Tok} {x : Expression} → Ending t → IsBinary r ((p, token_kinds.Word n) ∷ (q, t) ∷ us) x rest → kind rest ≡ Some t
binary_word e (unary d) = unary_word e.0 d
binary_word e (alone d) = binary_word e d
binary_word e (chain d m) = absurd (operation_not (binary_word e d) e.1 m)
