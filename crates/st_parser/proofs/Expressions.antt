-- The reading functions of expressions read their grammar exactly.
use Rattle.std.proofs.Common.{◌≡◌, ℕ, zero, suc, List, [], ◌∷◌, refl, sym, ap, subst, ◌∙◌, Bool, true, false, arith}
use Rattle.std.specs.Prelude.{Option, Some, None, Ok}
use Rattle.st_tokens.specs.declared.keyword.Keyword.TheVariants as keywords
use Rattle.st_tokens.specs.declared.symbol.Symbol.TheVariants as symbols
use Rattle.st_tokens.specs.declared.token.Kind.TheVariants as token_kinds
use Rattle.st_tree.specs.declared.tree.constant.Constant.TheVariants as constants
use Rattle.st_tree.specs.declared.tree.expression.Expression.TheVariants as expressions
use Rattle.st_tree.specs.declared.tree.expression.Part.TheVariants as part_kinds
use Rattle.st_tree.specs.declared.tree.expression.Argument.TheVariants as argument_kinds
use Rattle.st_parser.specs.Grammar.Expressions.{integer_of, typed_of, duration_of, operation_of, variable_of, call_of, operator_of, precedence_of, IsNumberFirst, IsSignedInteger, unsigned, plus, minus, IsConstant, integer, typed, duration, truth, falsehood, IsBinary, unary, alone, chain, IsOperations, no_operation, operations, IsOperation, operation, IsUnary, negation, complement, primary, IsPrimary, constant, variable, call, parenthesized, IsVariable, named, IsParts, no_part, parts, IsPart, field, subscripts, IsNextExpressions, no_expression, next_expressions, IsCall, called, IsArguments, no_arguments, arguments, IsNextArguments, no_argument, next_arguments, IsArgument, positional, input, output}
use Rattle.st_parser.specs.Grammar.Levels.{opens, closes}
use Rattle.st_parser.specs.Grammar.Lists.{IsMany, none, more, IsNext, comma, IsListed, listed}
use Rattle.st_parser.specs.Reader.Parsers as parser
use Rattle.st_parser.specs.Reader.Parsers.{Deep, Parser, Wrong, and_then}
use Rattle.st_parser.specs.Reader.Expressions as spec
use Rattle.st_parser.specs.Reader.Expressions.{Inside, begins_part}
use Rattle.st_parser.specs.Grammar.Tokens.{Tok, identifier_of, kind, next, position}
use Rattle.st_parser.proofs.Exact.{Relation, Exact, Always, Any, Then, seq, IsOne, one, IsPure, done, IsWord, a_word, IsNumber, a_number, exact_bind, exact_bind_if, exact_as, exact_iff, exact_last, exact_under, exact_pure, made, exact_refuse, exact_by, exact_on, IsFirst, at_first, exact_token, exact_token_if, exact_enter, AfterOpening, exact_symbol, symbol_is, Before, exact_identifier_before, exact_identifier, exact_number, exact_before, Ends, exact_many, exact_listed}
use Rattle.st_parser.proofs.Follows.{Stops, stops_less, stops_at, stops_part, stops_operator, precedence_is, begins_integer, integer_begins, begins_constant, constant_begins, primary_begins, argument_begins, part_begins, operation_begins, binary_word, Ending}
use Rattle.st_parser.proofs.Levels.{At, past, Leads, leads}
use Rattle.st_parser.proofs.Local.{Stays, Steady, by_kind, by_second, kind_first, position_first, steady_second, takes_read, takes_refused}
use Rattle.st_parser.specs.Names.{Argument, BinOp, Call, Constant, Expression, Identifier, Kind, Operation, Part, Position, SignedInteger, Variable}

-- ---- literals

module _ (r : ℕ) where
  plus_exact : Exact 1 (spec.signed false) (IsFirst (token_kinds.Symbol symbols.Plus)) IsSignedInteger Any (At r) (At r)
  unfolding spec.signed
  plus_exact = exact_token (token_kinds.Symbol symbols.Plus) refl {R = IsSignedInteger} (λ p. exact_iff (exact_last (exact_number r) (λ n. integer_of p false n)) (to p) (from p)) where
    to : (p : Position) (ts : List Tok) (x : SignedInteger) (rest : List Tok) → Then IsNumber (λ n. IsPure (integer_of p false n)) ts x rest → IsSignedInteger ((p, token_kinds.Symbol symbols.Plus) ∷ ts) x rest
    to p ts x rest (seq a_number d) = made d (λ y us. IsSignedInteger ((p, token_kinds.Symbol symbols.Plus) ∷ ts) y us) plus

    from : (p : Position) (ts : List Tok) (x : SignedInteger) (rest : List Tok) → IsSignedInteger ((p, token_kinds.Symbol symbols.Plus) ∷ ts) x rest → Then IsNumber (λ n. IsPure (integer_of p false n)) ts x rest
    from p ts x rest plus = seq a_number done

  minus_exact : Exact 1 (spec.signed true) (IsFirst (token_kinds.Symbol symbols.Minus)) IsSignedInteger Any (At r) (At r)
  unfolding spec.signed
  minus_exact = exact_token (token_kinds.Symbol symbols.Minus) refl {R = IsSignedInteger} (λ p. exact_iff (exact_last (exact_number r) (λ n. integer_of p true n)) (to p) (from p)) where
    to : (p : Position) (ts : List Tok) (x : SignedInteger) (rest : List Tok) → Then IsNumber (λ n. IsPure (integer_of p true n)) ts x rest → IsSignedInteger ((p, token_kinds.Symbol symbols.Minus) ∷ ts) x rest
    to p ts x rest (seq a_number d) = made d (λ y us. IsSignedInteger ((p, token_kinds.Symbol symbols.Minus) ∷ ts) y us) minus

    from : (p : Position) (ts : List Tok) (x : SignedInteger) (rest : List Tok) → IsSignedInteger ((p, token_kinds.Symbol symbols.Minus) ∷ ts) x rest → Then IsNumber (λ n. IsPure (integer_of p true n)) ts x rest
    from p ts x rest minus = seq a_number done

  integer_by : (t : Option Kind) → Exact 1 (spec.integer_by t) (λ ts. (kind ts ≡ t) × Always ts) IsSignedInteger Any (At r) (At r)
  integer_by (Some (token_kinds.Number n)) = exact_under (exact_token (token_kinds.Number n) refl {R = IsSignedInteger} (λ p. exact_iff (exact_pure (integer_of p false n) Always Any (At r)) (to p) (from p))) (λ ts p. p.0) (λ t g. g) where
    to : (p : Position) (ts : List Tok) (x : SignedInteger) (rest : List Tok) → IsPure (integer_of p false n) ts x rest → IsSignedInteger ((p, token_kinds.Number n) ∷ ts) x rest
    to p ts x rest d = made d (λ y us. IsSignedInteger ((p, token_kinds.Number n) ∷ ts) y us) unsigned

    from : (p : Position) (ts : List Tok) (x : SignedInteger) (rest : List Tok) → IsSignedInteger ((p, token_kinds.Number n) ∷ ts) x rest → IsPure (integer_of p false n) ts x rest
    from p ts x rest unsigned = done
  integer_by (Some (token_kinds.Symbol symbols.Plus)) = exact_under plus_exact (λ ts p. p.0) (λ t g. g)
  integer_by (Some (token_kinds.Symbol symbols.Minus)) = exact_under minus_exact (λ ts p. p.0) (λ t g. g)
  integer_by _ = exact_refuse 1 _ IsSignedInteger Any (At r) (At r) (λ ts x rest p d. let wrong = subst (λ t. begins_integer t ≡ true) p.0 (integer_begins d) in cc)

  pub signed_integer_exact : Exact 1 spec.signed_integer Always IsSignedInteger Any (At r) (At r)
  unfolding spec.signed_integer
  signed_integer_exact = exact_on kind kind_first spec.integer_by Always IsSignedInteger Any (At r) (At r) integer_by

  typed_to : (elem : _) (n : _) (p : Position) (ts : List Tok) (x : Constant) (rest : List Tok) → IsPure (typed_of p elem n) ts x rest → IsConstant ((p, token_kinds.Typed elem n) ∷ ts) x rest
  typed_to elem n p ts x rest d = made d (λ y us. IsConstant ((p, token_kinds.Typed elem n) ∷ ts) y us) typed

  typed_from : (elem : _) (n : _) (p : Position) (ts : List Tok) (x : Constant) (rest : List Tok) → IsConstant ((p, token_kinds.Typed elem n) ∷ ts) x rest → IsPure (typed_of p elem n) ts x rest
  typed_from elem n p ts x rest typed = done
  typed_from elem n p ts x rest (integer d) = absurd (let wrong = integer_begins d in cc)

  duration_to : (v : _) (p : Position) (ts : List Tok) (x : Constant) (rest : List Tok) → IsPure (constants.Duration (duration_of p v)) ts x rest → IsConstant ((p, token_kinds.Duration v) ∷ ts) x rest
  duration_to v p ts x rest d = made d (λ y us. IsConstant ((p, token_kinds.Duration v) ∷ ts) y us) duration

  duration_from : (v : _) (p : Position) (ts : List Tok) (x : Constant) (rest : List Tok) → IsConstant ((p, token_kinds.Duration v) ∷ ts) x rest → IsPure (constants.Duration (duration_of p v)) ts x rest
  duration_from v p ts x rest duration = done
  duration_from v p ts x rest (integer d) = absurd (let wrong = integer_begins d in cc)

  truth_to : (p : Position) (ts : List Tok) (x : Constant) (rest : List Tok) → IsPure (constants.Bool p true) ts x rest → IsConstant ((p, token_kinds.Keyword keywords.True) ∷ ts) x rest
  truth_to p ts x rest d = made d (λ y us. IsConstant ((p, token_kinds.Keyword keywords.True) ∷ ts) y us) truth

  truth_from : (p : Position) (ts : List Tok) (x : Constant) (rest : List Tok) → IsConstant ((p, token_kinds.Keyword keywords.True) ∷ ts) x rest → IsPure (constants.Bool p true) ts x rest
  truth_from p ts x rest truth = done
  truth_from p ts x rest (integer d) = absurd (let wrong = integer_begins d in cc)

  falsehood_to : (p : Position) (ts : List Tok) (x : Constant) (rest : List Tok) → IsPure (constants.Bool p false) ts x rest → IsConstant ((p, token_kinds.Keyword keywords.False) ∷ ts) x rest
  falsehood_to p ts x rest d = made d (λ y us. IsConstant ((p, token_kinds.Keyword keywords.False) ∷ ts) y us) falsehood

  falsehood_from : (p : Position) (ts : List Tok) (x : Constant) (rest : List Tok) → IsConstant ((p, token_kinds.Keyword keywords.False) ∷ ts) x rest → IsPure (constants.Bool p false) ts x rest
  falsehood_from p ts x rest falsehood = done
  falsehood_from p ts x rest (integer d) = absurd (let wrong = integer_begins d in cc)

  -- a literal that has no rule of its own is a number
  abbrev is_number_first : Option Kind → Bool
  is_number_first (Some (token_kinds.Typed elem n)) = false
  is_number_first (Some (token_kinds.Duration d)) = false
  is_number_first (Some (token_kinds.Keyword keywords.True)) = false
  is_number_first (Some (token_kinds.Keyword keywords.False)) = false
  is_number_first _ = true

  number_to : (ts : List Tok) (x : Constant) (rest : List Tok) → Then IsSignedInteger (λ i. IsPure (constants.Integer i)) ts x rest → IsConstant ts x rest
  number_to ts x rest (seq d e) = made e (λ y us. IsConstant ts y us) (integer d)

  number_from : (ts : List Tok) (x : Constant) (rest : List Tok) → is_number_first (kind ts) ≡ true → IsConstant ts x rest → Then IsSignedInteger (λ i. IsPure (constants.Integer i)) ts x rest
  number_from ts x rest h (integer d) = seq d done
  number_from ts x rest h typed = absurd (cc)
  number_from ts x rest h duration = absurd (cc)
  number_from ts x rest h truth = absurd (cc)
  number_from ts x rest h falsehood = absurd (cc)

  number_constant : (t : Option Kind) → is_number_first t ≡ true
      → Exact 1 (λ ts. and_then (spec.signed_integer ts) (λ i. parser.pure (constants.Integer i))) (λ ts. (kind ts ≡ t) × Always ts) IsConstant Any (At r) (At r)
  number_constant t h = exact_as (exact_last signed_integer_exact constants.Integer) (λ ts p. tt) (λ ts x rest p d. number_to ts x rest d)
      (λ ts x rest p g d. number_from ts x rest (subst (λ u. is_number_first u ≡ true) (sym p.0) h) d) (λ t g. g)

  constant_by : (t : Option Kind) → Exact 1 (spec.constant_by t) (λ ts. (kind ts ≡ t) × Always ts) IsConstant Any (At r) (At r)
  constant_by (Some (token_kinds.Typed elem n)) = exact_under (exact_token (token_kinds.Typed elem n) refl {R = IsConstant} (λ p. exact_iff (exact_pure (typed_of p elem n) Always Any (At r)) (typed_to elem n p) (typed_from elem n p))) (λ ts p. p.0) (λ t g. g)
  constant_by (Some (token_kinds.Duration v)) = exact_under (exact_token (token_kinds.Duration v) refl {R = IsConstant} (λ p. exact_iff (exact_pure (constants.Duration (duration_of p v)) Always Any (At r)) (duration_to v p) (duration_from v p))) (λ ts p. p.0) (λ t g. g)
  constant_by (Some (token_kinds.Keyword keywords.True)) = exact_under (exact_token (token_kinds.Keyword keywords.True) refl {R = IsConstant} (λ p. exact_iff (exact_pure (constants.Bool p true) Always Any (At r)) (truth_to p) (truth_from p))) (λ ts p. p.0) (λ t g. g)
  constant_by (Some (token_kinds.Keyword keywords.False)) = exact_under (exact_token (token_kinds.Keyword keywords.False) refl {R = IsConstant} (λ p. exact_iff (exact_pure (constants.Bool p false) Always Any (At r)) (falsehood_to p) (falsehood_from p))) (λ ts p. p.0) (λ t g. g)
  constant_by t = number_constant t refl

  pub constant_exact : Exact 1 spec.constant Always IsConstant Any (At r) (At r)
  unfolding spec.constant
  constant_exact = exact_on kind kind_first spec.constant_by Always IsConstant Any (At r) (At r) constant_by

-- ---- variables

-- what is read inside one more open level is read exactly
abbrev pub ExactInside : ℕ → Inside → Type 0
ExactInside zero i = Unit {0}
ExactInside (suc r) i = (Exact 1 i.expression Always (IsBinary 7) (Stops 7) (At r) (At r)) × (Exact 1 i.variable Always IsVariable (Stops 0) (At r) (At r))

field_exact : (r : ℕ) → Exact 1 spec.field (IsFirst (token_kinds.Symbol symbols.Dot)) IsPart Any (At r) (At r)
unfolding spec.field
field_exact r = exact_token (token_kinds.Symbol symbols.Dot) refl {R = IsPart} (λ p. exact_iff (exact_last (exact_identifier r) part_kinds.Field) (to p) (from p)) where
  to : (p : Position) (ts : List Tok) (x : Part) (rest : List Tok) → Then IsWord (λ n. IsPure (part_kinds.Field n)) ts x rest → IsPart ((p, token_kinds.Symbol symbols.Dot) ∷ ts) x rest
  to p ts x rest (seq a_word d) = made d (λ y us. IsPart ((p, token_kinds.Symbol symbols.Dot) ∷ ts) y us) field

  from : (p : Position) (ts : List Tok) (x : Part) (rest : List Tok) → IsPart ((p, token_kinds.Symbol symbols.Dot) ∷ ts) x rest → Then IsWord (λ n. IsPure (part_kinds.Field n)) ts x rest
  from p ts x rest field = seq a_word done

to_expressions : {ts rest : List Tok} {xs : List Expression} → IsMany (IsNext (IsBinary 7)) ts xs rest → IsNextExpressions ts xs rest
to_expressions none = no_expression
to_expressions (more (comma d) m) = next_expressions d (to_expressions m)

from_expressions : {ts rest : List Tok} {xs : List Expression} → IsNextExpressions ts xs rest → IsMany (IsNext (IsBinary 7)) ts xs rest
from_expressions no_expression = none
from_expressions (next_expressions d m) = more (comma d) (from_expressions m)

abbrev AreSubscripts : Position → Relation Part
AreSubscripts p = Then (IsListed (IsBinary 7)) (λ xs. Then (IsOne (token_kinds.Symbol symbols.CloseBracket)) (λ q. IsPure (part_kinds.Subscripts p xs)))

subscripts_to : (p : Position) (ts : List Tok) (x : Part) (rest : List Tok) → AreSubscripts p ts x rest → IsPart ((p, token_kinds.Symbol symbols.OpenBracket) ∷ ts) x rest
subscripts_to p ts x rest (seq (listed d m) (seq one e)) = made e (λ y us. IsPart ((p, token_kinds.Symbol symbols.OpenBracket) ∷ ts) y us) (subscripts d (to_expressions m))

subscripts_from : (p : Position) (ts : List Tok) (x : Part) (rest : List Tok) → IsPart ((p, token_kinds.Symbol symbols.OpenBracket) ∷ ts) x rest → AreSubscripts p ts x rest
subscripts_from p ts x rest (subscripts d m) = seq (listed d (from_expressions m)) (seq one done)

subscripts_inside : (r : ℕ) (i : Inside) → ExactInside r i
    → AfterOpening 1 r (λ p ts. and_then (parser.listed i.expression ts) (λ xs us. and_then (parser.expect_symbol symbols.CloseBracket us) (λ q. parser.pure (part_kinds.Subscripts p xs)))) (token_kinds.Symbol symbols.OpenBracket) IsPart Any
subscripts_inside zero i e = tt
subscripts_inside (suc r) i e = λ p. exact_iff
    (exact_before (token_kinds.Symbol symbols.CloseBracket) (exact_listed i.expression (IsBinary 7) (Stops 7) r e.0 tt) (refl, tt) (exact_symbol symbols.CloseBracket r refl) (λ xs q. exact_pure (part_kinds.Subscripts p xs) Always Any (At (suc r))))
    (subscripts_to p) (subscripts_from p)

module _ (r : ℕ) (i : Inside) (e : ExactInside r i) where
  subscripts_exact : Exact 1 (spec.subscripts r i) (IsFirst (token_kinds.Symbol symbols.OpenBracket)) IsPart Any (At r) (At r)
  unfolding spec.subscripts
  subscripts_exact = exact_enter 1 r _ (token_kinds.Symbol symbols.OpenBracket) refl (subscripts_inside r i e)

  part_by : (t : Option Kind) → Exact 1 (spec.part_by r i t) (λ ts. (kind ts ≡ t) × (begins_part (kind ts) ≡ true)) IsPart Any (At r) (At r)
  part_by (Some (token_kinds.Symbol symbols.Dot)) = exact_under (field_exact r) (λ ts p. p.0) (λ t g. g)
  part_by (Some (token_kinds.Symbol symbols.OpenBracket)) = exact_under subscripts_exact (λ ts p. p.0) (λ t g. g)
  part_by _ = exact_under subscripts_exact (λ ts p. let wrong = subst (λ t. begins_part t ≡ true) p.0 p.1 in absurd (cc)) (λ t g. g)

  part_exact : Exact 1 (spec.part_of r i) (λ ts. begins_part (kind ts) ≡ true) IsPart Any (At r) (At r)
  unfolding spec.part_of
  part_exact = exact_on kind kind_first (spec.part_by r i) (λ ts. begins_part (kind ts) ≡ true) IsPart Any (At r) (At r) part_by

to_parts : {ts rest : List Tok} {xs : List Part} → IsMany IsPart ts xs rest → IsParts ts xs rest
to_parts none = no_part
to_parts (more d m) = parts d (to_parts m)

from_parts : {ts rest : List Tok} {xs : List Part} → IsParts ts xs rest → IsMany IsPart ts xs rest
from_parts no_part = none
from_parts (parts d m) = more d (from_parts m)

variable_to : (ts : List Tok) (x : Variable) (rest : List Tok) → Then IsWord (λ n. Then (IsMany IsPart) (λ ps. IsPure (variable_of n ps))) ts x rest → IsVariable ts x rest
variable_to ts x rest (seq a_word (seq m e)) = made e (λ y us. IsVariable ts y us) (named (to_parts m))

variable_from : (ts : List Tok) (x : Variable) (rest : List Tok) → IsVariable ts x rest → Then IsWord (λ n. Then (IsMany IsPart) (λ ps. IsPure (variable_of n ps))) ts x rest
variable_from ts x rest (named m) = seq a_word (seq (from_parts m) done)

pub variable_exact : (r : ℕ) (i : Inside) → ExactInside r i → Exact 1 (spec.variable r i) Always IsVariable (Stops 0) (At r) (At r)
unfolding spec.variable
variable_exact r i e = exact_as
    (exact_bind (exact_identifier r) (λ n. exact_last (exact_many begins_part (spec.part_of r i) IsPart Any (At r) (part_exact r i e) part_begins (λ t h. tt)) (λ ps. variable_of n ps)) (λ n mid rest y d g. tt))
    (λ ts u. u) (λ ts x rest u d. variable_to ts x rest d) (λ ts x rest u g d. variable_from ts x rest d) (λ t g. (stops_part 0 t g, tt))

-- ---- calls

-- what may follow an argument
abbrev pub Closes : Option Kind → Type 0
Closes (Some (token_kinds.Symbol symbols.Comma)) = Unit {0}
Closes (Some (token_kinds.Symbol symbols.Close)) = Unit {0}
Closes _ = ⊥

closes_stops : (n : ℕ) (t : Option Kind) → Closes t → Stops n t
closes_stops n (Some (token_kinds.Symbol symbols.Comma)) g = tt
closes_stops n (Some (token_kinds.Symbol symbols.Close)) g = tt
closes_stops n _ g = absurd g

-- an expression before a closing token doesn't begin with a word and such a token
no_name : (u : Kind) → Ending u → (Closes (Some u) → ⊥) → (ts : List Tok) (n : List ℕ) (x : Expression) (rest : List Tok) → kind ts ≡ Some (token_kinds.Word n) → kind (next ts) ≡ Some u
    → Closes (kind rest) → IsBinary 7 ts x rest → ⊥
no_name u ending never [] n x rest first second g d = cc
no_name u ending never (t ∷ []) n x rest first second g d = cc
no_name u ending never (t ∷ v ∷ ts) n x rest first second g d =
    let word : t.1 ≡ token_kinds.Word n = cc in
    let ends : v.1 ≡ u = cc in
    let d' : IsBinary 7 ((t.0, token_kinds.Word n) ∷ (v.0, u) ∷ ts) x rest = subst (λ y. IsBinary 7 ((t.0, y) ∷ (v.0, u) ∷ ts) x rest) word (subst (λ y. IsBinary 7 (t ∷ (v.0, y) ∷ ts) x rest) ends d) in
    never (subst Closes (binary_word ending d') g)

module _ (r : ℕ) (i : Inside) (e : ExactInside (suc r) i) where
  abbrev IsInput : Relation Argument
  IsInput = Then (Before IsWord (token_kinds.Symbol symbols.Assign)) (λ n. Then (IsBinary 7) (λ x. IsPure (argument_kinds.Input n x)))

  input_to : (ts : List Tok) (x : Argument) (rest : List Tok) → IsInput ts x rest → IsArgument ts x rest
  input_to ts x rest (seq (seq a_word (seq one done)) (seq d p)) = made p (λ y us. IsArgument ts y us) (input d)

  input_from : (n : List ℕ) (ts : List Tok) (x : Argument) (rest : List Tok) → kind ts ≡ Some (token_kinds.Word n) → kind (next ts) ≡ Some (token_kinds.Symbol symbols.Assign) → Closes (kind rest) → IsArgument ts x rest → IsInput ts x rest
  input_from n ts x rest first second g (positional {x = y} d) = absurd (no_name (token_kinds.Symbol symbols.Assign) (tt, refl) (λ u. u) ts n y rest first second g d)
  input_from n ts x rest first second g (input d) = seq (seq a_word (seq one done)) (seq d done)
  input_from n ts x rest first second g (output d) = absurd (cc)

  input_exact : (n : List ℕ) → Exact 1 (spec.input i) (λ ts. (kind (next ts) ≡ Some (token_kinds.Symbol symbols.Assign)) × ((kind ts ≡ Some (token_kinds.Word n)) × Always ts)) IsArgument Closes (At r) (At r)
  unfolding spec.input
  input_exact n = exact_as
      (exact_bind (exact_identifier_before symbols.Assign r refl) (λ m. exact_last e.0 (λ x. argument_kinds.Input m x)) (λ m mid rest y d g. tt))
      (λ ts p. tt) (λ ts x rest p d. input_to ts x rest d) (λ ts x rest p g d. input_from n ts x rest p.1.0 p.0 g d) (λ t g. closes_stops 7 t g)

  abbrev IsOutput : Relation Argument
  IsOutput = Then (Before IsWord (token_kinds.Symbol symbols.Output)) (λ n. Then IsVariable (λ x. IsPure (argument_kinds.Output n x)))

  output_to : (ts : List Tok) (x : Argument) (rest : List Tok) → IsOutput ts x rest → IsArgument ts x rest
  output_to ts x rest (seq (seq a_word (seq one done)) (seq d p)) = made p (λ y us. IsArgument ts y us) (output d)

  output_from : (n : List ℕ) (ts : List Tok) (x : Argument) (rest : List Tok) → kind ts ≡ Some (token_kinds.Word n) → kind (next ts) ≡ Some (token_kinds.Symbol symbols.Output) → Closes (kind rest) → IsArgument ts x rest → IsOutput ts x rest
  output_from n ts x rest first second g (positional {x = y} d) = absurd (no_name (token_kinds.Symbol symbols.Output) (tt, refl) (λ u. u) ts n y rest first second g d)
  output_from n ts x rest first second g (output d) = seq (seq a_word (seq one done)) (seq d done)
  output_from n ts x rest first second g (input d) = absurd (cc)

  output_exact : (n : List ℕ) → Exact 1 (spec.output i) (λ ts. (kind (next ts) ≡ Some (token_kinds.Symbol symbols.Output)) × ((kind ts ≡ Some (token_kinds.Word n)) × Always ts)) IsArgument Closes (At r) (At r)
  unfolding spec.output
  output_exact n = exact_as
      (exact_bind (exact_identifier_before symbols.Output r refl) (λ m. exact_last e.1 (λ x. argument_kinds.Output m x)) (λ m mid rest y d g. tt))
      (λ ts p. tt) (λ ts x rest p d. output_to ts x rest d) (λ ts x rest p g d. output_from n ts x rest p.1.0 p.0 g d) (λ t g. closes_stops 0 t g)

  -- the first two tokens don't name a parameter
  abbrev is_plain : Option Kind → Option Kind → Bool
  is_plain (Some (token_kinds.Word n)) (Some (token_kinds.Symbol symbols.Assign)) = false
  is_plain (Some (token_kinds.Word n)) (Some (token_kinds.Symbol symbols.Output)) = false
  is_plain _ _ = true

  positional_from : (ts : List Tok) (x : Argument) (rest : List Tok) → is_plain (kind ts) (kind (next ts)) ≡ true → IsArgument ts x rest → Then (IsBinary 7) (λ y. IsPure (argument_kinds.Positional y)) ts x rest
  positional_from ts x rest h (positional d) = seq d done
  positional_from ts x rest h (input d) = absurd (cc)
  positional_from ts x rest h (output d) = absurd (cc)

  positional_to : (ts : List Tok) (x : Argument) (rest : List Tok) → Then (IsBinary 7) (λ y. IsPure (argument_kinds.Positional y)) ts x rest → IsArgument ts x rest
  positional_to ts x rest (seq d p) = made p (λ y us. IsArgument ts y us) (positional d)

  positional_exact : (t u : Option Kind) → is_plain t u ≡ true → Exact 1 (spec.positional i) (λ ts. (kind (next ts) ≡ u) × ((kind ts ≡ t) × Always ts)) IsArgument Closes (At r) (At r)
  unfolding spec.positional
  positional_exact t u h = exact_as (exact_last e.0 argument_kinds.Positional) (λ ts p. tt) (λ ts x rest p d. positional_to ts x rest d)
      (λ ts x rest p g d. positional_from ts x rest (subst (λ y. is_plain (kind ts) y ≡ true) (sym p.0) (subst (λ y. is_plain y u ≡ true) (sym p.1.0) h)) d) (λ t g. closes_stops 7 t g)

  argument_by : (t u : Option Kind) → Exact 1 (spec.argument_by i t u) (λ ts. (kind (next ts) ≡ u) × ((kind ts ≡ t) × Always ts)) IsArgument Closes (At r) (At r)
  argument_by (Some (token_kinds.Word n)) (Some (token_kinds.Symbol symbols.Assign)) = input_exact n
  argument_by (Some (token_kinds.Word n)) (Some (token_kinds.Symbol symbols.Output)) = output_exact n
  argument_by t u = positional_exact t u refl

  -- what begins with a word takes it
  word_takes : (n : List ℕ) (p : Position) (us : List Tok) (u : Option Kind) (s : Stays (spec.argument_by i (Some (token_kinds.Word n)) u) ((p, token_kinds.Word n) ∷ us)) → s.taken ≡ [] → ⊥
  unfolding spec.input spec.output spec.positional parser.identifier_before parser.identifier parser.expect
  word_takes n p us (Some (token_kinds.Symbol symbols.Assign)) s nothing =
      takes_refused (spec.input i) _ s nothing ((p, token_kinds.Word n) ∷ []) ((p, token_kinds.Word n) ∷ (p, token_kinds.Symbol symbols.Comma) ∷ []) (Wrong None) (Wrong (Some p)) refl refl refl refl (λ e. cc)
  word_takes n p us (Some (token_kinds.Symbol symbols.Output)) s nothing =
      takes_refused (spec.output i) _ s nothing ((p, token_kinds.Word n) ∷ []) ((p, token_kinds.Word n) ∷ (p, token_kinds.Symbol symbols.Comma) ∷ []) (Wrong None) (Wrong (Some p)) refl refl refl refl (λ e. cc)
  word_takes n p us u s nothing =
      let x : Expression = expressions.Variable (variable_of (identifier_of p n) []) in
      let read : i.expression ((p, token_kinds.Word n) ∷ []) ≡ Ok (x, []) = e.0.read ((p, token_kinds.Word n) ∷ []) x [] tt
      (alone (alone (alone (alone (alone (alone (alone (unary (primary (variable (named no_part))))))))))) tt tt in
      takes_read (spec.positional i) _ s nothing ((p, token_kinds.Word n) ∷ []) (argument_kinds.Positional x) [] refl (rw read refl) (omega arith)

  argument_steady : (t : Option Kind) → Steady (λ ts. kind (next ts)) (spec.argument_by i t) (λ ts. (kind ts ≡ t) × Always ts)
  argument_steady (Some (token_kinds.Word n)) = steady_second (λ ts. kind (next ts)) (spec.argument_by i (Some (token_kinds.Word n))) (λ ts. (kind ts ≡ Some (token_kinds.Word n)) × Always ts) (by_second (λ u. u))
      (λ ts p s nothing. at_first (token_kinds.Word n) (λ us. (u : Option Kind) (s : Stays (spec.argument_by i (Some (token_kinds.Word n)) u) us) → s.taken ≡ [] → ⊥) (word_takes n) ts p.0 (kind (next ts)) s nothing)
  argument_steady _ = λ ts p s rest e. refl

  argument_exact : Exact 1 (spec.argument i) Always IsArgument Closes (At r) (At r)
  unfolding spec.argument
  argument_exact = exact_on kind kind_first (λ t ts. spec.argument_by i t (kind (next ts)) ts) Always IsArgument Closes (At r) (At r)
      (λ t. exact_by (λ ts. kind (next ts)) (spec.argument_by i t) (λ ts. (kind ts ≡ t) × Always ts) (argument_steady t) IsArgument Closes (At r) (At r) (λ u. argument_by t u))

to_arguments : {ts rest : List Tok} {xs : List Argument} → IsMany (IsNext IsArgument) ts xs rest → IsNextArguments ts xs rest
to_arguments none = no_argument
to_arguments (more (comma d) m) = next_arguments d (to_arguments m)

from_arguments : {ts rest : List Tok} {xs : List Argument} → IsNextArguments ts xs rest → IsMany (IsNext IsArgument) ts xs rest
from_arguments no_argument = none
from_arguments (next_arguments d m) = more (comma d) (from_arguments m)

module _ (r : ℕ) (i : Inside) (e : ExactInside (suc r) i) (p : Position) where
  -- after the '('
  abbrev IsRest : Relation (List Argument)
  IsRest ts xs rest = IsArguments ((p, token_kinds.Symbol symbols.Open) ∷ ts) xs rest

  empty_to : (q : Position) (ts : List Tok) (x : List Argument) (rest : List Tok) → IsPure [] ts x rest → IsRest ((q, token_kinds.Symbol symbols.Close) ∷ ts) x rest
  empty_to q ts x rest d = made d (λ y us. IsRest ((q, token_kinds.Symbol symbols.Close) ∷ ts) y us) no_arguments

  empty_from : (q : Position) (ts : List Tok) (x : List Argument) (rest : List Tok) → IsRest ((q, token_kinds.Symbol symbols.Close) ∷ ts) x rest → IsPure [] ts x rest
  empty_from q ts x rest no_arguments = done
  empty_from q ts x rest (arguments d m) = absurd (let wrong = argument_begins d in cc)

  abbrev AreArguments : Relation (List Argument)
  AreArguments = Then (IsListed IsArgument) (λ xs. Then (IsOne (token_kinds.Symbol symbols.Close)) (λ q. IsPure xs))

  full_to : (ts : List Tok) (x : List Argument) (rest : List Tok) → AreArguments ts x rest → IsRest ts x rest
  full_to ts x rest (seq (listed d m) (seq one c)) = made c (λ y us. IsRest ts y us) (arguments d (to_arguments m))

  full_from : (ts : List Tok) (x : List Argument) (rest : List Tok) → parser.is_symbol symbols.Close (kind ts) ≡ false → IsRest ts x rest → AreArguments ts x rest
  full_from ts x rest h no_arguments = absurd (cc)
  full_from ts x rest h (arguments d m) = seq (listed d (from_arguments m)) (seq one done)

  arguments_by : (b : Bool) → Exact 1 (spec.arguments_by i b) (λ ts. (parser.is_symbol symbols.Close (kind ts) ≡ b) × Always ts) IsRest Any (At r) (At (suc r))
  arguments_by true = exact_under (exact_token (token_kinds.Symbol symbols.Close) refl {R = IsRest} (λ q. exact_iff (exact_pure [] Always Any (At (suc r))) (empty_to q) (empty_from q))) (λ ts h. symbol_is symbols.Close (kind ts) h.0) (λ t g. g)
  arguments_by false = exact_as
      (exact_before (token_kinds.Symbol symbols.Close) (exact_listed (spec.argument i) IsArgument Closes r (argument_exact r i e) tt) (refl, tt) (exact_symbol symbols.Close r refl) (λ xs q. exact_pure xs Always Any (At (suc r))))
      (λ ts h. tt) (λ ts x rest h d. full_to ts x rest d) (λ ts x rest h g d. full_from ts x rest h.0 d) (λ t g. g)

  arguments_exact : Exact 1 (spec.arguments i) Always IsRest Any (At r) (At (suc r))
  unfolding spec.arguments
  arguments_exact = exact_on (λ ts. parser.is_symbol symbols.Close (kind ts)) (by_kind (parser.is_symbol symbols.Close)) (spec.arguments_by i) Always IsRest Any (At r) (At (suc r)) arguments_by

-- '(' arguments ')', and what is made of it
abbrev Called : Identifier → Relation Call
Called n = Then IsArguments (λ xs. IsPure (call_of n xs))

called_to : (n : Identifier) (p : Position) (ts : List Tok) (x : Call) (rest : List Tok) → Then (λ us. IsArguments ((p, token_kinds.Symbol symbols.Open) ∷ us)) (λ xs. IsPure (call_of n xs)) ts x rest → Called n ((p, token_kinds.Symbol symbols.Open) ∷ ts) x rest
called_to n p ts x rest (seq d m) = seq d m

called_from : (n : Identifier) (p : Position) (ts : List Tok) (x : Call) (rest : List Tok) → Called n ((p, token_kinds.Symbol symbols.Open) ∷ ts) x rest → Then (λ us. IsArguments ((p, token_kinds.Symbol symbols.Open) ∷ us)) (λ xs. IsPure (call_of n xs)) ts x rest
called_from n p ts x rest (seq d m) = seq d m

called_inside : (r : ℕ) (i : Inside) → ExactInside r i → (n : Identifier)
    → AfterOpening 1 r (λ p ts. and_then (spec.arguments i ts) (λ xs. parser.pure (call_of n xs))) (token_kinds.Symbol symbols.Open) (Called n) Any
called_inside zero i e n = tt
called_inside (suc r) i e n = λ p. exact_iff (exact_last (arguments_exact r i e p) (call_of n)) (called_to n p) (called_from n p)

call_to : (ts : List Tok) (x : Call) (rest : List Tok) → Then IsWord Called ts x rest → IsCall ts x rest
call_to ts x rest (seq a_word (seq d p)) = made p (λ y us. IsCall ts y us) (called d)

call_from : (ts : List Tok) (x : Call) (rest : List Tok) → IsCall ts x rest → Then IsWord Called ts x rest
call_from ts x rest (called d) = seq a_word (seq d done)

word_carries : (t : Option Kind) (ts : List Tok) (n : Identifier) (mid : List Tok) → kind (next ts) ≡ t → IsWord ts n mid → kind mid ≡ t
word_carries t ts n mid h a_word = h

-- where a word and '(' come first
pub call_exact : (r : ℕ) (i : Inside) → ExactInside r i → Exact 1 (spec.call r i) (λ ts. kind (next ts) ≡ Some (token_kinds.Symbol symbols.Open)) IsCall Any (At r) (At r)
unfolding spec.call
call_exact r i e = exact_iff
    (exact_bind_if (exact_under (exact_identifier r) (λ ts p. tt) (λ t g. g)) (λ n. exact_enter 1 r _ (token_kinds.Symbol symbols.Open) refl (called_inside r i e n)) (word_carries (Some (token_kinds.Symbol symbols.Open))) (λ n mid rest y d g. tt))
    call_to call_from

-- ---- operands

parenthesized_to : (p : Position) (ts : List Tok) (x : Expression) (rest : List Tok) → Then (IsBinary 7) (λ y. Then (IsOne (token_kinds.Symbol symbols.Close)) (λ q. IsPure (expressions.Parenthesized p y))) ts x rest
    → IsPrimary ((p, token_kinds.Symbol symbols.Open) ∷ ts) x rest
parenthesized_to p ts x rest (seq d (seq one m)) = made m (λ y us. IsPrimary ((p, token_kinds.Symbol symbols.Open) ∷ ts) y us) (parenthesized d)

parenthesized_from : (p : Position) (ts : List Tok) (x : Expression) (rest : List Tok) → IsPrimary ((p, token_kinds.Symbol symbols.Open) ∷ ts) x rest
    → Then (IsBinary 7) (λ y. Then (IsOne (token_kinds.Symbol symbols.Close)) (λ q. IsPure (expressions.Parenthesized p y))) ts x rest
parenthesized_from p ts x rest (parenthesized d) = seq d (seq one done)
parenthesized_from p ts x rest (variable d) = elim d [ ]
parenthesized_from p ts x rest (call d) = elim d [ ]
parenthesized_from p ts x rest (constant d) = absurd (let wrong = constant_begins d in cc)

parenthesized_inside : (r : ℕ) (i : Inside) → ExactInside r i
    → AfterOpening 1 r (λ p ts. and_then (i.expression ts) (λ x us. and_then (parser.expect_symbol symbols.Close us) (λ q. parser.pure (expressions.Parenthesized p x)))) (token_kinds.Symbol symbols.Open) IsPrimary Any
parenthesized_inside zero i h = tt
parenthesized_inside (suc r) i h = λ p. exact_iff
    (exact_before (token_kinds.Symbol symbols.Close) h.0 tt (exact_symbol symbols.Close r refl) (λ x q. exact_pure (expressions.Parenthesized p x) Always Any (At (suc r)))) (parenthesized_to p) (parenthesized_from p)

call_as : (ts : List Tok) (x : Expression) (rest : List Tok) → Then IsCall (λ y. IsPure (expressions.Call y)) ts x rest → IsPrimary ts x rest
call_as ts x rest (seq d m) = made m (λ y us. IsPrimary ts y us) (call d)

call_back : (n : List ℕ) (ts : List Tok) (x : Expression) (rest : List Tok) → parser.is_symbol symbols.Open (kind (next ts)) ≡ true → kind ts ≡ Some (token_kinds.Word n) → Stops 0 (kind rest) → IsPrimary ts x rest
    → Then IsCall (λ y. IsPure (expressions.Call y)) ts x rest
call_back n ts x rest second first g (call d) = seq d done
call_back n ts x rest second first g (constant d) = absurd (let wrong = subst (λ t. begins_constant t ≡ true) first (constant_begins d) in cc)
call_back n ts x rest second first g (variable (named {ts = us} no_part)) = absurd (subst (Stops 0) (symbol_is symbols.Open (kind us) second) g)
call_back n ts x rest second first g (variable (named (parts field m))) = absurd (cc)
call_back n ts x rest second first g (variable (named (parts (subscripts d k) m))) = absurd (cc)
call_back n ts x rest second first g (parenthesized d) = absurd (cc)

variable_as : (ts : List Tok) (x : Expression) (rest : List Tok) → Then IsVariable (λ y. IsPure (expressions.Variable y)) ts x rest → IsPrimary ts x rest
variable_as ts x rest (seq d m) = made m (λ y us. IsPrimary ts y us) (variable d)

variable_back : (n : List ℕ) (ts : List Tok) (x : Expression) (rest : List Tok) → parser.is_symbol symbols.Open (kind (next ts)) ≡ false → kind ts ≡ Some (token_kinds.Word n) → IsPrimary ts x rest
    → Then IsVariable (λ y. IsPure (expressions.Variable y)) ts x rest
variable_back n ts x rest second first (variable d) = seq d done
variable_back n ts x rest second first (constant d) = absurd (let wrong = subst (λ t. begins_constant t ≡ true) first (constant_begins d) in cc)
variable_back n ts x rest second first (call (called no_arguments)) = absurd (cc)
variable_back n ts x rest second first (call (called (arguments d m))) = absurd (cc)
variable_back n ts x rest second first (parenthesized d) = absurd (cc)

constant_as : (ts : List Tok) (x : Expression) (rest : List Tok) → Then IsConstant (λ y. IsPure (expressions.Constant y)) ts x rest → IsPrimary ts x rest
constant_as ts x rest (seq d m) = made m (λ y us. IsPrimary ts y us) (constant d)

-- no word, and no bracket
abbrev is_literal_first : Option Kind → Bool
is_literal_first (Some (token_kinds.Word n)) = false
is_literal_first (Some (token_kinds.Symbol symbols.Open)) = false
is_literal_first _ = true

constant_back : (ts : List Tok) (x : Expression) (rest : List Tok) → is_literal_first (kind ts) ≡ true → IsPrimary ts x rest → Then IsConstant (λ y. IsPure (expressions.Constant y)) ts x rest
constant_back ts x rest h (constant d) = seq d done
constant_back ts x rest h (variable (named d)) = absurd (cc)
constant_back ts x rest h (call (called d)) = absurd (cc)
constant_back ts x rest h (parenthesized d) = absurd (cc)

is_number_is : (ts : List Tok) → spec.is_number (kind ts) ≡ false → IsNumberFirst (kind ts) → ⊥
is_number_is ((p, token_kinds.Number n) ∷ ts) h d = cc
is_number_is [] h d = d
is_number_is ((p, _) ∷ ts) h d = d

-- a call takes its name
call_takes : (r : ℕ) (i : Inside) (n : List ℕ) (p : Position) (us : List Tok) (s : Stays (spec.named_by r i true) ((p, token_kinds.Word n) ∷ us)) → s.taken ≡ [] → ⊥
unfolding spec.call spec.arguments parser.identifier parser.enter
call_takes zero i n p us s nothing =
    takes_refused (spec.named_by zero i true) _ s nothing ((p, token_kinds.Word n) ∷ []) ((p, token_kinds.Word n) ∷ (p, token_kinds.Symbol symbols.Open) ∷ []) (Deep None) (Deep (Some p)) refl refl refl refl (λ e. cc)
call_takes (suc r) i n p us s nothing =
    takes_read (spec.named_by (suc r) i true) _ s nothing ((p, token_kinds.Word n) ∷ (p, token_kinds.Symbol symbols.Open) ∷ (p, token_kinds.Symbol symbols.Close) ∷ [])
    (expressions.Call (call_of (identifier_of p n) [])) [] refl refl (omega arith)

number_is : (ts : List Tok) → spec.is_number (kind ts) ≡ true → IsNumberFirst (kind ts)
number_is ((p, token_kinds.Number n) ∷ ts) h = tt
number_is [] h = absurd (cc)
number_is ((p, _) ∷ ts) h = absurd (cc)

module _ (r : ℕ) (i : Inside) (h : ExactInside r i) where
  parenthesized_exact : Exact 1 (spec.parenthesized r i) (IsFirst (token_kinds.Symbol symbols.Open)) IsPrimary Any (At r) (At r)
  unfolding spec.parenthesized
  parenthesized_exact = exact_enter 1 r _ (token_kinds.Symbol symbols.Open) refl (parenthesized_inside r i h)

  named_by : (n : List ℕ) (b : Bool) → Exact 1 (spec.named_by r i b) (λ ts. (parser.is_symbol symbols.Open (kind (next ts)) ≡ b) × (kind ts ≡ Some (token_kinds.Word n))) IsPrimary (Stops 0) (At r) (At r)
  named_by n true = exact_as (exact_last (call_exact r i h) expressions.Call) (λ ts p. symbol_is symbols.Open (kind (next ts)) p.0) (λ ts x rest p d. call_as ts x rest d)
      (λ ts x rest p g d. call_back n ts x rest p.0 p.1 g d) (λ t g. tt)
  named_by n false = exact_as (exact_last (variable_exact r i h) expressions.Variable) (λ ts p. tt) (λ ts x rest p d. variable_as ts x rest d)
      (λ ts x rest p g d. variable_back n ts x rest p.0 p.1 d) (λ t g. g)

  named_takes : (n : List ℕ) (p : Position) (us : List Tok) (b : Bool) (s : Stays (spec.named_by r i b) ((p, token_kinds.Word n) ∷ us)) → s.taken ≡ [] → ⊥
  unfolding spec.variable parser.identifier parser.many parser.many_from
  named_takes n p us true s nothing = call_takes r i n p us s nothing
  named_takes n p us false s nothing =
      takes_read (spec.named_by r i false) _ s nothing ((p, token_kinds.Word n) ∷ []) (expressions.Variable (variable_of (identifier_of p n) [])) [] refl refl (omega arith)

  named_steady : (n : List ℕ) → Steady (λ ts. parser.is_symbol symbols.Open (kind (next ts))) (spec.named_by r i) (IsFirst (token_kinds.Word n))
  named_steady n = steady_second (λ ts. parser.is_symbol symbols.Open (kind (next ts))) (spec.named_by r i) (IsFirst (token_kinds.Word n)) (by_second (parser.is_symbol symbols.Open))
      (λ ts p s nothing. at_first (token_kinds.Word n) (λ us. (b : Bool) (s : Stays (spec.named_by r i b) us) → s.taken ≡ [] → ⊥) (named_takes n) ts p (parser.is_symbol symbols.Open (kind (next ts))) s nothing)

  named_exact : (n : List ℕ) → Exact 1 (spec.named r i) (IsFirst (token_kinds.Word n)) IsPrimary (Stops 0) (At r) (At r)
  unfolding spec.named
  named_exact n = exact_by (λ ts. parser.is_symbol symbols.Open (kind (next ts))) (spec.named_by r i) (IsFirst (token_kinds.Word n)) (named_steady n) IsPrimary (Stops 0) (At r) (At r) (named_by n)

  literal_exact : (t : Option Kind) → is_literal_first t ≡ true → Exact 1 (λ ts. and_then (spec.constant ts) (λ x. parser.pure (expressions.Constant x))) (λ ts. (kind ts ≡ t) × Always ts) IsPrimary (Stops 0) (At r) (At r)
  literal_exact t l = exact_as (exact_last (constant_exact r) expressions.Constant) (λ ts p. tt) (λ ts x rest p d. constant_as ts x rest d)
      (λ ts x rest p g d. constant_back ts x rest (subst (λ u. is_literal_first u ≡ true) (sym p.0) l) d) (λ t g. tt)

  primary_by : (t : Option Kind) → Exact 1 (spec.primary_by r i t) (λ ts. (kind ts ≡ t) × Always ts) IsPrimary (Stops 0) (At r) (At r)
  primary_by (Some (token_kinds.Word n)) = exact_under (named_exact n) (λ ts p. p.0) (λ t g. g)
  primary_by (Some (token_kinds.Symbol symbols.Open)) = exact_under parenthesized_exact (λ ts p. p.0) (λ t g. tt)
  primary_by t = literal_exact t refl

  primary_exact : Exact 1 (spec.primary r i) Always IsPrimary (Stops 0) (At r) (At r)
  unfolding spec.primary
  primary_exact = exact_on kind kind_first (spec.primary_by r i) Always IsPrimary (Stops 0) (At r) (At r) primary_by

  complement_to : (p : Position) (ts : List Tok) (x : Expression) (rest : List Tok) → Then IsPrimary (λ y. IsPure (expressions.Not p y)) ts x rest → IsUnary ((p, token_kinds.Keyword keywords.Not) ∷ ts) x rest
  complement_to p ts x rest (seq d m) = made m (λ y us. IsUnary ((p, token_kinds.Keyword keywords.Not) ∷ ts) y us) (complement d)

  complement_from : (p : Position) (ts : List Tok) (x : Expression) (rest : List Tok) → IsUnary ((p, token_kinds.Keyword keywords.Not) ∷ ts) x rest → Then IsPrimary (λ y. IsPure (expressions.Not p y)) ts x rest
  complement_from p ts x rest (complement d) = seq d done
  complement_from p ts x rest (primary d) = absurd (let wrong = primary_begins d in cc)

  complement_exact : Exact 1 (spec.complement r i) (IsFirst (token_kinds.Keyword keywords.Not)) IsUnary (Stops 0) (At r) (At r)
  unfolding spec.complement
  complement_exact = exact_token (token_kinds.Keyword keywords.Not) refl {R = IsUnary} (λ p. exact_iff (exact_last primary_exact (expressions.Not p)) (complement_to p) (complement_from p))

  negation_to : (p : Position) (ts : List Tok) (x : Expression) (rest : List Tok) → spec.is_number (kind ts) ≡ false → Then IsPrimary (λ y. IsPure (expressions.Negate p y)) ts x rest → IsUnary ((p, token_kinds.Symbol symbols.Minus) ∷ ts) x rest
  negation_to p ts x rest apart (seq d m) = made m (λ y us. IsUnary ((p, token_kinds.Symbol symbols.Minus) ∷ ts) y us) (negation (is_number_is ts apart) d)

  negation_from : (p : Position) (ts : List Tok) (x : Expression) (rest : List Tok) → spec.is_number (kind ts) ≡ false → IsUnary ((p, token_kinds.Symbol symbols.Minus) ∷ ts) x rest → Then IsPrimary (λ y. IsPure (expressions.Negate p y)) ts x rest
  negation_from p ts x rest apart (negation n d) = seq d done
  negation_from p ts x rest apart (primary (constant (integer minus))) = absurd (cc)
  negation_from p ts x rest apart (primary (variable d)) = elim d [ ]
  negation_from p ts x rest apart (primary (call d)) = elim d [ ]

  negation_exact : Exact 1 (spec.negation r i) (λ ts. IsFirst (token_kinds.Symbol symbols.Minus) ts × (spec.is_number (kind (next ts)) ≡ false)) IsUnary (Stops 0) (At r) (At r)
  unfolding spec.negation
  negation_exact = exact_token_if (token_kinds.Symbol symbols.Minus) (λ ts. spec.is_number (kind (next ts)) ≡ false) IsUnary (Stops 0) (At r) (At r) (At r) (leads (token_kinds.Symbol symbols.Minus) r refl)
      (λ p. exact_as (exact_last primary_exact (expressions.Negate p)) (λ ts a. tt) (λ ts x rest a d. negation_to p ts x rest a d) (λ ts x rest a g d. negation_from p ts x rest a d) (λ t g. g))

  -- neither NOT nor a '-' before what is no number
  abbrev is_primary_first : Option Kind → Option Kind → Bool
  is_primary_first (Some (token_kinds.Keyword keywords.Not)) u = false
  is_primary_first (Some (token_kinds.Symbol symbols.Minus)) u = spec.is_number u
  is_primary_first _ u = true

  primary_back : (ts : List Tok) (x : Expression) (rest : List Tok) → is_primary_first (kind ts) (kind (next ts)) ≡ true → IsUnary ts x rest → IsPrimary ts x rest
  primary_back ts x rest a (primary d) = d
  primary_back ts x rest a (complement d) = absurd (cc)
  primary_back ts x rest a (negation {ts = us} n d) = absurd (n (number_is us a))

  plain_exact : (t u : Option Kind) → is_primary_first t u ≡ true → Exact 1 (spec.primary r i) (λ ts. (kind (next ts) ≡ u) × ((kind ts ≡ t) × Always ts)) IsUnary (Stops 0) (At r) (At r)
  plain_exact t u a = exact_as primary_exact (λ ts p. tt) (λ ts x rest p d. primary d)
      (λ ts x rest p g d. primary_back ts x rest (subst (λ y. is_primary_first (kind ts) y ≡ true) (sym p.0) (subst (λ y. is_primary_first y u ≡ true) (sym p.1.0) a)) d) (λ t g. g)

  minus_by : (u : Option Kind) (b : Bool) → spec.is_number u ≡ b
      → Exact 1 (spec.minus_by r i b) (λ ts. (kind (next ts) ≡ u) × ((kind ts ≡ Some (token_kinds.Symbol symbols.Minus)) × Always ts)) IsUnary (Stops 0) (At r) (At r)
  minus_by u true a = plain_exact (Some (token_kinds.Symbol symbols.Minus)) u a
  minus_by u false a = exact_under negation_exact (λ ts p. (p.1.0, ap spec.is_number p.0 ∙ a)) (λ t g. g)

  unary_by : (t u : Option Kind) → Exact 1 (spec.unary_by r i t u) (λ ts. (kind (next ts) ≡ u) × ((kind ts ≡ t) × Always ts)) IsUnary (Stops 0) (At r) (At r)
  unary_by (Some (token_kinds.Keyword keywords.Not)) u = exact_under complement_exact (λ ts p. p.1.0) (λ t g. g)
  unary_by (Some (token_kinds.Symbol symbols.Minus)) u = minus_by u (spec.is_number u) refl
  unary_by t u = plain_exact t u refl

  -- a '-' is taken
  minus_takes : (p : Position) (us : List Tok) (b : Bool) (s : Stays (spec.minus_by r i b) ((p, token_kinds.Symbol symbols.Minus) ∷ us)) → s.taken ≡ [] → ⊥
  unfolding spec.primary spec.negation spec.constant spec.signed_integer spec.signed parser.number
  minus_takes p us true s nothing =
      takes_read (spec.primary r i) _ s nothing ((p, token_kinds.Symbol symbols.Minus) ∷ (p, token_kinds.Number 0) ∷ []) (expressions.Constant (constants.Integer (integer_of p true 0))) [] refl refl (omega arith)
  minus_takes p us false s nothing =
      takes_refused (spec.negation r i) _ s nothing ((p, token_kinds.Symbol symbols.Minus) ∷ []) ((p, token_kinds.Symbol symbols.Minus) ∷ (p, token_kinds.Symbol symbols.Comma) ∷ []) (Wrong None) (Wrong (Some p)) refl refl refl refl (λ e. cc)

  unary_steady : (t : Option Kind) → Steady (λ ts. kind (next ts)) (spec.unary_by r i t) (λ ts. (kind ts ≡ t) × Always ts)
  unary_steady (Some (token_kinds.Keyword keywords.Not)) = λ ts p s rest e. refl
  unary_steady (Some (token_kinds.Symbol symbols.Minus)) = steady_second (λ ts. kind (next ts)) (spec.unary_by r i (Some (token_kinds.Symbol symbols.Minus))) (λ ts. (kind ts ≡ Some (token_kinds.Symbol symbols.Minus)) × Always ts)
      (by_second (λ u. u))
      (λ ts p s nothing. at_first (token_kinds.Symbol symbols.Minus) (λ us. (b : Bool) (s : Stays (spec.minus_by r i b) us) → s.taken ≡ [] → ⊥) minus_takes ts p.0 (spec.is_number (kind (next ts))) s nothing)
  unary_steady _ = λ ts p s rest e. refl

  unary_exact : Exact 1 (spec.unary r i) Always IsUnary (Stops 0) (At r) (At r)
  unfolding spec.unary
  unary_exact = exact_on kind kind_first (λ t ts. spec.unary_by r i t (kind (next ts)) ts) Always IsUnary (Stops 0) (At r) (At r)
      (λ t. exact_by (λ ts. kind (next ts)) (spec.unary_by r i t) (λ ts. (kind ts ≡ t) × Always ts) (unary_steady t) IsUnary (Stops 0) (At r) (At r) (λ u. unary_by t u))

-- ---- operators

to_operations : {n : ℕ} {ts rest : List Tok} {xs : List Operation} → IsMany (IsOperation n) ts xs rest → IsOperations n ts xs rest
to_operations none = no_operation
to_operations (more d m) = operations d (to_operations m)

from_operations : {n : ℕ} {ts rest : List Tok} {xs : List Operation} → IsOperations n ts xs rest → IsMany (IsOperation n) ts xs rest
from_operations no_operation = none
from_operations (operations d m) = more d (from_operations m)

has_precedence_is : (n : ℕ) (op : BinOp) → spec.has_precedence n (Some op) ≡ true → precedence_of op ≡ n
has_precedence_is n op h = precedence_is (precedence_of op) n h

module _ (r n : ℕ) (P : Parser Expression) (a : Exact 1 P Always (IsBinary n) (Stops n) (At r) (At r)) where
  operation_to : (p : Position) (t : Kind) (op : BinOp) → operator_of t ≡ Some op → precedence_of op ≡ suc n → (ts : List Tok) (x : Operation) (rest : List Tok)
      → Then (IsBinary n) (λ y. IsPure (operation_of p op y)) ts x rest → IsOperation n ((p, t) ∷ ts) x rest
  operation_to p t op is precedence ts x rest (seq d m) = made m (λ y us. IsOperation n ((p, t) ∷ ts) y us) (operation is precedence d)

  same_some : {x y : BinOp} → ◌≡◌ {A = Option BinOp} (Some x) (Some y) → x ≡ y
  same_some h = cc

  operation_from : (p : Position) (t : Kind) (op : BinOp) → operator_of t ≡ Some op → (ts : List Tok) (x : Operation) (rest : List Tok) → IsOperation n ((p, t) ∷ ts) x rest
      → Then (IsBinary n) (λ y. IsPure (operation_of p op y)) ts x rest
  operation_from p t op is ts x rest (operation {op = other} {x = y} its precedence d) =
      subst (λ o. Then (IsBinary n) (λ y. IsPure (operation_of p o y)) ts (operation_of p other y) rest) (same_some (sym its ∙ is)) (seq d done)

  after_operator : (p : Position) (t : Kind) (op : Option BinOp) → operator_of t ≡ op → spec.has_precedence (suc n) op ≡ true
      → Exact 1 (spec.operation_by P p op) Always (λ us. IsOperation n ((p, t) ∷ us)) (Stops n) (At r) (At r)
  after_operator p t (Some op) is precedence = exact_iff (exact_last a (operation_of p op)) (operation_to p t op is (has_precedence_is (suc n) op precedence)) (operation_from p t op is)
  after_operator p t None is precedence = absurd (cc)

  -- no operator opens a level
  plain_operator : (t : Kind) (op : BinOp) → operator_of t ≡ Some op → opens t ≡ 0
  plain_operator (token_kinds.Symbol symbols.Open) op is = absurd (cc)
  plain_operator (token_kinds.Symbol symbols.OpenBracket) op is = absurd (cc)
  plain_operator (token_kinds.Keyword keywords.If) op is = absurd (cc)
  plain_operator (token_kinds.Keyword keywords.Case) op is = absurd (cc)
  plain_operator (token_kinds.Keyword keywords.For) op is = absurd (cc)
  plain_operator (token_kinds.Keyword keywords.While) op is = absurd (cc)
  plain_operator (token_kinds.Keyword keywords.Repeat) op is = absurd (cc)
  plain_operator t op is = refl

  -- nor closes one
  level_operator : (t : Kind) (op : BinOp) → operator_of t ≡ Some op → closes t ≡ 0
  level_operator (token_kinds.Symbol symbols.Close) op is = absurd (cc)
  level_operator (token_kinds.Symbol symbols.CloseBracket) op is = absurd (cc)
  level_operator (token_kinds.Keyword keywords.EndIf) op is = absurd (cc)
  level_operator (token_kinds.Keyword keywords.EndCase) op is = absurd (cc)
  level_operator (token_kinds.Keyword keywords.EndFor) op is = absurd (cc)
  level_operator (token_kinds.Keyword keywords.EndWhile) op is = absurd (cc)
  level_operator (token_kinds.Keyword keywords.EndRepeat) op is = absurd (cc)
  level_operator t op is = refl

  operator_leads : (t : Kind) (op : Option BinOp) → operator_of t ≡ op → spec.has_precedence (suc n) op ≡ true → Leads (At r) (At r) t
  operator_leads t (Some op) is precedence = subst (λ c. Leads (At r) (At (past c r)) t) (level_operator t op is) (leads t r (plain_operator t op is))
  operator_leads t None is precedence = absurd (cc)

  operator_of_kind : (t : Option Kind) → Exact 1 (λ ts. and_then (parser.bump ts) (λ p. spec.operation_by P p (spec.operator_at t))) (λ ts. (kind ts ≡ t) × (spec.is_operator n (kind ts) ≡ true)) (IsOperation n) (Stops n) (At r) (At r)
  operator_of_kind (Some t) = by (spec.has_precedence (suc n) (operator_of t)) refl where
    by : (b : Bool) → spec.has_precedence (suc n) (operator_of t) ≡ b
        → Exact 1 (λ ts. and_then (parser.bump ts) (λ p. spec.operation_by P p (operator_of t))) (λ ts. (kind ts ≡ Some t) × (spec.is_operator n (kind ts) ≡ true)) (IsOperation n) (Stops n) (At r) (At r)
    by true precedence = exact_under
        (exact_token_if t Always (IsOperation n) (Stops n) (At r) (At r) (At r) (operator_leads t (operator_of t) refl precedence) (λ p. after_operator p t (operator_of t) refl precedence))
        (λ ts p. (p.0, tt)) (λ t g. g)
    by false precedence = record {
      reads = λ ts x rest p h. absurd (let wrong = subst (λ u. spec.is_operator n u ≡ true) p.0 p.1 in cc);
      deep = λ ts at p h q. let wrong = subst (λ u. spec.is_operator n u ≡ true) p.0 p.1 in cc;
      read = λ ts x rest p d g q. absurd (let wrong = subst (λ u. spec.is_operator n u ≡ true) p.0 p.1 in cc);
      local = λ ts p. absurd (let wrong = subst (λ u. spec.is_operator n u ≡ true) p.0 p.1 in cc);
    }
  operator_of_kind None = record {
    reads = λ ts x rest p h. absurd (let wrong = subst (λ u. spec.is_operator n u ≡ true) p.0 p.1 in cc);
    deep = λ ts at p h q. let wrong = subst (λ u. spec.is_operator n u ≡ true) p.0 p.1 in cc;
    read = λ ts x rest p d g q. absurd (let wrong = subst (λ u. spec.is_operator n u ≡ true) p.0 p.1 in cc);
    local = λ ts p. absurd (let wrong = subst (λ u. spec.is_operator n u ≡ true) p.0 p.1 in cc);
  }

  operation_exact : Exact 1 (spec.operation P) (λ ts. spec.is_operator n (kind ts) ≡ true) (IsOperation n) (Stops n) (At r) (At r)
  unfolding spec.operation
  operation_exact = exact_on kind kind_first (λ t ts. and_then (parser.bump ts) (λ p. spec.operation_by P p (spec.operator_at t))) (λ ts. spec.is_operator n (kind ts) ≡ true) (IsOperation n) (Stops n) (At r) (At r) operator_of_kind

  operator_stops : (t : Option Kind) → spec.is_operator n t ≡ true → Stops n t
  operator_stops (Some t) h = by (operator_of t) refl h where
    by : (op : Option BinOp) → operator_of t ≡ op → spec.has_precedence (suc n) op ≡ true → Stops n (Some t)
    by (Some op) is precedence = stops_at n t op is (let e = has_precedence_is (suc n) op precedence in omega (arith, e))
    by None is precedence = absurd (cc)
  operator_stops None h = tt

  operations_exact : Exact 0 (spec.operations P n) Always (IsMany (IsOperation n)) (Ends (spec.is_operator n) (Stops n)) (At r) (At r)
  operations_exact = exact_many (spec.is_operator n) (spec.operation P) (IsOperation n) (Stops n) (At r) operation_exact (operation_begins n) operator_stops

  abbrev IsLevel : Position → Relation Expression
  IsLevel p = Then (IsBinary n) (λ x. Then (IsMany (IsOperation n)) (λ ls. IsPure (spec.chain p x ls)))

  level_is : (ts mid : List Tok) (x : Expression) (rest : List Tok) (ls : List Operation) → IsBinary n ts x mid → IsMany (IsOperation n) mid ls rest → IsBinary (suc n) ts (spec.chain (position ts) x ls) rest
  unfolding spec.chain
  level_is ts mid x rest [] d none = alone d
  level_is ts mid x rest (l ∷ ls) d m = chain d (to_operations m)

  level_to : (p : Position) (ts : List Tok) (x : Expression) (rest : List Tok) → p ≡ position ts → IsLevel p ts x rest → IsBinary (suc n) ts x rest
  level_to p ts x rest here (seq {mid = mid} {x = y} d (seq {mid = last} {x = ls} m c)) =
      made c (λ z us. IsBinary (suc n) ts z us) (subst (λ q. IsBinary (suc n) ts (spec.chain q y ls) last) (sym here) (level_is ts mid y last ls d m))

  level_from : (p : Position) (ts : List Tok) (x : Expression) (rest : List Tok) → p ≡ position ts → IsBinary (suc n) ts x rest → IsLevel p ts x rest
  unfolding spec.chain
  level_from p ts x rest here (alone d) = seq d (seq none done)
  level_from p ts x rest here (chain {x = y} {l = l} {ls = ls} d m) =
      subst (λ q. IsLevel p ts (expressions.Chain q y (l ∷ ls)) rest) here (seq d (seq (from_operations m) done))

  level_follow : (p : Position) (x : Expression) (mid rest : List Tok) (y : Expression) → Then (IsMany (IsOperation n)) (λ ls. IsPure (spec.chain p x ls)) mid y rest → Ends (spec.is_operator n) (Stops n) (kind rest) → Stops n (kind mid)
  level_follow p x mid rest y (seq none c) g = made c (λ z us. Ends (spec.is_operator n) (Stops n) (kind us) → Stops n (kind mid)) (λ f. f.1) g
  level_follow p x mid rest y (seq (more {mid = next'} {x = l} d m) c) g = operator_stops (kind mid) (operation_begins n mid l next' d)

  level_exact : (p : Position) → Exact 1 (λ ts. and_then (P ts) (λ x us. and_then (spec.operations P n us) (λ ls. parser.pure (spec.chain p x ls)))) (λ ts. (position ts ≡ p) × Always ts) (IsBinary (suc n)) (Stops (suc n)) (At r) (At r)
  level_exact p = exact_as (exact_bind a (λ x. exact_last operations_exact (spec.chain p x)) (level_follow p)) (λ ts h. tt)
      (λ ts x rest h d. level_to p ts x rest (sym h.0) d) (λ ts x rest h g d. level_from p ts x rest (sym h.0) d) (λ t g. (stops_operator n t g, stops_less n t g))

pub binary_exact : (r : ℕ) (i : Inside) → ExactInside r i → (n : ℕ) → Exact 1 (spec.binary r i n) Always (IsBinary n) (Stops n) (At r) (At r)
unfolding spec.binary
binary_exact r i h zero = exact_iff (unary_exact r i h) (λ ts x rest d. unary d) (λ ts x rest d. unary_back ts x rest d) where
  unary_back : (ts : List Tok) (x : Expression) (rest : List Tok) → IsBinary 0 ts x rest → IsUnary ts x rest
  unary_back ts x rest (unary d) = d
binary_exact r i h (suc n) = exact_on position position_first (λ p ts. and_then (spec.binary r i n ts) (λ x us. and_then (spec.operations (spec.binary r i n) n us) (λ ls. parser.pure (spec.chain p x ls)))) Always (IsBinary (suc n)) (Stops (suc n)) (At r) (At r)
    (λ p. level_exact r n (spec.binary r i n) (binary_exact r i h n) p)

-- what stands in brackets is read exactly
pub inside_exact : (r : ℕ) → ExactInside r (spec.inside_of r)
unfolding spec.inside_of
inside_exact zero = tt
inside_exact (suc r) = (binary_exact r (spec.inside_of r) (inside_exact r) 7, variable_exact r (spec.inside_of r) (inside_exact r))

-- an expression is read exactly
pub expression_exact : (r : ℕ) → Exact 1 (spec.expression r) Always (IsBinary 7) (Stops 7) (At r) (At r)
unfolding spec.expression
expression_exact r = binary_exact r (spec.inside_of r) (inside_exact r) 7
