-- The reading functions of declarations read their grammar exactly.
use Rattle.std.proofs.Common.{◌≡◌, ℕ, suc, List, [], ◌∷◌, refl, sym, ap, subst, ◌∙◌, Bool, true, false, arith}
use Rattle.std.specs.Prelude.{Option, Some, None}
use Rattle.st_tokens.specs.declared.keyword.Keyword.TheVariants as keywords
use Rattle.st_tokens.specs.declared.symbol.Symbol.TheVariants as symbols
use Rattle.st_tokens.specs.declared.token.Kind.TheVariants as token_kinds
use Rattle.st_tree.specs.declared.tree.constant.Constant.TheVariants as constants
use Rattle.st_tree.specs.declared.tree.declaration.ArrayElement.TheVariants as array_elements
use Rattle.st_tree.specs.declared.tree.declaration.Initial.TheVariants as initials
use Rattle.st_tree.specs.declared.tree.declaration.Specification.TheVariants as specifications
use Rattle.st_tree.specs.declared.tree.declaration.TypeName.TheVariants as type_names
use Rattle.st_tree.specs.declared.tree.declaration.VarKind.TheVariants as var_kinds
use Rattle.st_parser.specs.Names.{ArrayElement, Constant, Declaration, Initial, Kind, Position, Specification, Subrange, TypeName, VarBlock, VarKind}
use Rattle.st_parser.specs.Grammar.Lists.{IsMany, none, more, IsListed, listed}
use Rattle.st_parser.specs.Grammar.Tokens.{Tok, kind, next, position}
use Rattle.st_parser.specs.Reader.Parsers as parser
use Rattle.st_parser.specs.Reader.Expressions as expressions
use Rattle.st_parser.specs.Reader.Parsers.{Parser, Wrong, and_then, is_symbol, is_keyword, is_word}
use Rattle.st_parser.proofs.Exact.{Relation, Exact, Always, Any, Then, seq, IsOne, one, IsPure, done, IsWord, a_word, IsNumber, a_number, exact_bind, exact_as, exact_iff, exact_last, exact_under, exact_zero, exact_pure, made, exact_refuse, exact_by, exact_on, IsFirst, at_first, exact_token, symbol_is, keyword_is, exact_symbol, exact_keyword, exact_open_level, exact_identifier, Before, exact_identifier_before, exact_number, exact_before, Ends, exact_many, exact_listed}
use Rattle.st_parser.proofs.Levels.{At}
use Rattle.st_parser.proofs.Local.{Stays, Steady, by_kind, by_second, kind_first, position_first, steady_second, takes_read, takes_refused}
use Rattle.st_parser.specs.Grammar.Expressions.{integer_of, IsSignedInteger, unsigned, IsConstant, integer}
use Rattle.st_parser.proofs.Expressions.{constant_exact, signed_integer_exact}
use Rattle.st_parser.proofs.Follows.{constant_begins, begins_constant}
use Rattle.st_syntax.specs.Grammar.Charts.{IsName, name}
use Rattle.st_syntax.proofs.ChartsExact.{name_exact}
use Rattle.st_syntax.specs.Grammar.Declarations.{subrange_of, declaration_of, block_of, IsTypeName, elementary, declared, IsSubrange, subrange, IsSpecification, simple, array, IsArrayElement, single, repeated_default, repeated, IsInitial, initial_constant, initial_array, IsInitialized, uninitialized, initialized, IsDeclaration, declaration, IsMember, member, IsRetention, unsaid, retained, not_retained, IsInternal, variable, constant, IsVarBlock, internal, input, output}
use Rattle.st_syntax.specs.Reader.Declarations as spec
use Rattle.st_syntax.specs.Reader.Declarations.{is_repeated, is_retention, begins_block}

-- ---- specifications

elementary_to : (e : _) (p : Position) (ts : List Tok) (x : TypeName) (rest : List Tok) → IsPure (type_names.Elementary p e) ts x rest → IsTypeName ((p, token_kinds.Type e) ∷ ts) x rest
elementary_to e p ts x rest d = made d (λ y us. IsTypeName ((p, token_kinds.Type e) ∷ ts) y us) elementary

elementary_from : (e : _) (p : Position) (ts : List Tok) (x : TypeName) (rest : List Tok) → IsTypeName ((p, token_kinds.Type e) ∷ ts) x rest → IsPure (type_names.Elementary p e) ts x rest
elementary_from e p ts x rest elementary = done

-- no elementary type
abbrev is_other : Option Kind → Bool
is_other (Some (token_kinds.Type e)) = false
is_other _ = true

declared_to : (ts : List Tok) (x : TypeName) (rest : List Tok) → Then IsWord (λ y. IsPure (type_names.Declared y)) ts x rest → IsTypeName ts x rest
declared_to ts x rest (seq a_word d) = made d (λ y us. IsTypeName ts y us) declared

declared_from : (ts : List Tok) (x : TypeName) (rest : List Tok) → is_other (kind ts) ≡ true → IsTypeName ts x rest → Then IsWord (λ y. IsPure (type_names.Declared y)) ts x rest
declared_from ts x rest h declared = seq a_word done
declared_from ts x rest h elementary = absurd (cc)

subrange_to : (ts : List Tok) (x : Subrange) (rest : List Tok) → Then IsSignedInteger (λ y. Then (IsOne (token_kinds.Symbol symbols.Range)) (λ q. Then IsSignedInteger (λ z. IsPure (subrange_of y z)))) ts x rest → IsSubrange ts x rest
subrange_to ts x rest (seq d (seq one (seq e p))) = made p (λ y us. IsSubrange ts y us) (subrange d e)

subrange_from : (ts : List Tok) (x : Subrange) (rest : List Tok) → IsSubrange ts x rest → Then IsSignedInteger (λ y. Then (IsOne (token_kinds.Symbol symbols.Range)) (λ q. Then IsSignedInteger (λ z. IsPure (subrange_of y z)))) ts x rest
subrange_from ts x rest (subrange d e) = seq d (seq one (seq e done))

abbrev ArrayRule : Position → Relation Specification
ArrayRule p = Then (IsOne (token_kinds.Symbol symbols.OpenBracket)) (λ q. Then (IsListed IsSubrange) (λ xs. Then (IsOne (token_kinds.Symbol symbols.CloseBracket)) (λ u. Then (IsOne (token_kinds.Keyword keywords.Of)) (λ v. Then IsTypeName (λ y. IsPure (specifications.Array p xs y))))))

array_to : (p : Position) (ts : List Tok) (x : Specification) (rest : List Tok) → ArrayRule p ts x rest → IsSpecification ((p, token_kinds.Keyword keywords.Array) ∷ ts) x rest
array_to p ts x rest (seq one (seq d (seq one (seq one (seq e m))))) = made m (λ y us. IsSpecification ((p, token_kinds.Keyword keywords.Array) ∷ ts) y us) (array d e)

array_from : (p : Position) (ts : List Tok) (x : Specification) (rest : List Tok) → IsSpecification ((p, token_kinds.Keyword keywords.Array) ∷ ts) x rest → ArrayRule p ts x rest
array_from p ts x rest (array d e) = seq one (seq d (seq one (seq one (seq e done))))
array_from p ts x rest (simple d) = elim d [ ]

simple_to : (ts : List Tok) (x : Specification) (rest : List Tok) → Then IsTypeName (λ y. IsPure (specifications.Simple y)) ts x rest → IsSpecification ts x rest
simple_to ts x rest (seq d m) = made m (λ y us. IsSpecification ts y us) (simple d)

simple_from : (ts : List Tok) (x : Specification) (rest : List Tok) → is_keyword keywords.Array (kind ts) ≡ false → IsSpecification ts x rest → Then IsTypeName (λ y. IsPure (specifications.Simple y)) ts x rest
simple_from ts x rest h (simple d) = seq d done
simple_from ts x rest h (array d e) = absurd (cc)

module _ (r : ℕ) where
  other_exact : (t : Option Kind) → is_other t ≡ true → Exact 1 (λ ts. and_then (parser.identifier ts) (λ y. parser.pure (type_names.Declared y))) (λ ts. (kind ts ≡ t) × Always ts) IsTypeName Any (At r) (At r)
  other_exact t h = exact_as (exact_last (exact_identifier r) type_names.Declared) (λ ts p. tt) (λ ts x rest p d. declared_to ts x rest d)
      (λ ts x rest p g d. declared_from ts x rest (subst (λ u. is_other u ≡ true) (sym p.0) h) d) (λ t g. g)

  type_name_by : (t : Option Kind) → Exact 1 (spec.type_name_by t) (λ ts. (kind ts ≡ t) × Always ts) IsTypeName Any (At r) (At r)
  type_name_by (Some (token_kinds.Type e)) = exact_under (exact_token (token_kinds.Type e) refl {R = IsTypeName} (λ p. exact_iff (exact_pure (type_names.Elementary p e) Always Any (At r)) (elementary_to e p) (elementary_from e p))) (λ ts p. p.0) (λ t g. g)
  type_name_by t = other_exact t refl

  type_name_exact : Exact 1 spec.type_name Always IsTypeName Any (At r) (At r)
  unfolding spec.type_name
  type_name_exact = exact_on kind kind_first spec.type_name_by Always IsTypeName Any (At r) (At r) type_name_by

  subrange_exact : Exact 1 spec.subrange Always IsSubrange Any (At r) (At r)
  unfolding spec.subrange
  subrange_exact = exact_iff (exact_bind (signed_integer_exact r) (λ y. exact_bind (exact_symbol symbols.Range r refl) (λ q. exact_last (signed_integer_exact r) (subrange_of y)) (λ q mid rest z d g. tt)) (λ y mid rest z d g. tt)) subrange_to subrange_from

module _ (r : ℕ) where
  array_exact : Exact 1 (spec.array r) (IsFirst (token_kinds.Keyword keywords.Array)) IsSpecification Any (At (suc r)) (At (suc r))
  unfolding spec.array
  array_exact = exact_token (token_kinds.Keyword keywords.Array) refl {R = IsSpecification} (λ p. exact_iff
      (exact_bind (exact_open_level symbols.OpenBracket r refl) (λ q. exact_before (token_kinds.Symbol symbols.CloseBracket) (exact_listed spec.subrange IsSubrange Any r (subrange_exact r) tt) (refl, tt) (exact_symbol symbols.CloseBracket r refl)
      (λ xs u. exact_bind (exact_keyword keywords.Of (suc r) refl) (λ v. exact_last (type_name_exact (suc r)) (specifications.Array p xs)) (λ v mid rest y d g. tt))) (λ q mid rest y d g. tt))
      (array_to p) (array_from p))

  specification_by : (b : Bool) → Exact 1 (spec.specification_by r b) (λ ts. (is_keyword keywords.Array (kind ts) ≡ b) × Always ts) IsSpecification Any (At (suc r)) (At (suc r))
  unfolding spec.simple
  specification_by true = exact_under array_exact (λ ts h. keyword_is keywords.Array (kind ts) h.0) (λ t g. g)
  specification_by false = exact_as (exact_last (type_name_exact (suc r)) specifications.Simple) (λ ts h. tt) (λ ts x rest h d. simple_to ts x rest d) (λ ts x rest h g d. simple_from ts x rest h.0 d) (λ t g. g)

  pub specification_exact : Exact 1 (spec.specification r) Always IsSpecification Any (At (suc r)) (At (suc r))
  unfolding spec.specification
  specification_exact = exact_on (λ ts. is_keyword keywords.Array (kind ts)) (by_kind (is_keyword keywords.Array)) (spec.specification_by r) Always IsSpecification Any (At (suc r)) (At (suc r)) specification_by

-- ---- initial values

-- [ literal ] before ')'
data IsValue : List Tok → Option Constant → List Tok → Type 0 where
  no_value : {ts : List Tok} → IsValue ts None ts
  a_value : {ts rest : List Tok} {x : Constant} → IsConstant ts x rest → IsValue ts (Some x) rest

abbrev OnlyClose : Option Kind → Type 0
OnlyClose t = is_symbol symbols.Close t ≡ true

close_no_constant : (t : Option Kind) → is_symbol symbols.Close t ≡ true → begins_constant t ≡ true → ⊥
close_no_constant (Some (token_kinds.Symbol symbols.Close)) h g = cc
close_no_constant _ h g = cc

no_value_to : (ts : List Tok) (x : Option Constant) (rest : List Tok) → IsPure None ts x rest → IsValue ts x rest
no_value_to ts x rest d = made d (λ y us. IsValue ts y us) no_value

no_value_from : (ts : List Tok) (x : Option Constant) (rest : List Tok) → is_symbol symbols.Close (kind ts) ≡ true → IsValue ts x rest → IsPure None ts x rest
no_value_from ts x rest h no_value = done
no_value_from ts x rest h (a_value d) = absurd (close_no_constant (kind ts) h (constant_begins d))

a_value_to : (ts : List Tok) (x : Option Constant) (rest : List Tok) → Then IsConstant (λ y. IsPure (Some y)) ts x rest → IsValue ts x rest
a_value_to ts x rest (seq d m) = made m (λ y us. IsValue ts y us) (a_value d)

a_value_from : (ts : List Tok) (x : Option Constant) (rest : List Tok) → is_symbol symbols.Close (kind ts) ≡ false → OnlyClose (kind rest) → IsValue ts x rest → Then IsConstant (λ y. IsPure (Some y)) ts x rest
a_value_from ts x rest h g (a_value d) = seq d done
a_value_from ts x rest h g no_value = absurd (let wrong = sym h ∙ g in cc)

-- no '(' follows
abbrev NoOpen : Option Kind → Type 0
NoOpen t = is_symbol symbols.Open t ≡ false

abbrev RepeatedRule : Position → Relation ArrayElement
RepeatedRule p = Then IsNumber (λ m. Then (IsOne (token_kinds.Symbol symbols.Open)) (λ q. Then IsValue (λ x. Then (IsOne (token_kinds.Symbol symbols.Close)) (λ z. IsPure (array_elements.Repeated p m x)))))

at_place : {ts rest : List Tok} {m : ℕ} {v : Option Constant} (p : Position) → p ≡ position ts → IsArrayElement ts (array_elements.Repeated (position ts) m v) rest → IsArrayElement ts (array_elements.Repeated p m v) rest
at_place {ts} {rest} {m} {v} p at d = subst (λ q. IsArrayElement ts (array_elements.Repeated q m v) rest) (sym at) d

repeated_to : (p : Position) (ts : List Tok) (x : ArrayElement) (rest : List Tok) → p ≡ position ts → RepeatedRule p ts x rest → IsArrayElement ts x rest
repeated_to p ts x rest at (seq a_number (seq one (seq no_value (seq one d)))) = made d (λ y us. IsArrayElement ts y us) (at_place p at repeated_default)
repeated_to p ts x rest at (seq a_number (seq one (seq (a_value c) (seq one d)))) = made d (λ y us. IsArrayElement ts y us) (at_place p at (repeated c))

repeated_from : (p : Position) (ts : List Tok) (x : ArrayElement) (rest : List Tok) → p ≡ position ts → is_repeated (kind ts) (kind (next ts)) ≡ true → NoOpen (kind rest) → IsArrayElement ts x rest → RepeatedRule p ts x rest
repeated_from p ts x rest at h g repeated_default = subst (λ q. RepeatedRule q ts x rest) (sym at) (seq a_number (seq one (seq no_value (seq one done))))
repeated_from p ts x rest at h g (repeated c) = subst (λ q. RepeatedRule q ts x rest) (sym at) (seq a_number (seq one (seq (a_value c) (seq one done))))
repeated_from p ts x rest at h g (single (integer unsigned)) = absurd (second_open (kind rest) h g) where
  second_open : (t : Option Kind) → is_repeated (Some (token_kinds.Number 0)) t ≡ true → is_symbol symbols.Open t ≡ false → ⊥
  second_open (Some (token_kinds.Symbol symbols.Open)) u v = cc
  second_open _ u v = cc
repeated_from p ts x rest at h g (single d) = absurd (let wrong = constant_begins d in cc)

single_to : (ts : List Tok) (x : ArrayElement) (rest : List Tok) → Then IsConstant (λ y. IsPure (array_elements.Single y)) ts x rest → IsArrayElement ts x rest
single_to ts x rest (seq d m) = made m (λ y us. IsArrayElement ts y us) (single d)

single_from : (ts : List Tok) (x : ArrayElement) (rest : List Tok) → is_repeated (kind ts) (kind (next ts)) ≡ false → IsArrayElement ts x rest → Then IsConstant (λ y. IsPure (array_elements.Single y)) ts x rest
single_from ts x rest h (single d) = seq d done
single_from ts x rest h repeated_default = absurd (cc)
single_from ts x rest h (repeated c) = absurd (cc)

abbrev InitialArrayRule : Relation Initial
InitialArrayRule = Then (IsOne (token_kinds.Symbol symbols.OpenBracket)) (λ p. Then (IsListed IsArrayElement) (λ xs. Then (IsOne (token_kinds.Symbol symbols.CloseBracket)) (λ q. IsPure (initials.Array p xs))))

initial_array_to : (ts : List Tok) (x : Initial) (rest : List Tok) → InitialArrayRule ts x rest → IsInitial ts x rest
initial_array_to ts x rest (seq one (seq d (seq one m))) = made m (λ y us. IsInitial ts y us) (initial_array d)

initial_array_from : (ts : List Tok) (x : Initial) (rest : List Tok) → is_symbol symbols.OpenBracket (kind ts) ≡ true → IsInitial ts x rest → InitialArrayRule ts x rest
initial_array_from ts x rest h (initial_array d) = seq one (seq d (seq one done))
initial_array_from ts x rest h (initial_constant d) = absurd (let wrong = subst (λ t. begins_constant t ≡ true) (symbol_is symbols.OpenBracket (kind ts) h) (constant_begins d) in cc)

initial_constant_to : (ts : List Tok) (x : Initial) (rest : List Tok) → Then IsConstant (λ y. IsPure (initials.Constant y)) ts x rest → IsInitial ts x rest
initial_constant_to ts x rest (seq d m) = made m (λ y us. IsInitial ts y us) (initial_constant d)

initial_constant_from : (ts : List Tok) (x : Initial) (rest : List Tok) → is_symbol symbols.OpenBracket (kind ts) ≡ false → IsInitial ts x rest → Then IsConstant (λ y. IsPure (initials.Constant y)) ts x rest
initial_constant_from ts x rest h (initial_constant d) = seq d done
initial_constant_from ts x rest h (initial_array d) = absurd (cc)

initialized_to : (p : Position) (ts : List Tok) (x : Option Initial) (rest : List Tok) → Then IsInitial (λ y. Then (IsOne (token_kinds.Symbol symbols.Semicolon)) (λ q. IsPure (Some y))) ts x rest → IsInitialized ((p, token_kinds.Symbol symbols.Assign) ∷ ts) x rest
initialized_to p ts x rest (seq d (seq one m)) = made m (λ y us. IsInitialized ((p, token_kinds.Symbol symbols.Assign) ∷ ts) y us) (initialized d)

initialized_from : (p : Position) (ts : List Tok) (x : Option Initial) (rest : List Tok) → IsInitialized ((p, token_kinds.Symbol symbols.Assign) ∷ ts) x rest → Then IsInitial (λ y. Then (IsOne (token_kinds.Symbol symbols.Semicolon)) (λ q. IsPure (Some y))) ts x rest
initialized_from p ts x rest (initialized d) = seq d (seq one done)

uninitialized_to : (ts : List Tok) (x : Option Initial) (rest : List Tok) → Then (IsOne (token_kinds.Symbol symbols.Semicolon)) (λ q. IsPure None) ts x rest → IsInitialized ts x rest
uninitialized_to ts x rest (seq one m) = made m (λ y us. IsInitialized ts y us) uninitialized

uninitialized_from : (ts : List Tok) (x : Option Initial) (rest : List Tok) → is_symbol symbols.Assign (kind ts) ≡ false → IsInitialized ts x rest → Then (IsOne (token_kinds.Symbol symbols.Semicolon)) (λ q. IsPure None) ts x rest
uninitialized_from ts x rest h uninitialized = seq one done
uninitialized_from ts x rest h (initialized d) = absurd (cc)

module _ (r : ℕ) where
  value_by : (b : Bool) → Exact 0 (spec.repeated_by b) (λ ts. (is_symbol symbols.Close (kind ts) ≡ b) × Always ts) IsValue OnlyClose (At r) (At r)
  value_by true = exact_as (exact_pure None Always Any (At r)) (λ ts h. tt) (λ ts x rest h d. no_value_to ts x rest d) (λ ts x rest h g d. no_value_from ts x rest h.0 d) (λ t g. tt)
  value_by false = exact_zero (exact_as (exact_last (constant_exact r) (λ y. Some y)) (λ ts h. tt) (λ ts x rest h d. a_value_to ts x rest d) (λ ts x rest h g d. a_value_from ts x rest h.0 g d) (λ t g. tt))

  value_exact : Exact 0 spec.repeated_value Always IsValue OnlyClose (At r) (At r)
  unfolding spec.repeated_value
  value_exact = exact_on (λ ts. is_symbol symbols.Close (kind ts)) (by_kind (is_symbol symbols.Close)) spec.repeated_by Always IsValue OnlyClose (At r) (At r) value_by

module _ (r : ℕ) where
  repeated_rule : (p : Position) → Exact 1 (λ ts. and_then (parser.number ts) (λ m us. and_then (parser.open_level symbols.Open (suc r) us) (λ q vs. and_then (spec.repeated_value vs) (λ x ws. and_then (parser.expect_symbol symbols.Close ws)
      (λ z. parser.pure (array_elements.Repeated p m x)))))) Always (RepeatedRule p) Any (At (suc r)) (At (suc r))
  repeated_rule p = exact_bind (exact_number (suc r)) (λ m. exact_bind (exact_open_level symbols.Open r refl) (λ q. exact_before (token_kinds.Symbol symbols.Close) (value_exact r) refl (exact_symbol symbols.Close r refl) (λ x z. exact_pure (array_elements.Repeated p m x) Always Any (At (suc r))))
      (λ q mid rest y d g. tt)) (λ m mid rest y d g. tt)

  repeated_exact : Exact 1 (spec.repeated (suc r)) (λ ts. is_repeated (kind ts) (kind (next ts)) ≡ true) IsArrayElement NoOpen (At (suc r)) (At (suc r))
  unfolding spec.repeated
  repeated_exact = exact_on position position_first (λ p ts. and_then (parser.number ts) (λ m us. and_then (parser.open_level symbols.Open (suc r) us) (λ q vs. and_then (spec.repeated_value vs) (λ x ws. and_then (parser.expect_symbol symbols.Close ws)
      (λ z. parser.pure (array_elements.Repeated p m x))))))
      (λ ts. is_repeated (kind ts) (kind (next ts)) ≡ true) IsArrayElement NoOpen (At (suc r)) (At (suc r))
      (λ p. exact_as (repeated_rule p) (λ ts h. tt) (λ ts x rest h d. repeated_to p ts x rest (sym h.0) d) (λ ts x rest h g d. repeated_from p ts x rest (sym h.0) h.1 g d) (λ t g. tt))

  element_by : (b : Bool) → Exact 1 (spec.element_by (suc r) b) (λ ts. (is_repeated (kind ts) (kind (next ts)) ≡ b) × Always ts) IsArrayElement NoOpen (At (suc r)) (At (suc r))
  unfolding spec.plain_element
  element_by true = exact_under repeated_exact (λ ts h. h.0) (λ t g. g)
  element_by false = exact_as (exact_last (constant_exact (suc r)) array_elements.Single) (λ ts h. tt) (λ ts x rest h d. single_to ts x rest d) (λ ts x rest h g d. single_from ts x rest h.0 d) (λ t g. tt)

  -- what begins with a number takes it
  number_takes : (m : ℕ) (p : Position) (us : List Tok) (b : Bool) (s : Stays (spec.element_by (suc r) b) ((p, token_kinds.Number m) ∷ us)) → s.taken ≡ [] → ⊥
  unfolding spec.repeated spec.plain_element parser.number parser.open_level expressions.constant expressions.signed_integer
  number_takes m p us true s nothing =
      takes_refused (spec.repeated (suc r)) _ s nothing ((p, token_kinds.Number m) ∷ []) ((p, token_kinds.Number m) ∷ (p, token_kinds.Symbol symbols.Comma) ∷ []) (Wrong None) (Wrong (Some p)) refl refl refl refl (λ e. cc)
  number_takes m p us false s nothing =
      takes_read spec.plain_element _ s nothing ((p, token_kinds.Number m) ∷ []) (array_elements.Single (constants.Integer (integer_of p false m))) [] refl refl (omega arith)

  element_steady : (t : Option Kind) → Steady (λ ts. is_repeated t (kind (next ts))) (spec.element_by (suc r)) (λ ts. (kind ts ≡ t) × Always ts)
  element_steady (Some (token_kinds.Number m)) = steady_second (λ ts. is_repeated (Some (token_kinds.Number m)) (kind (next ts))) (spec.element_by (suc r)) (λ ts. (kind ts ≡ Some (token_kinds.Number m)) × Always ts)
      (by_second (is_repeated (Some (token_kinds.Number m))))
      (λ ts p s nothing. at_first (token_kinds.Number m) (λ us. (b : Bool) (s : Stays (spec.element_by (suc r) b) us) → s.taken ≡ [] → ⊥) (number_takes m) ts p.0 (is_repeated (Some (token_kinds.Number m)) (kind (next ts))) s nothing)
  element_steady _ = λ ts p s rest e. refl

  element_exact : Exact 1 (spec.element (suc r)) Always IsArrayElement NoOpen (At (suc r)) (At (suc r))
  unfolding spec.element
  element_exact = exact_on kind kind_first (λ t ts. spec.element_by (suc r) (is_repeated t (kind (next ts))) ts) Always IsArrayElement NoOpen (At (suc r)) (At (suc r))
      (λ t. exact_by (λ ts. is_repeated t (kind (next ts))) (spec.element_by (suc r)) (λ ts. (kind ts ≡ t) × Always ts) (element_steady t) IsArrayElement NoOpen (At (suc r)) (At (suc r))
      (λ b. exact_under (element_by b) (λ ts p. (subst (λ x. is_repeated x (kind (next ts)) ≡ b) (sym p.1.0) p.0, tt)) (λ u g. g)))

module _ (r : ℕ) where
  initial_by : (b : Bool) → Exact 1 (spec.initial_by (suc r) b) (λ ts. (is_symbol symbols.OpenBracket (kind ts) ≡ b) × Always ts) IsInitial Any (At (suc (suc r))) (At (suc (suc r)))
  unfolding spec.initial_array spec.initial_constant
  initial_by true = exact_as
      (exact_bind (exact_open_level symbols.OpenBracket (suc r) refl) (λ p. exact_before (token_kinds.Symbol symbols.CloseBracket) (exact_listed (spec.element (suc r)) IsArrayElement NoOpen (suc r) (element_exact r) refl) (refl, refl) (exact_symbol symbols.CloseBracket (suc r) refl)
      (λ xs q. exact_pure (initials.Array p xs) Always Any (At (suc (suc r))))) (λ p mid rest y d g. tt))
      (λ ts h. tt) (λ ts x rest h d. initial_array_to ts x rest d) (λ ts x rest h g d. initial_array_from ts x rest h.0 d) (λ t g. g)
  initial_by false = exact_as (exact_last (constant_exact (suc (suc r))) initials.Constant) (λ ts h. tt) (λ ts x rest h d. initial_constant_to ts x rest d) (λ ts x rest h g d. initial_constant_from ts x rest h.0 d) (λ t g. g)

  initial_exact : Exact 1 (spec.initial (suc r)) Always IsInitial Any (At (suc (suc r))) (At (suc (suc r)))
  unfolding spec.initial
  initial_exact = exact_on (λ ts. is_symbol symbols.OpenBracket (kind ts)) (by_kind (is_symbol symbols.OpenBracket)) (spec.initial_by (suc r)) Always IsInitial Any (At (suc (suc r))) (At (suc (suc r))) initial_by

  initialized_by : (b : Bool) → Exact 1 (spec.initialized_by (suc r) b) (λ ts. (is_symbol symbols.Assign (kind ts) ≡ b) × Always ts) IsInitialized Any (At (suc (suc r))) (At (suc (suc r)))
  initialized_by true = exact_under (exact_token (token_kinds.Symbol symbols.Assign) refl {R = IsInitialized} (λ p. exact_iff
      (exact_before (token_kinds.Symbol symbols.Semicolon) initial_exact tt (exact_symbol symbols.Semicolon (suc (suc r)) refl) (λ y q. exact_pure (Some y) Always Any (At (suc (suc r))))) (initialized_to p) (initialized_from p)))
      (λ ts h. symbol_is symbols.Assign (kind ts) h.0) (λ t g. g)
  initialized_by false = exact_as (exact_bind (exact_symbol symbols.Semicolon (suc (suc r)) refl) (λ q. exact_pure None Always Any (At (suc (suc r)))) (λ q mid rest y d g. tt)) (λ ts h. tt)
      (λ ts x rest h d. uninitialized_to ts x rest d) (λ ts x rest h g d. uninitialized_from ts x rest h.0 d) (λ t g. g)

  pub initialized_exact : Exact 1 (spec.initialized (suc r)) Always IsInitialized Any (At (suc (suc r))) (At (suc (suc r)))
  unfolding spec.initialized
  initialized_exact = exact_on (λ ts. is_symbol symbols.Assign (kind ts)) (by_kind (is_symbol symbols.Assign)) (spec.initialized_by (suc r)) Always IsInitialized Any (At (suc (suc r))) (At (suc (suc r))) initialized_by

-- ---- declarations

abbrev pub IsTyped : Relation (Specification × Option Initial)
IsTyped = Then IsSpecification (λ x. Then IsInitialized (λ y. IsPure (x, y)))

abbrev DeclarationRule : Relation Declaration
DeclarationRule = Then (IsListed IsName) (λ ns. Then (IsOne (token_kinds.Symbol symbols.Colon)) (λ q. Then IsTyped (λ x. IsPure (declaration_of ns x.0 x.1))))

declaration_to : (ts : List Tok) (x : Declaration) (rest : List Tok) → DeclarationRule ts x rest → IsDeclaration ts x rest
declaration_to ts x rest (seq d (seq one (seq (seq e (seq f done)) m))) = made m (λ y us. IsDeclaration ts y us) (declaration d e f)

declaration_from : (ts : List Tok) (x : Declaration) (rest : List Tok) → IsDeclaration ts x rest → DeclarationRule ts x rest
declaration_from ts x rest (declaration d e f) = seq d (seq one (seq (seq e (seq f done)) done))

declaration_begins : (ts : List Tok) (x : Declaration) (rest : List Tok) → IsDeclaration ts x rest → is_word (kind ts) ≡ true
declaration_begins ts x rest (declaration (listed name m) e f) = refl

abbrev MemberRule : Relation Declaration
MemberRule = Then (Before IsWord (token_kinds.Symbol symbols.Colon)) (λ m. Then IsTyped (λ x. IsPure (declaration_of (m ∷ []) x.0 x.1)))

member_to : (ts : List Tok) (x : Declaration) (rest : List Tok) → MemberRule ts x rest → IsMember ts x rest
member_to ts x rest (seq (seq a_word (seq one done)) (seq (seq e (seq f done)) m)) = made m (λ y us. IsMember ts y us) (member e f)

member_from : (ts : List Tok) (x : Declaration) (rest : List Tok) → IsMember ts x rest → MemberRule ts x rest
member_from ts x rest (member e f) = seq (seq a_word (seq one done)) (seq (seq e (seq f done)) done)

pub member_begins : (ts : List Tok) (x : Declaration) (rest : List Tok) → IsMember ts x rest → is_word (kind ts) ≡ true
member_begins ts x rest (member e f) = refl

-- CONSTANT, RETAIN or NON_RETAIN don't follow
abbrev EndsHead : Option Kind → Type 0
EndsHead t = (is_retention t ≡ false) × (is_keyword keywords.Constant t ≡ false)

retain_to : (x : VarKind) (p : Position) (ts : List Tok) (y : VarKind) (rest : List Tok) → IsPure x ts y rest → IsRetention x ((p, token_kinds.Keyword keywords.Retain) ∷ ts) y rest
retain_to x p ts y rest d = made d (λ z us. IsRetention x ((p, token_kinds.Keyword keywords.Retain) ∷ ts) z us) retained

retain_from : (x : VarKind) (p : Position) (ts : List Tok) (y : VarKind) (rest : List Tok) → EndsHead (kind rest) → IsRetention x ((p, token_kinds.Keyword keywords.Retain) ∷ ts) y rest → IsPure x ts y rest
retain_from x p ts y rest g retained = done
retain_from x p ts y rest g unsaid = absurd (let wrong = g.0 in cc)

non_retain_to : (x : VarKind) (p : Position) (ts : List Tok) (y : VarKind) (rest : List Tok) → IsPure x ts y rest → IsRetention x ((p, token_kinds.Keyword keywords.NonRetain) ∷ ts) y rest
non_retain_to x p ts y rest d = made d (λ z us. IsRetention x ((p, token_kinds.Keyword keywords.NonRetain) ∷ ts) z us) not_retained

non_retain_from : (x : VarKind) (p : Position) (ts : List Tok) (y : VarKind) (rest : List Tok) → EndsHead (kind rest) → IsRetention x ((p, token_kinds.Keyword keywords.NonRetain) ∷ ts) y rest → IsPure x ts y rest
non_retain_from x p ts y rest g not_retained = done
non_retain_from x p ts y rest g unsaid = absurd (let wrong = g.0 in cc)

unsaid_to : (x : VarKind) (ts : List Tok) (y : VarKind) (rest : List Tok) → IsPure x ts y rest → IsRetention x ts y rest
unsaid_to x ts y rest d = made d (λ z us. IsRetention x ts z us) unsaid

unsaid_from : (x : VarKind) (ts : List Tok) (y : VarKind) (rest : List Tok) → is_retention (kind ts) ≡ false → IsRetention x ts y rest → IsPure x ts y rest
unsaid_from x ts y rest h unsaid = done
unsaid_from x ts y rest h retained = absurd (cc)
unsaid_from x ts y rest h not_retained = absurd (cc)

constant_to : (p : Position) (ts : List Tok) (y : VarKind) (rest : List Tok) → IsPure var_kinds.Constant ts y rest → IsInternal ((p, token_kinds.Keyword keywords.Constant) ∷ ts) y rest
constant_to p ts y rest d = made d (λ z us. IsInternal ((p, token_kinds.Keyword keywords.Constant) ∷ ts) z us) constant

constant_from : (p : Position) (ts : List Tok) (y : VarKind) (rest : List Tok) → EndsHead (kind rest) → IsInternal ((p, token_kinds.Keyword keywords.Constant) ∷ ts) y rest → IsPure var_kinds.Constant ts y rest
constant_from p ts y rest g constant = done
constant_from p ts y rest g (variable unsaid) = absurd (let wrong = g.1 in cc)

variable_from : (ts : List Tok) (y : VarKind) (rest : List Tok) → is_keyword keywords.Constant (kind ts) ≡ false → IsInternal ts y rest → IsRetention var_kinds.Internal ts y rest
variable_from ts y rest h (variable d) = d
variable_from ts y rest h constant = absurd (cc)

word_head : (t : Option Kind) → is_word t ≡ true → EndsHead t
word_head (Some (token_kinds.Word m)) h = (refl, refl)
word_head _ h = absurd (cc)

module _ (r : ℕ) where
  pub typed_exact : Exact 1 (spec.typed (suc r)) Always IsTyped Any (At (suc (suc r))) (At (suc (suc r)))
  unfolding spec.typed
  typed_exact = exact_bind (specification_exact (suc r)) (λ x. exact_last (initialized_exact r) (λ y. (x, y))) (λ x mid rest y d g. tt)

  pub declaration_exact : Exact 1 (spec.declaration (suc r)) Always IsDeclaration Any (At (suc (suc r))) (At (suc (suc r)))
  unfolding spec.declaration
  declaration_exact = exact_iff
      (exact_before (token_kinds.Symbol symbols.Colon) (exact_listed parser.identifier IsName Any (suc (suc r)) (name_exact (suc (suc r))) tt) (refl, tt) (exact_symbol symbols.Colon (suc (suc r)) refl)
      (λ ns q. exact_last typed_exact (λ x. declaration_of ns x.0 x.1)))
      declaration_to declaration_from

  pub member_exact : Exact 1 (spec.member (suc r)) Always IsMember Any (At (suc (suc r))) (At (suc (suc r)))
  unfolding spec.member
  member_exact = exact_iff
      (exact_bind (exact_identifier_before symbols.Colon (suc (suc r)) refl) (λ m. exact_last typed_exact (λ x. declaration_of (m ∷ []) x.0 x.1)) (λ m mid rest y d g. tt))
      member_to member_from

  retention_of : (x : VarKind) (t : Option Kind) → is_retention t ≡ true → Exact 0 (λ ts. and_then (parser.bump ts) (λ q. parser.pure x)) (λ ts. (kind ts ≡ t) × Always ts) (IsRetention x) EndsHead (At r) (At r)
  retention_of x (Some (token_kinds.Keyword keywords.Retain)) h = exact_zero (exact_under (exact_token (token_kinds.Keyword keywords.Retain) refl {R = IsRetention x} (λ p. exact_as (exact_pure x Always Any (At r)) (λ ts u. u)
      (λ ts y rest u d. retain_to x p ts y rest d) (λ ts y rest u g d. retain_from x p ts y rest g d) (λ t g. tt))) (λ ts p. p.0) (λ t g. g))
  retention_of x (Some (token_kinds.Keyword keywords.NonRetain)) h = exact_zero (exact_under (exact_token (token_kinds.Keyword keywords.NonRetain) refl {R = IsRetention x} (λ p. exact_as (exact_pure x Always Any (At r)) (λ ts u. u)
      (λ ts y rest u d. non_retain_to x p ts y rest d) (λ ts y rest u g d. non_retain_from x p ts y rest g d) (λ t g. tt))) (λ ts p. p.0) (λ t g. g))
  retention_of x _ h = absurd (cc)

  retention_by : (x : VarKind) (b : Bool) → Exact 0 (spec.retention_by x b) (λ ts. (is_retention (kind ts) ≡ b) × Always ts) (IsRetention x) EndsHead (At r) (At r)
  retention_by x true = exact_under (exact_on kind kind_first (λ t ts. and_then (parser.bump ts) (λ q. parser.pure x)) (λ ts. (is_retention (kind ts) ≡ true) × Always ts) (IsRetention x) EndsHead (At r) (At r)
      (λ t. retained_at t)) (λ ts h. h) (λ t g. g) where
        retained_by : (t : Option Kind) (b : Bool) → is_retention t ≡ b → Exact 0 (λ ts. and_then (parser.bump ts) (λ q. parser.pure x)) (λ ts. (kind ts ≡ t) × ((is_retention (kind ts) ≡ true) × Always ts)) (IsRetention x) EndsHead (At r) (At r)
        retained_by t true h = exact_under (retention_of x t h) (λ ts p. (p.0, tt)) (λ u g. g)
        retained_by t false h = record {
          reads = λ ts y rest p e. absurd (let wrong = sym p.1.0 ∙ (ap is_retention p.0 ∙ h) in cc);
          deep = λ ts at p e q. let wrong = sym p.1.0 ∙ (ap is_retention p.0 ∙ h) in cc;
          read = λ ts y rest p d g q. absurd (let wrong = sym p.1.0 ∙ (ap is_retention p.0 ∙ h) in cc);
          local = λ ts p. absurd (let wrong = sym p.1.0 ∙ (ap is_retention p.0 ∙ h) in cc);
        }

        retained_at : (t : Option Kind) → Exact 0 (λ ts. and_then (parser.bump ts) (λ q. parser.pure x)) (λ ts. (kind ts ≡ t) × ((is_retention (kind ts) ≡ true) × Always ts)) (IsRetention x) EndsHead (At r) (At r)
        retained_at t = retained_by t (is_retention t) refl
  retention_by x false = exact_as (exact_pure x Always Any (At r)) (λ ts h. tt) (λ ts y rest h d. unsaid_to x ts y rest d) (λ ts y rest h g d. unsaid_from x ts y rest h.0 d) (λ t g. tt)

  retention_exact : (x : VarKind) → Exact 0 (spec.retention x) Always (IsRetention x) EndsHead (At r) (At r)
  unfolding spec.retention
  retention_exact x = exact_on (λ ts. is_retention (kind ts)) (by_kind is_retention) (spec.retention_by x) Always (IsRetention x) EndsHead (At r) (At r) (retention_by x)

  internal_by : (b : Bool) → Exact 0 (spec.internal_by b) (λ ts. (is_keyword keywords.Constant (kind ts) ≡ b) × Always ts) IsInternal EndsHead (At r) (At r)
  internal_by true = exact_zero (exact_under (exact_token (token_kinds.Keyword keywords.Constant) refl {R = IsInternal} (λ p. exact_as (exact_pure var_kinds.Constant Always Any (At r)) (λ ts u. u)
      (λ ts y rest u d. constant_to p ts y rest d) (λ ts y rest u g d. constant_from p ts y rest g d) (λ t g. tt))) (λ ts h. keyword_is keywords.Constant (kind ts) h.0) (λ t g. g))
  internal_by false = exact_as (retention_exact var_kinds.Internal) (λ ts h. tt) (λ ts y rest h d. variable d) (λ ts y rest h g d. variable_from ts y rest h.0 d) (λ t g. g)

  internal_exact : Exact 0 spec.internal Always IsInternal EndsHead (At r) (At r)
  unfolding spec.internal
  internal_exact = exact_on (λ ts. is_keyword keywords.Constant (kind ts)) (by_kind (is_keyword keywords.Constant)) spec.internal_by Always IsInternal EndsHead (At r) (At r) internal_by

abbrev BlockRule : Relation VarKind → Position → Relation VarBlock
BlockRule R p = Then R (λ x. Then (IsMany IsDeclaration) (λ ds. Then (IsOne (token_kinds.Keyword keywords.EndVar)) (λ q. IsPure (block_of p x ds))))

internal_to : (p : Position) (ts : List Tok) (x : VarBlock) (rest : List Tok) → BlockRule IsInternal p ts x rest → IsVarBlock ((p, token_kinds.Keyword keywords.Var) ∷ ts) x rest
internal_to p ts x rest (seq d (seq e (seq one m))) = made m (λ y us. IsVarBlock ((p, token_kinds.Keyword keywords.Var) ∷ ts) y us) (internal d e)

internal_from : (p : Position) (ts : List Tok) (x : VarBlock) (rest : List Tok) → IsVarBlock ((p, token_kinds.Keyword keywords.Var) ∷ ts) x rest → BlockRule IsInternal p ts x rest
internal_from p ts x rest (internal d e) = seq d (seq e (seq one done))

input_to : (p : Position) (ts : List Tok) (x : VarBlock) (rest : List Tok) → BlockRule (IsRetention var_kinds.Input) p ts x rest → IsVarBlock ((p, token_kinds.Keyword keywords.VarInput) ∷ ts) x rest
input_to p ts x rest (seq d (seq e (seq one m))) = made m (λ y us. IsVarBlock ((p, token_kinds.Keyword keywords.VarInput) ∷ ts) y us) (input d e)

input_from : (p : Position) (ts : List Tok) (x : VarBlock) (rest : List Tok) → IsVarBlock ((p, token_kinds.Keyword keywords.VarInput) ∷ ts) x rest → BlockRule (IsRetention var_kinds.Input) p ts x rest
input_from p ts x rest (input d e) = seq d (seq e (seq one done))

output_to : (p : Position) (ts : List Tok) (x : VarBlock) (rest : List Tok) → BlockRule (IsRetention var_kinds.Output) p ts x rest → IsVarBlock ((p, token_kinds.Keyword keywords.VarOutput) ∷ ts) x rest
output_to p ts x rest (seq d (seq e (seq one m))) = made m (λ y us. IsVarBlock ((p, token_kinds.Keyword keywords.VarOutput) ∷ ts) y us) (output d e)

output_from : (p : Position) (ts : List Tok) (x : VarBlock) (rest : List Tok) → IsVarBlock ((p, token_kinds.Keyword keywords.VarOutput) ∷ ts) x rest → BlockRule (IsRetention var_kinds.Output) p ts x rest
output_from p ts x rest (output d e) = seq d (seq e (seq one done))

block_begins : (ts : List Tok) (x : VarBlock) (rest : List Tok) → IsVarBlock ts x rest → begins_block (kind ts) ≡ true
block_begins ts x rest (internal d e) = refl
block_begins ts x rest (input d e) = refl
block_begins ts x rest (output d e) = refl

head_follow : {p : Position} {x : VarKind} (mid rest : List Tok) (y : VarBlock) → Then (IsMany IsDeclaration) (λ ds. Then (IsOne (token_kinds.Keyword keywords.EndVar)) (λ q. IsPure (block_of p x ds))) mid y rest → EndsHead (kind mid)
head_follow mid rest y (seq (more {mid = last} {x = d} e m) f) = word_head (kind mid) (declaration_begins mid d last e)
head_follow mid rest y (seq none (seq one f)) = (refl, refl)

module _ (r : ℕ) where
  declarations_exact : Exact 0 (spec.declarations (suc r)) Always (IsMany IsDeclaration) (Ends is_word Any) (At (suc (suc r))) (At (suc (suc r)))
  declarations_exact = exact_many is_word (spec.declaration (suc r)) IsDeclaration Any (At (suc (suc r))) (exact_under (declaration_exact r) (λ ts h. tt) (λ t g. g)) declaration_begins (λ t h. tt)

  block_rule : (head : Parser VarKind) (R : Relation VarKind) → Exact 0 head Always R EndsHead (At (suc (suc r))) (At (suc (suc r))) → (p : Position)
      → Exact 0 (λ ts. and_then (head ts) (λ x. spec.block_rest (suc r) p x)) Always (BlockRule R p) Any (At (suc (suc r))) (At (suc (suc r)))
  block_rule head R h p = exact_bind h (λ x. exact_before (token_kinds.Keyword keywords.EndVar) declarations_exact (refl, tt) (exact_keyword keywords.EndVar (suc (suc r)) refl) (λ ds q. exact_pure (block_of p x ds) Always Any (At (suc (suc r)))))
      (λ x mid rest y d g. head_follow mid rest y d)

  var_block_by : (t : Option Kind) → Exact 1 (spec.var_block_by (suc r) t) (λ ts. (kind ts ≡ t) × Always ts) IsVarBlock Any (At (suc (suc r))) (At (suc (suc r)))
  var_block_by (Some (token_kinds.Keyword keywords.Var)) = exact_under (exact_token (token_kinds.Keyword keywords.Var) refl {R = IsVarBlock} (λ p. exact_iff (block_rule spec.internal IsInternal (internal_exact (suc (suc r))) p) (internal_to p) (internal_from p))) (λ ts p. p.0) (λ t g. g)
  var_block_by (Some (token_kinds.Keyword keywords.VarInput)) = exact_under (exact_token (token_kinds.Keyword keywords.VarInput) refl {R = IsVarBlock}
      (λ p. exact_iff (block_rule (spec.retention var_kinds.Input) (IsRetention var_kinds.Input) (retention_exact (suc (suc r)) var_kinds.Input) p) (input_to p) (input_from p))) (λ ts p. p.0) (λ t g. g)
  var_block_by (Some (token_kinds.Keyword keywords.VarOutput)) = exact_under (exact_token (token_kinds.Keyword keywords.VarOutput) refl {R = IsVarBlock}
      (λ p. exact_iff (block_rule (spec.retention var_kinds.Output) (IsRetention var_kinds.Output) (retention_exact (suc (suc r)) var_kinds.Output) p) (output_to p) (output_from p))) (λ ts p. p.0) (λ t g. g)
  var_block_by _ = exact_refuse 1 _ IsVarBlock Any (At (suc (suc r))) (At (suc (suc r))) (λ ts x rest p d. let wrong = subst (λ t. begins_block t ≡ true) p.0 (block_begins ts x rest d) in cc)

  var_block_exact : Exact 1 (spec.var_block (suc r)) Always IsVarBlock Any (At (suc (suc r))) (At (suc (suc r)))
  unfolding spec.var_block
  var_block_exact = exact_on kind kind_first (spec.var_block_by (suc r)) Always IsVarBlock Any (At (suc (suc r))) (At (suc (suc r))) var_block_by

  pub variables_exact : Exact 0 (spec.variables (suc r)) Always (IsMany IsVarBlock) (Ends begins_block Any) (At (suc (suc r))) (At (suc (suc r)))
  variables_exact = exact_many begins_block (spec.var_block (suc r)) IsVarBlock Any (At (suc (suc r))) (exact_under var_block_exact (λ ts h. tt) (λ t g. g)) block_begins (λ t h. tt)
