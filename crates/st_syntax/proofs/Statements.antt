-- The reading functions of statements read their grammar exactly.
use Rattle.std.proofs.Common.{◌≡◌, ℕ, zero, suc, List, [], ◌∷◌, refl, sym, subst, Bool, true, false}
use Rattle.std.specs.Prelude.{Option, Some, None}
use Rattle.st_tokens.specs.declared.keyword.Keyword.TheVariants as keywords
use Rattle.st_tokens.specs.declared.symbol.Symbol.TheVariants as symbols
use Rattle.st_tokens.specs.declared.token.Kind.TheVariants as token_kinds
use Rattle.st_tree.specs.declared.tree.statement.ForStatement.{ForStatement}
use Rattle.st_tree.specs.declared.tree.statement.Label.TheVariants as labels
use Rattle.st_tree.specs.declared.tree.statement.Statement.TheVariants as statement_kinds
use Rattle.st_parser.specs.Names.{CaseElement, ConditionalPart, Constant, Expression, Keyword, Kind, Label, Position, Statement, Variable}
use Rattle.st_parser.specs.Grammar.Levels.{opens, closes}
use Rattle.st_parser.specs.Grammar.Lists.{IsMany, none, more, IsListed, listed}
use Rattle.st_parser.specs.Grammar.Tokens.{Tok, kind, next}
use Rattle.st_parser.specs.Reader.Parsers as parser
use Rattle.st_parser.specs.Reader.Expressions as expressions
use Rattle.st_parser.specs.Reader.Parsers.{Deep, Parser, Wrong, and_then, is_symbol, is_keyword}
use Rattle.st_parser.proofs.Exact.{Relation, Exact, Always, Any, Then, seq, IsOne, one, IsPure, done, IsWord, a_word, exact_bind, exact_as, exact_iff, exact_last, exact_under, exact_zero, exact_pure, made, exact_refuse, exact_by, exact_on, IsFirst, at_first, exact_token, exact_enter, AfterOpening, symbol_is, keyword_is, exact_symbol, exact_keyword, Before, exact_identifier_before, exact_before, Ends, exact_many, exact_listed}
use Rattle.st_parser.proofs.Levels.{At, past}
use Rattle.st_parser.proofs.Local.{Stays, Steady, by_kind, by_second, kind_first, steady_second, takes_refused}
use Rattle.st_parser.specs.Grammar.Expressions.{IsConstant, IsBinary, IsVariable, named as is_named, no_part, parts, field, subscripts, IsCall, called, no_arguments, arguments}
use Rattle.st_parser.specs.Reader.Expressions.{inside_of}
use Rattle.st_parser.proofs.Expressions.{constant_exact, variable_exact, call_exact, inside_exact, expression_exact}
use Rattle.st_parser.proofs.Follows.{Stops, constant_begins, begins_constant}
use Rattle.st_syntax.specs.Grammar.Statements.{part_of, case_of, if_of, case_statement_of, for_of, while_of, repeat_of, IsLabel, value, range, IsBy, no_by, by_step, IsStatements, no_statement, statements, IsStatement, empty, assignment, invocation, return_statement, exit_statement, if_statement, case_statement, for_statement, while_statement, repeat_statement, IsConditional, conditional, IsElsifs, no_elsif, elsifs, IsElse, no_else, otherwise, IsCase, case, IsCases, no_case, cases}
use Rattle.st_syntax.specs.Reader.Statements as spec
use Rattle.st_syntax.specs.declared.statement.ForRange.{ForRange}
use Rattle.st_syntax.specs.Reader.Statements.{Deeper, range_of, begins_label, begins_statement}

-- ---- labels

-- a label doesn't go on
abbrev NoRange : Option Kind → Type 0
NoRange t = is_symbol symbols.Range t ≡ false

-- after the first literal of a label
data IsTail (x : Constant) : List Tok → Label → List Tok → Type 0 where
  single : {ts : List Tok} → IsTail x ts (labels.Value x) ts
  ranged : {p : Position} {ts rest : List Tok} {y : Constant} → IsConstant ts y rest → IsTail x ((p, token_kinds.Symbol symbols.Range) ∷ ts) (labels.Range x y) rest

label_of : {x : Constant} {ts mid : List Tok} {y : Label} {rest : List Tok} → IsConstant ts x mid → IsTail x mid y rest → IsLabel ts y rest
label_of d single = value d
label_of d (ranged e) = range d e

label_to : (ts : List Tok) (y : Label) (rest : List Tok) → Then IsConstant IsTail ts y rest → IsLabel ts y rest
label_to ts y rest (seq d e) = label_of d e

label_from : (ts : List Tok) (y : Label) (rest : List Tok) → IsLabel ts y rest → Then IsConstant IsTail ts y rest
label_from ts y rest (value d) = seq d single
label_from ts y rest (range d e) = seq d (ranged e)

ranged_to : (x : Constant) (p : Position) (ts : List Tok) (y : Label) (rest : List Tok) → Then IsConstant (λ z. IsPure (labels.Range x z)) ts y rest → IsTail x ((p, token_kinds.Symbol symbols.Range) ∷ ts) y rest
ranged_to x p ts y rest (seq d m) = made m (λ z us. IsTail x ((p, token_kinds.Symbol symbols.Range) ∷ ts) z us) (ranged d)

ranged_from : (x : Constant) (p : Position) (ts : List Tok) (y : Label) (rest : List Tok) → NoRange (kind rest) → IsTail x ((p, token_kinds.Symbol symbols.Range) ∷ ts) y rest → Then IsConstant (λ z. IsPure (labels.Range x z)) ts y rest
ranged_from x p ts y rest g (ranged d) = seq d done
ranged_from x p ts y rest g single = absurd (cc)

single_to : (x : Constant) (ts : List Tok) (y : Label) (rest : List Tok) → IsPure (labels.Value x) ts y rest → IsTail x ts y rest
single_to x ts y rest d = made d (λ z us. IsTail x ts z us) single

single_from : (x : Constant) (ts : List Tok) (y : Label) (rest : List Tok) → is_symbol symbols.Range (kind ts) ≡ false → IsTail x ts y rest → IsPure (labels.Value x) ts y rest
single_from x ts y rest h single = done
single_from x ts y rest h (ranged d) = absurd (cc)

module _ (r : ℕ) where
  tail_by : (x : Constant) (b : Bool) → Exact 0 (spec.label_by x b) (λ ts. (is_symbol symbols.Range (kind ts) ≡ b) × Always ts) (IsTail x) NoRange (At r) (At r)
  tail_by x true = exact_zero (exact_under (exact_token (token_kinds.Symbol symbols.Range) refl {R = IsTail x} (λ p. exact_as (exact_last (constant_exact r) (labels.Range x)) (λ ts u. u)
      (λ ts y rest u d. ranged_to x p ts y rest d) (λ ts y rest u g d. ranged_from x p ts y rest g d) (λ t g. tt))) (λ ts h. symbol_is symbols.Range (kind ts) h.0) (λ t g. g))
  tail_by x false = exact_as (exact_pure (labels.Value x) Always Any (At r)) (λ ts h. tt) (λ ts y rest h d. single_to x ts y rest d) (λ ts y rest h g d. single_from x ts y rest h.0 d) (λ t g. tt)

  pub label_exact : Exact 1 spec.label Always IsLabel NoRange (At r) (At r)
  unfolding spec.label
  label_exact = exact_iff (exact_bind (constant_exact r) (λ x. exact_on (λ ts. is_symbol symbols.Range (kind ts)) (by_kind (is_symbol symbols.Range)) (spec.label_by x) Always (IsTail x) NoRange (At r) (At r) (tail_by x)) (λ x mid rest y d g. tt)) label_to label_from

-- ---- statements without statements in them

named_not : {p : Position} {n : List ℕ} {ts rest : List Tok} {v : _} → is_symbol symbols.Open (kind ts) ≡ true → (kind rest ≡ Some (token_kinds.Symbol symbols.Assign)) → IsVariable ((p, token_kinds.Word n) ∷ ts) v rest → ⊥
named_not h e (is_named {ts = us} no_part) = let a = symbol_is symbols.Open (kind us) h in cc
named_not h e (is_named (parts field m)) = cc
named_not h e (is_named (parts (subscripts d o) m)) = cc

call_not : {p : Position} {n : List ℕ} {ts rest : List Tok} {c : _} → is_symbol symbols.Open (kind ts) ≡ false → IsCall ((p, token_kinds.Word n) ∷ ts) c rest → ⊥
call_not h (called no_arguments) = cc
call_not h (called (arguments d m)) = cc

abbrev IsInvocation : Relation Statement
IsInvocation = Then IsCall (λ c. Then (IsOne (token_kinds.Symbol symbols.Semicolon)) (λ q. IsPure (statement_kinds.Call c)))

invocation_to : (ts : List Tok) (x : Statement) (rest : List Tok) → IsInvocation ts x rest → IsStatement ts x rest
invocation_to ts x rest (seq d (seq one m)) = made m (λ y us. IsStatement ts y us) (invocation d)

invocation_from : (n : List ℕ) (p : Position) (us : List Tok) → (x : Statement) (rest : List Tok) → is_symbol symbols.Open (kind us) ≡ true → IsStatement ((p, token_kinds.Word n) ∷ us) x rest → IsInvocation ((p, token_kinds.Word n) ∷ us) x rest
invocation_from n p us x rest h (invocation d) = seq d (seq one done)
invocation_from n p us x rest h (assignment d e) = absurd (named_not h refl d)

abbrev IsAssigned : Relation Expression
IsAssigned = Then (IsOne (token_kinds.Symbol symbols.Assign)) (λ q. Before (IsBinary 7) (token_kinds.Symbol symbols.Semicolon))

abbrev IsAssignment : Relation Statement
IsAssignment = Then IsVariable (λ v. Then IsAssigned (λ x. IsPure (statement_kinds.Assignment v x)))

assignment_to : (ts : List Tok) (x : Statement) (rest : List Tok) → IsAssignment ts x rest → IsStatement ts x rest
assignment_to ts x rest (seq d (seq (seq one (seq e (seq one done))) m)) = made m (λ y us. IsStatement ts y us) (assignment d e)

assignment_from : (n : List ℕ) (p : Position) (us : List Tok) → (x : Statement) (rest : List Tok) → is_symbol symbols.Open (kind us) ≡ false → IsStatement ((p, token_kinds.Word n) ∷ us) x rest → IsAssignment ((p, token_kinds.Word n) ∷ us) x rest
assignment_from n p us x rest h (assignment d e) = seq d (seq (seq one (seq e (seq one done))) done)
assignment_from n p us x rest h (invocation d) = absurd (call_not h d)

assignment_follow : (v : Variable) (mid rest : List Tok) (y : Statement) → Then IsAssigned (λ x. IsPure (statement_kinds.Assignment v x)) mid y rest → Any (kind rest) → Stops 0 (kind mid)
assignment_follow v mid rest y (seq (seq one d) m) g = tt

empty_to : (p : Position) (ts : List Tok) (x : Statement) (rest : List Tok) → IsPure (statement_kinds.Empty p) ts x rest → IsStatement ((p, token_kinds.Symbol symbols.Semicolon) ∷ ts) x rest
empty_to p ts x rest d = made d (λ y us. IsStatement ((p, token_kinds.Symbol symbols.Semicolon) ∷ ts) y us) empty

empty_from : (p : Position) (ts : List Tok) (x : Statement) (rest : List Tok) → IsStatement ((p, token_kinds.Symbol symbols.Semicolon) ∷ ts) x rest → IsPure (statement_kinds.Empty p) ts x rest
empty_from p ts x rest empty = done
empty_from p ts x rest (assignment d e) = elim d [ ]
empty_from p ts x rest (invocation d) = elim d [ ]

abbrev IsEnd : Statement → Relation Statement
IsEnd x = Then (IsOne (token_kinds.Symbol symbols.Semicolon)) (λ z. IsPure x)

return_statement_to : (p : Position) (ts : List Tok) (x : Statement) (rest : List Tok) → IsEnd (statement_kinds.Return p) ts x rest → IsStatement ((p, token_kinds.Keyword keywords.Return) ∷ ts) x rest
return_statement_to p ts x rest (seq one m) = made m (λ y us. IsStatement ((p, token_kinds.Keyword keywords.Return) ∷ ts) y us) return_statement

return_statement_from : (p : Position) (ts : List Tok) (x : Statement) (rest : List Tok) → IsStatement ((p, token_kinds.Keyword keywords.Return) ∷ ts) x rest → IsEnd (statement_kinds.Return p) ts x rest
return_statement_from p ts x rest return_statement = seq one done
return_statement_from p ts x rest (assignment d e) = elim d [ ]
return_statement_from p ts x rest (invocation d) = elim d [ ]

exit_statement_to : (p : Position) (ts : List Tok) (x : Statement) (rest : List Tok) → IsEnd (statement_kinds.Exit p) ts x rest → IsStatement ((p, token_kinds.Keyword keywords.Exit) ∷ ts) x rest
exit_statement_to p ts x rest (seq one m) = made m (λ y us. IsStatement ((p, token_kinds.Keyword keywords.Exit) ∷ ts) y us) exit_statement

exit_statement_from : (p : Position) (ts : List Tok) (x : Statement) (rest : List Tok) → IsStatement ((p, token_kinds.Keyword keywords.Exit) ∷ ts) x rest → IsEnd (statement_kinds.Exit p) ts x rest
exit_statement_from p ts x rest exit_statement = seq one done
exit_statement_from p ts x rest (assignment d e) = elim d [ ]
exit_statement_from p ts x rest (invocation d) = elim d [ ]

-- a statement that begins with a word takes it
word_takes : (r : ℕ) (n : List ℕ) (p : Position) (us : List Tok) (b : Bool) (s : Stays (spec.named_by r b) ((p, token_kinds.Word n) ∷ us)) → s.taken ≡ [] → ⊥
unfolding spec.invocation spec.assignment spec.assigned expressions.call expressions.arguments expressions.variable parser.identifier parser.enter parser.expect parser.many parser.many_from
word_takes zero n p us true s nothing =
    takes_refused (spec.named_by zero true) _ s nothing ((p, token_kinds.Word n) ∷ []) ((p, token_kinds.Word n) ∷ (p, token_kinds.Symbol symbols.Open) ∷ []) (Deep None) (Deep (Some p)) refl refl refl refl (λ e. cc)
word_takes (suc r) n p us true s nothing =
    takes_refused (spec.named_by (suc r) true) _ s nothing ((p, token_kinds.Word n) ∷ (p, token_kinds.Symbol symbols.Open) ∷ (p, token_kinds.Symbol symbols.Close) ∷ [])
    ((p, token_kinds.Word n) ∷ (p, token_kinds.Symbol symbols.Open) ∷ (p, token_kinds.Symbol symbols.Close) ∷ (p, token_kinds.Symbol symbols.Comma) ∷ []) (Wrong None) (Wrong (Some p)) refl refl refl refl (λ e. cc)
word_takes r n p us false s nothing =
    takes_refused (spec.named_by r false) _ s nothing ((p, token_kinds.Word n) ∷ []) ((p, token_kinds.Word n) ∷ (p, token_kinds.Symbol symbols.Comma) ∷ []) (Wrong None) (Wrong (Some p)) refl refl refl refl (λ e. cc)

module _ (r : ℕ) where
  empty_exact : Exact 1 spec.empty (IsFirst (token_kinds.Symbol symbols.Semicolon)) IsStatement Any (At r) (At r)
  unfolding spec.empty
  empty_exact = exact_token (token_kinds.Symbol symbols.Semicolon) refl {R = IsStatement} (λ p. exact_iff (exact_pure (statement_kinds.Empty p) Always Any (At r)) (empty_to p) (empty_from p))

  -- ';', and what it ends
  end_exact : (x : Statement) → Exact 1 (λ ts. and_then (parser.expect_symbol symbols.Semicolon ts) (λ z. parser.pure x)) Always (IsEnd x) Any (At r) (At r)
  end_exact x = exact_bind (exact_symbol symbols.Semicolon r refl) (λ z. exact_pure x Always Any (At r)) (λ z mid rest y d g. tt)

  return_statement_exact : Exact 1 spec.return_statement (IsFirst (token_kinds.Keyword keywords.Return)) IsStatement Any (At r) (At r)
  unfolding spec.return_statement
  return_statement_exact = exact_token (token_kinds.Keyword keywords.Return) refl {R = IsStatement} (λ p. exact_iff (end_exact (statement_kinds.Return p)) (return_statement_to p) (return_statement_from p))

  exit_statement_exact : Exact 1 spec.exit_statement (IsFirst (token_kinds.Keyword keywords.Exit)) IsStatement Any (At r) (At r)
  unfolding spec.exit_statement
  exit_statement_exact = exact_token (token_kinds.Keyword keywords.Exit) refl {R = IsStatement} (λ p. exact_iff (end_exact (statement_kinds.Exit p)) (exit_statement_to p) (exit_statement_from p))

  assigned_exact : Exact 1 (spec.assigned r) Always IsAssigned Any (At r) (At r)
  unfolding spec.assigned
  assigned_exact = exact_bind (exact_symbol symbols.Assign r refl) (λ q. exact_before (token_kinds.Symbol symbols.Semicolon) (expression_exact r) tt (exact_symbol symbols.Semicolon r refl) (λ x z. exact_pure x Always Any (At r)))
      (λ q mid rest y d g. tt)

  named_by : (n : List ℕ) (b : Bool) → Exact 1 (spec.named_by r b) (λ ts. (is_symbol symbols.Open (kind (next ts)) ≡ b) × IsFirst (token_kinds.Word n) ts) IsStatement Any (At r) (At r)
  unfolding spec.invocation spec.assignment
  named_by n true = exact_as (exact_before (token_kinds.Symbol symbols.Semicolon) (call_exact r (inside_of r) (inside_exact r)) tt (exact_symbol symbols.Semicolon r refl) (λ c q. exact_pure (statement_kinds.Call c) Always Any (At r)))
      (λ ts p. symbol_is symbols.Open (kind (next ts)) p.0) (λ ts x rest p d. invocation_to ts x rest d)
      (λ ts x rest p g d. at_first (token_kinds.Word n) (λ us. (x : Statement) (rest : List Tok) → is_symbol symbols.Open (kind (next us)) ≡ true → IsStatement us x rest → IsInvocation us x rest) (invocation_from n) ts p.1 x rest p.0 d) (λ t g. g)
  named_by n false = exact_as (exact_bind (variable_exact r (inside_of r) (inside_exact r)) (λ v. exact_last assigned_exact (λ x. statement_kinds.Assignment v x)) assignment_follow)
      (λ ts p. tt) (λ ts x rest p d. assignment_to ts x rest d)
      (λ ts x rest p g d. at_first (token_kinds.Word n) (λ us. (x : Statement) (rest : List Tok) → is_symbol symbols.Open (kind (next us)) ≡ false → IsStatement us x rest → IsAssignment us x rest) (assignment_from n) ts p.1 x rest p.0 d) (λ t g. g)

  named_steady : (n : List ℕ) → Steady (λ ts. is_symbol symbols.Open (kind (next ts))) (spec.named_by r) (IsFirst (token_kinds.Word n))
  named_steady n = steady_second (λ ts. is_symbol symbols.Open (kind (next ts))) (spec.named_by r) (IsFirst (token_kinds.Word n)) (by_second (is_symbol symbols.Open))
      (λ ts p s nothing. at_first (token_kinds.Word n) (λ us. (b : Bool) (s : Stays (spec.named_by r b) us) → s.taken ≡ [] → ⊥) (word_takes r n) ts p (is_symbol symbols.Open (kind (next ts))) s nothing)

  named_exact : (n : List ℕ) → Exact 1 (spec.named r) (IsFirst (token_kinds.Word n)) IsStatement Any (At r) (At r)
  unfolding spec.named
  named_exact n = exact_by (λ ts. is_symbol symbols.Open (kind (next ts))) (spec.named_by r) (IsFirst (token_kinds.Word n)) (named_steady n) IsStatement Any (At r) (At r) (named_by n)

-- ---- parts of statements

-- a list of statements ends
abbrev pub EndsBlock : Option Kind → Type 0
EndsBlock = Ends begins_statement Any

-- what is read inside one more open level is read exactly
abbrev pub ExactDeeper : ℕ → Deeper → Type 0
ExactDeeper zero d = Unit {0}
ExactDeeper (suc r) d = (Exact 1 d.expression Always (IsBinary 7) (Stops 7) (At r) (At r)) × (Exact 0 d.statements Always IsStatements EndsBlock (At r) (At r))

data IsElsif : List Tok → ConditionalPart → List Tok → Type 0 where
  elsif : {p : Position} {ts rest : List Tok} {x : ConditionalPart} → IsConditional ts x rest → IsElsif ((p, token_kinds.Keyword keywords.Elsif) ∷ ts) x rest

elsif_begins : (ts : List Tok) (x : ConditionalPart) (rest : List Tok) → IsElsif ts x rest → is_keyword keywords.Elsif (kind ts) ≡ true
elsif_begins ts x rest (elsif d) = refl

elsif_from : (p : Position) (ts : List Tok) (x : ConditionalPart) (rest : List Tok) → IsElsif ((p, token_kinds.Keyword keywords.Elsif) ∷ ts) x rest → IsConditional ts x rest
elsif_from p ts x rest (elsif d) = d

to_elsifs : {ts rest : List Tok} {xs : List ConditionalPart} → IsMany IsElsif ts xs rest → IsElsifs ts xs rest
to_elsifs none = no_elsif
to_elsifs (more (elsif d) m) = elsifs d (to_elsifs m)

from_elsifs : {ts rest : List Tok} {xs : List ConditionalPart} → IsElsifs ts xs rest → IsMany IsElsif ts xs rest
from_elsifs no_elsif = none
from_elsifs (elsifs d m) = more (elsif d) (from_elsifs m)

-- the parts of IF and ELSIF
data AreConditionals : List Tok → List ConditionalPart → List Tok → Type 0 where
  conditionals : {ts mid rest : List Tok} {x : ConditionalPart} {xs : List ConditionalPart} → IsConditional ts x mid → IsElsifs mid xs rest → AreConditionals ts (x ∷ xs) rest

abbrev Leading : {A : Type 0} → Relation A → Relation A → Relation (List A)
Leading R S = Then R (λ x. Then (IsMany S) (λ xs. IsPure (x ∷ xs)))

conditionals_to : (ts : List Tok) (x : List ConditionalPart) (rest : List Tok) → Leading IsConditional IsElsif ts x rest → AreConditionals ts x rest
conditionals_to ts x rest (seq d (seq m e)) = made e (λ y us. AreConditionals ts y us) (conditionals d (to_elsifs m))

conditionals_from : (ts : List Tok) (x : List ConditionalPart) (rest : List Tok) → AreConditionals ts x rest → Leading IsConditional IsElsif ts x rest
conditionals_from ts x rest (conditionals d m) = seq d (seq (from_elsifs m) done)

-- the cases of CASE
data AreCases : List Tok → List CaseElement → List Tok → Type 0 where
  all_cases : {ts mid rest : List Tok} {x : CaseElement} {xs : List CaseElement} → IsCase ts x mid → IsCases mid xs rest → AreCases ts (x ∷ xs) rest

to_cases : {ts rest : List Tok} {xs : List CaseElement} → IsMany IsCase ts xs rest → IsCases ts xs rest
to_cases none = no_case
to_cases (more d m) = cases d (to_cases m)

from_cases : {ts rest : List Tok} {xs : List CaseElement} → IsCases ts xs rest → IsMany IsCase ts xs rest
from_cases no_case = none
from_cases (cases d m) = more d (from_cases m)

cases_to : (ts : List Tok) (x : List CaseElement) (rest : List Tok) → Leading IsCase IsCase ts x rest → AreCases ts x rest
cases_to ts x rest (seq d (seq m e)) = made e (λ y us. AreCases ts y us) (all_cases d (to_cases m))

cases_from : (ts : List Tok) (x : List CaseElement) (rest : List Tok) → AreCases ts x rest → Leading IsCase IsCase ts x rest
cases_from ts x rest (all_cases d m) = seq d (seq (from_cases m) done)

label_test : (t : Option Kind) → begins_constant t ≡ true → begins_label t ≡ true
label_test (Some (token_kinds.Typed elem n)) h = refl
label_test (Some (token_kinds.Duration d)) h = refl
label_test (Some (token_kinds.Keyword keywords.True)) h = refl
label_test (Some (token_kinds.Keyword keywords.False)) h = refl
label_test (Some (token_kinds.Number n)) h = refl
label_test (Some (token_kinds.Symbol symbols.Plus)) h = refl
label_test (Some (token_kinds.Symbol symbols.Minus)) h = refl
label_test _ h = absurd (cc)

case_begins : (ts : List Tok) (x : CaseElement) (rest : List Tok) → IsCase ts x rest → begins_label (kind ts) ≡ true
case_begins ts x rest (case (listed (value d) m) e) = label_test (kind ts) (constant_begins d)
case_begins ts x rest (case (listed (range d f) m) e) = label_test (kind ts) (constant_begins d)

label_ends : (t : Option Kind) → begins_label t ≡ true → EndsBlock t
label_ends (Some (token_kinds.Typed elem n)) h = (refl, tt)
label_ends (Some (token_kinds.Duration d)) h = (refl, tt)
label_ends (Some (token_kinds.Keyword keywords.True)) h = (refl, tt)
label_ends (Some (token_kinds.Keyword keywords.False)) h = (refl, tt)
label_ends (Some (token_kinds.Number n)) h = (refl, tt)
label_ends (Some (token_kinds.Symbol symbols.Plus)) h = (refl, tt)
label_ends (Some (token_kinds.Symbol symbols.Minus)) h = (refl, tt)
label_ends _ h = absurd (cc)

-- this, the word that closes its level, and ';'
abbrev Closed : {A : Type 0} → Relation A → Kind → Relation A
Closed R x = Then R (λ a. Then (IsOne x) (λ q. Then (IsOne (token_kinds.Symbol symbols.Semicolon)) (λ z. IsPure a)))

abbrev ConditionalRule : Relation ConditionalPart
ConditionalRule = Then (Before (IsBinary 7) (token_kinds.Keyword keywords.Then)) (λ x. Then IsStatements (λ ss. IsPure (part_of x ss)))

conditional_to : (ts : List Tok) (x : ConditionalPart) (rest : List Tok) → ConditionalRule ts x rest → IsConditional ts x rest
conditional_to ts x rest (seq (seq d (seq one done)) (seq e m)) = made m (λ y us. IsConditional ts y us) (conditional d e)

conditional_from : (ts : List Tok) (x : ConditionalPart) (rest : List Tok) → IsConditional ts x rest → ConditionalRule ts x rest
conditional_from ts x rest (conditional d e) = seq (seq d (seq one done)) (seq e done)

abbrev CaseRule : Relation CaseElement
CaseRule = Then (IsListed IsLabel) (λ ls. Then (IsOne (token_kinds.Symbol symbols.Colon)) (λ q. Then IsStatements (λ ss. IsPure (case_of ls ss))))

case_to : (ts : List Tok) (x : CaseElement) (rest : List Tok) → CaseRule ts x rest → IsCase ts x rest
case_to ts x rest (seq d (seq one (seq e m))) = made m (λ y us. IsCase ts y us) (case d e)

case_from : (ts : List Tok) (x : CaseElement) (rest : List Tok) → IsCase ts x rest → CaseRule ts x rest
case_from ts x rest (case d e) = seq d (seq one (seq e done))

-- ELSE may not follow, nor a statement
abbrev EndsElse : Option Kind → Type 0
EndsElse t = (is_keyword keywords.Else t ≡ false) × EndsBlock t

else_from : (p : Position) (ts : List Tok) (x : List Statement) (rest : List Tok) → EndsElse (kind rest) → IsElse ((p, token_kinds.Keyword keywords.Else) ∷ ts) x rest → IsStatements ts x rest
else_from p ts x rest g (otherwise d) = d
else_from p ts x rest g no_else = absurd (let wrong = g.0 in cc)

no_else_to : (ts : List Tok) (x : List Statement) (rest : List Tok) → IsPure [] ts x rest → IsElse ts x rest
no_else_to ts x rest d = made d (λ y us. IsElse ts y us) no_else

no_else_from : (ts : List Tok) (x : List Statement) (rest : List Tok) → is_keyword keywords.Else (kind ts) ≡ false → IsElse ts x rest → IsPure [] ts x rest
no_else_from ts x rest h no_else = done
no_else_from ts x rest h (otherwise d) = absurd (cc)

-- BY may not follow
abbrev EndsBy : Option Kind → Type 0
EndsBy t = (is_keyword keywords.By t ≡ false) × Stops 7 t

by_to : (p : Position) (ts : List Tok) (x : Option Expression) (rest : List Tok) → Then (IsBinary 7) (λ y. IsPure (Some y)) ts x rest → IsBy ((p, token_kinds.Keyword keywords.By) ∷ ts) x rest
by_to p ts x rest (seq d m) = made m (λ y us. IsBy ((p, token_kinds.Keyword keywords.By) ∷ ts) y us) (by_step d)

by_from : (p : Position) (ts : List Tok) (x : Option Expression) (rest : List Tok) → EndsBy (kind rest) → IsBy ((p, token_kinds.Keyword keywords.By) ∷ ts) x rest → Then (IsBinary 7) (λ y. IsPure (Some y)) ts x rest
by_from p ts x rest g (by_step d) = seq d done
by_from p ts x rest g no_by = absurd (let wrong = g.0 in cc)

no_by_to : (ts : List Tok) (x : Option Expression) (rest : List Tok) → IsPure None ts x rest → IsBy ts x rest
no_by_to ts x rest d = made d (λ y us. IsBy ts y us) no_by

no_by_from : (ts : List Tok) (x : Option Expression) (rest : List Tok) → is_keyword keywords.By (kind ts) ≡ false → IsBy ts x rest → IsPure None ts x rest
no_by_from ts x rest h no_by = done
no_by_from ts x rest h (by_step d) = absurd (cc)

module _ (r : ℕ) (d : Deeper) (e : ExactDeeper (suc r) d) where
  expression_before_exact : (x : Keyword) → Stops 7 (Some (token_kinds.Keyword x)) → opens (token_kinds.Keyword x) ≡ 0
      → Exact 1 (spec.expression_before d x) Always (Before (IsBinary 7) (token_kinds.Keyword x)) Any (At r) (At (past (closes (token_kinds.Keyword x)) r))
  unfolding spec.expression_before
  expression_before_exact x stops plain = exact_before (token_kinds.Keyword x) e.0 stops (exact_keyword x r plain) (λ a q. exact_pure a Always Any (At (past (closes (token_kinds.Keyword x)) r)))

  closed_block_exact : (x : Keyword) → EndsBlock (Some (token_kinds.Keyword x)) → opens (token_kinds.Keyword x) ≡ 0
      → Exact 0 (spec.closed_block d x) Always (Closed IsStatements (token_kinds.Keyword x)) Any (At r) (At (past (closes (token_kinds.Keyword x)) r))
  unfolding spec.closed_block
  closed_block_exact x ends plain = exact_before (token_kinds.Keyword x) e.1 ends (exact_keyword x r plain) (λ ss q. exact_bind (exact_symbol symbols.Semicolon (past (closes (token_kinds.Keyword x)) r) refl)
      (λ z. exact_pure ss Always Any (At (past (closes (token_kinds.Keyword x)) r))) (λ z mid rest y c g. tt))

  conditional_exact : Exact 1 (spec.conditional d) Always IsConditional EndsBlock (At r) (At r)
  unfolding spec.conditional
  conditional_exact = exact_iff (exact_bind (expression_before_exact keywords.Then tt refl) (λ x. exact_last e.1 (part_of x)) (λ x mid rest y c g. tt)) conditional_to conditional_from

  elsif_exact : Exact 1 (spec.elsif d) (λ ts. is_keyword keywords.Elsif (kind ts) ≡ true) IsElsif EndsBlock (At r) (At r)
  unfolding spec.elsif
  elsif_exact = exact_under (exact_token (token_kinds.Keyword keywords.Elsif) refl {R = IsElsif} (λ p. exact_iff conditional_exact (λ ts x rest c. elsif c) (elsif_from p))) (λ ts h. keyword_is keywords.Elsif (kind ts) h) (λ t g. g)

  elsif_fits : (t : Option Kind) → is_keyword keywords.Elsif t ≡ true → EndsBlock t
  elsif_fits t h = subst EndsBlock (sym (keyword_is keywords.Elsif t h)) (refl, tt)

  conditionals_follow : (x : ConditionalPart) (mid rest : List Tok) (y : List ConditionalPart) → Then (IsMany IsElsif) (λ xs. IsPure (x ∷ xs)) mid y rest → Ends (is_keyword keywords.Elsif) EndsBlock (kind rest) → EndsBlock (kind mid)
  conditionals_follow x mid rest y (seq none c) g = made c (λ z us. Ends (is_keyword keywords.Elsif) EndsBlock (kind us) → EndsBlock (kind mid)) (λ f. f.1) g
  conditionals_follow x mid rest y (seq (more (elsif i) m) c) g = (refl, tt)

  conditionals_exact : Exact 1 (spec.conditionals d) Always AreConditionals (Ends (is_keyword keywords.Elsif) EndsBlock) (At r) (At r)
  unfolding parser.leading
  conditionals_exact = exact_iff (exact_bind conditional_exact (λ x. exact_last (exact_many (is_keyword keywords.Elsif) (spec.elsif d) IsElsif EndsBlock (At r) elsif_exact elsif_begins elsif_fits) (λ xs. x ∷ xs)) conditionals_follow)
      conditionals_to conditionals_from

  otherwise_by : (b : Bool) → Exact 0 (spec.otherwise_by d b) (λ ts. (is_keyword keywords.Else (kind ts) ≡ b) × Always ts) IsElse EndsElse (At r) (At r)
  otherwise_by true = exact_zero (exact_under (exact_token (token_kinds.Keyword keywords.Else) refl {R = IsElse} (λ p. exact_as e.1 (λ ts u. u) (λ ts x rest u i. otherwise i) (λ ts x rest u g i. else_from p ts x rest g i) (λ t g. g.1)))
      (λ ts h. keyword_is keywords.Else (kind ts) h.0) (λ t g. g))
  otherwise_by false = exact_as (exact_pure [] Always Any (At r)) (λ ts h. tt) (λ ts x rest h i. no_else_to ts x rest i) (λ ts x rest h g i. no_else_from ts x rest h.0 i) (λ t g. tt)

  otherwise_exact : Exact 0 (spec.otherwise d) Always IsElse EndsElse (At r) (At r)
  unfolding spec.otherwise
  otherwise_exact = exact_on (λ ts. is_keyword keywords.Else (kind ts)) (by_kind (is_keyword keywords.Else)) (spec.otherwise_by d) Always IsElse EndsElse (At r) (At r) otherwise_by

  closed_otherwise_exact : (x : Keyword) → EndsElse (Some (token_kinds.Keyword x)) → opens (token_kinds.Keyword x) ≡ 0
      → Exact 0 (spec.closed_otherwise d x) Always (Closed IsElse (token_kinds.Keyword x)) Any (At r) (At (past (closes (token_kinds.Keyword x)) r))
  unfolding spec.closed_otherwise
  closed_otherwise_exact x ends plain = exact_before (token_kinds.Keyword x) otherwise_exact ends (exact_keyword x r plain) (λ ss q. exact_bind (exact_symbol symbols.Semicolon (past (closes (token_kinds.Keyword x)) r) refl)
      (λ z. exact_pure ss Always Any (At (past (closes (token_kinds.Keyword x)) r))) (λ z mid rest y c g. tt))

  step_by : (b : Bool) → Exact 0 (spec.step_by d b) (λ ts. (is_keyword keywords.By (kind ts) ≡ b) × Always ts) IsBy EndsBy (At r) (At r)
  step_by true = exact_zero (exact_under (exact_token (token_kinds.Keyword keywords.By) refl {R = IsBy} (λ p. exact_as (exact_last e.0 (λ x. Some x)) (λ ts u. u) (λ ts x rest u i. by_to p ts x rest i) (λ ts x rest u g i. by_from p ts x rest g i) (λ t g. g.1)))
      (λ ts h. keyword_is keywords.By (kind ts) h.0) (λ t g. g))
  step_by false = exact_as (exact_pure None Always Any (At r)) (λ ts h. tt) (λ ts x rest h i. no_by_to ts x rest i) (λ ts x rest h g i. no_by_from ts x rest h.0 i) (λ t g. tt)

  step_exact : Exact 0 (spec.step d) Always IsBy EndsBy (At r) (At r)
  unfolding spec.step
  step_exact = exact_on (λ ts. is_keyword keywords.By (kind ts)) (by_kind (is_keyword keywords.By)) (spec.step_by d) Always IsBy EndsBy (At r) (At r) step_by

  case_exact : Exact 1 (spec.case d) Always IsCase EndsBlock (At r) (At r)
  unfolding spec.case
  case_exact = exact_iff (exact_before (token_kinds.Symbol symbols.Colon) (exact_listed spec.label IsLabel NoRange r (label_exact r) refl) (refl, refl) (exact_symbol symbols.Colon r refl) (λ ls q. exact_last e.1 (case_of ls))) case_to case_from

  cases_follow : (x : CaseElement) (mid rest : List Tok) (y : List CaseElement) → Then (IsMany IsCase) (λ xs. IsPure (x ∷ xs)) mid y rest → Ends begins_label EndsBlock (kind rest) → EndsBlock (kind mid)
  cases_follow x mid rest y (seq none c) g = made c (λ z us. Ends begins_label EndsBlock (kind us) → EndsBlock (kind mid)) (λ f. f.1) g
  cases_follow x mid rest y (seq (more {mid = last} {x = z} i m) c) g = label_ends (kind mid) (case_begins mid z last i)

  cases_exact : Exact 1 (spec.cases d) Always AreCases (Ends begins_label EndsBlock) (At r) (At r)
  unfolding parser.leading
  cases_exact = exact_iff (exact_bind case_exact (λ x. exact_last (exact_many begins_label (spec.case d) IsCase EndsBlock (At r) (exact_under case_exact (λ ts h. tt) (λ t g. g)) case_begins label_ends) (λ xs. x ∷ xs)) cases_follow)
      cases_to cases_from

-- ---- statements with statements in them

abbrev IfRule : Position → Relation Statement
IfRule p = Then AreConditionals (λ xs. Then (Closed IsElse (token_kinds.Keyword keywords.EndIf)) (λ ys. IsPure (statement_kinds.If (if_of p xs ys))))

if_statement_to : (p : Position) (ts : List Tok) (x : Statement) (rest : List Tok) → IfRule p ts x rest → IsStatement ((p, token_kinds.Keyword keywords.If) ∷ ts) x rest
if_statement_to p ts x rest (seq (conditionals a m) (seq (seq b (seq one (seq one done))) c)) = made c (λ y us. IsStatement ((p, token_kinds.Keyword keywords.If) ∷ ts) y us) (if_statement a m b)

if_statement_from : (p : Position) (ts : List Tok) (x : Statement) (rest : List Tok) → IsStatement ((p, token_kinds.Keyword keywords.If) ∷ ts) x rest → IfRule p ts x rest
if_statement_from p ts x rest (if_statement a m b) = seq (conditionals a m) (seq (seq b (seq one (seq one done))) done)
if_statement_from p ts x rest (assignment d e) = elim d [ ]
if_statement_from p ts x rest (invocation d) = elim d [ ]

abbrev BodyRule : Relation (List CaseElement × List Statement)
BodyRule = Then AreCases (λ cs. Then (Closed IsElse (token_kinds.Keyword keywords.EndCase)) (λ ys. IsPure (cs, ys)))

abbrev CaseStatementRule : Position → Relation Statement
CaseStatementRule p = Then (Before (IsBinary 7) (token_kinds.Keyword keywords.Of)) (λ a. Then BodyRule (λ b. IsPure (statement_kinds.Case (case_statement_of p a b.0 b.1))))

case_statement_to : (p : Position) (ts : List Tok) (x : Statement) (rest : List Tok) → CaseStatementRule p ts x rest → IsStatement ((p, token_kinds.Keyword keywords.Case) ∷ ts) x rest
case_statement_to p ts x rest (seq (seq a (seq one done)) (seq (seq (all_cases b m) (seq (seq o (seq one (seq one done))) done)) c)) = made c (λ y us. IsStatement ((p, token_kinds.Keyword keywords.Case) ∷ ts) y us) (case_statement a b m o)

case_statement_from : (p : Position) (ts : List Tok) (x : Statement) (rest : List Tok) → IsStatement ((p, token_kinds.Keyword keywords.Case) ∷ ts) x rest → CaseStatementRule p ts x rest
case_statement_from p ts x rest (case_statement a b m o) = seq (seq a (seq one done)) (seq (seq (all_cases b m) (seq (seq o (seq one (seq one done))) done)) done)
case_statement_from p ts x rest (assignment d e) = elim d [ ]
case_statement_from p ts x rest (invocation d) = elim d [ ]

-- the values that a variable of FOR takes, and DO
data IsForRange : List Tok → ForRange → List Tok → Type 0 where
  bounds : {p q : Position} {ts mid then rest : List Tok} {a b : Expression} {c : Option Expression} → IsBinary 7 ts a ((p, token_kinds.Keyword keywords.To) ∷ mid) → IsBinary 7 mid b then
      → IsBy then c ((q, token_kinds.Keyword keywords.Do) ∷ rest) → IsForRange ts (range_of a b c) rest

abbrev LastRule : Relation (Expression × Option Expression)
LastRule = Then (IsBinary 7) (λ b. Then (Before IsBy (token_kinds.Keyword keywords.Do)) (λ c. IsPure (b, c)))

abbrev RangeRule : Relation ForRange
RangeRule = Then (Before (IsBinary 7) (token_kinds.Keyword keywords.To)) (λ a. Then LastRule (λ x. IsPure (range_of a x.0 x.1)))

bounds_to : (ts : List Tok) (x : ForRange) (rest : List Tok) → RangeRule ts x rest → IsForRange ts x rest
bounds_to ts x rest (seq (seq a (seq one done)) (seq (seq b (seq (seq c (seq one done)) done)) m)) = made m (λ y us. IsForRange ts y us) (bounds a b c)

bounds_from : (ts : List Tok) (x : ForRange) (rest : List Tok) → IsForRange ts x rest → RangeRule ts x rest
bounds_from ts x rest (bounds a b c) = seq (seq a (seq one done)) (seq (seq b (seq (seq c (seq one done)) done)) done)

by_follow : {A : Type 0} {f : Option Expression → A} (mid rest : List Tok) (y : A) → Then (Before IsBy (token_kinds.Keyword keywords.Do)) (λ c. IsPure (f c)) mid y rest → Stops 7 (kind mid)
by_follow mid rest y (seq (seq (by_step d) c) m) = tt
by_follow mid rest y (seq (seq no_by (seq one c)) m) = tt

abbrev HeadRule : Position → Relation ForStatement
HeadRule p = Then (Before IsWord (token_kinds.Symbol symbols.Assign)) (λ n. Then IsForRange (λ x. IsPure (for_of p n x.first x.last x.step [])))

module _ (r : ℕ) (d : Deeper) (e : ExactDeeper (suc r) d) where
  closed_step_exact : Exact 0 (spec.closed_step d) Always (Before IsBy (token_kinds.Keyword keywords.Do)) Any (At r) (At r)
  unfolding spec.closed_step
  closed_step_exact = exact_before (token_kinds.Keyword keywords.Do) (step_exact r d e) (refl, tt) (exact_keyword keywords.Do r refl) (λ c q. exact_pure c Always Any (At r))

  last_exact : Exact 1 (spec.last_and_step d) Always LastRule Any (At r) (At r)
  unfolding spec.last_and_step
  last_exact = exact_bind e.0 (λ b. exact_last closed_step_exact (λ c. (b, c))) (λ b mid rest y c g. by_follow {f = λ x. (b, x)} mid rest y c)

  bounds_exact : Exact 1 (spec.for_range d) Always IsForRange Any (At r) (At r)
  unfolding spec.for_range
  bounds_exact = exact_iff (exact_bind (expression_before_exact r d e keywords.To tt refl) (λ a. exact_last last_exact (λ x. range_of a x.0 x.1)) (λ a mid rest y c g. tt)) bounds_to bounds_from

  for_head_exact : (p : Position) → Exact 1 (spec.for_head p d) Always (HeadRule p) Any (At r) (At r)
  unfolding spec.for_head
  for_head_exact p = exact_bind (exact_identifier_before symbols.Assign r refl) (λ n. exact_last bounds_exact (λ x. for_of p n x.first x.last x.step [])) (λ n mid rest y c g. tt)

abbrev ForRule : Position → Relation Statement
ForRule p = Then (HeadRule p) (λ h. Then (Closed IsStatements (token_kinds.Keyword keywords.EndFor)) (λ ss. IsPure (statement_kinds.For (spec.for_with h ss))))

for_statement_to : (p : Position) (ts : List Tok) (x : Statement) (rest : List Tok) → ForRule p ts x rest → IsStatement ((p, token_kinds.Keyword keywords.For) ∷ ts) x rest
for_statement_to p ts x rest (seq (seq (seq a_word (seq one done)) (seq (bounds a b c) done)) (seq (seq m (seq one (seq one done))) e)) = made e (λ y us. IsStatement ((p, token_kinds.Keyword keywords.For) ∷ ts) y us) (for_statement a b c m)

for_statement_from : (p : Position) (ts : List Tok) (x : Statement) (rest : List Tok) → IsStatement ((p, token_kinds.Keyword keywords.For) ∷ ts) x rest → ForRule p ts x rest
for_statement_from p ts x rest (for_statement a b c m) = seq (seq (seq a_word (seq one done)) (seq (bounds a b c) done)) (seq (seq m (seq one (seq one done))) done)
for_statement_from p ts x rest (assignment d e) = elim d [ ]
for_statement_from p ts x rest (invocation d) = elim d [ ]

abbrev WhileRule : Position → Relation Statement
WhileRule p = Then (Before (IsBinary 7) (token_kinds.Keyword keywords.Do)) (λ a. Then (Closed IsStatements (token_kinds.Keyword keywords.EndWhile)) (λ ss. IsPure (statement_kinds.While (while_of p a ss))))

while_to : (p : Position) (ts : List Tok) (x : Statement) (rest : List Tok) → WhileRule p ts x rest → IsStatement ((p, token_kinds.Keyword keywords.While) ∷ ts) x rest
while_to p ts x rest (seq (seq a (seq one done)) (seq (seq m (seq one (seq one done))) c)) = made c (λ y us. IsStatement ((p, token_kinds.Keyword keywords.While) ∷ ts) y us) (while_statement a m)

while_from : (p : Position) (ts : List Tok) (x : Statement) (rest : List Tok) → IsStatement ((p, token_kinds.Keyword keywords.While) ∷ ts) x rest → WhileRule p ts x rest
while_from p ts x rest (while_statement a m) = seq (seq a (seq one done)) (seq (seq m (seq one (seq one done))) done)
while_from p ts x rest (assignment d e) = elim d [ ]
while_from p ts x rest (invocation d) = elim d [ ]

abbrev UntilRule : Relation Expression
UntilRule = Then (Before (IsBinary 7) (token_kinds.Keyword keywords.EndRepeat)) (λ a. Then (IsOne (token_kinds.Symbol symbols.Semicolon)) (λ z. IsPure a))

abbrev RepeatRule : Position → Relation Statement
RepeatRule p = Then IsStatements (λ ss. Then (IsOne (token_kinds.Keyword keywords.Until)) (λ q. Then UntilRule (λ a. IsPure (statement_kinds.Repeat (repeat_of p ss a)))))

repeat_to : (p : Position) (ts : List Tok) (x : Statement) (rest : List Tok) → RepeatRule p ts x rest → IsStatement ((p, token_kinds.Keyword keywords.Repeat) ∷ ts) x rest
repeat_to p ts x rest (seq m (seq one (seq (seq (seq a (seq one done)) (seq one done)) c))) = made c (λ y us. IsStatement ((p, token_kinds.Keyword keywords.Repeat) ∷ ts) y us) (repeat_statement m a)

repeat_from : (p : Position) (ts : List Tok) (x : Statement) (rest : List Tok) → IsStatement ((p, token_kinds.Keyword keywords.Repeat) ∷ ts) x rest → RepeatRule p ts x rest
repeat_from p ts x rest (repeat_statement m a) = seq m (seq one (seq (seq (seq a (seq one done)) (seq one done)) done))
repeat_from p ts x rest (assignment d e) = elim d [ ]
repeat_from p ts x rest (invocation d) = elim d [ ]

if_statement_follow : (p : Position) (xs : List ConditionalPart) (mid rest : List Tok) (y : Statement) → Then (Closed IsElse (token_kinds.Keyword keywords.EndIf)) (λ ys. IsPure (statement_kinds.If (if_of p xs ys))) mid y rest → Any (kind rest) → Ends (is_keyword keywords.Elsif) EndsBlock (kind mid)
if_statement_follow p xs mid rest y (seq (seq (otherwise d) c) m) g = (refl, (refl, tt))
if_statement_follow p xs mid rest y (seq (seq no_else (seq one c)) m) g = (refl, (refl, tt))

body_follow : (xs : List CaseElement) (mid rest : List Tok) (y : List CaseElement × List Statement) → Then (Closed IsElse (token_kinds.Keyword keywords.EndCase)) (λ ys. IsPure (xs, ys)) mid y rest → Any (kind rest) → Ends begins_label EndsBlock (kind mid)
body_follow xs mid rest y (seq (seq (otherwise d) c) m) g = (refl, (refl, tt))
body_follow xs mid rest y (seq (seq no_else (seq one c)) m) g = (refl, (refl, tt))

-- what the reading functions do after the word that opens a level
module _ (d : Deeper) where
  abbrev after_if : Position → Parser Statement
  after_if p = λ ts. and_then (spec.conditionals d ts) (λ xs us. and_then (spec.closed_otherwise d keywords.EndIf us) (λ ys. parser.pure (statement_kinds.If (if_of p xs ys))))

  abbrev after_case : Position → Parser Statement
  after_case p = λ ts. and_then (spec.expression_before d keywords.Of ts) (λ a us. and_then (spec.case_body d us) (λ b. parser.pure (statement_kinds.Case (case_statement_of p a b.0 b.1))))

  abbrev after_for : Position → Parser Statement
  after_for p = λ ts. and_then (spec.for_head p d ts) (λ h us. and_then (spec.closed_block d keywords.EndFor us) (λ ss. parser.pure (statement_kinds.For (spec.for_with h ss))))

  abbrev after_while : Position → Parser Statement
  after_while p = λ ts. and_then (spec.expression_before d keywords.Do ts) (λ a us. and_then (spec.closed_block d keywords.EndWhile us) (λ ss. parser.pure (statement_kinds.While (while_of p a ss))))

  abbrev after_repeat : Position → Parser Statement
  after_repeat p = λ ts. and_then (d.statements ts) (λ ss us. and_then (parser.expect_keyword keywords.Until us) (λ u vs. and_then (spec.until d vs) (λ a. parser.pure (statement_kinds.Repeat (repeat_of p ss a)))))

  after_if_exact : (r : ℕ) → ExactDeeper r d → AfterOpening 1 r after_if (token_kinds.Keyword keywords.If) IsStatement Any
  after_if_exact zero e = tt
  after_if_exact (suc r) e = λ p. exact_iff
      (exact_bind (conditionals_exact r d e) (λ xs. exact_last (closed_otherwise_exact r d e keywords.EndIf (refl, (refl, tt)) refl) (λ ys. statement_kinds.If (if_of p xs ys))) (if_statement_follow p))
      (if_statement_to p) (if_statement_from p)

  case_body_exact : (r : ℕ) → ExactDeeper (suc r) d → Exact 1 (spec.case_body d) Always BodyRule Any (At r) (At (suc r))
  unfolding spec.case_body
  case_body_exact r e = exact_bind (cases_exact r d e) (λ cs. exact_last (closed_otherwise_exact r d e keywords.EndCase (refl, (refl, tt)) refl) (λ ys. (cs, ys))) body_follow

  after_case_exact : (r : ℕ) → ExactDeeper r d → AfterOpening 1 r after_case (token_kinds.Keyword keywords.Case) IsStatement Any
  after_case_exact zero e = tt
  after_case_exact (suc r) e = λ p. exact_iff
      (exact_bind (expression_before_exact r d e keywords.Of tt refl) (λ a. exact_last (case_body_exact r e) (λ b. statement_kinds.Case (case_statement_of p a b.0 b.1))) (λ a mid rest y c g. tt))
      (case_statement_to p) (case_statement_from p)

  after_for_exact : (r : ℕ) → ExactDeeper r d → AfterOpening 1 r after_for (token_kinds.Keyword keywords.For) IsStatement Any
  after_for_exact zero e = tt
  after_for_exact (suc r) e = λ p. exact_iff
      (exact_bind (for_head_exact r d e p) (λ h. exact_last (closed_block_exact r d e keywords.EndFor (refl, tt) refl) (λ ss. statement_kinds.For (spec.for_with h ss))) (λ h mid rest y c g. tt))
      (for_statement_to p) (for_statement_from p)

  after_while_exact : (r : ℕ) → ExactDeeper r d → AfterOpening 1 r after_while (token_kinds.Keyword keywords.While) IsStatement Any
  after_while_exact zero e = tt
  after_while_exact (suc r) e = λ p. exact_iff
      (exact_bind (expression_before_exact r d e keywords.Do tt refl) (λ a. exact_last (closed_block_exact r d e keywords.EndWhile (refl, tt) refl) (λ ss. statement_kinds.While (while_of p a ss))) (λ a mid rest y c g. tt))
      (while_to p) (while_from p)

  until_exact : (r : ℕ) → ExactDeeper (suc r) d → Exact 1 (spec.until d) Always UntilRule Any (At r) (At (suc r))
  unfolding spec.until
  until_exact r e = exact_bind (expression_before_exact r d e keywords.EndRepeat tt refl) (λ a. exact_bind (exact_symbol symbols.Semicolon (suc r) refl) (λ z. exact_pure a Always Any (At (suc r))) (λ z mid rest y c g. tt)) (λ a mid rest y c g. tt)

  after_repeat_exact : (r : ℕ) → ExactDeeper r d → AfterOpening 0 r after_repeat (token_kinds.Keyword keywords.Repeat) IsStatement Any
  after_repeat_exact zero e = tt
  after_repeat_exact (suc r) e = λ p. exact_iff
      (exact_before (token_kinds.Keyword keywords.Until) e.1 (refl, tt) (exact_keyword keywords.Until r refl) (λ ss q. exact_last (until_exact r e) (λ a. statement_kinds.Repeat (repeat_of p ss a))))
      (repeat_to p) (repeat_from p)

-- ---- statements

statement_begins : {ts rest : List Tok} {x : Statement} → IsStatement ts x rest → begins_statement (kind ts) ≡ true
statement_begins empty = refl
statement_begins (assignment (is_named d) e) = refl
statement_begins (invocation (called d)) = refl
statement_begins return_statement = refl
statement_begins exit_statement = refl
statement_begins (if_statement a m b) = refl
statement_begins (case_statement a b m o) = refl
statement_begins (for_statement a b c m) = refl
statement_begins (while_statement a m) = refl
statement_begins (repeat_statement m a) = refl

pub begins_is : (ts : List Tok) (x : Statement) (rest : List Tok) → IsStatement ts x rest → begins_statement (kind ts) ≡ true
begins_is ts x rest d = statement_begins d

to_statements : {ts rest : List Tok} {xs : List Statement} → IsMany IsStatement ts xs rest → IsStatements ts xs rest
to_statements none = no_statement
to_statements (more d m) = statements d (to_statements m)

from_statements : {ts rest : List Tok} {xs : List Statement} → IsStatements ts xs rest → IsMany IsStatement ts xs rest
from_statements no_statement = none
from_statements (statements d m) = more d (from_statements m)

module _ (r : ℕ) (d : Deeper) (e : ExactDeeper r d) where
  if_statement_exact : Exact 1 (spec.if_statement r d) (IsFirst (token_kinds.Keyword keywords.If)) IsStatement Any (At r) (At r)
  unfolding spec.if_statement
  if_statement_exact = exact_enter 1 r (after_if d) (token_kinds.Keyword keywords.If) refl (after_if_exact d r e)

  case_statement_exact : Exact 1 (spec.case_statement r d) (IsFirst (token_kinds.Keyword keywords.Case)) IsStatement Any (At r) (At r)
  unfolding spec.case_statement
  case_statement_exact = exact_enter 1 r (after_case d) (token_kinds.Keyword keywords.Case) refl (after_case_exact d r e)

  for_statement_exact : Exact 1 (spec.for_statement r d) (IsFirst (token_kinds.Keyword keywords.For)) IsStatement Any (At r) (At r)
  unfolding spec.for_statement
  for_statement_exact = exact_enter 1 r (after_for d) (token_kinds.Keyword keywords.For) refl (after_for_exact d r e)

  while_exact : Exact 1 (spec.while_statement r d) (IsFirst (token_kinds.Keyword keywords.While)) IsStatement Any (At r) (At r)
  unfolding spec.while_statement
  while_exact = exact_enter 1 r (after_while d) (token_kinds.Keyword keywords.While) refl (after_while_exact d r e)

  repeat_exact : Exact 1 (spec.repeat_statement r d) (IsFirst (token_kinds.Keyword keywords.Repeat)) IsStatement Any (At r) (At r)
  unfolding spec.repeat_statement
  repeat_exact = exact_enter 0 r (after_repeat d) (token_kinds.Keyword keywords.Repeat) refl (after_repeat_exact d r e)

  statement_by : (t : Option Kind) → Exact 1 (spec.statement_by r d t) (λ ts. (kind ts ≡ t) × Always ts) IsStatement Any (At r) (At r)
  statement_by (Some (token_kinds.Word n)) = exact_under (named_exact r n) (λ ts p. p.0) (λ t g. g)
  statement_by (Some (token_kinds.Symbol symbols.Semicolon)) = exact_under (empty_exact r) (λ ts p. p.0) (λ t g. g)
  statement_by (Some (token_kinds.Keyword keywords.Return)) = exact_under (return_statement_exact r) (λ ts p. p.0) (λ t g. g)
  statement_by (Some (token_kinds.Keyword keywords.Exit)) = exact_under (exit_statement_exact r) (λ ts p. p.0) (λ t g. g)
  statement_by (Some (token_kinds.Keyword keywords.If)) = exact_under if_statement_exact (λ ts p. p.0) (λ t g. g)
  statement_by (Some (token_kinds.Keyword keywords.Case)) = exact_under case_statement_exact (λ ts p. p.0) (λ t g. g)
  statement_by (Some (token_kinds.Keyword keywords.For)) = exact_under for_statement_exact (λ ts p. p.0) (λ t g. g)
  statement_by (Some (token_kinds.Keyword keywords.While)) = exact_under while_exact (λ ts p. p.0) (λ t g. g)
  statement_by (Some (token_kinds.Keyword keywords.Repeat)) = exact_under repeat_exact (λ ts p. p.0) (λ t g. g)
  statement_by _ = exact_refuse 1 _ IsStatement Any (At r) (At r) (λ ts x rest p i. let wrong = subst (λ t. begins_statement t ≡ true) p.0 (statement_begins i) in cc)

  statement_exact : Exact 1 (spec.statement r d) Always IsStatement Any (At r) (At r)
  unfolding spec.statement
  statement_exact = exact_on kind kind_first (spec.statement_by r d) Always IsStatement Any (At r) (At r) statement_by

  block_exact : Exact 0 (spec.block r d) Always IsStatements EndsBlock (At r) (At r)
  block_exact = exact_iff (exact_many begins_statement (spec.statement r d) IsStatement Any (At r) (exact_under statement_exact (λ ts h. tt) (λ t g. g)) begins_is (λ t h. tt))
      (λ ts x rest m. to_statements m) (λ ts x rest m. from_statements m)

pub deeper_exact : (r : ℕ) → ExactDeeper r (spec.deeper_of r)
unfolding spec.deeper_of
deeper_exact zero = tt
deeper_exact (suc r) = (expression_exact r, block_exact r (spec.deeper_of r) (deeper_exact r))

-- statements are read exactly
pub statements_exact : (r : ℕ) → Exact 0 (spec.statements r) Always IsStatements EndsBlock (At r) (At r)
statements_exact r = block_exact r (spec.deeper_of r) (deeper_exact r)
