-- The reading functions of charts read their grammar exactly.
use Rattle.std.proofs.Common.{◌≡◌, ℕ, zero, suc, ◌<◌, List, [], ◌∷◌, refl, sym, ap, subst, ◌∙◌, Bool, true, false, arith, if◌then◌else◌}
use Rattle.std.specs.Prelude.{◌↔◌, Option, Some, None, Ok}
use Rattle.st_tokens.specs.declared.keyword.Keyword.TheVariants as keywords
use Rattle.st_tokens.specs.declared.symbol.Symbol.TheVariants as symbols
use Rattle.st_tokens.specs.declared.token.Kind.TheVariants as token_kinds
use Rattle.st_tree.specs.declared.tree.unit.ChartElement.TheVariants as chart_elements
use Rattle.st_parser.specs.Names.{ActionQualifier, Association, ChartElement, Duration, Expression, Identifier, Kind, Position}
use Rattle.st_parser.specs.Grammar.Levels.{IsWithin}
use Rattle.st_parser.specs.Grammar.Lists.{IsMany, IsListed, listed}
use Rattle.st_parser.specs.Grammar.Tokens.{Tok, kind}
use Rattle.st_parser.specs.Reader.Parsers as parser
use Rattle.st_parser.specs.Reader.Parsers.{and_then, is_symbol, is_word}
use Rattle.st_parser.proofs.Exact.{Relation, Exact, Always, Any, Then, seq, IsOne, one, IsPure, done, IsWord, a_word, IsNumber, a_number, exact_bind, exact_as, exact_iff, exact_last, exact_under, exact_zero, exact_pure, made, exact_refuse, exact_on, IsFirst, exact_token, exact_token_if, symbol_is, exact_symbol, exact_keyword, exact_open_level, exact_identifier, Before, exact_identifier_before, exact_number, TakesOne, takes, refuses, exact_one, exact_before, Ends, exact_many, exact_listed}
use Rattle.st_parser.proofs.Local.{by_kind, kind_first}
use Rattle.st_parser.proofs.Levels.{At, enters, fits_from, within_from}
use Rattle.st_parser.specs.Grammar.Expressions.{IsBinary, duration_of}
use Rattle.st_parser.proofs.Expressions.{expression_exact}
use Rattle.st_parser.proofs.Follows.{Stops}
use Rattle.st_syntax.specs.Grammar.Charts.{qualifier_of, association_of, step_of, transition_of, action_of, is_priority, IsQualifier, untimed, timed, IsAssociation, unqualified, qualified, step_rest, IsOptionalName, no_name, a_name, IsPriority, no_priority, priority, IsName, name, IsNames, one_name, names, transition_rest, IsElement, initial_step, plain_step, transition, action, IsChart, chart}
use Rattle.st_syntax.specs.Grammar.Statements.{IsStatements}
use Rattle.st_syntax.specs.Reader.Charts as spec
use Rattle.st_syntax.specs.Reader.Charts.{begins_element}
use Rattle.st_syntax.proofs.Statements.{statements_exact}

-- ---- associations

data IsDuration : List Tok → Duration → List Tok → Type 0 where
  a_duration : {p : Position} {d : _} {rest : List Tok} → IsDuration ((p, token_kinds.Duration d) ∷ rest) (duration_of p d) rest

duration_exact : (r : ℕ) → Exact 1 spec.duration Always IsDuration Any (At r) (At r)
unfolding spec.duration
duration_exact r = exact_one spec.duration_by IsDuration r refl one is_read where
  one : (t : Tok) → TakesOne (spec.duration_by (Some t.1)) IsDuration r t
  one (p, token_kinds.Duration d) = takes (duration_of p d) (λ q us. (λ h. h, λ h. h)) (λ us. refl) (λ us. a_duration)
  one (p, _) = refuses refl

  is_read : (ts : List Tok) (x : Duration) (rest : List Tok) → IsDuration ts x rest → spec.duration_by (kind ts) ts ≡ Ok (x, rest)
  is_read ts x rest a_duration = refl

-- [ ',' duration ]
data IsTime : List Tok → Option Duration → List Tok → Type 0 where
  no_time : {ts : List Tok} → IsTime ts None ts
  a_time : {p : Position} {ts rest : List Tok} {d : Duration} → IsDuration ts d rest → IsTime ((p, token_kinds.Symbol symbols.Comma) ∷ ts) (Some d) rest

abbrev NoComma : Option Kind → Type 0
NoComma t = is_symbol symbols.Comma t ≡ false

time_to : (p : Position) (ts : List Tok) (x : Option Duration) (rest : List Tok) → Then IsDuration (λ d. IsPure (Some d)) ts x rest → IsTime ((p, token_kinds.Symbol symbols.Comma) ∷ ts) x rest
time_to p ts x rest (seq d m) = made m (λ y us. IsTime ((p, token_kinds.Symbol symbols.Comma) ∷ ts) y us) (a_time d)

time_from : (p : Position) (ts : List Tok) (x : Option Duration) (rest : List Tok) → NoComma (kind rest) → IsTime ((p, token_kinds.Symbol symbols.Comma) ∷ ts) x rest → Then IsDuration (λ d. IsPure (Some d)) ts x rest
time_from p ts x rest g (a_time d) = seq d done
time_from p ts x rest g no_time = absurd (cc)

no_time_to : (ts : List Tok) (x : Option Duration) (rest : List Tok) → IsPure None ts x rest → IsTime ts x rest
no_time_to ts x rest d = made d (λ y us. IsTime ts y us) no_time

no_time_from : (ts : List Tok) (x : Option Duration) (rest : List Tok) → is_symbol symbols.Comma (kind ts) ≡ false → IsTime ts x rest → IsPure None ts x rest
no_time_from ts x rest h no_time = done
no_time_from ts x rest h (a_time d) = absurd (cc)

qualifier_to : (ts : List Tok) (x : ActionQualifier) (rest : List Tok) → Then IsWord (λ n. Then IsTime (λ d. IsPure (qualifier_of n d))) ts x rest → IsQualifier ts x rest
qualifier_to ts x rest (seq a_word (seq no_time p)) = made p (λ y us. IsQualifier ts y us) untimed
qualifier_to ts x rest (seq a_word (seq (a_time a_duration) p)) = made p (λ y us. IsQualifier ts y us) timed

qualifier_from : (ts : List Tok) (x : ActionQualifier) (rest : List Tok) → IsQualifier ts x rest → Then IsWord (λ n. Then IsTime (λ d. IsPure (qualifier_of n d))) ts x rest
qualifier_from ts x rest untimed = seq a_word (seq no_time done)
qualifier_from ts x rest timed = seq a_word (seq (a_time a_duration) done)

-- [ qualifier ]
data IsQualified : List Tok → Option ActionQualifier → List Tok → Type 0 where
  no_qualifier : {ts : List Tok} → IsQualified ts None ts
  a_qualifier : {ts rest : List Tok} {x : ActionQualifier} → IsQualifier ts x rest → IsQualified ts (Some x) rest

abbrev OnlyClose : Option Kind → Type 0
OnlyClose t = is_symbol symbols.Close t ≡ true

close_comma : (t : Option Kind) → OnlyClose t → NoComma t
close_comma (Some (token_kinds.Symbol symbols.Close)) h = refl
close_comma _ h = absurd (cc)

no_qualifier_to : (ts : List Tok) (x : Option ActionQualifier) (rest : List Tok) → IsPure None ts x rest → IsQualified ts x rest
no_qualifier_to ts x rest d = made d (λ y us. IsQualified ts y us) no_qualifier

no_qualifier_from : (ts : List Tok) (x : Option ActionQualifier) (rest : List Tok) → is_symbol symbols.Close (kind ts) ≡ true → IsQualified ts x rest → IsPure None ts x rest
no_qualifier_from ts x rest h no_qualifier = done
no_qualifier_from ts x rest h (a_qualifier untimed) = absurd (cc)
no_qualifier_from ts x rest h (a_qualifier timed) = absurd (cc)

a_qualifier_to : (ts : List Tok) (x : Option ActionQualifier) (rest : List Tok) → Then IsQualifier (λ q. IsPure (Some q)) ts x rest → IsQualified ts x rest
a_qualifier_to ts x rest (seq d m) = made m (λ y us. IsQualified ts y us) (a_qualifier d)

a_qualifier_from : (ts : List Tok) (x : Option ActionQualifier) (rest : List Tok) → is_symbol symbols.Close (kind ts) ≡ false → OnlyClose (kind rest) → IsQualified ts x rest → Then IsQualifier (λ q. IsPure (Some q)) ts x rest
a_qualifier_from ts x rest h g (a_qualifier d) = seq d done
a_qualifier_from ts x rest h g no_qualifier = absurd (let wrong = sym h ∙ g in cc)

abbrev BracketedRule : Relation (Option ActionQualifier)
BracketedRule = Then (IsOne (token_kinds.Symbol symbols.Open)) (λ q. Then IsQualified (λ x. Then (IsOne (token_kinds.Symbol symbols.Close)) (λ z. Then (IsOne (token_kinds.Symbol symbols.Semicolon)) (λ u. IsPure x))))

abbrev AssociationRule : Relation Association
AssociationRule = Then IsWord (λ n. Then BracketedRule (λ x. IsPure (association_of n x)))

association_to : (ts : List Tok) (x : Association) (rest : List Tok) → AssociationRule ts x rest → IsAssociation ts x rest
association_to ts x rest (seq a_word (seq (seq one (seq no_qualifier (seq one (seq one done)))) p)) = made p (λ y us. IsAssociation ts y us) unqualified
association_to ts x rest (seq a_word (seq (seq one (seq (a_qualifier d) (seq one (seq one done)))) p)) = made p (λ y us. IsAssociation ts y us) (qualified d)

association_from : (ts : List Tok) (x : Association) (rest : List Tok) → IsAssociation ts x rest → AssociationRule ts x rest
association_from ts x rest unqualified = seq a_word (seq (seq one (seq no_qualifier (seq one (seq one done)))) done)
association_from ts x rest (qualified d) = seq a_word (seq (seq one (seq (a_qualifier d) (seq one (seq one done)))) done)

association_begins : (ts : List Tok) (x : Association) (rest : List Tok) → IsAssociation ts x rest → is_word (kind ts) ≡ true
association_begins ts x rest unqualified = refl
association_begins ts x rest (qualified d) = refl

module _ (r : ℕ) where
  time_by : (b : Bool) → Exact 0 (spec.time_by b) (λ ts. (is_symbol symbols.Comma (kind ts) ≡ b) × Always ts) IsTime NoComma (At r) (At r)
  time_by true = exact_zero (exact_under (exact_token (token_kinds.Symbol symbols.Comma) refl {R = IsTime} (λ p. exact_as (exact_last (duration_exact r) (λ d. Some d)) (λ ts u. u)
      (λ ts x rest u d. time_to p ts x rest d) (λ ts x rest u g d. time_from p ts x rest g d) (λ t g. tt))) (λ ts h. symbol_is symbols.Comma (kind ts) h.0) (λ t g. g))
  time_by false = exact_as (exact_pure None Always Any (At r)) (λ ts h. tt) (λ ts x rest h d. no_time_to ts x rest d) (λ ts x rest h g d. no_time_from ts x rest h.0 d) (λ t g. tt)

  time_exact : Exact 0 spec.time Always IsTime NoComma (At r) (At r)
  unfolding spec.time
  time_exact = exact_on (λ ts. is_symbol symbols.Comma (kind ts)) (by_kind (is_symbol symbols.Comma)) spec.time_by Always IsTime NoComma (At r) (At r) time_by

  qualifier_exact : Exact 1 spec.qualifier Always IsQualifier NoComma (At r) (At r)
  unfolding spec.qualifier
  qualifier_exact = exact_iff (exact_bind (exact_identifier r) (λ n. exact_last time_exact (qualifier_of n)) (λ n mid rest y d g. tt)) qualifier_to qualifier_from

  qualified_by : (b : Bool) → Exact 0 (spec.qualified_by b) (λ ts. (is_symbol symbols.Close (kind ts) ≡ b) × Always ts) IsQualified OnlyClose (At r) (At r)
  qualified_by true = exact_as (exact_pure None Always Any (At r)) (λ ts h. tt) (λ ts x rest h d. no_qualifier_to ts x rest d) (λ ts x rest h g d. no_qualifier_from ts x rest h.0 d) (λ t g. tt)
  qualified_by false = exact_zero (exact_as (exact_last qualifier_exact (λ q. Some q)) (λ ts h. tt) (λ ts x rest h d. a_qualifier_to ts x rest d) (λ ts x rest h g d. a_qualifier_from ts x rest h.0 g d) close_comma)

  qualified_exact : Exact 0 spec.qualified Always IsQualified OnlyClose (At r) (At r)
  unfolding spec.qualified
  qualified_exact = exact_on (λ ts. is_symbol symbols.Close (kind ts)) (by_kind (is_symbol symbols.Close)) spec.qualified_by Always IsQualified OnlyClose (At r) (At r) qualified_by

  bracketed_exact : Exact 1 (spec.bracketed (suc r)) Always BracketedRule Any (At (suc r)) (At (suc r))
  unfolding spec.bracketed
  bracketed_exact = exact_bind (exact_open_level symbols.Open r refl) (λ q. exact_before (token_kinds.Symbol symbols.Close) qualified_exact refl (exact_symbol symbols.Close r refl)
      (λ x z. exact_bind (exact_symbol symbols.Semicolon (suc r) refl) (λ u. exact_pure x Always Any (At (suc r))) (λ u mid rest y d g. tt))) (λ q mid rest y d g. tt)

  association_exact : Exact 1 (spec.association (suc r)) Always IsAssociation Any (At (suc r)) (At (suc r))
  unfolding spec.association
  association_exact = exact_iff (exact_bind (exact_identifier (suc r)) (λ n. exact_last bracketed_exact (association_of n)) (λ n mid rest y d g. tt)) association_to association_from

  associations_exact : Exact 0 (spec.associations (suc r)) Always (IsMany IsAssociation) (Ends is_word Any) (At (suc r)) (At (suc r))
  associations_exact = exact_many is_word (spec.association (suc r)) IsAssociation Any (At (suc r)) (exact_under association_exact (λ ts h. tt) (λ t g. g)) association_begins (λ t h. tt)

-- ---- steps

abbrev StepRule : Position → Bool → Relation ChartElement
StepRule p b = Then (Before IsWord (token_kinds.Symbol symbols.Colon)) (λ n. Then (IsMany IsAssociation) (λ xs. Then (IsOne (token_kinds.Keyword keywords.EndStep)) (λ z. IsPure (chart_elements.Step (step_of p b n xs)))))

initial_to : (p : Position) (ts : List Tok) (x : ChartElement) (rest : List Tok) → StepRule p true ts x rest → IsElement ((p, token_kinds.Keyword keywords.InitialStep) ∷ ts) x rest
initial_to p ts x rest (seq (seq a_word (seq one done)) (seq m (seq one d))) = made d (λ y us. IsElement ((p, token_kinds.Keyword keywords.InitialStep) ∷ ts) y us) (initial_step (step_rest m))

initial_from : (p : Position) (ts : List Tok) (x : ChartElement) (rest : List Tok) → IsElement ((p, token_kinds.Keyword keywords.InitialStep) ∷ ts) x rest → StepRule p true ts x rest
initial_from p ts x rest (initial_step (step_rest m)) = seq (seq a_word (seq one done)) (seq m (seq one done))

plain_to : (p : Position) (ts : List Tok) (x : ChartElement) (rest : List Tok) → StepRule p false ts x rest → IsElement ((p, token_kinds.Keyword keywords.Step) ∷ ts) x rest
plain_to p ts x rest (seq (seq a_word (seq one done)) (seq m (seq one d))) = made d (λ y us. IsElement ((p, token_kinds.Keyword keywords.Step) ∷ ts) y us) (plain_step (step_rest m))

plain_from : (p : Position) (ts : List Tok) (x : ChartElement) (rest : List Tok) → IsElement ((p, token_kinds.Keyword keywords.Step) ∷ ts) x rest → StepRule p false ts x rest
plain_from p ts x rest (plain_step (step_rest m)) = seq (seq a_word (seq one done)) (seq m (seq one done))

module _ (r : ℕ) where
  step_rule : (p : Position) (b : Bool) → Exact 1 (λ ts. and_then (parser.identifier_before symbols.Colon ts) (λ n us. and_then (spec.associations (suc r) us)
      (λ xs vs. and_then (parser.expect_keyword keywords.EndStep vs) (λ z. parser.pure (chart_elements.Step (step_of p b n xs)))))) Always (StepRule p b) Any (At (suc r)) (At (suc r))
  step_rule p b = exact_bind (exact_identifier_before symbols.Colon (suc r) refl) (λ n. exact_before (token_kinds.Keyword keywords.EndStep) (associations_exact r) (refl, tt) (exact_keyword keywords.EndStep (suc r) refl)
      (λ xs z. exact_pure (chart_elements.Step (step_of p b n xs)) Always Any (At (suc r)))) (λ n mid rest y d g. tt)

  initial_exact : Exact 1 (spec.step (suc r) true) (IsFirst (token_kinds.Keyword keywords.InitialStep)) IsElement Any (At (suc r)) (At (suc r))
  unfolding spec.step
  initial_exact = exact_token (token_kinds.Keyword keywords.InitialStep) refl {R = IsElement} (λ p. exact_iff (step_rule p true) (initial_to p) (initial_from p))

  plain_exact : Exact 1 (spec.step (suc r) false) (IsFirst (token_kinds.Keyword keywords.Step)) IsElement Any (At (suc r)) (At (suc r))
  unfolding spec.step
  plain_exact = exact_token (token_kinds.Keyword keywords.Step) refl {R = IsElement} (λ p. exact_iff (step_rule p false) (plain_to p) (plain_from p))

-- ---- transitions

abbrev NoWord : Option Kind → Type 0
NoWord t = is_word t ≡ false

abbrev NoOpen : Option Kind → Type 0
NoOpen t = is_symbol symbols.Open t ≡ false

optional_to : (ts : List Tok) (x : Option Identifier) (rest : List Tok) → Then IsWord (λ n. IsPure (Some n)) ts x rest → IsOptionalName ts x rest
optional_to ts x rest (seq a_word m) = made m (λ y us. IsOptionalName ts y us) a_name

optional_from : (ts : List Tok) (x : Option Identifier) (rest : List Tok) → is_word (kind ts) ≡ true → NoWord (kind rest) → IsOptionalName ts x rest → Then IsWord (λ n. IsPure (Some n)) ts x rest
optional_from ts x rest h g a_name = seq a_word done
optional_from ts x rest h g no_name = absurd (let wrong = sym h ∙ g in cc)

no_name_to : (ts : List Tok) (x : Option Identifier) (rest : List Tok) → IsPure None ts x rest → IsOptionalName ts x rest
no_name_to ts x rest d = made d (λ y us. IsOptionalName ts y us) no_name

no_name_from : (ts : List Tok) (x : Option Identifier) (rest : List Tok) → is_word (kind ts) ≡ false → IsOptionalName ts x rest → IsPure None ts x rest
no_name_from ts x rest h no_name = done
no_name_from ts x rest h a_name = absurd (cc)

-- PRIORITY
data IsPriorityWord : List Tok → Position → List Tok → Type 0 where
  the_word : {p : Position} {n : List ℕ} {rest : List Tok} → is_priority n ≡ true → IsPriorityWord ((p, token_kinds.Word n) ∷ rest) p rest

priority_word_exact : (r : ℕ) → Exact 1 spec.priority_word Always IsPriorityWord Any (At r) (At r)
unfolding spec.priority_word
priority_word_exact r = exact_one spec.priority_word_by IsPriorityWord r refl one is_read where
  bump_if : Bool → parser.Parser Position
  bump_if b = λ us. if b then parser.bump us else parser.refuse us

  word : (p : Position) (n : List ℕ) (b : Bool) → is_priority n ≡ b → TakesOne (spec.priority_word_by (Some (token_kinds.Word n))) IsPriorityWord r (p, token_kinds.Word n)
  word p n true t = takes p (λ q us. (λ h. h, λ h. h)) (λ us. rw t refl) (λ us. the_word t)
  word p n false t = refuses (ap bump_if t)

  one : (t : Tok) → TakesOne (spec.priority_word_by (Some t.1)) IsPriorityWord r t
  one (p, token_kinds.Word n) = word p n (is_priority n) refl
  one (p, _) = refuses refl

  is_read : (ts : List Tok) (x : Position) (rest : List Tok) → IsPriorityWord ts x rest → spec.priority_word_by (kind ts) ts ≡ Ok (x, rest)
  is_read ts x rest (the_word t) = rw t refl

abbrev PriorityRule : Relation (Option ℕ)
PriorityRule = Then IsPriorityWord (λ q. Then (IsOne (token_kinds.Symbol symbols.Assign)) (λ u. Then IsNumber (λ n. Then (IsOne (token_kinds.Symbol symbols.Close)) (λ z. IsPure (Some n)))))

priority_to : (p : Position) (ts : List Tok) (x : Option ℕ) (rest : List Tok) → PriorityRule ts x rest → IsPriority ((p, token_kinds.Symbol symbols.Open) ∷ ts) x rest
priority_to p ts x rest (seq (the_word t) (seq one (seq a_number (seq one d)))) = made d (λ y us. IsPriority ((p, token_kinds.Symbol symbols.Open) ∷ ts) y us) (priority t)

priority_from : (p : Position) (ts : List Tok) (x : Option ℕ) (rest : List Tok) → NoOpen (kind rest) → IsPriority ((p, token_kinds.Symbol symbols.Open) ∷ ts) x rest → PriorityRule ts x rest
priority_from p ts x rest g (priority t) = seq (the_word t) (seq one (seq a_number (seq one done)))
priority_from p ts x rest g no_priority = absurd (cc)

no_priority_to : (ts : List Tok) (x : Option ℕ) (rest : List Tok) → IsPure None ts x rest → IsPriority ts x rest
no_priority_to ts x rest d = made d (λ y us. IsPriority ts y us) no_priority

no_priority_from : (ts : List Tok) (x : Option ℕ) (rest : List Tok) → is_symbol symbols.Open (kind ts) ≡ false → IsPriority ts x rest → IsPure None ts x rest
no_priority_from ts x rest h no_priority = done
no_priority_from ts x rest h (priority t) = absurd (cc)

name_to : (ts : List Tok) (x : Identifier) (rest : List Tok) → IsWord ts x rest → IsName ts x rest
name_to ts x rest a_word = name

name_from : (ts : List Tok) (x : Identifier) (rest : List Tok) → IsName ts x rest → IsWord ts x rest
name_from ts x rest name = a_word

pub name_exact : (r : ℕ) → Exact 1 parser.identifier Always IsName Any (At r) (At r)
name_exact r = exact_iff (exact_identifier r) name_to name_from

names_to : (p : Position) (ts : List Tok) (x : List Identifier) (rest : List Tok) → Then (IsListed IsName) (λ xs. Then (IsOne (token_kinds.Symbol symbols.Close)) (λ q. IsPure xs)) ts x rest → IsNames ((p, token_kinds.Symbol symbols.Open) ∷ ts) x rest
names_to p ts x rest (seq (listed d m) (seq one e)) = made e (λ y us. IsNames ((p, token_kinds.Symbol symbols.Open) ∷ ts) y us) (names d m)

names_from : (p : Position) (ts : List Tok) (x : List Identifier) (rest : List Tok) → IsNames ((p, token_kinds.Symbol symbols.Open) ∷ ts) x rest → Then (IsListed IsName) (λ xs. Then (IsOne (token_kinds.Symbol symbols.Close)) (λ q. IsPure xs)) ts x rest
names_from p ts x rest (names d m) = seq (listed d m) (seq one done)
names_from p ts x rest (one_name d) = elim d [ ]

one_to : (ts : List Tok) (x : List Identifier) (rest : List Tok) → Then IsName (λ n. IsPure (n ∷ [])) ts x rest → IsNames ts x rest
one_to ts x rest (seq d m) = made m (λ y us. IsNames ts y us) (one_name d)

one_from : (ts : List Tok) (x : List Identifier) (rest : List Tok) → is_symbol symbols.Open (kind ts) ≡ false → IsNames ts x rest → Then IsName (λ n. IsPure (n ∷ [])) ts x rest
one_from ts x rest h (one_name d) = seq d done
one_from ts x rest h (names d m) = absurd (cc)

-- FROM names TO names
abbrev IsConnection : Relation (List Identifier × List Identifier)
IsConnection = Then (IsOne (token_kinds.Keyword keywords.From)) (λ q. Then IsNames (λ xs. Then (IsOne (token_kinds.Keyword keywords.To)) (λ u. Then IsNames (λ ys. IsPure (xs, ys)))))

-- ';' END_TRANSITION
abbrev IsEndOfTransition : Relation Position
IsEndOfTransition = Then (IsOne (token_kinds.Symbol symbols.Semicolon)) (λ y. IsOne (token_kinds.Keyword keywords.EndTransition))

-- ':=' expression ';' END_TRANSITION
abbrev IsCondition : Relation Expression
IsCondition = Then (IsOne (token_kinds.Symbol symbols.Assign)) (λ v. Then (IsBinary 7) (λ x. Then IsEndOfTransition (λ z. IsPure x)))

abbrev TransitionRule : Position → Relation ChartElement
TransitionRule p = Then IsOptionalName (λ n. Then IsPriority (λ m. Then IsConnection (λ c. Then IsCondition (λ x. IsPure (chart_elements.Transition (transition_of p n m c.0 c.1 x))))))

transition_to : (p : Position) (ts : List Tok) (x : ChartElement) (rest : List Tok) → TransitionRule p ts x rest → IsElement ((p, token_kinds.Keyword keywords.Transition) ∷ ts) x rest
transition_to p ts x rest (seq a (seq b (seq (seq one (seq d (seq one (seq e done)))) (seq (seq one (seq f (seq (seq one one) done))) g)))) =
    made g (λ y us. IsElement ((p, token_kinds.Keyword keywords.Transition) ∷ ts) y us) (transition (transition_rest a b d e f))

transition_from : (p : Position) (ts : List Tok) (x : ChartElement) (rest : List Tok) → IsElement ((p, token_kinds.Keyword keywords.Transition) ∷ ts) x rest → TransitionRule p ts x rest
transition_from p ts x rest (transition (transition_rest a b d e f)) = seq a (seq b (seq (seq one (seq d (seq one (seq e done)))) (seq (seq one (seq f (seq (seq one one) done))) done)))

optional_follow : {S : Option ℕ → List Identifier × List Identifier → Relation ChartElement} (mid rest : List Tok) (y : ChartElement) → Then IsPriority (λ m. Then IsConnection (S m)) mid y rest → Any (kind rest) → NoWord (kind mid)
optional_follow mid rest y (seq (priority t) d) g = refl
optional_follow mid rest y (seq no_priority (seq (seq one c) d)) g = refl

priority_follow : {S : List Identifier × List Identifier → Relation ChartElement} (mid rest : List Tok) (y : ChartElement) → Then IsConnection S mid y rest → NoOpen (kind mid)
priority_follow mid rest y (seq (seq one c) d) = refl

condition_follow : (x : Expression) (mid rest : List Tok) (y : Expression) → Then IsEndOfTransition (λ z. IsPure x) mid y rest → Any (kind rest) → Stops 7 (kind mid)
condition_follow x mid rest y (seq (seq one one) d) g = tt

abbrev ActionRule : Position → Relation ChartElement
ActionRule p = Then (Before IsWord (token_kinds.Symbol symbols.Colon)) (λ n. Then IsStatements (λ ss. Then (IsOne (token_kinds.Keyword keywords.EndAction)) (λ z. IsPure (chart_elements.Action (action_of p n ss)))))

action_to : (p : Position) (ts : List Tok) (x : ChartElement) (rest : List Tok) → ActionRule p ts x rest → IsElement ((p, token_kinds.Keyword keywords.Action) ∷ ts) x rest
action_to p ts x rest (seq (seq a_word (seq one done)) (seq d (seq one m))) = made m (λ y us. IsElement ((p, token_kinds.Keyword keywords.Action) ∷ ts) y us) (action d)

action_from : (p : Position) (ts : List Tok) (x : ChartElement) (rest : List Tok) → IsElement ((p, token_kinds.Keyword keywords.Action) ∷ ts) x rest → ActionRule p ts x rest
action_from p ts x rest (action d) = seq (seq a_word (seq one done)) (seq d (seq one done))

element_begins : (ts : List Tok) (x : ChartElement) (rest : List Tok) → IsElement ts x rest → begins_element (kind ts) ≡ true
element_begins ts x rest (initial_step d) = refl
element_begins ts x rest (plain_step d) = refl
element_begins ts x rest (transition d) = refl
element_begins ts x rest (action d) = refl

chart_to : (ts : List Tok) (x : List ChartElement) (rest : List Tok) → Then IsElement (λ y. Then (IsMany IsElement) (λ ys. IsPure (y ∷ ys))) ts x rest → IsChart ts x rest
chart_to ts x rest (seq d (seq m e)) = made e (λ y us. IsChart ts y us) (chart d m)

chart_from : (ts : List Tok) (x : List ChartElement) (rest : List Tok) → IsChart ts x rest → Then IsElement (λ y. Then (IsMany IsElement) (λ ys. IsPure (y ∷ ys))) ts x rest
chart_from ts x rest (chart d m) = seq d (seq m done)

module _ (r : ℕ) where
  optional_by : (b : Bool) → Exact 0 (spec.optional_by b) (λ ts. (is_word (kind ts) ≡ b) × Always ts) IsOptionalName NoWord (At r) (At r)
  optional_by true = exact_zero (exact_as (exact_last (exact_identifier r) (λ n. Some n)) (λ ts h. tt) (λ ts x rest h d. optional_to ts x rest d) (λ ts x rest h g d. optional_from ts x rest h.0 g d) (λ t g. tt))
  optional_by false = exact_as (exact_pure None Always Any (At r)) (λ ts h. tt) (λ ts x rest h d. no_name_to ts x rest d) (λ ts x rest h g d. no_name_from ts x rest h.0 d) (λ t g. tt)

  optional_exact : Exact 0 spec.optional_name Always IsOptionalName NoWord (At r) (At r)
  unfolding spec.optional_name
  optional_exact = exact_on (λ ts. is_word (kind ts)) (by_kind is_word) spec.optional_by Always IsOptionalName NoWord (At r) (At r) optional_by

module _ (r : ℕ) where
  priority_by : (b : Bool) → Exact 0 (spec.priority_by (suc r) b) (λ ts. (is_symbol symbols.Open (kind ts) ≡ b) × Always ts) IsPriority NoOpen (At (suc r)) (At (suc r))
  unfolding parser.enter
  priority_by true = exact_zero (exact_under (exact_token_if (token_kinds.Symbol symbols.Open) Always IsPriority NoOpen (At (suc r)) (At r) (At (suc r)) (enters (token_kinds.Symbol symbols.Open) r refl)
      (λ p. exact_as (exact_bind (priority_word_exact r) (λ q. exact_bind (exact_symbol symbols.Assign r refl) (λ u. exact_bind (exact_number r) (λ n. exact_bind (exact_symbol symbols.Close r refl)
      (λ z. exact_pure (Some n) Always Any (At (suc r))) (λ z mid rest y d g. tt)) (λ n mid rest y d g. tt)) (λ u mid rest y d g. tt)) (λ q mid rest y d g. tt))
      (λ ts u. tt) (λ ts x rest u d. priority_to p ts x rest d) (λ ts x rest u g d. priority_from p ts x rest g d) (λ t g. tt)))
      (λ ts h. (symbol_is symbols.Open (kind ts) h.0, tt)) (λ t g. g))
  priority_by false = exact_as (exact_pure None Always Any (At (suc r))) (λ ts h. tt) (λ ts x rest h d. no_priority_to ts x rest d) (λ ts x rest h g d. no_priority_from ts x rest h.0 d) (λ t g. tt)

  priority_exact : Exact 0 (spec.priority (suc r)) Always IsPriority NoOpen (At (suc r)) (At (suc r))
  unfolding spec.priority
  priority_exact = exact_on (λ ts. is_symbol symbols.Open (kind ts)) (by_kind (is_symbol symbols.Open)) (spec.priority_by (suc r)) Always IsPriority NoOpen (At (suc r)) (At (suc r)) priority_by

  names_by : (b : Bool) → Exact 1 (spec.names_by (suc r) b) (λ ts. (is_symbol symbols.Open (kind ts) ≡ b) × Always ts) IsNames Any (At (suc r)) (At (suc r))
  unfolding parser.enter
  names_by true = exact_under (exact_token_if (token_kinds.Symbol symbols.Open) Always IsNames Any (At (suc r)) (At r) (At (suc r)) (enters (token_kinds.Symbol symbols.Open) r refl)
      (λ p. exact_iff (exact_before (token_kinds.Symbol symbols.Close) (exact_listed parser.identifier IsName Any r (name_exact r) tt) (refl, tt) (exact_symbol symbols.Close r refl) (λ xs q. exact_pure xs Always Any (At (suc r)))) (names_to p) (names_from p)))
      (λ ts h. (symbol_is symbols.Open (kind ts) h.0, tt)) (λ t g. g)
  names_by false = exact_as (exact_last (name_exact (suc r)) (λ n. n ∷ [])) (λ ts h. tt) (λ ts x rest h d. one_to ts x rest d) (λ ts x rest h g d. one_from ts x rest h.0 d) (λ t g. tt)

  names_exact : Exact 1 (spec.names (suc r)) Always IsNames Any (At (suc r)) (At (suc r))
  unfolding spec.names
  names_exact = exact_on (λ ts. is_symbol symbols.Open (kind ts)) (by_kind (is_symbol symbols.Open)) (spec.names_by (suc r)) Always IsNames Any (At (suc r)) (At (suc r)) names_by

  connection_exact : Exact 1 (spec.connection (suc r)) Always IsConnection Any (At (suc r)) (At (suc r))
  unfolding spec.connection
  connection_exact = exact_bind (exact_keyword keywords.From (suc r) refl) (λ q. exact_bind names_exact (λ xs. exact_bind (exact_keyword keywords.To (suc r) refl) (λ u. exact_last names_exact (λ ys. (xs, ys)))
      (λ u mid rest y d g. tt)) (λ xs mid rest y d g. tt)) (λ q mid rest y d g. tt)

  end_of_transition_exact : Exact 1 spec.end_of_transition Always IsEndOfTransition Any (At (suc r)) (At (suc r))
  unfolding spec.end_of_transition
  end_of_transition_exact = exact_bind (exact_symbol symbols.Semicolon (suc r) refl) (λ y. exact_keyword keywords.EndTransition (suc r) refl) (λ y mid rest z d g. tt)

  condition_exact : Exact 1 (spec.condition (suc r)) Always IsCondition Any (At (suc r)) (At (suc r))
  unfolding spec.condition
  condition_exact = exact_bind (exact_symbol symbols.Assign (suc r) refl) (λ v. exact_bind (expression_exact (suc r)) (λ x. exact_bind end_of_transition_exact (λ z. exact_pure x Always Any (At (suc r))) (λ z mid rest y d g. tt)) condition_follow)
      (λ v mid rest y d g. tt)

  transition_exact : Exact 1 (spec.transition (suc r)) (IsFirst (token_kinds.Keyword keywords.Transition)) IsElement Any (At (suc r)) (At (suc r))
  unfolding spec.transition
  transition_exact = exact_token (token_kinds.Keyword keywords.Transition) refl {R = IsElement} (λ p. exact_iff
      (exact_bind (optional_exact (suc r)) (λ n. exact_bind priority_exact (λ m. exact_bind connection_exact (λ c. exact_last condition_exact (λ x. chart_elements.Transition (transition_of p n m c.0 c.1 x)))
      (λ c mid rest y d g. tt)) (λ m mid rest y d g. priority_follow mid rest y d)) (λ n mid rest y d g. optional_follow mid rest y d g))
      (transition_to p) (transition_from p))

  action_exact : Exact 1 (spec.action (suc r)) (IsFirst (token_kinds.Keyword keywords.Action)) IsElement Any (At (suc r)) (At (suc r))
  unfolding spec.action
  action_exact = exact_token (token_kinds.Keyword keywords.Action) refl {R = IsElement} (λ p. exact_iff
      (exact_bind (exact_identifier_before symbols.Colon (suc r) refl) (λ n. exact_before (token_kinds.Keyword keywords.EndAction) (statements_exact (suc r)) (refl, tt) (exact_keyword keywords.EndAction (suc r) refl)
      (λ ss z. exact_pure (chart_elements.Action (action_of p n ss)) Always Any (At (suc r)))) (λ n mid rest y d g. tt))
      (action_to p) (action_from p))

  element_by : (t : Option Kind) → Exact 1 (spec.element_by (suc r) t) (λ ts. (kind ts ≡ t) × Always ts) IsElement Any (At (suc r)) (At (suc r))
  element_by (Some (token_kinds.Keyword keywords.InitialStep)) = exact_under (initial_exact r) (λ ts p. p.0) (λ t g. g)
  element_by (Some (token_kinds.Keyword keywords.Step)) = exact_under (plain_exact r) (λ ts p. p.0) (λ t g. g)
  element_by (Some (token_kinds.Keyword keywords.Transition)) = exact_under transition_exact (λ ts p. p.0) (λ t g. g)
  element_by (Some (token_kinds.Keyword keywords.Action)) = exact_under action_exact (λ ts p. p.0) (λ t g. g)
  element_by _ = exact_refuse 1 _ IsElement Any (At (suc r)) (At (suc r)) (λ ts x rest p d. let wrong = subst (λ t. begins_element t ≡ true) p.0 (element_begins ts x rest d) in cc)

  element_exact : Exact 1 (spec.element (suc r)) Always IsElement Any (At (suc r)) (At (suc r))
  unfolding spec.element
  element_exact = exact_on kind kind_first (spec.element_by (suc r)) Always IsElement Any (At (suc r)) (At (suc r)) element_by

  -- a chart is read exactly
  pub chart_exact : Exact 1 (spec.chart (suc r)) Always IsChart (Ends begins_element Any) (At (suc r)) (At (suc r))
  unfolding parser.leading
  chart_exact = exact_iff
      (exact_bind element_exact (λ x. exact_last (exact_many begins_element (spec.element (suc r)) IsElement Any (At (suc r)) (exact_under element_exact (λ ts h. tt) (λ t g. g)) element_begins (λ t h. tt)) (λ xs. x ∷ xs)) (λ x mid rest y d g. tt))
      chart_to chart_from

-- what is read as a chart, up to the last token, is in the grammar, and the other way round
pub chart_law : (r : ℕ) (ts : List Tok) (xs : List ChartElement) → 0 < r → (spec.chart r ts ≡ Ok (xs, [])) ↔ (IsChart ts xs [] × IsWithin r ts)
chart_law zero ts xs some = absurd (omega (arith, some))
chart_law (suc r) ts xs some = (
  λ read. let found = (chart_exact r).reads ts xs [] tt read in (found.is, within_from ts (suc r) (found.before tt)),
  λ has. (chart_exact r).read ts xs [] tt has.0 (refl, tt) (fits_from ts (suc r) has.1),
)
