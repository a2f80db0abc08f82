-- The grammar of charts (IEC 61131-3:2003, annex B.1.6). `IsX ts x rest`: the tokens ts, up to rest, are the X x.
use Rattle.std.specs.Prelude.{◌≡◌, ℕ, Bool, true, false, List, [], ◌∷◌, Option, Some, None, codes}
use Rattle.std.specs.Str.{str_eq_ignore_ascii_case}
use Rattle.st_tokens.specs.declared.keyword.Keyword.TheVariants as keywords
use Rattle.st_tokens.specs.declared.symbol.Symbol.TheVariants as symbols
use Rattle.st_tokens.specs.declared.token.Kind.TheVariants as token_kinds
use Rattle.st_tree.specs.declared.tree.unit.ChartElement.TheVariants as chart_elements
use Rattle.st_parser.specs.Names.{Action, ActionQualifier, Association, ChartElement, Duration, Expression, Identifier, Position, Statement, Step, Transition}
use Rattle.st_parser.specs.Grammar.Lists.{IsMany, IsNext}
use Rattle.st_parser.specs.Grammar.Tokens.{identifier_of, Tok}
use Rattle.st_parser.specs.Grammar.Expressions.{IsExpression, duration_of}
use Rattle.st_syntax.specs.Grammar.Statements.{IsStatements}

abbrev pub qualifier_of : Identifier → Option Duration → ActionQualifier
qualifier_of n d = record { name = n; duration = d }

abbrev pub association_of : Identifier → Option ActionQualifier → Association
association_of n q = record { name = n; qualifier = q }

abbrev pub step_of : Position → Bool → Identifier → List Association → Step
step_of p initial n xs = record { position = p; is_initial = initial; name = n; associations = xs }

abbrev pub transition_of : Position → Option Identifier → Option ℕ → List Identifier → List Identifier → Expression → Transition
transition_of p n m from to x = record { position = p; name = n; priority = m; from = from; to = to; condition = x }

abbrev pub action_of : Position → Identifier → List Statement → Action
action_of p n ss = record { position = p; name = n; statements = ss }

-- a word is PRIORITY, ignoring case
abbrev pub is_priority : List ℕ → Bool
is_priority n = str_eq_ignore_ascii_case n (codes "PRIORITY")

-- word [ ',' duration ]
pub data IsQualifier : List Tok → ActionQualifier → List Tok → Type 0 where
  untimed : {p : Position} {n : List ℕ} {rest : List Tok} → IsQualifier ((p, token_kinds.Word n) ∷ rest) (qualifier_of (identifier_of p n) None) rest
  timed : {p q r : Position} {n : List ℕ} {d : _} {rest : List Tok}
      → IsQualifier ((p, token_kinds.Word n) ∷ (q, token_kinds.Symbol symbols.Comma) ∷ (r, token_kinds.Duration d) ∷ rest) (qualifier_of (identifier_of p n) (Some (duration_of r d))) rest

-- word '(' [ qualifier ] ')' ';'
pub data IsAssociation : List Tok → Association → List Tok → Type 0 where
  unqualified : {p q r z : Position} {n : List ℕ} {rest : List Tok}
      → IsAssociation ((p, token_kinds.Word n) ∷ (q, token_kinds.Symbol symbols.Open) ∷ (r, token_kinds.Symbol symbols.Close) ∷ (z, token_kinds.Symbol symbols.Semicolon) ∷ rest) (association_of (identifier_of p n) None) rest
  qualified : {p q r z : Position} {n : List ℕ} {ts rest : List Tok} {x : ActionQualifier}
      → IsQualifier ts x ((r, token_kinds.Symbol symbols.Close) ∷ (z, token_kinds.Symbol symbols.Semicolon) ∷ rest)
      → IsAssociation ((p, token_kinds.Word n) ∷ (q, token_kinds.Symbol symbols.Open) ∷ ts) (association_of (identifier_of p n) (Some x)) rest

-- word ':' { association } END_STEP
pub data IsStepRest : Position → Bool → List Tok → Step → List Tok → Type 0 where
  step_rest : {p q r z : Position} {initial : Bool} {n : List ℕ} {ts rest : List Tok} {xs : List Association}
      → IsMany IsAssociation ts xs ((z, token_kinds.Keyword keywords.EndStep) ∷ rest)
      → IsStepRest p initial ((q, token_kinds.Word n) ∷ (r, token_kinds.Symbol symbols.Colon) ∷ ts) (step_of p initial (identifier_of q n) xs) rest

-- [ word ]
pub data IsOptionalName : List Tok → Option Identifier → List Tok → Type 0 where
  no_name : {ts : List Tok} → IsOptionalName ts None ts
  a_name : {p : Position} {n : List ℕ} {rest : List Tok} → IsOptionalName ((p, token_kinds.Word n) ∷ rest) (Some (identifier_of p n)) rest

-- [ '(' PRIORITY ':=' number ')' ]
pub data IsPriority : List Tok → Option ℕ → List Tok → Type 0 where
  no_priority : {ts : List Tok} → IsPriority ts None ts
  priority : {p q r u v : Position} {n : List ℕ} {m : ℕ} {rest : List Tok} → is_priority n ≡ true
      → IsPriority ((p, token_kinds.Symbol symbols.Open) ∷ (q, token_kinds.Word n) ∷ (r, token_kinds.Symbol symbols.Assign) ∷ (u, token_kinds.Number m) ∷ (v, token_kinds.Symbol symbols.Close) ∷ rest) (Some m) rest

-- word
pub data IsName : List Tok → Identifier → List Tok → Type 0 where
  name : {p : Position} {n : List ℕ} {rest : List Tok} → IsName ((p, token_kinds.Word n) ∷ rest) (identifier_of p n) rest

-- word | '(' word { ',' word } ')'
pub data IsNames : List Tok → List Identifier → List Tok → Type 0 where
  one_name : {ts rest : List Tok} {x : Identifier} → IsName ts x rest → IsNames ts (x ∷ []) rest
  names : {p q : Position} {ts mid rest : List Tok} {x : Identifier} {xs : List Identifier}
      → IsName ts x mid → IsMany (IsNext IsName) mid xs ((q, token_kinds.Symbol symbols.Close) ∷ rest)
      → IsNames ((p, token_kinds.Symbol symbols.Open) ∷ ts) (x ∷ xs) rest

-- [ word ] [ priority ] FROM names TO names ':=' expression ';' END_TRANSITION
pub data IsTransitionRest : Position → List Tok → Transition → List Tok → Type 0 where
  transition_rest : {p q r u v z : Position} {a b c d e rest : List Tok} {n : Option Identifier} {m : Option ℕ} {xs ys : List Identifier} {x : Expression}
      → IsOptionalName a n b → IsPriority b m ((q, token_kinds.Keyword keywords.From) ∷ c) → IsNames c xs ((r, token_kinds.Keyword keywords.To) ∷ d) → IsNames d ys ((u, token_kinds.Symbol symbols.Assign) ∷ e)
      → IsExpression e x ((v, token_kinds.Symbol symbols.Semicolon) ∷ (z, token_kinds.Keyword keywords.EndTransition) ∷ rest)
      → IsTransitionRest p a (transition_of p n m xs ys x) rest

pub data IsElement : List Tok → ChartElement → List Tok → Type 0 where
  -- INITIAL_STEP ..
  initial_step : {p : Position} {ts rest : List Tok} {x : Step} → IsStepRest p true ts x rest → IsElement ((p, token_kinds.Keyword keywords.InitialStep) ∷ ts) (chart_elements.Step x) rest
  -- STEP ..
  plain_step : {p : Position} {ts rest : List Tok} {x : Step} → IsStepRest p false ts x rest → IsElement ((p, token_kinds.Keyword keywords.Step) ∷ ts) (chart_elements.Step x) rest
  -- TRANSITION ..
  transition : {p : Position} {ts rest : List Tok} {x : Transition} → IsTransitionRest p ts x rest → IsElement ((p, token_kinds.Keyword keywords.Transition) ∷ ts) (chart_elements.Transition x) rest
  -- ACTION word ':' statements END_ACTION
  action : {p q r z : Position} {n : List ℕ} {ts rest : List Tok} {ss : List Statement} → IsStatements ts ss ((z, token_kinds.Keyword keywords.EndAction) ∷ rest)
      → IsElement ((p, token_kinds.Keyword keywords.Action) ∷ (q, token_kinds.Word n) ∷ (r, token_kinds.Symbol symbols.Colon) ∷ ts) (chart_elements.Action (action_of p (identifier_of q n) ss)) rest

-- element { element }
pub data IsChart : List Tok → List ChartElement → List Tok → Type 0 where
  chart : {ts mid rest : List Tok} {x : ChartElement} {xs : List ChartElement} → IsElement ts x mid → IsMany IsElement mid xs rest → IsChart ts (x ∷ xs) rest
