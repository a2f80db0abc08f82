-- The reading of charts as functions: what each function that reads them answers.
use Rattle.std.specs.Prelude.{ℕ, Bool, true, false, if◌then◌else◌, List, [], ◌∷◌, Option, Some, None, Ok}
use Rattle.st_tokens.specs.declared.keyword.Keyword.TheVariants as keywords
use Rattle.st_tokens.specs.declared.symbol.Symbol.TheVariants as symbols
use Rattle.st_tokens.specs.declared.token.Kind.TheVariants as token_kinds
use Rattle.st_tree.specs.declared.tree.unit.ChartElement.TheVariants as chart_elements
use Rattle.st_parser.specs.Names.{ActionQualifier, Association, ChartElement, Duration, Expression, Identifier, Kind, Position}
use Rattle.st_parser.specs.Grammar.Tokens.{kind, next, position}
use Rattle.st_parser.specs.Reader.Parsers.{Parser, ◌>>=◌, ◌>>◌, pure, refuse, bump, peek, is_symbol, is_word, expect_symbol, expect_keyword, open_level, enter, identifier, identifier_before, number, many, leading, listed}
use Rattle.st_parser.specs.Grammar.Expressions.{duration_of}
use Rattle.st_parser.specs.Reader.Expressions.{expression}
use Rattle.st_syntax.specs.Grammar.Charts.{qualifier_of, association_of, step_of, transition_of, action_of, is_priority}
use Rattle.st_syntax.specs.Reader.Statements.{statements}

abbrev pub duration_by : Option Kind → Parser Duration
duration_by (Some (token_kinds.Duration d)) = λ ts. Ok (duration_of (position ts) d, next ts)
duration_by _ = refuse

unfoldable pub duration : Parser Duration
duration = λ ts. duration_by (kind ts) ts

abbrev pub time_by : Bool → Parser (Option Duration)
time_by true = do bump; d ← duration; pure (Some d)
time_by false = pure None

unfoldable pub time : Parser (Option Duration)
time = do
  t ← peek
  time_by (is_symbol symbols.Comma t)

unfoldable pub qualifier : Parser ActionQualifier
qualifier = do
  n ← identifier
  d ← time
  pure (qualifier_of n d)

abbrev pub qualified_by : Bool → Parser (Option ActionQualifier)
qualified_by true = pure None
qualified_by false = do q ← qualifier; pure (Some q)

unfoldable pub qualified : Parser (Option ActionQualifier)
qualified = do
  t ← peek
  qualified_by (is_symbol symbols.Close t)

-- '(' [ qualifier ] ')' ';'
unfoldable pub bracketed : ℕ → Parser (Option ActionQualifier)
bracketed depth_left = do
  open_level symbols.Open depth_left
  q ← qualified
  expect_symbol symbols.Close
  expect_symbol symbols.Semicolon
  pure q

unfoldable pub association : ℕ → Parser Association
association depth_left = do
  n ← identifier
  q ← bracketed depth_left
  pure (association_of n q)

abbrev pub associations : ℕ → Parser (List Association)
associations depth_left = many is_word (association depth_left)

unfoldable pub step : ℕ → Bool → Parser ChartElement
step depth_left initial = do
  p ← bump
  n ← identifier_before symbols.Colon
  xs ← associations depth_left
  expect_keyword keywords.EndStep
  pure (chart_elements.Step (step_of p initial n xs))

abbrev pub optional_by : Bool → Parser (Option Identifier)
optional_by true = do n ← identifier; pure (Some n)
optional_by false = pure None

unfoldable pub optional_name : Parser (Option Identifier)
optional_name = do
  t ← peek
  optional_by (is_word t)

abbrev pub priority_word_by : Option Kind → Parser Position
priority_word_by (Some (token_kinds.Word n)) = λ ts. if is_priority n then bump ts else refuse ts
priority_word_by _ = refuse

-- PRIORITY
unfoldable pub priority_word : Parser Position
priority_word = λ ts. priority_word_by (kind ts) ts

abbrev pub priority_by : ℕ → Bool → Parser (Option ℕ)
priority_by depth_left true = do
  enter depth_left
  priority_word
  expect_symbol symbols.Assign
  n ← number
  expect_symbol symbols.Close
  pure (Some n)
priority_by depth_left false = pure None

unfoldable pub priority : ℕ → Parser (Option ℕ)
priority depth_left = do
  t ← peek
  priority_by depth_left (is_symbol symbols.Open t)

abbrev pub names_by : ℕ → Bool → Parser (List Identifier)
names_by depth_left true = do enter depth_left; xs ← listed identifier; expect_symbol symbols.Close; pure xs
names_by depth_left false = do n ← identifier; pure (n ∷ [])

unfoldable pub names : ℕ → Parser (List Identifier)
names depth_left = do
  t ← peek
  names_by depth_left (is_symbol symbols.Open t)

unfoldable pub connection : ℕ → Parser (List Identifier × List Identifier)
connection depth_left = do
  expect_keyword keywords.From
  xs ← names depth_left
  expect_keyword keywords.To
  ys ← names depth_left
  pure (xs, ys)

-- ';' END_TRANSITION
unfoldable pub end_of_transition : Parser Position
end_of_transition = expect_symbol symbols.Semicolon >> expect_keyword keywords.EndTransition

unfoldable pub condition : ℕ → Parser Expression
condition depth_left = do
  expect_symbol symbols.Assign
  x ← expression depth_left
  end_of_transition
  pure x

unfoldable pub transition : ℕ → Parser ChartElement
transition depth_left = do
  p ← bump
  n ← optional_name
  m ← priority depth_left
  steps ← connection depth_left
  x ← condition depth_left
  pure (chart_elements.Transition (transition_of p n m steps.0 steps.1 x))

unfoldable pub action : ℕ → Parser ChartElement
action depth_left = do
  p ← bump
  n ← identifier_before symbols.Colon
  ss ← statements depth_left
  expect_keyword keywords.EndAction
  pure (chart_elements.Action (action_of p n ss))

-- the first token begins an element of a chart
abbrev pub begins_element : Option Kind → Bool
begins_element (Some (token_kinds.Keyword keywords.InitialStep)) = true
begins_element (Some (token_kinds.Keyword keywords.Step)) = true
begins_element (Some (token_kinds.Keyword keywords.Transition)) = true
begins_element (Some (token_kinds.Keyword keywords.Action)) = true
begins_element _ = false

abbrev pub element_by : ℕ → Option Kind → Parser ChartElement
element_by depth_left (Some (token_kinds.Keyword keywords.InitialStep)) = step depth_left true
element_by depth_left (Some (token_kinds.Keyword keywords.Step)) = step depth_left false
element_by depth_left (Some (token_kinds.Keyword keywords.Transition)) = transition depth_left
element_by depth_left (Some (token_kinds.Keyword keywords.Action)) = action depth_left
element_by depth_left _ = refuse

unfoldable pub element : ℕ → Parser ChartElement
element depth_left = peek >>= element_by depth_left

abbrev pub chart : ℕ → Parser (List ChartElement)
chart depth_left = leading (element depth_left) begins_element (element depth_left)
