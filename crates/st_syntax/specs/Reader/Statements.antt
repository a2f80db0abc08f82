-- The reading of statements as functions: what each function that reads them answers.
use Rattle.std.specs.Prelude.{ℕ, zero, suc, Bool, true, false, List, [], Option, Some, None}
use Rattle.st_tokens.specs.declared.keyword.Keyword.TheVariants as keywords
use Rattle.st_tokens.specs.declared.symbol.Symbol.TheVariants as symbols
use Rattle.st_tokens.specs.declared.token.Kind.TheVariants as token_kinds
use Rattle.st_tree.specs.declared.tree.statement.ForStatement.{ForStatement, out-ForStatement}
use Rattle.st_tree.specs.declared.tree.statement.Label.TheVariants as labels
use Rattle.st_tree.specs.declared.tree.statement.Statement.TheVariants as statement_kinds
use Rattle.st_parser.specs.Names.{CaseElement, ConditionalPart, Constant, Expression, Keyword, Kind, Label, Position, Statement}
use Rattle.st_parser.specs.Reader.Parsers.{Parser, ◌>>=◌, ◌>>◌, pure, refuse, bump, peek, peek_second, is_symbol, is_keyword, expect_symbol, expect_keyword, enter, identifier_before, many, leading, listed}
use Rattle.st_parser.specs.Reader.Expressions.{constant, expression, variable, call, inside_of}
use Rattle.st_syntax.specs.declared.statement.ForRange.{ForRange}
use Rattle.st_syntax.specs.Grammar.Statements.{part_of, case_of, if_of, case_statement_of, for_of, while_of, repeat_of}

-- what stands between a word that opens a level and the one that closes it
pub record Deeper : Type 0 where
  pub expression : Parser Expression
  pub statements : Parser (List Statement)

abbrev pub label_by : Constant → Bool → Parser Label
label_by x true = do bump; y ← constant; pure (labels.Range x y)
label_by x false = pure (labels.Value x)

unfoldable pub label : Parser Label
label = do
  x ← constant
  t ← peek
  label_by x (is_symbol symbols.Range t)

-- the first token begins a label
abbrev pub begins_label : Option Kind → Bool
begins_label (Some (token_kinds.Number n)) = true
begins_label (Some (token_kinds.Typed elem n)) = true
begins_label (Some (token_kinds.Duration d)) = true
begins_label (Some (token_kinds.Keyword keywords.True)) = true
begins_label (Some (token_kinds.Keyword keywords.False)) = true
begins_label (Some (token_kinds.Symbol symbols.Plus)) = true
begins_label (Some (token_kinds.Symbol symbols.Minus)) = true
begins_label _ = false

-- the first token begins a statement
abbrev pub begins_statement : Option Kind → Bool
begins_statement (Some (token_kinds.Word n)) = true
begins_statement (Some (token_kinds.Symbol symbols.Semicolon)) = true
begins_statement (Some (token_kinds.Keyword keywords.Return)) = true
begins_statement (Some (token_kinds.Keyword keywords.Exit)) = true
begins_statement (Some (token_kinds.Keyword keywords.If)) = true
begins_statement (Some (token_kinds.Keyword keywords.Case)) = true
begins_statement (Some (token_kinds.Keyword keywords.For)) = true
begins_statement (Some (token_kinds.Keyword keywords.While)) = true
begins_statement (Some (token_kinds.Keyword keywords.Repeat)) = true
begins_statement _ = false

-- ---- statements without statements in them

unfoldable pub empty : Parser Statement
empty = do p ← bump; pure (statement_kinds.Empty p)

unfoldable pub return_statement : Parser Statement
return_statement = do p ← bump; expect_symbol symbols.Semicolon; pure (statement_kinds.Return p)

unfoldable pub exit_statement : Parser Statement
exit_statement = do p ← bump; expect_symbol symbols.Semicolon; pure (statement_kinds.Exit p)

-- ':=' expression ';'
unfoldable pub assigned : ℕ → Parser Expression
assigned depth_left = do
  expect_symbol symbols.Assign
  x ← expression depth_left
  expect_symbol symbols.Semicolon
  pure x

unfoldable pub assignment : ℕ → Parser Statement
assignment depth_left = do
  v ← variable depth_left (inside_of depth_left)
  x ← assigned depth_left
  pure (statement_kinds.Assignment v x)

unfoldable pub invocation : ℕ → Parser Statement
invocation depth_left = do
  x ← call depth_left (inside_of depth_left)
  expect_symbol symbols.Semicolon
  pure (statement_kinds.Call x)

abbrev pub named_by : ℕ → Bool → Parser Statement
named_by depth_left true = invocation depth_left
named_by depth_left false = assignment depth_left

unfoldable pub named : ℕ → Parser Statement
named depth_left = do
  t ← peek_second
  named_by depth_left (is_symbol symbols.Open t)

-- ---- statements with statements in them

-- an expression, and a keyword after it
unfoldable pub expression_before : Deeper → Keyword → Parser Expression
expression_before deeper keyword = do
  x ← deeper.expression
  expect_keyword keyword
  pure x

-- statements, the keyword that closes their level, and ';'
unfoldable pub closed_block : Deeper → Keyword → Parser (List Statement)
closed_block deeper keyword = do
  ss ← deeper.statements
  expect_keyword keyword
  expect_symbol symbols.Semicolon
  pure ss

unfoldable pub conditional : Deeper → Parser ConditionalPart
conditional deeper = do
  x ← expression_before deeper keywords.Then
  ss ← deeper.statements
  pure (part_of x ss)

unfoldable pub elsif : Deeper → Parser ConditionalPart
elsif deeper = bump >> conditional deeper

-- the parts of IF and ELSIF
abbrev pub conditionals : Deeper → Parser (List ConditionalPart)
conditionals deeper = leading (conditional deeper) (is_keyword keywords.Elsif) (elsif deeper)

abbrev pub otherwise_by : Deeper → Bool → Parser (List Statement)
otherwise_by deeper true = bump >> deeper.statements
otherwise_by deeper false = pure []

unfoldable pub otherwise : Deeper → Parser (List Statement)
otherwise deeper = do
  t ← peek
  otherwise_by deeper (is_keyword keywords.Else t)

unfoldable pub closed_otherwise : Deeper → Keyword → Parser (List Statement)
closed_otherwise deeper keyword = do
  ss ← otherwise deeper
  expect_keyword keyword
  expect_symbol symbols.Semicolon
  pure ss

unfoldable pub if_statement : ℕ → Deeper → Parser Statement
if_statement depth_left deeper = do
  p ← enter depth_left
  xs ← conditionals deeper
  ys ← closed_otherwise deeper keywords.EndIf
  pure (statement_kinds.If (if_of p xs ys))

unfoldable pub case : Deeper → Parser CaseElement
case deeper = do
  ls ← listed label
  expect_symbol symbols.Colon
  ss ← deeper.statements
  pure (case_of ls ss)

abbrev pub cases : Deeper → Parser (List CaseElement)
cases deeper = leading (case deeper) begins_label (case deeper)

-- the cases of CASE, and its ELSE
unfoldable pub case_body : Deeper → Parser (List CaseElement × List Statement)
case_body deeper = do
  cs ← cases deeper
  ys ← closed_otherwise deeper keywords.EndCase
  pure (cs, ys)

unfoldable pub case_statement : ℕ → Deeper → Parser Statement
case_statement depth_left deeper = do
  p ← enter depth_left
  x ← expression_before deeper keywords.Of
  body ← case_body deeper
  pure (statement_kinds.Case (case_statement_of p x body.0 body.1))

abbrev pub step_by : Deeper → Bool → Parser (Option Expression)
step_by deeper true = do bump; x ← deeper.expression; pure (Some x)
step_by deeper false = pure None

unfoldable pub step : Deeper → Parser (Option Expression)
step deeper = do
  t ← peek
  step_by deeper (is_keyword keywords.By t)

-- the values that a variable of FOR takes
abbrev pub range_of : Expression → Expression → Option Expression → ForRange
range_of a b c = record { first = a; last = b; step = c }

-- the step, and DO
unfoldable pub closed_step : Deeper → Parser (Option Expression)
closed_step deeper = do
  c ← step deeper
  expect_keyword keywords.Do
  pure c

unfoldable pub last_and_step : Deeper → Parser (Expression × Option Expression)
last_and_step deeper = do
  b ← deeper.expression
  c ← closed_step deeper
  pure (b, c)

unfoldable pub for_range : Deeper → Parser ForRange
for_range deeper = do
  a ← expression_before deeper keywords.To
  rest ← last_and_step deeper
  pure (range_of a rest.0 rest.1)

-- FOR, without its statements
unfoldable pub for_head : Position → Deeper → Parser ForStatement
for_head p deeper = do
  n ← identifier_before symbols.Assign
  x ← for_range deeper
  pure (for_of p n x.first x.last x.step [])

-- FOR, with these statements
abbrev pub for_with : ForStatement → List Statement → ForStatement
for_with h ss = let x = out-ForStatement h in for_of x.position x.variable x.first x.last x.step ss

unfoldable pub for_statement : ℕ → Deeper → Parser Statement
for_statement depth_left deeper = do
  p ← enter depth_left
  h ← for_head p deeper
  ss ← closed_block deeper keywords.EndFor
  pure (statement_kinds.For (for_with h ss))

unfoldable pub while_statement : ℕ → Deeper → Parser Statement
while_statement depth_left deeper = do
  p ← enter depth_left
  x ← expression_before deeper keywords.Do
  ss ← closed_block deeper keywords.EndWhile
  pure (statement_kinds.While (while_of p x ss))

unfoldable pub until : Deeper → Parser Expression
until deeper = do
  x ← expression_before deeper keywords.EndRepeat
  expect_symbol symbols.Semicolon
  pure x

unfoldable pub repeat_statement : ℕ → Deeper → Parser Statement
repeat_statement depth_left deeper = do
  p ← enter depth_left
  ss ← deeper.statements
  expect_keyword keywords.Until
  x ← until deeper
  pure (statement_kinds.Repeat (repeat_of p ss x))

abbrev pub statement_by : ℕ → Deeper → Option Kind → Parser Statement
statement_by depth_left deeper (Some (token_kinds.Word n)) = named depth_left
statement_by depth_left deeper (Some (token_kinds.Symbol symbols.Semicolon)) = empty
statement_by depth_left deeper (Some (token_kinds.Keyword keywords.Return)) = return_statement
statement_by depth_left deeper (Some (token_kinds.Keyword keywords.Exit)) = exit_statement
statement_by depth_left deeper (Some (token_kinds.Keyword keywords.If)) = if_statement depth_left deeper
statement_by depth_left deeper (Some (token_kinds.Keyword keywords.Case)) = case_statement depth_left deeper
statement_by depth_left deeper (Some (token_kinds.Keyword keywords.For)) = for_statement depth_left deeper
statement_by depth_left deeper (Some (token_kinds.Keyword keywords.While)) = while_statement depth_left deeper
statement_by depth_left deeper (Some (token_kinds.Keyword keywords.Repeat)) = repeat_statement depth_left deeper
statement_by depth_left deeper _ = refuse

unfoldable pub statement : ℕ → Deeper → Parser Statement
statement depth_left deeper = peek >>= statement_by depth_left deeper

abbrev pub block : ℕ → Deeper → Parser (List Statement)
block depth_left deeper = many begins_statement (statement depth_left deeper)

-- what is read inside one more open level, of which there may be this many
unfoldable pub deeper_of : ℕ → Deeper
deeper_of zero = record { expression = refuse; statements = refuse }
deeper_of (suc depth_left) = record { expression = expression depth_left; statements = block depth_left (deeper_of depth_left) }

-- statements, where this many levels may be opened
abbrev pub statements : ℕ → Parser (List Statement)
statements depth_left = block depth_left (deeper_of depth_left)
