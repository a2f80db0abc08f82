-- The reading of declarations as functions: what each function that reads them answers. In brackets `depth_left` more levels may be opened.
use Rattle.std.specs.Prelude.{ℕ, suc, Bool, true, false, List, [], ◌∷◌, Option, Some, None}
use Rattle.st_tokens.specs.declared.keyword.Keyword.TheVariants as keywords
use Rattle.st_tokens.specs.declared.symbol.Symbol.TheVariants as symbols
use Rattle.st_tokens.specs.declared.token.Kind.TheVariants as token_kinds
use Rattle.st_tree.specs.declared.tree.declaration.ArrayElement.TheVariants as array_elements
use Rattle.st_tree.specs.declared.tree.declaration.Initial.TheVariants as initials
use Rattle.st_tree.specs.declared.tree.declaration.Specification.TheVariants as specifications
use Rattle.st_tree.specs.declared.tree.declaration.TypeName.TheVariants as type_names
use Rattle.st_tree.specs.declared.tree.declaration.VarKind.TheVariants as var_kinds
use Rattle.st_parser.specs.Names.{ArrayElement, Constant, Declaration, Initial, Kind, Position, Specification, Subrange, TypeName, VarBlock, VarKind}
use Rattle.st_parser.specs.Grammar.Tokens.{kind, next}
use Rattle.st_parser.specs.Reader.Parsers.{Parser, ◌>>=◌, ◌>>◌, pure, refuse, bump, peek, here, is_symbol, is_keyword, is_word, expect_symbol, expect_keyword, open_level, identifier, identifier_before, number, many, listed}
use Rattle.st_parser.specs.Reader.Expressions.{constant, signed_integer}
use Rattle.st_syntax.specs.Grammar.Declarations.{subrange_of, declaration_of, block_of}

-- how many levels may be opened in brackets, where 64 may be open
abbrev pub in_brackets : ℕ
in_brackets = 63

abbrev pub type_name_by : Option Kind → Parser TypeName
type_name_by (Some (token_kinds.Type e)) = do p ← bump; pure (type_names.Elementary p e)
type_name_by _ = do x ← identifier; pure (type_names.Declared x)

unfoldable pub type_name : Parser TypeName
type_name = peek >>= type_name_by

unfoldable pub subrange : Parser Subrange
subrange = do
  x ← signed_integer
  expect_symbol symbols.Range
  y ← signed_integer
  pure (subrange_of x y)

unfoldable pub array : ℕ → Parser Specification
array depth_left = do
  p ← bump
  open_level symbols.OpenBracket (suc depth_left)
  xs ← listed subrange
  expect_symbol symbols.CloseBracket
  expect_keyword keywords.Of
  x ← type_name
  pure (specifications.Array p xs x)

unfoldable pub simple : Parser Specification
simple = do x ← type_name; pure (specifications.Simple x)

abbrev pub specification_by : ℕ → Bool → Parser Specification
specification_by depth_left true = array depth_left
specification_by depth_left false = simple

unfoldable pub specification : ℕ → Parser Specification
specification depth_left = do
  t ← peek
  specification_by depth_left (is_keyword keywords.Array t)

abbrev pub repeated_by : Bool → Parser (Option Constant)
repeated_by true = pure None
repeated_by false = do x ← constant; pure (Some x)

-- [ literal ], before ')'
unfoldable pub repeated_value : Parser (Option Constant)
repeated_value = do
  t ← peek
  repeated_by (is_symbol symbols.Close t)

unfoldable pub repeated : ℕ → Parser ArrayElement
repeated depth_left = do
  p ← here
  m ← number
  open_level symbols.Open depth_left
  x ← repeated_value
  expect_symbol symbols.Close
  pure (array_elements.Repeated p m x)

unfoldable pub plain_element : Parser ArrayElement
plain_element = do x ← constant; pure (array_elements.Single x)

-- a number and '('
abbrev pub is_repeated : Option Kind → Option Kind → Bool
is_repeated (Some (token_kinds.Number m)) (Some (token_kinds.Symbol symbols.Open)) = true
is_repeated _ _ = false

abbrev pub element_by : ℕ → Bool → Parser ArrayElement
element_by depth_left true = repeated depth_left
element_by depth_left false = plain_element

unfoldable pub element : ℕ → Parser ArrayElement
element depth_left = λ ts. element_by depth_left (is_repeated (kind ts) (kind (next ts))) ts

unfoldable pub initial_array : ℕ → Parser Initial
initial_array depth_left = do
  p ← open_level symbols.OpenBracket (suc depth_left)
  xs ← listed (element depth_left)
  expect_symbol symbols.CloseBracket
  pure (initials.Array p xs)

unfoldable pub initial_constant : Parser Initial
initial_constant = do x ← constant; pure (initials.Constant x)

abbrev pub initial_by : ℕ → Bool → Parser Initial
initial_by depth_left true = initial_array depth_left
initial_by depth_left false = initial_constant

unfoldable pub initial : ℕ → Parser Initial
initial depth_left = do
  t ← peek
  initial_by depth_left (is_symbol symbols.OpenBracket t)

abbrev pub initialized_by : ℕ → Bool → Parser (Option Initial)
initialized_by depth_left true = do bump; x ← initial depth_left; expect_symbol symbols.Semicolon; pure (Some x)
initialized_by depth_left false = do expect_symbol symbols.Semicolon; pure None

unfoldable pub initialized : ℕ → Parser (Option Initial)
initialized depth_left = do
  t ← peek
  initialized_by depth_left (is_symbol symbols.Assign t)

-- a type, and an initial value
unfoldable pub typed : ℕ → Parser (Specification × Option Initial)
typed depth_left = do
  x ← specification depth_left
  y ← initialized depth_left
  pure (x, y)

unfoldable pub declaration : ℕ → Parser Declaration
declaration depth_left = do
  ns ← listed identifier
  expect_symbol symbols.Colon
  x ← typed depth_left
  pure (declaration_of ns x.0 x.1)

unfoldable pub member : ℕ → Parser Declaration
member depth_left = do
  m ← identifier_before symbols.Colon
  x ← typed depth_left
  pure (declaration_of (m ∷ []) x.0 x.1)

-- RETAIN or NON_RETAIN
abbrev pub is_retention : Option Kind → Bool
is_retention (Some (token_kinds.Keyword keywords.Retain)) = true
is_retention (Some (token_kinds.Keyword keywords.NonRetain)) = true
is_retention _ = false

abbrev pub retention_by : VarKind → Bool → Parser VarKind
retention_by x true = bump >> pure x
retention_by x false = pure x

unfoldable pub retention : VarKind → Parser VarKind
retention x = do
  t ← peek
  retention_by x (is_retention t)

abbrev pub internal_by : Bool → Parser VarKind
internal_by true = bump >> pure var_kinds.Constant
internal_by false = retention var_kinds.Internal

unfoldable pub internal : Parser VarKind
internal = do
  t ← peek
  internal_by (is_keyword keywords.Constant t)

abbrev pub declarations : ℕ → Parser (List Declaration)
declarations depth_left = many is_word (declaration depth_left)

abbrev pub block_rest : ℕ → Position → VarKind → Parser VarBlock
block_rest depth_left p x = do
  ds ← declarations depth_left
  expect_keyword keywords.EndVar
  pure (block_of p x ds)

abbrev pub block : ℕ → Parser VarKind → Parser VarBlock
block depth_left head = do
  p ← bump
  x ← head
  block_rest depth_left p x

-- the first token begins declarations
abbrev pub begins_block : Option Kind → Bool
begins_block (Some (token_kinds.Keyword keywords.Var)) = true
begins_block (Some (token_kinds.Keyword keywords.VarInput)) = true
begins_block (Some (token_kinds.Keyword keywords.VarOutput)) = true
begins_block _ = false

abbrev pub var_block_by : ℕ → Option Kind → Parser VarBlock
var_block_by depth_left (Some (token_kinds.Keyword keywords.Var)) = block depth_left internal
var_block_by depth_left (Some (token_kinds.Keyword keywords.VarInput)) = block depth_left (retention var_kinds.Input)
var_block_by depth_left (Some (token_kinds.Keyword keywords.VarOutput)) = block depth_left (retention var_kinds.Output)
var_block_by depth_left _ = refuse

unfoldable pub var_block : ℕ → Parser VarBlock
var_block depth_left = peek >>= var_block_by depth_left

abbrev pub variables : ℕ → Parser (List VarBlock)
variables depth_left = many begins_block (var_block depth_left)
