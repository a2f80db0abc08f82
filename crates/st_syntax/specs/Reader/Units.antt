-- The reading of units as functions: what each function that reads them answers. In brackets `depth_left` more levels may be opened.
use Rattle.std.specs.Prelude.{ℕ, suc, Bool, true, false, List, [], ◌∷◌, Option, Some, Ok}
use Rattle.st_tokens.specs.declared.keyword.Keyword.TheVariants as keywords
use Rattle.st_tokens.specs.declared.symbol.Symbol.TheVariants as symbols
use Rattle.st_tokens.specs.declared.token.Kind.TheVariants as token_kinds
use Rattle.st_values.specs.declared.elem.Elem.{Elem}
use Rattle.st_tree.specs.declared.tree.declaration.DeclaredType.TheVariants as declared_types
use Rattle.st_tree.specs.declared.tree.unit.Body.TheVariants as bodies
use Rattle.st_tree.specs.declared.tree.unit.Unit.TheVariants as unit_kinds
use Rattle.st_parser.specs.Names as names
use Rattle.st_parser.specs.Names.{Body, Declaration, DeclaredType, Keyword, Kind, Pou, TypeDeclaration}
use Rattle.st_parser.specs.Grammar.Tokens.{Tok, kind, next}
use Rattle.st_parser.specs.Reader.Parsers.{Outcome, Parser, ◌>>=◌, ◌>>◌, pure, refuse, bump, peek, is_keyword, is_word, expect_symbol, expect_keyword, identifier, identifier_before, many, leading}
use Rattle.st_syntax.specs.Reader.Charts.{begins_element, chart}
use Rattle.st_syntax.specs.Reader.Statements.{statements}
use Rattle.st_syntax.specs.Grammar.Units.{type_of, function_of, pou_of}
use Rattle.st_syntax.specs.Reader.Declarations.{in_brackets, typed, member, variables}

unfoldable pub derived : ℕ → Parser DeclaredType
derived depth_left = do
  x ← typed depth_left
  pure (declared_types.Derived x.0 x.1)

abbrev pub members : ℕ → Parser (List Declaration)
members depth_left = leading (member depth_left) is_word (member depth_left)

unfoldable pub structure : ℕ → Parser DeclaredType
structure depth_left = do
  p ← bump
  xs ← members depth_left
  expect_keyword keywords.EndStruct
  expect_symbol symbols.Semicolon
  pure (declared_types.Structure p xs)

abbrev pub declared_by : ℕ → Bool → Parser DeclaredType
declared_by depth_left true = structure depth_left
declared_by depth_left false = derived depth_left

unfoldable pub declared : ℕ → Parser DeclaredType
declared depth_left = do
  t ← peek
  declared_by depth_left (is_keyword keywords.Struct t)

unfoldable pub type_declaration : ℕ → Parser TypeDeclaration
type_declaration depth_left = do
  n ← identifier_before symbols.Colon
  x ← declared depth_left
  pure (type_of n x)

abbrev pub type_declarations : ℕ → Parser (List TypeDeclaration)
type_declarations depth_left = many is_word (type_declaration depth_left)

unfoldable pub types : ℕ → Parser names.Unit
types depth_left = do
  p ← bump
  xs ← type_declarations depth_left
  expect_keyword keywords.EndType
  pure (unit_kinds.Types p xs)

abbrev pub elementary_by : Option Kind → Parser Elem
elementary_by (Some (token_kinds.Type e)) = λ ts. Ok (e, next ts)
elementary_by _ = refuse

unfoldable pub elementary : Parser Elem
elementary = λ ts. elementary_by (kind ts) ts

unfoldable pub function : ℕ → Parser names.Unit
function depth_left = do
  p ← bump
  n ← identifier_before symbols.Colon
  e ← elementary
  vs ← variables depth_left
  ss ← statements (suc depth_left)
  expect_keyword keywords.EndFunction
  pure (unit_kinds.Function (function_of p n e vs ss))

unfoldable pub chart_body : ℕ → Parser Body
chart_body depth_left = do
  xs ← chart (suc depth_left)
  pure (bodies.Chart xs)

unfoldable pub plain_body : ℕ → Parser Body
plain_body depth_left = do
  ss ← statements (suc depth_left)
  pure (bodies.Statements ss)

abbrev pub body_by : ℕ → Bool → Parser Body
body_by depth_left true = chart_body depth_left
body_by depth_left false = plain_body depth_left

unfoldable pub body : ℕ → Parser Body
body depth_left = do
  t ← peek
  body_by depth_left (begins_element t)

-- from the unit's first word to its last
unfoldable pub pou : ℕ → Keyword → Parser Pou
pou depth_left last = do
  p ← bump
  n ← identifier
  vs ← variables depth_left
  x ← body depth_left
  expect_keyword last
  pure (pou_of p n vs x)

unfoldable pub function_block : ℕ → Parser names.Unit
function_block depth_left = do
  x ← pou depth_left keywords.EndFunctionBlock
  pure (unit_kinds.FunctionBlock x)

unfoldable pub program : ℕ → Parser names.Unit
program depth_left = do
  x ← pou depth_left keywords.EndProgram
  pure (unit_kinds.Program x)

-- the first token begins a unit
abbrev pub begins_unit : Option Kind → Bool
begins_unit (Some (token_kinds.Keyword keywords.Type)) = true
begins_unit (Some (token_kinds.Keyword keywords.Function)) = true
begins_unit (Some (token_kinds.Keyword keywords.FunctionBlock)) = true
begins_unit (Some (token_kinds.Keyword keywords.Program)) = true
begins_unit _ = false

abbrev pub unit_by : ℕ → Option Kind → Parser names.Unit
unit_by depth_left (Some (token_kinds.Keyword keywords.Type)) = types depth_left
unit_by depth_left (Some (token_kinds.Keyword keywords.Function)) = function depth_left
unit_by depth_left (Some (token_kinds.Keyword keywords.FunctionBlock)) = function_block depth_left
unit_by depth_left (Some (token_kinds.Keyword keywords.Program)) = program depth_left
unit_by depth_left _ = refuse

unfoldable pub unit_of : ℕ → Parser names.Unit
unit_of depth_left = peek >>= unit_by depth_left

abbrev pub units : ℕ → Parser (List names.Unit)
units depth_left = many begins_unit (unit_of depth_left)

-- no token is left
abbrev pub ended : {A : Type 0} → A → List Tok → Outcome A
ended x [] = Ok (x, [])
ended x (t ∷ ts) = refuse (t ∷ ts)

-- { unit }, up to the last token
unfoldable pub whole : Parser (List names.Unit)
whole = do
  us ← units in_brackets
  ended us
