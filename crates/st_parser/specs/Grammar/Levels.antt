-- How many levels are open.
use Rattle.std.specs.Prelude.{◌≡◌, ℕ, ◌+◌, ◌≤◌, List, [], ◌∷◌, ◌++◌}
use Rattle.st_tokens.specs.declared.keyword.Keyword.TheVariants as keywords
use Rattle.st_tokens.specs.declared.symbol.Symbol.TheVariants as symbols
use Rattle.st_parser.specs.Names.{Kind}
use Rattle.st_tokens.specs.declared.token.Kind.TheVariants as token_kinds
use Rattle.st_parser.specs.Grammar.Tokens.{Tok}

-- 1 for a token that opens a level
abbrev pub opens : Kind → ℕ
opens (token_kinds.Symbol symbols.Open) = 1
opens (token_kinds.Symbol symbols.OpenBracket) = 1
opens (token_kinds.Keyword keywords.If) = 1
opens (token_kinds.Keyword keywords.Case) = 1
opens (token_kinds.Keyword keywords.For) = 1
opens (token_kinds.Keyword keywords.While) = 1
opens (token_kinds.Keyword keywords.Repeat) = 1
opens _ = 0

-- 1 for a token that closes one
abbrev pub closes : Kind → ℕ
closes (token_kinds.Symbol symbols.Close) = 1
closes (token_kinds.Symbol symbols.CloseBracket) = 1
closes (token_kinds.Keyword keywords.EndIf) = 1
closes (token_kinds.Keyword keywords.EndCase) = 1
closes (token_kinds.Keyword keywords.EndFor) = 1
closes (token_kinds.Keyword keywords.EndWhile) = 1
closes (token_kinds.Keyword keywords.EndRepeat) = 1
closes _ = 0

abbrev pub opened : List Tok → ℕ
opened [] = 0
opened (t ∷ ts) = opens t.1 + opened ts

abbrev pub closed : List Tok → ℕ
closed [] = 0
closed (t ∷ ts) = closes t.1 + closed ts

-- at most this many levels are open in every prefix of the tokens
abbrev pub IsWithin : ℕ → List Tok → Type 0
IsWithin most ts = (prefix rest : List Tok) → ts ≡ prefix ++ rest → opened prefix ≤ closed prefix + most
