-- The tokens of a text with their numbers.
use denote.Enum.Bare.{sameb}
use Rattle.std.specs.Prelude.{ℕ, suc, Bool, List, [], ◌∷◌, Option, Some, None}
use Rattle.st_tokens.specs.contracts.keyword.Keyword as keyword
use Rattle.st_tokens.specs.contracts.symbol.Symbol as symbol
use Rattle.st_parser.specs.Names.{Identifier, Keyword, Kind, Position, Symbol, Token}

-- a token: where it stands, and what it is
abbrev pub Tok : Type 0
Tok = Position × Kind

-- the tokens with their numbers, the first of which is this
abbrev pub numbered : ℕ → List Token → List Tok
numbered n [] = []
numbered n (t ∷ ts) = (record { number = n; line = t.line }, t.kind) ∷ numbered (suc n) ts

-- the first token
abbrev pub first : List Tok → Option Tok
first [] = None
first (t ∷ ts) = Some t

-- what the first token is
abbrev pub kind : List Tok → Option Kind
kind [] = None
kind (t ∷ ts) = Some t.1

-- where the first token stands
abbrev pub position : List Tok → Position
position [] = record { number = 0; line = 0 }
position (t ∷ ts) = t.0

-- where the first token stands, where there is one
abbrev pub place : List Tok → Option Position
place [] = None
place (t ∷ ts) = Some t.0

-- the tokens after the first
abbrev pub next : List Tok → List Tok
next [] = []
next (t ∷ ts) = ts

-- `==` on symbols
abbrev pub same_symbol : Symbol → Symbol → Bool
same_symbol = sameb symbol.the_type

-- `==` on reserved words
abbrev pub same_keyword : Keyword → Keyword → Bool
same_keyword = sameb keyword.the_type

-- a name, which is a word
abbrev pub identifier_of : Position → List ℕ → Identifier
identifier_of p w = record { position = p; spelling = w }
