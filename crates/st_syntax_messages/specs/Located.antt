-- Where the message on a text stands that has no tokens.
use Rattle.std.specs.Prelude.{◌≡◌, ℕ, ◌^◌, ◌≤◌, List, ◌∷◌, ◌++◌, drop, length, slice_range}
use Rattle.std.specs.List.{All}
use Rattle.st_tokens.specs.Text.{HasTokens, Tokens}
use Rattle.st_messages.specs.declared.lexeme.Lexeme.{Lexeme}
use Rattle.st_messages.specs.Lexemes.{ArePieces}
use Rattle.st_messages.specs.Places.{EndsLine, line_at}

-- the bytes of a lexeme
abbrev pub bytes_of : List ℕ → Lexeme → List ℕ
bytes_of text lexeme = slice_range text lexeme.start lexeme.end

-- these bytes, which aren't too many, have tokens
pub record IsRead (bytes : List ℕ) : Type 0 where
  pub short : length bytes ≤ 2 ^ 20
  pub tokens : Tokens
  pub has : HasTokens 1 bytes tokens

-- those of these lexemes that begin on a line of the text are tokens
abbrev pub AreReadOn : List ℕ → ℕ → List Lexeme → Type 0
AreReadOn text line lexemes = All (λ l. line_at text l.start ≡ line → IsRead (bytes_of text l)) lexemes

-- here a lexeme of the text begins, with these before it and those behind it
pub record Begins (text : List ℕ) (start : ℕ) (before : List Lexeme) (lexeme : Lexeme) (behind : List Lexeme) : Type 0 where
  pub are : ArePieces text (before ++ lexeme ∷ behind)
  pub begins : lexeme.start ≡ start

-- where a text is told of that has no tokens, and is refused on this line
pub data IsUnknownAt (text : List ℕ) (line start : ℕ) : Type 0 where
  -- at the first lexeme that is no token, of those that begin on the line
  first : {before behind : List Lexeme} {l : Lexeme} → Begins text start before l behind
      → (IsRead (bytes_of text l) → ⊥) → AreReadOn text line before → IsUnknownAt text line start
  -- where all of these are tokens, at the end of a line
  none : {lexemes : List Lexeme} → ArePieces text lexemes → AreReadOn text line lexemes → EndsLine (drop start text) → IsUnknownAt text line start
