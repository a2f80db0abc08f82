-- The lexemes of a text.
use Rattle.std.specs.Prelude.{◌≡◌, ℕ, ◌+◌, ◌-◌, ◌<◌, ◌≤◌, true, false, List, [], ◌∷◌, ◌++◌, codes, length, Some, None}
use Rattle.st_tokens.specs.declared.token.Kind.{Kind}
use Rattle.st_tokens.specs.declared.token.Token.{Token}
use Rattle.st_tokens.specs.Characters.{is_blank, line_end, line_ends}
use Rattle.st_tokens.specs.Text.{BeginsComment, IsComment, IsLongest, IsRefused, token}
use Rattle.st_messages.specs.declared.lexeme.Lexeme.{Lexeme}
use Rattle.st_messages.specs.Skips.{after_comment, after_token}

-- it is some bytes of the text
abbrev pub IsWithin : List ℕ → Lexeme → Type 0
IsWithin text lexeme = (lexeme.start < lexeme.end) × (lexeme.end ≤ length text)

-- of a text of so many bytes, what stands before `rest`, where `text` is what is left
abbrev pub lexeme : ℕ → List ℕ → List ℕ → Lexeme
lexeme size text rest = record { start = size - length text; end = size - length rest }

-- What is left of a text of so many bytes, and begins on this line, is blanks and comments around these tokens, and they are these
-- lexemes. It is `HasTokens` of tokens, with where each of them stands.
pub data HasLexemes (size : ℕ) : ℕ → List ℕ → List Token → List Lexeme → Type 0 where
  -- nothing is left
  done : {line : ℕ} → HasLexemes size line [] [] []
  -- a blank
  blank : {line b : ℕ} {rest : List ℕ} {ts : List Token} {ls : List Lexeme}
      → is_blank b ≡ true → HasLexemes size (line + line_end b) rest ts ls → HasLexemes size line (b ∷ rest) ts ls
  -- a comment
  comment : {line : ℕ} {text body rest : List ℕ} {ts : List Token} {ls : List Lexeme}
      → IsComment text body rest → HasLexemes size (line + line_ends body) rest ts ls → HasLexemes size line text ts ls
  -- what begins no comment: a token, which is the longest match
  next : {line : ℕ} {text prefix rest : List ℕ} {kind : Kind} {ts : List Token} {ls : List Lexeme}
      → (BeginsComment text → ⊥) → IsLongest text prefix rest kind → (IsRefused kind rest → ⊥)
      → HasLexemes size line rest ts ls → HasLexemes size line text (token line kind ∷ ts) (lexeme size text rest ∷ ls)

-- the text has these tokens, and they are these lexemes
abbrev pub AreLexemes : List ℕ → List Token → List Lexeme → Type 0
AreLexemes text ts ls = HasLexemes (length text) 1 text ts ls

-- ---- a text that may have no tokens

-- What is left of a text of so many bytes is blanks and comments around these lexemes: tokens, or what begins none. Each text has them.
pub data HasPieces (size : ℕ) : List ℕ → List Lexeme → Type 0 where
  -- nothing is left
  nothing : HasPieces size [] []
  -- a blank
  behind_blank : {b : ℕ} {rest : List ℕ} {ls : List Lexeme} → is_blank b ≡ true → HasPieces size rest ls → HasPieces size (b ∷ rest) ls
  -- a comment
  behind_comment : {text rest : List ℕ} {ls : List Lexeme}
      → after_comment text ≡ Some rest → HasPieces size rest ls → HasPieces size (codes "(*" ++ text) ls
  -- a comment that isn't closed is what begins no token, up to the end
  unclosed : {text : List ℕ}
      → after_comment text ≡ None → HasPieces size (codes "(*" ++ text) (lexeme size (codes "(*" ++ text) [] ∷ [])
  -- what begins neither
  piece : {b : ℕ} {rest : List ℕ} {ls : List Lexeme}
      → is_blank b ≡ false → (BeginsComment (b ∷ rest) → ⊥) → HasPieces size (after_token (b ∷ rest)) ls
      → HasPieces size (b ∷ rest) (lexeme size (b ∷ rest) (after_token (b ∷ rest)) ∷ ls)

-- these are the lexemes of the text
abbrev pub ArePieces : List ℕ → List Lexeme → Type 0
ArePieces text ls = HasPieces (length text) text ls
