-- A text and its tokens (IEC 61131-3:2003, 2.1).
use Rattle.std.specs.Prelude.{◌≡◌, ℕ, ◌+◌, ◌^◌, ◌<◌, ◌≤◌, ◌⊎◌, true, List, [], ◌∷◌, ◌++◌, length, codes}
use Rattle.st_values.specs.declared.elem.Elem.TheVariants as elems
use Rattle.st_tokens.specs.declared.fault.SyntaxFault.{SyntaxFault}
use Rattle.st_tokens.specs.declared.fault.SyntaxFault.TheVariants as syntax_faults
use Rattle.st_tokens.specs.declared.token.Kind.{Kind}
use Rattle.st_tokens.specs.declared.token.Kind.TheVariants as token_kinds
use Rattle.st_tokens.specs.declared.token.Token.{Token}
use Rattle.st_tokens.specs.Characters.{BeginsWord, is_blank, line_end, line_ends}
use Rattle.st_tokens.specs.Words.{IsSame, IsUnclean}
use Rattle.st_tokens.specs.Forms.{HasForm}

-- of all prefixes of the text that have a form, this is the longest
pub record IsLongest (text prefix rest : List ℕ) (kind : Kind) : Type 0 where
  pub splits : text ≡ prefix ++ rest
  pub form : HasForm prefix kind
  pub longest : (other back : List ℕ) (k : Kind) → text ≡ other ++ back → HasForm other k → length other ≤ length prefix

-- a `#` comes first
abbrev pub BeginsHash : List ℕ → Type 0
BeginsHash rest = (back : List ℕ) × (rest ≡ codes "#" ++ back)

-- there is no token, though this prefix has a form: a word has two `_` in a row or one at the end, what begins as a
-- duration is none, or a letter, a digit or `_` follows a literal
abbrev pub IsRefused : Kind → List ℕ → Type 0
IsRefused (token_kinds.Word w) rest = IsUnclean w ⊎ (IsSame w (codes "T") × BeginsHash rest)
IsRefused (token_kinds.Type elem) rest = (elem ≡ elems.Time) × BeginsHash rest
IsRefused (token_kinds.Number n) rest = BeginsWord rest
IsRefused (token_kinds.Typed elem n) rest = BeginsWord rest
IsRefused (token_kinds.Duration ms) rest = BeginsWord rest
IsRefused _ rest = ⊥

-- `(*` comes first
abbrev pub BeginsComment : List ℕ → Type 0
BeginsComment text = (rest : List ℕ) × (text ≡ codes "(*" ++ rest)

-- a comment is its body, up to the first `*)`, between the marks; nothing nests (2.1.5)
pub record IsComment (text body rest : List ℕ) : Type 0 where
  pub splits : text ≡ codes "(*" ++ (body ++ (codes "*)" ++ rest))
  pub first : (other back : List ℕ) → text ≡ codes "(*" ++ (other ++ (codes "*)" ++ back)) → length body ≤ length other

-- what contracts see of a list of tokens
abbrev pub Tokens : Type 0
Tokens = List Token

-- a token that begins on this line
abbrev pub token : ℕ → Kind → Token
token line kind = record { kind = kind; line = line }

-- the text, which begins on this line, is blanks and comments around these tokens
pub data HasTokens : ℕ → List ℕ → List Token → Type 0 where
  -- nothing is left
  done : {line : ℕ} → HasTokens line [] []
  -- a blank (2.1.4)
  blank : {line b : ℕ} {rest : List ℕ} {ts : List Token}
      → is_blank b ≡ true → HasTokens (line + line_end b) rest ts → HasTokens line (b ∷ rest) ts
  -- a comment (2.1.5)
  comment : {line : ℕ} {text body rest : List ℕ} {ts : List Token}
      → IsComment text body rest → HasTokens (line + line_ends body) rest ts → HasTokens line text ts
  -- what begins no comment: a token, which is the longest match
  next : {line : ℕ} {text prefix rest : List ℕ} {kind : Kind} {ts : List Token}
      → (BeginsComment text → ⊥) → IsLongest text prefix rest kind → (IsRefused kind rest → ⊥)
      → HasTokens line rest ts → HasTokens line text (token line kind ∷ ts)

-- what a fault says of a text
abbrev pub Explains : SyntaxFault → List ℕ → Type 0
Explains syntax_faults.Memory text = Unit {0}
Explains (syntax_faults.NoToken line) text = (ts : List Token) → HasTokens 1 text ts → ⊥
Explains syntax_faults.TooLong text = 2 ^ 20 < length text
Explains (syntax_faults.NotInGrammar line) text = ⊥
Explains (syntax_faults.TooDeep line) text = ⊥
