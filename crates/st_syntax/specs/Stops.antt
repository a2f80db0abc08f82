-- Where the reading of a text stops, and that no text goes on from there.
use Rattle.std.specs.Prelude.{◌≡◌, ℕ, ◌+◌, ◌-◌, ◌^◌, ◌≤◌, List, [], ◌∷◌, ◌++◌, length, take, Option, Some, None, Err}
use Rattle.std.specs.List.{sum_by}
use Rattle.st_tokens.specs.Characters.{line_end}
use Rattle.st_tokens.specs.Text.{HasTokens, Tokens}
use Rattle.st_tokens.specs.declared.fault.SyntaxFault.{SyntaxFault}
use Rattle.st_tokens.specs.declared.fault.SyntaxFault.TheVariants as syntax_faults
use Rattle.st_parser.specs.Names as names
use Rattle.st_parser.specs.Names.{Position, Token}
use Rattle.st_parser.specs.Grammar.Faults.{line_or}
use Rattle.st_parser.specs.Grammar.Levels.{IsWithin}
use Rattle.st_parser.specs.Grammar.Tokens.{numbered}
use Rattle.st_parser.specs.Reader.Parsers.{Refusal, Wrong, Deep}
use Rattle.st_syntax.specs.Grammar.Units.{AreUnits}
use Rattle.st_syntax.specs.Reader.Units.{whole}

-- reading these tokens stops with this refusal
abbrev pub Stops : Tokens → Refusal → Type 0
Stops tokens refusal = whole (numbered 0 tokens) ≡ Err refusal

-- these tokens are no units with at most 64 open levels
abbrev pub AreNone : Tokens → Type 0
AreNone tokens = (us : List names.Unit) → AreUnits (numbered 0 tokens) us → IsWithin 64 (numbered 0 tokens) → ⊥

-- the token that stands here among these tokens, up to which none go on, whatever follows
pub record IsLast (tokens : Tokens) (place : Position) : Type 0 where
  pub before : Tokens
  pub token : Token
  pub behind : Tokens
  pub splits : tokens ≡ before ++ token ∷ behind
  pub number : place.number ≡ length before
  pub line : place.line ≡ token.line
  pub none : (others : Tokens) → AreNone ((before ++ token ∷ []) ++ others)

-- the place of such a token, or no place where the tokens end too early
abbrev pub IsStop : Tokens → Option Position → Type 0
IsStop tokens None = AreNone tokens
IsStop tokens (Some place) = IsLast tokens place

-- the line of the last byte; a line feed belongs to the line that it ends
abbrev pub last_line : List ℕ → ℕ
last_line text = 1 + sum_by line_end (take (length text - 1) text)

-- reading the tokens of a text stops at a token on this line, or at their end, and this is the last line
pub record StopsOn (refusal : Option Position → Refusal) (line : ℕ) (text : List ℕ) : Type 0 where
  pub short : length text ≤ 2 ^ 20
  pub tokens : Tokens
  pub has : HasTokens 1 text tokens
  pub place : Option Position
  pub stops : Stops tokens (refusal place)
  pub is : IsStop tokens place
  pub on : line ≡ line_or (last_line text) place

-- the line that a fault names
abbrev pub NamesLine : SyntaxFault → List ℕ → Type 0
NamesLine (syntax_faults.NotInGrammar line) text = StopsOn Wrong line text
NamesLine (syntax_faults.TooDeep line) text = StopsOn Deep line text
NamesLine _ text = Unit {0}
