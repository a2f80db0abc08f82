-- Where the message on a text stands that has tokens, which aren't in the grammar.
use Rattle.std.specs.Prelude.{◌≡◌, ℕ, ◌-◌, ◌^◌, ◌≤◌, if◌then◌else◌, List, codes, length, nat_eq, slice_index_or, Option, Some, None}
use Rattle.std.specs.List.{ends_with}
use Rattle.st_tokens.specs.Text.{HasTokens, Tokens}
use Rattle.st_messages.specs.declared.lexeme.Lexeme.{Lexeme}
use Rattle.st_messages.specs.Lexemes.{AreLexemes}
use Rattle.st_parser.specs.Names.{Position, ReadFault}
use Rattle.st_parser.specs.Reader.Parsers.{Refusal, Wrong, Deep, place_of}
use Rattle.st_parser.specs.declared.fault.ReadFault.TheVariants as read_faults
use Rattle.st_syntax.specs.Stops.{Stops, StopsOn}

-- the place of the token of this number; at the start of the text where there is none
abbrev pub start_at : List Lexeme → ℕ → ℕ
start_at lexemes number = (slice_index_or lexemes number (record { start = 0; end = 0 })).start

-- behind the last byte of a text; a line feed at its end belongs to the line that it ends
abbrev pub text_end : List ℕ → ℕ
text_end text =
    if ends_with nat_eq text (codes "\r\n") then length text - 2
    else if ends_with nat_eq text (codes "\n") then length text - 1
    else length text

-- at the token of this place, or, where it has none, at the end of the text
abbrev pub StandsAt : List ℕ → List Lexeme → Option Position → ℕ → Type 0
StandsAt text lexemes None start = start ≡ text_end text
StandsAt text lexemes (Some place) start = start ≡ start_at lexemes place.number

-- where a fault is told of, which isn't want of memory
abbrev pub IsSaidAt : ReadFault → List ℕ → List Lexeme → ℕ → Type 0
IsSaidAt read_faults.Memory text lexemes start = ⊥
IsSaidAt (read_faults.NotInGrammar place) text lexemes start = StandsAt text lexemes place start
IsSaidAt (read_faults.TooDeep place) text lexemes start = StandsAt text lexemes place start

-- at the token at which reading the text stops, or at its end
abbrev pub IsAtStop : List ℕ → ℕ → Type 0
IsAtStop text start = (tokens : Tokens) (refusal : Refusal) → length text ≤ 2 ^ 20 → HasTokens 1 text tokens → Stops tokens refusal
    → (lexemes : List Lexeme) × AreLexemes text tokens lexemes × StandsAt text lexemes (place_of refusal) start

-- Reading the text stops on this line, and there it is told of: at the token up to which no text goes on, or at the end of the text.
pub record IsStoppedAt (refusal : Option Position → Refusal) (line : ℕ) (text : List ℕ) (start : ℕ) : Type 0 where
  pub on : StopsOn refusal line text
  pub lexemes : List Lexeme
  pub are : AreLexemes text on.tokens lexemes
  pub stands : StandsAt text lexemes on.place start

-- that, where the token isn't in the grammar
abbrev pub IsOutsideAt : List ℕ → ℕ → ℕ → Type 0
IsOutsideAt text line start = IsStoppedAt Wrong line text start

-- that, where it opens a level too many
abbrev pub IsTooDeepAt : List ℕ → ℕ → ℕ → Type 0
IsTooDeepAt text line start = IsStoppedAt Deep line text start
