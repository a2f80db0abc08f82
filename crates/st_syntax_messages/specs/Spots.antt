-- What stands at a token and around it.
use Rattle.std.specs.Prelude.{ℕ, ◌+◌, ◌-◌, ◌==◌, ◌||◌, ◌&&◌, Bool, true, false, if◌then◌else◌, List, [], Option, Some, None, length, nat_le, nat_lt, option_map, slice_get}
use Rattle.st_tokens.specs.declared.symbol.Symbol.{Symbol}
use Rattle.st_tokens.specs.declared.symbol.Symbol.TheVariants as symbols
use Rattle.st_tokens.specs.declared.token.Kind.{Kind}
use Rattle.st_tokens.specs.declared.token.Kind.TheVariants as token_kinds
use Rattle.st_tokens.specs.declared.token.Token.{Token}
use Rattle.st_messages.specs.declared.lexeme.Lexeme.{Lexeme}
use Rattle.st_syntax_messages.specs.Characters.{is_left_out}
use Rattle.st_syntax_messages.specs.Located.{bytes_of}
use Rattle.st_syntax_messages.specs.declared.spot.Mark.{Mark}
use Rattle.st_syntax_messages.specs.declared.spot.Mark.TheVariants as marks
use Rattle.st_syntax_messages.specs.declared.spot.Spot.{Spot}

abbrev pub symbol_mark : Symbol → Mark
symbol_mark symbols.Divide = marks.Divide
symbol_mark symbols.Times = marks.Times
symbol_mark symbols.Ampersand = marks.Ampersand
symbol_mark symbols.Dot = marks.Dot
symbol_mark symbols.Percent = marks.Percent
symbol_mark symbols.Open = marks.Open
symbol_mark symbols.OpenBracket = marks.OpenBracket
symbol_mark symbols.CloseBracket = marks.CloseBracket
symbol_mark symbols.Equal = marks.Equal
symbol_mark symbols.Assign = marks.Assign
symbol_mark symbols.Plus = marks.Plus
symbol_mark symbols.Minus = marks.Minus
symbol_mark symbols.Colon = marks.Colon
symbol_mark _ = marks.Other

abbrev pub kind_mark : Kind → Mark
kind_mark (token_kinds.Symbol symbol) = symbol_mark symbol
kind_mark (token_kinds.Word word) = marks.Word
kind_mark (token_kinds.Number number) = marks.Number
kind_mark (token_kinds.Type elem) = marks.Type
kind_mark _ = marks.Other

abbrev pub token_mark : Option Token → Mark
token_mark None = marks.Other
token_mark (Some token) = kind_mark token.kind

abbrev pub mark_at : List Token → ℕ → Mark
mark_at tokens number = token_mark (slice_get tokens number)

-- what the token of this number is, and those before and behind it
abbrev pub kind_at : List Token → ℕ → Option Kind
kind_at tokens number = option_map (λ (t : Token). t.kind) (slice_get tokens number)

abbrev pub kind_before : List Token → ℕ → Option Kind
kind_before tokens number = if number == 0 then None else kind_at tokens (number - 1)

abbrev pub kind_behind : List Token → ℕ → Option Kind
kind_behind tokens number = if nat_lt number (length tokens) then kind_at tokens (number + 1) else None

-- the line of the token of this number; there is none of number 0
abbrev pub line_in : Option Token → ℕ
line_in None = 0
line_in (Some token) = token.line

abbrev pub line_of : List Token → ℕ → ℕ
line_of tokens number = line_in (slice_get tokens number)

-- the lexeme before the one of this number
abbrev pub lexeme_before : List Lexeme → ℕ → Option Lexeme
lexeme_before lexemes number = if number == 0 then None else slice_get lexemes (number - 1)

abbrev pub is_divide : Mark → Bool
is_divide marks.Divide = true
is_divide _ = false

abbrev pub is_times : Mark → Bool
is_times marks.Times = true
is_times _ = false

abbrev pub is_ampersand : Mark → Bool
is_ampersand marks.Ampersand = true
is_ampersand _ = false

abbrev pub is_number : Mark → Bool
is_number marks.Number = true
is_number _ = false

abbrev pub is_assign : Mark → Bool
is_assign marks.Assign = true
is_assign _ = false

abbrev pub is_word : Mark → Bool
is_word marks.Word = true
is_word _ = false

abbrev pub is_close_bracket : Mark → Bool
is_close_bracket marks.CloseBracket = true
is_close_bracket _ = false

-- a variable ends with it
abbrev pub can_be_assigned : Mark → Bool
can_be_assigned mark = is_word mark || is_close_bracket mark

-- behind an operator other languages count a variable on by it
abbrev pub counts : Mark → Bool
counts marks.Equal = true
counts marks.Plus = true
counts marks.Minus = true
counts _ = false

-- nothing stands between two lexemes
abbrev pub touch : Option Lexeme → Option Lexeme → Bool
touch (Some before) (Some lexeme) = before.end == lexeme.start
touch (Some before) None = false
touch None lexeme = false

-- nothing stands between a lexeme and the one before it
abbrev pub touches_at : List Lexeme → ℕ → Bool
touches_at lexemes number = if number == 0 then false else touch (slice_get lexemes (number - 1)) (slice_get lexemes number)

-- the bytes of a lexeme, if the text has them
abbrev pub bytes_in : List ℕ → Option Lexeme → List ℕ
bytes_in text None = []
bytes_in text (Some lexeme) = if nat_le lexeme.start lexeme.end && nat_le lexeme.end (length text) then bytes_of text lexeme else []

-- the bytes of the token of this number
abbrev pub spelling_at : List ℕ → List Lexeme → ℕ → List ℕ
spelling_at text lexemes number = bytes_in text (slice_get lexemes number)

-- what stands at the token of this number and around it
abbrev pub spot_at : List ℕ → List Lexeme → List Token → ℕ → Spot
spot_at text lexemes tokens number = record {
  here = mark_at tokens number;
  before = if number == 0 then marks.Other else mark_at tokens (number - 1);
  behind = if nat_lt number (length tokens) then mark_at tokens (number + 1) else marks.Other;
  touches = touches_at lexemes number;
  joins = if nat_lt number (length tokens) then touches_at lexemes (number + 1) else false;
  follows_left_out = if number == 0 then false else is_left_out (spelling_at text lexemes (number - 1));
}
