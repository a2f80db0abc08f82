-- Why bytes are no token.
use Rattle.std.specs.Prelude.{ℕ, ◌==◌, ◌||◌, Bool, if◌then◌else◌, List, [], ◌∷◌, Option, Some, None, codes, length, nat_lt, position, slice_index, take}
use Rattle.std.specs.Char.{is_ascii_digit}
use Rattle.std.specs.List.{list_any}
use Rattle.std.specs.Str.{byte}
use Rattle.st_values.specs.Words.{begins_with, is_word}
use Rattle.st_tokens.specs.Characters.{begins_word}
use Rattle.st_tokens.specs.Scanning.{is_duration_word}
use Rattle.st_syntax_messages.specs.declared.cause.Cause.{Cause}
use Rattle.st_syntax_messages.specs.declared.cause.Cause.TheVariants as causes
use Rattle.st_syntax_messages.specs.declared.characters.TheConstants.{TYPES_LEFT_OUT}

-- the word is the name of a type that this profile leaves out
abbrev pub is_left_out : List ℕ → Bool
is_left_out word = list_any (λ name. is_word name.now word) TYPES_LEFT_OUT

-- why a literal is none that begins with this word and `#`
abbrev pub literal_cause : List ℕ → Cause
literal_cause word =
    if is_duration_word word then causes.BadDuration
    else if is_left_out word then causes.LeftOutLiteral
    else causes.BadLiteral

-- why bytes with their first `#` here are no name and no literal
abbrev pub named_cause : List ℕ → Option ℕ → Cause
named_cause bytes None = causes.BadName
named_cause bytes (Some at) = literal_cause (take at bytes)

-- why bytes that begin with a letter or `_` are no name and no literal
abbrev pub word_cause : List ℕ → Cause
word_cause bytes = named_cause bytes (position (λ b. b == byte "#") bytes)

-- why bytes that begin with a digit are no number
abbrev pub number_cause : List ℕ → Cause
number_cause bytes = if list_any (λ b. b == byte "#") bytes then causes.BasedNumber else causes.PlainNumber

-- why a character that begins with this byte is no symbol
abbrev pub sign_cause : ℕ → Cause
sign_cause b =
    if b == byte "'" || b == byte "\"" then causes.CharacterString
    else if b == byte "{" || b == byte "}" then causes.Pragma
    else if b == byte "!" then causes.Exclamation
    else if b == byte "|" then causes.Bar
    else if b == byte "~" then causes.Tilde
    else if b == byte "^" then causes.Caret
    else if b == byte "?" then causes.QuestionMark
    else if b == byte "#" then causes.Hash
    else if b == byte "$" then causes.Dollar
    else if b == byte "\\" || b == byte "@" || b == byte "`" then causes.OtherSign
    else if nat_lt b 0x80 then causes.OtherCharacter
    else causes.Accented

-- the byte order mark
abbrev pub mark : List ℕ
mark = 0xEF ∷ 0xBB ∷ 0xBF ∷ []

-- why bytes that are no comment and no byte order mark are no token
abbrev pub plain_cause : List ℕ → Cause
plain_cause bytes =
    if is_ascii_digit (slice_index bytes 0) then number_cause bytes
    else if begins_word (slice_index bytes 0) then word_cause bytes
    else sign_cause (slice_index bytes 0)

-- why bytes, which may be the first ones of a text, are no token
abbrev pub cause_of : Bool → List ℕ → Cause
cause_of is_first bytes =
    if length bytes == 0 then causes.Nothing
    else if begins_with (codes "(*") bytes then causes.OpenComment
    else if begins_with mark bytes then (if is_first then causes.FirstMark else causes.LaterMark)
    else plain_cause bytes
