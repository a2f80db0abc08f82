-- Why a token is out of place, and what is said of it.
use Rattle.std.specs.Prelude.{◌≡◌, ℕ, ◌-◌, ◌<◌, ◌≤◌, ◌==◌, ◌&&◌, ◌||◌, not, Bool, true, false, if◌then◌else◌, ◌⊎◌, List, [], ◌∷◌, Option, Some, None, codes, decimal, is_some, length, nat_le, slice_get, take}
use Rattle.std.specs.List.{list_any}
use Rattle.st_tokens.specs.declared.token.Kind.{Kind}
use Rattle.st_tokens.specs.declared.token.Kind.TheVariants as kinds
use Rattle.st_tokens.specs.declared.token.Token.{Token}
use Rattle.st_messages.specs.declared.form.Words.{Words}
use Rattle.st_messages.specs.declared.lexeme.Lexeme.{Lexeme}
use Rattle.st_messages.specs.Drafts.{quoted}
use Rattle.st_messages.specs.Replacements.{left_out, other_word}
use Rattle.st_messages.specs.Rows.{one_name}
use Rattle.st_messages.specs.Sayings.{AreWords, AreWordsFor}
use Rattle.st_messages.specs.Shown.{shown}
use Rattle.st_syntax_messages.specs.declared.cause.Cause.{Cause}
use Rattle.st_syntax_messages.specs.declared.cause.Cause.TheVariants as causes
use Rattle.st_syntax_messages.specs.declared.open.Group.{Group}
use Rattle.st_syntax_messages.specs.declared.open.Group.TheVariants as groups
use Rattle.st_syntax_messages.specs.declared.open.Open.{Open}
use Rattle.st_syntax_messages.specs.declared.spot.Spot.{Spot}
use Rattle.st_syntax_messages.specs.Kinds.{begins_outside, begins_statement, is_comma, is_else, is_if, is_plain, is_reserved, may_follow_semicolon, names_before, wants_name}
use Rattle.st_syntax_messages.specs.Open.{closed_by, closes, declares, end_of, last_of, open_before}
use Rattle.st_syntax_messages.specs.Probes.{Allows}
use Rattle.st_syntax_messages.specs.Rows.{rows}
use Rattle.st_syntax_messages.specs.Spots.{is_assign, is_word, kind_at, kind_before, kind_behind, lexeme_before, line_of, spelling_at, spot_at}
use Rattle.st_syntax_messages.specs.Tokens.{place_cause, symbol_cause, when}

-- the first of two causes that there is
abbrev pub or_else : Option Cause → Option Cause → Option Cause
or_else None second = second
or_else (Some cause) second = Some cause

-- ---- words

-- the row of a token that this profile leaves out, or of a word before it that another language has
abbrev pub word_row : List ℕ → List Lexeme → ℕ → Spot → Option (List ℕ × List ℕ × List ℕ)
word_row text lexemes number s =
    if is_some (left_out (spelling_at text lexemes number)) then left_out (spelling_at text lexemes number)
    else if is_word s.before then other_word (spelling_at text lexemes (number - 1))
    else None

-- these are the words of such a row
abbrev pub AreWordsOfRow : List ℕ × List ℕ × List ℕ → Words → Type 0
AreWordsOfRow row words = AreWords row.1 row.2 (one_name row.0) words

-- ---- by what stands around the token

-- a reserved word stands where a name is due
abbrev pub stands_for_name : List Token → ℕ → Option Open → Bool
stands_for_name tokens number last =
    is_reserved (kind_at tokens number)
    && ((is_plain (kind_at tokens number) && wants_name (kind_before tokens number))
    || (names_before (kind_behind tokens number) || (declares last && is_comma (kind_behind tokens number))))

-- a statement stands among declarations
abbrev pub is_statement : Spot → Option Open → Bool
is_statement s last = declares last && (is_word s.before && is_assign s.here)

abbrev pub early_cause : List Token → ℕ → Spot → Option Open → Option Cause
early_cause tokens number s last =
    or_else (place_cause s (declares last) s.here)
    (or_else (when (is_statement s last) causes.Statement) (when (stands_for_name tokens number last) causes.ReservedName))

-- ---- a `;` that is missing

-- the text up to the end of the token before
abbrev pub text_up_to : List ℕ → Option Lexeme → List ℕ
text_up_to text None = []
text_up_to text (Some before) = if nat_le before.end (length text) then take before.end text else []

abbrev pub text_before : List ℕ → List Lexeme → ℕ → List ℕ
text_before text lexemes number = text_up_to text (lexeme_before lexemes number)

-- by the tokens there, a `;` could be missing before this one
abbrev pub can_lack : List Token → ℕ → Bool
can_lack tokens number =
    not (number == 0) && (not (begins_statement (kind_before tokens number)) && may_follow_semicolon (kind_at tokens number))

-- it is: the grammar allows one there
abbrev pub Lacks : List ℕ → List Lexeme → List Token → ℕ → Bool → Type 0
Lacks text lexemes tokens number true = (can_lack tokens number ≡ true) × Allows (text_before text lexemes number) (codes ";") true
Lacks text lexemes tokens number false = (can_lack tokens number ≡ false) ⊎ Allows (text_before text lexemes number) (codes ";") false

-- ---- by what is open

-- an `ELSE IF`, at its IF
abbrev pub is_else_if : List Token → ℕ → Bool
is_else_if tokens at = is_if (kind_at tokens at) && is_else (kind_before tokens at)

-- from this token on there is none up to there
abbrev pub HasNoElseIf : List Token → ℕ → ℕ → Type 0
HasNoElseIf tokens start end = (at : ℕ) → start ≤ at → at < end → is_else_if tokens at ≡ false

-- the line of the first one
abbrev pub IsFirstElseIf : List Token → ℕ → Option ℕ → Type 0
IsFirstElseIf tokens start None = HasNoElseIf tokens start (length tokens)
IsFirstElseIf tokens start (Some line) =
    (at : ℕ) × (start ≤ at) × (is_else_if tokens at ≡ true) × HasNoElseIf tokens start at × (line ≡ line_of tokens at)

-- a symbol tells of parentheses and brackets alone that they aren't closed
abbrev pub is_symbol_pair : Group → Bool
is_symbol_pair groups.Parenthesis = true
is_symbol_pair groups.Bracket = true
is_symbol_pair _ = false

abbrev pub tells_unclosed : Kind → Group → Bool
tells_unclosed (kinds.Symbol symbol) group = is_symbol_pair group
tells_unclosed _ group = true

abbrev pub unclosed_cause : Group → Option ℕ → Cause
unclosed_cause groups.If (Some line) = causes.UnclosedElseIf
unclosed_cause _ _ = causes.Unclosed

-- of a token that closes nothing that is open last
abbrev pub unfit_cause : Kind → List Open → Group → Option ℕ → Option Cause
unfit_cause kind opened group else_if =
    if is_some (closed_by kind) && not (list_any (λ it. closes kind it.group) opened) then Some causes.Unopened
    else when ((is_some (closed_by kind) || begins_outside (Some kind)) && tells_unclosed kind group) (unclosed_cause group else_if)

abbrev pub inside_cause : Kind → List Open → Option Open → Option ℕ → Option Cause
inside_cause kind opened None else_if = Some causes.Outside
inside_cause kind opened (Some last) else_if = if closes kind last.group then None else unfit_cause kind opened last.group else_if

abbrev pub kind_cause : Option Kind → List Open → Option ℕ → Option Cause
kind_cause None opened else_if = None
kind_cause (Some kind) opened else_if = inside_cause kind opened (last_of opened) else_if

abbrev pub late_cause : List Token → ℕ → List Open → Option ℕ → Option Cause
late_cause tokens number opened else_if = kind_cause (kind_at tokens number) opened else_if

-- nothing tells, and this could stand here
abbrev pub elsewhere_cause : List ℕ → Cause
elsewhere_cause allowed = if length allowed == 0 then causes.Elsewhere else causes.ElsewhereKnown

-- where the text ends
abbrev pub ended_cause : Cause → Cause
ended_cause causes.UnclosedElseIf = causes.EndElseIf
ended_cause _ = causes.EndUnclosed

abbrev pub end_cause : Option Open → Option ℕ → Cause
end_cause None else_if = causes.EndEarly
end_cause (Some last) else_if = ended_cause (unclosed_cause last.group else_if)

-- ---- what is said

-- the first token of what is open last, and how the end of it is written
abbrev pub opened_at : Option Open → ℕ
opened_at None = 0
opened_at (Some last) = last.number

abbrev pub written_end : Option Open → List ℕ
written_end None = []
written_end (Some last) = end_of last.group

abbrev pub line_or_none : Option ℕ → ℕ
line_or_none None = 0
line_or_none (Some line) = line

-- ① the token, ② the one before it, and ③ its line; ④ what is open last, ⑤ its line, ⑥ how it ends, and ⑦ the line of the first
-- `ELSE IF` in it; ⑧ what could stand here; ⑨ the token as a part of a word
abbrev pub texts : List ℕ → List Lexeme → List Token → ℕ → Option Open → Option ℕ → List ℕ → List (List ℕ)
texts text lexemes tokens number last else_if allowed =
    quoted (shown (spelling_at text lexemes number))
    ∷ quoted (shown (spelling_at text lexemes (number - 1)))
    ∷ decimal (line_of tokens (number - 1))
    ∷ quoted (shown (spelling_at text lexemes (opened_at last)))
    ∷ decimal (line_of tokens (opened_at last))
    ∷ written_end last
    ∷ decimal (line_or_none else_if)
    ∷ allowed
    ∷ shown (spelling_at text lexemes number)
    ∷ []

-- Why a token is out of place that is no symbol and no word of another language, where this is open, and this is the line of the first
-- `ELSE IF` in what is open last; and what could stand in its place, as far as that is said.
pub data IsPlaceCause (text : List ℕ) (lexemes : List Lexeme) (tokens : List Token) (number : ℕ) (s : Spot) (opened : List Open) (else_if : Option ℕ) : Cause → List ℕ → Type 0 where
  -- what stands around it tells
  early : {cause : Cause} → early_cause tokens number s (last_of opened) ≡ Some cause
      → IsPlaceCause text lexemes tokens number s opened else_if cause []
  -- else a `;` is missing
  semicolon : early_cause tokens number s (last_of opened) ≡ None → Lacks text lexemes tokens number true
      → IsPlaceCause text lexemes tokens number s opened else_if causes.Semicolon []
  -- else what is open tells
  late : {cause : Cause} → early_cause tokens number s (last_of opened) ≡ None → Lacks text lexemes tokens number false
      → late_cause tokens number opened else_if ≡ Some cause → IsPlaceCause text lexemes tokens number s opened else_if cause []
  -- else nothing does
  elsewhere : {allowed : List ℕ} → early_cause tokens number s (last_of opened) ≡ None → Lacks text lexemes tokens number false
      → late_cause tokens number opened else_if ≡ None → IsPlaceCause text lexemes tokens number s opened else_if (elsewhere_cause allowed) allowed

-- these are the words of the row of such a cause
pub record AreWordsOfPlace (text : List ℕ) (lexemes : List Lexeme) (tokens : List Token) (number : ℕ) (s : Spot) (words : Words) : Type 0 where
  pub else_if : Option ℕ
  pub first : IsFirstElseIf tokens (opened_at (last_of (open_before tokens number))) else_if
  pub cause : Cause
  pub allowed : List ℕ
  pub is : IsPlaceCause text lexemes tokens number s (open_before tokens number) else_if cause allowed
  pub are : AreWordsFor rows cause (texts text lexemes tokens number (last_of (open_before tokens number)) else_if allowed) words

-- of a token: by the symbol that it is, else by the row of a word, else by its place
abbrev pub AreWordsBy : Option Cause → Option (List ℕ × List ℕ × List ℕ) → List ℕ → List Lexeme → List Token → ℕ → Spot → Words → Type 0
AreWordsBy (Some cause) row text lexemes tokens number s words = AreWordsFor rows cause (one_name (spelling_at text lexemes number)) words
AreWordsBy None (Some row) text lexemes tokens number s words = AreWordsOfRow row words
AreWordsBy None None text lexemes tokens number s words = AreWordsOfPlace text lexemes tokens number s words

-- what is said of a token that is out of place
abbrev pub AreWordsOfToken : List ℕ → List Lexeme → List Token → ℕ → Words → Type 0
AreWordsOfToken text lexemes tokens number words =
    let s = spot_at text lexemes tokens number in
    AreWordsBy (symbol_cause s s.here) (word_row text lexemes number s) text lexemes tokens number s words

-- what is said of a text that ends too early
pub record AreWordsOfEnd (text : List ℕ) (lexemes : List Lexeme) (tokens : List Token) (words : Words) : Type 0 where
  pub else_if : Option ℕ
  pub first : IsFirstElseIf tokens (opened_at (last_of (open_before tokens (length tokens)))) else_if
  pub are : AreWordsFor rows (end_cause (last_of (open_before tokens (length tokens))) else_if)
      (texts text lexemes tokens (length tokens) (last_of (open_before tokens (length tokens))) else_if []) words
