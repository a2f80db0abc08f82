-- Why a token is out of place, where the tokens around it tell.
use Rattle.std.specs.Prelude.{◌||◌, ◌&&◌, not, Bool, if◌then◌else◌, Option, Some, None}
use Rattle.st_syntax_messages.specs.declared.cause.Cause.{Cause}
use Rattle.st_syntax_messages.specs.declared.cause.Cause.TheVariants as causes
use Rattle.st_syntax_messages.specs.declared.spot.Mark.{Mark}
use Rattle.st_syntax_messages.specs.declared.spot.Mark.TheVariants as marks
use Rattle.st_syntax_messages.specs.declared.spot.Spot.{Spot}
use Rattle.st_syntax_messages.specs.Spots.{can_be_assigned, counts, is_ampersand, is_close_bracket, is_divide, is_number, is_times, is_word}

abbrev pub when : Bool → Cause → Option Cause
when holds cause = if holds then Some cause else None

-- at `/`: it is one of two that touch, or `*` touches it
abbrev pub slash_cause : Spot → Option Cause
slash_cause s =
    if (is_divide s.behind && s.joins) || (is_divide s.before && s.touches) then Some causes.LineComment
    else when (is_times s.behind && s.joins) causes.BlockComment

-- at a symbol that is one of another language, or a part of one
abbrev pub symbol_cause : Spot → Mark → Option Cause
symbol_cause s marks.Divide = slash_cause s
symbol_cause s marks.Times = when (is_times s.before && s.touches) causes.Power
symbol_cause s marks.Ampersand = when (is_ampersand s.before && s.touches) causes.DoubleAmpersand
symbol_cause s marks.Dot = when (is_number s.before) causes.Fraction
symbol_cause s marks.Percent = Some causes.Percent
symbol_cause s _ = None

-- at a `(` in a declaration, behind this
abbrev pub parenthesis_cause : Mark → Option Cause
parenthesis_cause marks.Colon = Some causes.Enumeration
parenthesis_cause marks.Assign = Some causes.InitialStructure
parenthesis_cause marks.Type = Some causes.Subrange
parenthesis_cause _ = None

-- at a `=` in no declaration, behind this
abbrev pub equal_cause : Mark → Option Cause
equal_cause marks.Equal = Some causes.DoubleEqual
equal_cause marks.Word = Some causes.Comparison
equal_cause marks.CloseBracket = Some causes.Comparison
equal_cause _ = None

-- at an operator by which other languages count a variable on
abbrev pub counting_cause : Spot → Option Cause
counting_cause s = when (is_word s.before && counts s.behind) causes.Counting

-- at a symbol among declarations, or elsewhere
abbrev pub place_cause : Spot → Bool → Mark → Option Cause
place_cause s declares marks.Open = if declares then parenthesis_cause s.before else None
place_cause s declares marks.OpenBracket = when (declares && s.follows_left_out) causes.StringLength
place_cause s declares marks.Equal = if declares then Some causes.EqualInitial else equal_cause s.before
place_cause s declares marks.Assign =
    when (if declares then is_close_bracket s.before else can_be_assigned s.before) causes.Assignment
place_cause s declares marks.Plus = counting_cause s
place_cause s declares marks.Minus = counting_cause s
place_cause s declares marks.Times = counting_cause s
place_cause s declares _ = None
