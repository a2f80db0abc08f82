-- What a whole text is read as (IEC 61131-3:2003, 2.2).
use Rattle.std.specs.Option.{option_or}
use Rattle.std.specs.Prelude.{ℕ, ◌+◌, Bool, ◌&&◌, ◌==◌, if◌then◌else◌, List, codes, drop, length, slice_index, ℤ, pos, Option, Some, None, option_and_then, option_map}
use Rattle.std.specs.Str.{byte}
use Rattle.st_values.specs.Durations.{duration_read}
use Rattle.st_values.specs.Numbers.{digits_read, negative, number_read}
use Rattle.st_values.specs.Types.{class_of, name_of}
use Rattle.st_values.specs.Values.{in_range}
use Rattle.st_values.specs.Words.{after, begins_with, begins_with_word, is_word}
use Rattle.st_values.specs.declared.elem.Class.{Class}
use Rattle.st_values.specs.declared.elem.Class.TheVariants.{Boolean, Duration}
use Rattle.st_values.specs.declared.elem.Elem.{Elem}
use Rattle.st_values.specs.declared.value.Value.{Value}

-- whether a text begins with the name of a type and `#`
abbrev pub is_typed : Elem → List ℕ → Bool
is_typed elem text = begins_with_word (name_of elem) text && begins_with (codes "#") (after (name_of elem) text)

-- what stands after that name and `#`, where it begins so, else the text
abbrev pub after_type : Elem → List ℕ → List ℕ
after_type elem text = if is_typed elem text then drop (length (name_of elem) + 1) text else text

-- a number with a sign before it: after the name of a type only a decimal number has one
abbrev pub after_sign : Bool → List ℕ → Option ℕ
after_sign typed text = if typed then digits_read 10 text else number_read text

-- an optional sign, and a number
abbrev pub signed_read : Bool → List ℕ → Option ℤ
signed_read typed text =
    if slice_index text 0 == byte "-" then option_map negative (after_sign typed (drop 1 text))
    else if slice_index text 0 == byte "+" then option_map pos (after_sign typed (drop 1 text))
    else option_map pos (number_read text)

-- TRUE or FALSE
abbrev pub truth_read : List ℕ → Option ℤ
truth_read text =
    if is_word (codes "TRUE") text then Some (pos 1)
    else if is_word (codes "FALSE") text then Some (pos 0)
    else None

-- what a whole text is as a literal, after the name of a type or not
abbrev pub literal_read : Class → Bool → List ℕ → Option ℤ
literal_read Boolean typed text = option_or (truth_read text) (signed_read typed text)
literal_read _ typed text = signed_read typed text

-- what a whole text is as a number of a type of a class, in range or not
abbrev pub number_in : Class → Elem → List ℕ → Option ℤ
number_in Duration elem text = duration_read text
number_in class elem text = literal_read class (is_typed elem text) (after_type elem text)

-- a number as a value of a type, where it is in the type's range
abbrev pub value_of : Elem → ℤ → Option Value
value_of elem number = if in_range elem number then Some (record { elem = elem; bits = number }) else None

-- the value of a type that a whole text is
unfoldable pub reads : Elem → List ℕ → Option Value
reads elem text = option_and_then (value_of elem) (number_in (class_of elem) elem text)
