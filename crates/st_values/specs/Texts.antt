-- What a value is put as (IEC 61131-3:2003, 2.2).
use Rattle.std.specs.Prelude.{ℕ, ◌+◌, ◌==◌, true, List, ◌∷◌, ◌++◌, ℤ, pos, negsuc, codes, unsigned_abs, if◌then◌else◌}
use Rattle.std.specs.Fmt.{decimal, digits}
use Rattle.std.specs.Str.{byte}
use Rattle.st_values.specs.declared.elem.Class.{Class}
use Rattle.st_values.specs.declared.elem.Class.TheVariants.{Boolean, Integer, BitString, Duration}
use Rattle.st_values.specs.declared.value.Value.{Value}
use Rattle.st_values.specs.Types.{class_of}

-- a `-` below zero, and decimal digits; `negsuc n` is the number -(n + 1)
abbrev pub signed_text : ℤ → List ℕ
signed_text (pos n) = decimal n
signed_text (negsuc n) = byte "-" ∷ decimal (n + 1)

-- the text of a number: hexadecimal digits are in upper case and have no leading zero
abbrev pub text_in : Class → ℤ → List ℕ
text_in Boolean number = if unsigned_abs number == 0 then codes "FALSE" else codes "TRUE"
text_in Integer number = signed_text number
text_in BitString number = codes "16#" ++ digits 16 true (unsigned_abs number)
text_in Duration number = codes "T#" ++ (signed_text number ++ codes "ms")

-- what a value is put as
abbrev pub text : Value → List ℕ
text value = text_in (class_of value.elem) value.bits
