-- What is put is read back.
use Rattle.std.proofs.Common.{◌≡◌, ℕ, zero, suc, ◌+◌, ◌<◌, ◌≤◌, ◌^◌, Bool, true, false, List, [], ◌∷◌, ◌++◌, length, take, refl, ap, ◌∙◌, arith, add-one, nat_lt, ◌==◌, ◌&&◌, ℤ, pos, negsuc, unsigned_abs, codes, slice_index, lit<, lit≤}
use Rattle.std.proofs.lemmas.Fmt.{decimal_is_IsNumeral}
use Rattle.std.proofs.lemmas.Grind.{common_steps}
use Rattle.std.specs.Char.{digit_value, to_ascii_lowercase}
use Rattle.std.specs.Fmt.{decimal, digits}
use Rattle.std.specs.Prelude.{Some, option_map}
use Rattle.std.specs.Str.Parse.{AllDigits, IsNumeral}
use Rattle.st_values.specs.declared.elem.Class.{Class}
use Rattle.st_values.specs.declared.elem.Class.TheVariants.{Boolean, Integer, BitString, Duration}
use Rattle.st_values.specs.declared.elem.Elem.{Elem}
use Rattle.st_values.specs.declared.elem.Elem.TheVariants as elems
use Rattle.st_values.specs.declared.value.Value.{Value}
use Rattle.st_values.specs.Numbers.{number_read}
use Rattle.st_values.specs.Readings.{after_type, is_typed, literal_read, number_in, reads, signed_read}
use Rattle.st_values.specs.Words.{begins_with, is_word}
use Rattle.st_values.specs.Texts.{signed_text, text, text_in}
use Rattle.st_values.specs.Types.{class_of, is_signed, limit_of}
use Rattle.st_values.specs.Values.{in_range}
use Rattle.st_values.proofs.Cases.{below, both}
use Rattle.st_values.proofs.DigitTexts.{digits_read-digits, digits_read-numeral, is_decimal}
use Rattle.st_values.proofs.DurationTexts.{duration_read-text}
use Rattle.st_values.proofs.SignLemmas.{limit_of-most, limit_of-signed, value_of-some}

no_hash : (c : ℕ) → digit_value c < 10 → (35 == c) ≡ false
no_hash c h = let low = (is_decimal c h).0 in grind (arith, common_steps)

and_false : (p : Bool) → (p && false) ≡ false
and_false true = refl
and_false false = refl

-- decimal digits have no base before them
no_base_16 : (ds : List ℕ) → AllDigits 10 ds → begins_with (codes "16#") ds ≡ false
no_base_16 [] h = refl
no_base_16 (a ∷ []) h = and_false (49 == a)
no_base_16 (a ∷ b ∷ []) h = rw (and_false (54 == b)) (and_false (49 == a))
no_base_16 (a ∷ b ∷ c ∷ ds) h = rw (no_hash c h.1.1.0, and_false (54 == b)) (and_false (49 == a))

no_base_8 : (ds : List ℕ) → AllDigits 10 ds → begins_with (codes "8#") ds ≡ false
no_base_8 [] h = refl
no_base_8 (a ∷ []) h = and_false (56 == a)
no_base_8 (a ∷ b ∷ ds) h = rw (no_hash b h.1.0) (and_false (56 == a))

no_base_2 : (ds : List ℕ) → AllDigits 10 ds → begins_with (codes "2#") ds ≡ false
no_base_2 [] h = refl
no_base_2 (a ∷ []) h = and_false (50 == a)
no_base_2 (a ∷ b ∷ ds) h = rw (no_hash b h.1.0) (and_false (50 == a))

number_read-decimal : (n : ℕ) → n < 2 ^ 64 → number_read (decimal n) ≡ Some n
number_read-decimal n small =
    let made = decimal_is_IsNumeral n small in
    rw (no_base_16 (decimal n) made.0.1, no_base_8 (decimal n) made.0.1, no_base_2 (decimal n) made.0.1)
    (digits_read-numeral 10 (decimal n) (omega arith) made.0 ∙ ap Some made.1)

-- decimal digits have no sign before them
no_sign : (ds : List ℕ) → AllDigits 10 ds → ((slice_index ds 0 == 45) ≡ false) × ((slice_index ds 0 == 43) ≡ false)
no_sign [] h = (refl, refl)
no_sign (c ∷ ds) h = let low = (is_decimal c h.0).0 in (grind (arith, common_steps), grind (arith, common_steps))

signed_read-signed_text : (number : ℤ) → unsigned_abs number < 2 ^ 64 → signed_read false (signed_text number) ≡ Some number
signed_read-signed_text (pos n) small =
    let none = no_sign (decimal n) (decimal_is_IsNumeral n small).0.1 in
    rw (none.0, none.1, number_read-decimal n small) refl
signed_read-signed_text (negsuc n) small = rw (number_read-decimal (n + 1) (omega arith), add-one) refl

signed_read-bits : (n : ℕ) → n < 2 ^ 64 → signed_read false (codes "16#" ++ digits 16 true n) ≡ Some (pos n)
signed_read-bits n small = ap (option_map pos) (digits_read-digits 16 n true (omega arith) (omega arith) (omega arith))

-- a text that begins with a digit or a sign doesn't begin with a word
other_word : (c d : ℕ) (cs ds : List ℕ) → c < 65 → 65 ≤ d → d < 91 → is_word (d ∷ ds) (c ∷ cs) ≡ false
other_word c d cs ds first low high =
    let differ : (to_ascii_lowercase c == to_ascii_lowercase d) ≡ false = grind (arith, common_steps) in
    rw differ refl

no_word : (c d : ℕ) (cs ds : List ℕ) → c < 65 → 65 ≤ d → d < 91 → is_word (d ∷ ds) (take (length (d ∷ ds)) (c ∷ cs)) ≡ false
no_word c d cs ds first low high = other_word c d (take (length ds) cs) ds first low high

untyped : (elem : Elem) (c : ℕ) (cs : List ℕ) → c < 65 → is_typed elem (c ∷ cs) ≡ false
untyped elems.Bool c cs first = rw (no_word c 66 cs (codes "OOL") first (lit≤ tt) (lit< tt)) refl
untyped elems.Sint c cs first = rw (no_word c 83 cs (codes "INT") first (lit≤ tt) (lit< tt)) refl
untyped elems.Int c cs first = rw (no_word c 73 cs (codes "NT") first (lit≤ tt) (lit< tt)) refl
untyped elems.Dint c cs first = rw (no_word c 68 cs (codes "INT") first (lit≤ tt) (lit< tt)) refl
untyped elems.Lint c cs first = rw (no_word c 76 cs (codes "INT") first (lit≤ tt) (lit< tt)) refl
untyped elems.Usint c cs first = rw (no_word c 85 cs (codes "SINT") first (lit≤ tt) (lit< tt)) refl
untyped elems.Uint c cs first = rw (no_word c 85 cs (codes "INT") first (lit≤ tt) (lit< tt)) refl
untyped elems.Udint c cs first = rw (no_word c 85 cs (codes "DINT") first (lit≤ tt) (lit< tt)) refl
untyped elems.Ulint c cs first = rw (no_word c 85 cs (codes "LINT") first (lit≤ tt) (lit< tt)) refl
untyped elems.Byte c cs first = rw (no_word c 66 cs (codes "YTE") first (lit≤ tt) (lit< tt)) refl
untyped elems.Word c cs first = rw (no_word c 87 cs (codes "ORD") first (lit≤ tt) (lit< tt)) refl
untyped elems.Dword c cs first = rw (no_word c 68 cs (codes "WORD") first (lit≤ tt) (lit< tt)) refl
untyped elems.Lword c cs first = rw (no_word c 76 cs (codes "WORD") first (lit≤ tt) (lit< tt)) refl
untyped elems.Time c cs first = rw (no_word c 84 cs (codes "IME") first (lit≤ tt) (lit< tt)) refl

-- and is read as it stands
plain : (elem : Elem) (class : Class) (text : List ℕ) (number : ℤ) → class_of elem ≡ class
    → ((t : List ℕ) → number_in class elem t ≡ literal_read class (is_typed elem t) (after_type elem t))
    → 0 < length text → slice_index text 0 < 65 → literal_read class false text ≡ Some number → in_range elem number ≡ true
    → reads elem text ≡ Some (record { elem = elem; bits = number })
unfolding reads
plain elem class [] number is literal some first read within = absurd (omega arith)
plain elem class (c ∷ cs) number is literal some first read within =
    rw (is, literal (c ∷ cs), untyped elem c cs first, read) (value_of-some elem number within)

first_decimal : (ds : List ℕ) → IsNumeral 10 ds → slice_index ds 0 < 65
first_decimal [] h = omega arith
first_decimal (c ∷ ds) h = let high = (is_decimal c h.1.0).1 in omega arith

signed_text-first : (number : ℤ) → unsigned_abs number < 2 ^ 64 → (0 < length (signed_text number)) × (slice_index (signed_text number) 0 < 65)
signed_text-first (pos n) small = let made = (decimal_is_IsNumeral n small).0 in (made.0, first_decimal (decimal n) made)
signed_text-first (negsuc n) small = (omega arith, omega arith)

pub in_range-small : (elem : Elem) (number : ℤ) → in_range elem number ≡ true → unsigned_abs number < 2 ^ 64
in_range-small elem (pos n) within =
    let small = below n (limit_of elem) within in let most = limit_of-most elem in omega arith
in_range-small elem (negsuc n) within =
    let parts = both (is_signed elem) (nat_lt n (limit_of elem)) within in
    let small = below n (limit_of elem) parts.1 in
    let most = limit_of-signed elem parts.0 in
    omega arith

boolean_is : (elem : Elem) → class_of elem ≡ Boolean → elem ≡ elems.Bool
boolean_is elems.Bool is = refl
boolean_is _ is = cc

bits_have_no_sign : (elem : Elem) → class_of elem ≡ BitString → is_signed elem ≡ false
bits_have_no_sign elems.Byte is = refl
bits_have_no_sign elems.Word is = refl
bits_have_no_sign elems.Dword is = refl
bits_have_no_sign elems.Lword is = refl
bits_have_no_sign _ is = cc

duration_is : (elem : Elem) → class_of elem ≡ Duration → elem ≡ elems.Time
duration_is elems.Time is = refl
duration_is _ is = cc

truth_back : (number : ℤ) → in_range elems.Bool number ≡ true → reads elems.Bool (text_in Boolean number) ≡ Some (record { elem = elems.Bool; bits = number })
unfolding reads
truth_back (pos zero) within = refl
truth_back (pos (suc zero)) within = refl
truth_back (pos (suc (suc n))) within = absurd (let small = below (suc (suc n)) 2 within in omega arith)
truth_back (negsuc n) within = cc

bits_back : (elem : Elem) (number : ℤ) → class_of elem ≡ BitString → in_range elem number ≡ true → reads elem (text_in BitString number) ≡ Some (record { elem = elem; bits = number })
bits_back elem (pos n) is within =
    plain elem BitString (codes "16#" ++ digits 16 true n) (pos n) is (λ t. refl) (omega arith) (lit< tt) (signed_read-bits n (in_range-small elem (pos n) within)) within
bits_back elem (negsuc n) is within = let no_sign = bits_have_no_sign elem is in let sign = (both (is_signed elem) (nat_lt n (limit_of elem)) within).0 in cc

time_back : (number : ℤ) → in_range elems.Time number ≡ true → reads elems.Time (text_in Duration number) ≡ Some (record { elem = elems.Time; bits = number })
unfolding reads
time_back number within =
    rw (duration_read-text number (in_range-small elems.Time number within)) (value_of-some elems.Time number within)

class_back : (elem : Elem) (class : Class) (number : ℤ) → class_of elem ≡ class → in_range elem number ≡ true → reads elem (text_in class number) ≡ Some (record { elem = elem; bits = number })
class_back elem Boolean number is within = rw (boolean_is elem is) (truth_back number (rw (boolean_is elem is) at within))
class_back elem Integer number is within =
    let small = in_range-small elem number within in
    let first = signed_text-first number small in
    plain elem Integer (signed_text number) number is (λ t. refl) first.0 first.1 (signed_read-signed_text number small) within
class_back elem BitString number is within = bits_back elem number is within
class_back elem Duration number is within = rw (duration_is elem is) (time_back number (rw (duration_is elem is) at within))

-- what is put is read back
pub reads-text : (value : Value) → in_range value.elem value.bits ≡ true → reads value.elem (text value) ≡ Some value
reads-text value within = class_back value.elem (class_of value.elem) value.bits refl within
