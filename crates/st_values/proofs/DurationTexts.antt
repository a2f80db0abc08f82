-- The text of a duration, read back.
use Rattle.std.proofs.Common.{◌≡◌, ℕ, ◌+◌, ◌*◌, ◌<◌, ◌^◌, false, List, [], ◌∷◌, ◌++◌, refl, arith, add-one, ℤ, pos, negsuc, unsigned_abs, codes, slice_index, ◌==◌}
use Rattle.std.proofs.lemmas.Fmt.{decimal_is_IsNumeral}
use Rattle.std.proofs.lemmas.Grind.{common_steps}
use Rattle.std.specs.Fmt.{decimal}
use Rattle.std.specs.Prelude.{Some}
use Rattle.std.specs.Str.Parse.{IsNumeral}
use Rattle.st_values.proofs.DigitTexts.{digits_read-numeral, is_decimal}
use Rattle.st_values.proofs.Grammar.{interval_read-IsInterval}
use Rattle.st_values.specs.Durations.IsInterval.{last_part, left_out}
use Rattle.st_values.specs.Durations.{amount_read, duration_read, interval_read, signed_interval_read}
use Rattle.st_values.specs.declared.duration.TimeUnit.TheVariants.{Milliseconds}
use Rattle.st_values.specs.Texts.{signed_text}

amount_read-decimal : (n : ℕ) → n < 2 ^ 64 → amount_read Milliseconds (decimal n) ≡ Some n
amount_read-decimal n small =
    let made = decimal_is_IsNumeral n small in
    let once : n * 1 ≡ n = omega arith in
    rw (digits_read-numeral 10 (decimal n) (omega arith) made.0, made.1, once) refl

interval_read-decimal : (n : ℕ) → n < 2 ^ 64 → interval_read (decimal n ++ codes "ms") ≡ Some n
interval_read-decimal n small =
    (interval_read-IsInterval (decimal n ++ codes "ms") n).1
    (left_out (left_out (left_out (left_out (last_part (decimal n) (codes "ms") (amount_read-decimal n small) refl)))))

no_minus : (ds rest : List ℕ) → IsNumeral 10 ds → (slice_index (ds ++ rest) 0 == 45) ≡ false
no_minus [] rest numeral = absurd (omega arith)
no_minus (d ∷ ds) rest numeral = let low = (is_decimal d numeral.1.0).0 in grind (arith, common_steps)

signed_interval_read-text : (number : ℤ) → unsigned_abs number < 2 ^ 64 → signed_interval_read (signed_text number ++ codes "ms") ≡ Some number
signed_interval_read-text (pos n) small = rw (no_minus (decimal n) (codes "ms") (decimal_is_IsNumeral n small).0, interval_read-decimal n small) refl
signed_interval_read-text (negsuc n) small = rw (interval_read-decimal (n + 1) (omega arith), add-one) refl

pub duration_read-text : (number : ℤ) → unsigned_abs number < 2 ^ 64 → duration_read (codes "T#" ++ (signed_text number ++ codes "ms")) ≡ Some number
duration_read-text number small = signed_interval_read-text number small
