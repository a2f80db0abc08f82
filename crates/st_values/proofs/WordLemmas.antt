-- Words ignoring case.
use Rattle.std.proofs.Common.{◌≡◌, ℕ, ◌<◌, true, false, List, length, take, map, ap, arith}
use Rattle.std.proofs.lemmas.Grind.{common_steps}
use Rattle.std.proofs.lemmas.Slice.Eq.{bytes_eq-Decides}
use Rattle.std.specs.Char.{to_ascii_lowercase}
use Rattle.st_values.proofs.Cases.{not_true}
use Rattle.st_values.specs.Words.{begins_with_word, is_word}

is_word-length : (word text : List ℕ) → is_word word text ≡ true → length text ≡ length word
is_word-length word text h =
    let same : map to_ascii_lowercase text ≡ map to_ascii_lowercase word = (bytes_eq-Decides (map to_ascii_lowercase text) (map to_ascii_lowercase word)).0 h in
    let lengths : length (map to_ascii_lowercase text) ≡ length (map to_ascii_lowercase word) = ap length same in
    grind (arith, common_steps)

-- what is shorter than a word doesn't begin with it
pub begins_with_word-short : (word text : List ℕ) → length text < length word → begins_with_word word text ≡ false
begins_with_word-short word text h = not_true _ (λ same.
    let lengths : length (take (length word) text) ≡ length word = is_word-length word (take (length word) text) same in
    absurd (grind (arith, common_steps)))
