-- Words in upper case.
use Rattle.std.proofs.Common.{◌≡◌, ℕ, true, List, [], ◌∷◌, map, refl, ap, sym, ◌∙◌, arith}
use Rattle.std.specs.Char.{to_ascii_lowercase, to_ascii_uppercase}
use Rattle.std.specs.List.{AllByRecursion as Each}
use Rattle.std.proofs.lemmas.Bool.Decides.{nat_tests}
use Rattle.std.proofs.lemmas.Slice.Eq.{bytes_eq-Decides}
use Rattle.st_values.specs.Words.{AreWordBytes, is_word, is_word_byte, raised}

raised_byte : (b : ℕ) → is_word_byte b ≡ true → is_word_byte (to_ascii_uppercase b) ≡ true
raised_byte b is = grind (arith, nat_tests)

pub raised_word : (word : List ℕ) → AreWordBytes word → Each (λ b. is_word_byte b ≡ true) (raised word)
raised_word [] are = tt
raised_word (b ∷ bs) are = (raised_byte b are.0, raised_word bs are.1)

lowered_byte : (b : ℕ) → to_ascii_lowercase (to_ascii_uppercase b) ≡ to_ascii_lowercase b
lowered_byte b = grind (arith, nat_tests)

pub lowered : (text : List ℕ) → map to_ascii_lowercase (raised text) ≡ map to_ascii_lowercase text
lowered [] = refl
lowered (b ∷ bs) = ap (λ c. c ∷ map to_ascii_lowercase (raised bs)) (lowered_byte b) ∙ ap (λ cs. to_ascii_lowercase b ∷ cs) (lowered bs)

-- the same word, where the texts in upper case are the same
pub same_raised : (a b : List ℕ) → raised a ≡ raised b → is_word a b ≡ true
same_raised a b e = (bytes_eq-Decides (map to_ascii_lowercase b) (map to_ascii_lowercase a)).1 (sym (lowered b) ∙ ap (map to_ascii_lowercase) (sym e) ∙ lowered a)
