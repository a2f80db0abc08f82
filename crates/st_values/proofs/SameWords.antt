-- Words that are the same, whichever comes first.
use Rattle.std.proofs.Common.{◌≡◌, ℕ, List, Bool, true, false, refl, sym}
use Rattle.std.specs.Str.{bytes_eq, str_to_ascii_lowercase}
use Rattle.std.proofs.lemmas.Slice.Eq.{bytes_eq-Decides}
use Rattle.st_values.specs.Words.{is_word}

bytes_eq_comm : (a b : List ℕ) → bytes_eq a b ≡ bytes_eq b a
bytes_eq_comm a b = by (bytes_eq a b) refl (bytes_eq b a) refl
  where
    forth : (x y : List ℕ) → bytes_eq x y ≡ true → bytes_eq y x ≡ true
    forth x y h = (bytes_eq-Decides y x).1 (sym ((bytes_eq-Decides x y).0 h))

    by : (s : Bool) → bytes_eq a b ≡ s → (t : Bool) → bytes_eq b a ≡ t → s ≡ t
    by true e true h = refl
    by false e false h = refl
    by true e false h = let k = forth a b e in cc
    by false e true h = let k = forth b a h in cc

pub is_word_comm : (a b : List ℕ) → is_word a b ≡ is_word b a
is_word_comm a b = bytes_eq_comm (str_to_ascii_lowercase b) (str_to_ascii_lowercase a)
