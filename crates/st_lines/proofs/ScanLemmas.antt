-- Lemmas on the words of a scan.
use Rattle.std.proofs.Common.{◌≡◌, ℕ, ◌+◌, ◌≤◌, ◌<◌, Bool, true, false, List, [], ◌∷◌, length, drop, get_or, suc, refl, arith}
use Rattle.std.specs.List.{list_all}
use Rattle.std.specs.Prelude.{◌&&◌, codes, nat_eq}
use Rattle.std.proofs.Math.Seq.{drop-cons}
use Rattle.st_lines.specs.ScanWords.{bytes_before, is_pair}
use Rattle.st_values.specs.Words.{begins_with}

-- ---- where pairs are cut

before-cons : (byte : ℕ) (rest : List ℕ) → begins_with (codes ":=") (byte ∷ rest) ≡ false → bytes_before (byte ∷ rest) ≡ 1 + bytes_before rest
before-cons byte rest is = rw is refl

pub before-more : (word : List ℕ) (at : ℕ) → at < length word → begins_with (codes ":=") (drop at word) ≡ false → bytes_before (drop at word) ≡ 1 + bytes_before (drop (at + 1) word)
before-more word at within is =
    let next = drop-cons word at 0 within in
    let later : at + 1 ≡ suc at = omega arith in
    rw (later, next) (before-cons (get_or word at 0) (drop (suc at) word) (rw next at is))

-- ---- how long pairs are

both_true : (a b : Bool) → (a && b) ≡ true → (a ≡ true) × (b ≡ true)
both_true true b both = (refl, both)
both_true false b both = cc both

and_false : (b : Bool) → (b && false) ≡ false
and_false true = refl
and_false false = refl

begun_alone : (byte : ℕ) → begins_with (codes ":=") (byte ∷ []) ≡ false
begun_alone byte = and_false (nat_eq 58 byte)

alone : (byte : ℕ) → is_pair (byte ∷ []) ≡ false
alone byte = rw (begun_alone byte) refl

-- a pair has two bytes at least
pub pair-long : (word : List ℕ) → is_pair word ≡ true → 2 ≤ length word
pair-long [] pair = cc pair
pair-long (byte ∷ []) pair = cc (pair, alone byte)
pair-long (byte ∷ next ∷ more) pair = omega arith

-- ---- words that are all pairs

-- the first of them, and the others
pub first_is_pair : (word : List ℕ) (words : List (List ℕ)) → list_all is_pair (word ∷ words) ≡ true → is_pair word ≡ true
first_is_pair word words all = (both_true (is_pair word) (list_all is_pair words) all).0

pub others_are_pairs : (word : List ℕ) (words : List (List ℕ)) → list_all is_pair (word ∷ words) ≡ true → list_all is_pair words ≡ true
others_are_pairs word words all = (both_true (is_pair word) (list_all is_pair words) all).1
