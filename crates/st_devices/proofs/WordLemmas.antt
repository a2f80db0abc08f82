-- Lemmas on the words of a line.
use Rattle.std.proofs.Common.{◌≡◌, ℕ, ◌+◌, ◌<◌, Bool, true, false, List, [], ◌∷◌, length, take, drop, min, refl, sym, ap, ◌∙◌, arith, suc}
use Rattle.std.specs.Prelude.{filter, cond}
use Rattle.std.specs.List.{slice_split, prefix_len, position_or_len}
use Rattle.std.proofs.lemmas.Grind.{common_steps}
use Rattle.std.proofs.lemmas.List.{length-take}
use Rattle.std.proofs.lemmas.List.Splits.{slice_split-cons_yes}
use Rattle.st_devices.specs.Words.{HasNoBlankFirst, is_blank, has_bytes, words_of}

-- the blanks that a text begins with
abbrev pub blanks_of : List ℕ → ℕ
blanks_of text = prefix_len is_blank text

-- a blank that a text begins with separates nothing
words_of-blank : (byte : ℕ) (text : List ℕ) → is_blank byte ≡ true → words_of (byte ∷ text) ≡ words_of text
words_of-blank byte text blank = ap (filter has_bytes) (slice_split-cons_yes is_blank byte text blank)

skip_step : (byte : ℕ) (text : List ℕ) (blank : Bool) → is_blank byte ≡ blank → words_of (drop (blanks_of text) text) ≡ words_of text
    → words_of (drop (cond blank (1 + blanks_of text) 0) (byte ∷ text)) ≡ words_of (byte ∷ text)
skip_step byte text true is rest = let next : 1 + blanks_of text ≡ suc (blanks_of text) = omega arith in rw next (rest ∙ sym (words_of-blank byte text is))
skip_step byte text false is rest = refl

pub words_of-skip : (text : List ℕ) → words_of (drop (blanks_of text) text) ≡ words_of text
words_of-skip [] = refl
words_of-skip (byte ∷ text) = skip_step byte text (is_blank byte) refl (words_of-skip text)

no_blank_step : (byte : ℕ) (text : List ℕ) (blank : Bool) → is_blank byte ≡ blank → HasNoBlankFirst (drop (blanks_of text) text)
    → HasNoBlankFirst (drop (cond blank (1 + blanks_of text) 0) (byte ∷ text))
no_blank_step byte text true is rest = let next : 1 + blanks_of text ≡ suc (blanks_of text) = omega arith in rw next rest
no_blank_step byte text false is rest = λ some. rw is (omega arith)

pub no_blank_first : (text : List ℕ) → HasNoBlankFirst (drop (blanks_of text) text)
no_blank_first [] = λ some. absurd (omega arith)
no_blank_first (byte ∷ text) = no_blank_step byte text (is_blank byte) refl (no_blank_first text)

-- the first part ends at the first blank, and the words of the other parts are those from there on
record Beginning (text : List ℕ) : Type 0 where
  parts : List (List ℕ)
  split : slice_split is_blank text ≡ take (position_or_len is_blank text) text ∷ parts
  words : filter has_bytes parts ≡ words_of (drop (position_or_len is_blank text) text)

beginning_step : (byte : ℕ) (text : List ℕ) (blank : Bool) → is_blank byte ≡ blank → Beginning text → Beginning (byte ∷ text)
beginning_step byte text true is rest = record { parts = slice_split is_blank text; split = rw is refl; words = rw is (sym (words_of-blank byte text is)) }
beginning_step byte text false is rest =
    let next : 1 + position_or_len is_blank text ≡ suc (position_or_len is_blank text) = omega arith in
    record { parts = rest.parts; split = rw (is, next, rest.split) refl; words = rw (is, next) rest.words }

beginning : (text : List ℕ) → Beginning text
beginning [] = record { parts = []; split = refl; words = refl }
beginning (byte ∷ text) = beginning_step byte text (is_blank byte) refl (beginning text)

is_some : (part : List ℕ) → 0 < length part → has_bytes part ≡ true
is_some part some = grind (arith, common_steps)

-- a text that begins with a word
pub words_of-word : (text : List ℕ) → 0 < length text → HasNoBlankFirst text
    → words_of text ≡ take (position_or_len is_blank text) text ∷ words_of (drop (position_or_len is_blank text) text)
words_of-word text some first =
    let first_part = take (position_or_len is_blank text) text in
    let part_length : length first_part ≡ min (position_or_len is_blank text) (length text) = length-take (position_or_len is_blank text) text in
    rw ((beginning text).split, is_some first_part (omega (arith, part_length, first some)), (beginning text).words) refl
