-- Lemmas on a moment that is read digit by digit: what is too late stays so, whatever follows.
use Rattle.std.proofs.Common.{◌≡◌, ◌≢◌, ◌⊎◌, ℕ, suc, ◌+◌, ◌*◌, ◌<◌, ◌≤◌, min, Bool, true, false, List, [], ◌∷◌, length, take, drop, get_or, inl, inr, refl, ap, sym, ◌∙◌, arith, add-one, nat_lt, ◌==◌}
use Rattle.std.specs.Char.{digit_value}
use Rattle.std.specs.List.{list_any, position_or_len}
use Rattle.std.specs.Prelude.{Option, Some, None, ℤ, pos, if◌then◌else◌, option_map}
use Rattle.std.specs.Str.Parse.{digits_value_after}
use Rattle.std.proofs.Math.Seq.{drop-cons}
use Rattle.std.proofs.lemmas.List.{drop_all, get_or-take, length-take}
use Rattle.std.proofs.lemmas.List.Sums.{fails_before_first, passes_at_first, position_or_len_is}
use Rattle.st_devices.proofs.WordLemmas.{words_of-word}
use Rattle.st_devices.specs.Words.{HasNoBlankFirst, is_blank, words_of}
use Rattle.st_values.proofs.Cases.{is_below, is_not_below, differs}
use Rattle.st_values.proofs.NumberLemmas.{no_underscore}
use Rattle.st_values.specs.Numbers.{are_digits, without_underscores}
use Rattle.st_lines.specs.ScanWords.{HasMomentFirst, first_moment, is_underscore, moment_of, moment_read, too_late}

-- what the rest of a word gives, after the digits of n
abbrev pub rest_moment : Bool → ℕ → List ℕ → Option ℤ
rest_moment after_digit n text =
    if list_any is_underscore text then None
    else option_map moment_of (if are_digits 10 after_digit text then Some (digits_value_after 10 n (without_underscores text)) else None)

scaled : (n d : ℕ) → min (min n too_late * 10 + d) too_late ≡ min (n * 10 + d) too_late
scaled n d = omega arith

-- the digits before may be held down to what is too late
late_after : (n : ℕ) (digits : List ℕ) → min (digits_value_after 10 (min n too_late) digits) too_late ≡ min (digits_value_after 10 n digits) too_late
late_after n [] = let same : min (min n too_late) too_late ≡ min n too_late = omega arith in same
late_after n (d ∷ digits) =
    sym (late_after (min n too_late * 10 + digit_value d) digits)
    ∙ ap (λ m. min (digits_value_after 10 m digits) too_late) (scaled n (digit_value d))
    ∙ late_after (n * 10 + digit_value d) digits

-- what tells the same moment tells the same
told_same : (line digits : Bool) (a b : ℕ) → min a too_late ≡ min b too_late
    → (if line then None else option_map moment_of (if digits then Some a else None)) ≡ (if line then None else option_map moment_of (if digits then Some b else None))
told_same true digits a b same = refl
told_same false true a b same = ap (λ m. Some (pos m)) same
told_same false false a b same = refl

rest_moment-digit : (after_digit : Bool) (n c : ℕ) (text : List ℕ) → digit_value c < 10 → rest_moment true (min (n * 10 + digit_value c) too_late) text ≡ rest_moment after_digit n (c ∷ text)
rest_moment-digit after_digit n c text small =
    let other : (c == 95) ≡ false = differs c 95 (no_underscore c 10 small (omega arith)) in
    let is : nat_lt (digit_value c) 10 ≡ true = is_below (digit_value c) 10 small in
    let digits = without_underscores text in
    rw (other, is) (told_same (list_any is_underscore text) (are_digits 10 true text) (digits_value_after 10 (min (n * 10 + digit_value c) too_late) digits) (digits_value_after 10 (n * 10 + digit_value c) digits) (late_after (n * 10 + digit_value c) digits))

-- one more byte is a digit
pub after_a_digit : (after_digit now : Bool) (n next digit i : ℕ) (word : List ℕ) → i < length word → digit ≡ digit_value (get_or word i 0) → digit < 10 → next ≡ min (n * 10 + digit) too_late → now ≡ true
    → rest_moment now next (drop (i + 1) word) ≡ rest_moment after_digit n (drop i word)
after_a_digit after_digit now n next digit i word within is small e f =
    rw (e, f, is, drop-cons word i 0 within, add-one) (rest_moment-digit after_digit n (get_or word i 0) (drop (suc i) word) (rw is at small))

-- none of it
none_of : (line : Bool) (rest : Option ℤ) → rest ≡ None → (if line then None else rest) ≡ None
none_of true rest none = refl
none_of false rest none = none

rest_moment-another : (after_digit : Bool) (n c : ℕ) (text : List ℕ) (is_line : Bool) → (c == 95) ≡ is_line → 10 ≤ digit_value c → rest_moment after_digit n (c ∷ text) ≡ None
rest_moment-another after_digit n c text true is large = rw is refl
rest_moment-another after_digit n c text false is large =
    let other : nat_lt (digit_value c) 10 ≡ false = is_not_below (digit_value c) 10 large in
    rw (is, other) (none_of (list_any is_underscore text) None refl)

-- one more byte is none
pub after_another : (after_digit : Bool) (n i : ℕ) (word : List ℕ) → i < length word → 10 ≤ digit_value (get_or word i 0) → rest_moment after_digit n (drop i word) ≡ None
after_another after_digit n i word within large = rw (drop-cons word i 0 within) (rest_moment-another after_digit n (get_or word i 0) (drop (suc i) word) ((get_or word i 0) == 95) refl large)

-- ---- the first word of a text

-- the first word of a text that begins with one
abbrev pub word_of : List ℕ → List ℕ
word_of text = take (position_or_len is_blank text) text

no_space : (c : ℕ) → digit_value c < 10 → c ≢ 32
no_space c small e = let large : digit_value c ≡ 36 = rw e refl in omega arith

no_tab : (c : ℕ) → digit_value c < 10 → c ≢ 9
no_tab c small e = let large : digit_value c ≡ 36 = rw e refl in omega arith

-- a digit is no blank
pub digit_is_no_blank : (c : ℕ) → digit_value c < 10 → is_blank c ≡ false
digit_is_no_blank c small = rw (differs c 32 (no_space c small), differs c 9 (no_tab c small)) refl

below_or_at : (a b : ℕ) → a ≤ b → (a < b) ⊎ (a ≡ b)
below_or_at a b most = grind arith

below_from : (text : List ℕ) (at : ℕ) → (at < position_or_len is_blank text) ⊎ (at ≡ position_or_len is_blank text) → at < length text → is_blank (get_or text at 0) ≡ false → at < position_or_len is_blank text
below_from text at (inl below) within no_blank = below
below_from text at (inr same) within no_blank =
    let blank : is_blank (get_or text (position_or_len is_blank text) 0) ≡ true = passes_at_first is_blank text 0 (rw same at within) in
    absurd (cc (rw same at no_blank, blank))

-- a byte that is no blank belongs to the word
pub stands_in_word : (text : List ℕ) (at : ℕ) → at ≤ position_or_len is_blank text → at < length text → is_blank (get_or text at 0) ≡ false → at < position_or_len is_blank text
stands_in_word text at most within no_blank = below_from text at (below_or_at at (position_or_len is_blank text) most) within no_blank

-- a word that ends here, at a blank or with the text
pub ends_here : (text : List ℕ) (at : ℕ) → at ≤ position_or_len is_blank text → at ≤ length text → (at < length text → is_blank (get_or text at 0) ≡ true) → at ≡ position_or_len is_blank text
ends_here text at most within blank = sym (position_or_len_is is_blank text at 0 within (λ k before. fails_before_first is_blank text k 0 (omega (arith, before, most))) blank)

pub length-word : (text : List ℕ) (at : ℕ) → at < position_or_len is_blank text → at < length text → at < length (word_of text)
length-word text at below within = omega (arith, length-take (position_or_len is_blank text) text)

pub get_or-word : (text : List ℕ) (at : ℕ) → at < position_or_len is_blank text → get_or (word_of text) at 0 ≡ get_or text at 0
get_or-word text at below = get_or-take (position_or_len is_blank text) text at 0 below

-- a word with a byte that is no digit is no moment
pub no_moment : (text : List ℕ) (at n : ℕ) → at < position_or_len is_blank text → at < length text → rest_moment (nat_lt 0 at) n (drop at (word_of text)) ≡ moment_read (word_of text)
    → 10 ≤ digit_value (get_or text at 0) → moment_read (word_of text) ≡ None
no_moment text at n below within told large =
    sym told ∙ after_another (nat_lt 0 at) n at (word_of text) (length-word text at below within) (rw (get_or-word text at below) large)

first_is : (text : List ℕ) → 0 < length text → HasNoBlankFirst text → first_moment (words_of text) ≡ moment_read (word_of text)
first_is text some first = ap first_moment (words_of-word text some first)

none_of_empty : (text : List ℕ) → length text ≡ 0 → first_moment (words_of text) ≡ None
none_of_empty [] empty = refl
none_of_empty (byte ∷ text) empty = absurd (omega arith)

empty_or_not : (text : List ℕ) → (length text ≡ 0) ⊎ (0 < length text)
empty_or_not text = grind arith

module _ (text : List ℕ) (at n : ℕ) (first : HasNoBlankFirst text) (told : rest_moment (nat_lt 0 at) n (drop at (word_of text)) ≡ moment_read (word_of text)) where
  -- a text whose first word has a byte that is no digit
  pub another_first : at < position_or_len is_blank text → at < length text → 10 ≤ digit_value (get_or text at 0) → first_moment (words_of text) ≡ None
  another_first below within large = first_is text (omega (arith, within)) first ∙ no_moment text at n below within told large

  none_first : (length text ≡ 0) ⊎ (0 < length text) → at ≡ 0 → (at < length text → 10 ≤ digit_value (get_or text at 0)) → first_moment (words_of text) ≡ None
  none_first (inl empty) zero large = none_of_empty text empty
  none_first (inr some) zero large =
      let below : at < position_or_len is_blank text = omega (arith, zero, first some) in
      let within : at < length text = omega (arith, zero, some) in
      another_first below within (large within)

  -- a text that begins with no digit
  pub no_digit_first : at ≡ 0 → (at < length text → 10 ≤ digit_value (get_or text at 0)) → first_moment (words_of text) ≡ None
  no_digit_first zero large = none_first (empty_or_not text) zero large

  all_digits : 0 < at → n ≤ too_late → drop at (word_of text) ≡ [] → moment_read (word_of text) ≡ Some (pos n)
  all_digits some small whole =
      let is : nat_lt 0 at ≡ true = is_below 0 at some in
      let same : min n too_late ≡ n = omega (arith, small) in
      sym told ∙ rw (is, whole) (ap (λ m. Some (pos m)) same)

  -- a text whose first word has digits alone
  pub moment_first : 0 < at → at ≤ length text → at ≡ position_or_len is_blank text → n ≤ too_late → HasMomentFirst (pos n) (words_of (drop at text)) (words_of text)
  moment_first some within whole small =
      let end : drop at (word_of text) ≡ [] = drop_all at (word_of text) (omega (arith, whole, length-take (position_or_len is_blank text) text)) in
      record {
        word = word_of text;
        split = rw whole (words_of-word text (omega (arith, some, within)) first);
        reads = all_digits some small end;
      }
