-- Durations at the start of a text: what is read there is the longest prefix that is one.
use Rattle.std.proofs.Common.{◌≡◌, ℕ, suc, ◌+◌, ◌-◌, ◌*◌, ◌<◌, ◌≤◌, List, [], ◌∷◌, ◌++◌, length, get_or, take, drop, refl, sym, ap, ◌∙◌, Bool, true, false, arith, ◌⊎◌, inl, inr, subst, append_assoc, append-nil, length-append, one-add, nat_lt}
use Rattle.std.specs.Prelude.{Option, Some, None, option_map, codes, ◌==◌, ◌&&◌, not, slice_index, is_some, position, take_while}
use Rattle.std.specs.Char.{is_digit, is_ascii_digit, is_ascii_alphabetic}
use Rattle.std.specs.List.{after_first, before_first, list_all, position_or_len}
use Rattle.std.proofs.Math.Seq.{get_or-append_seam, take-append-add, drop-append-add}
use Rattle.std.proofs.lemmas.Bool.Decides.{nat_tests}
use Rattle.std.proofs.lemmas.List.Sums.{split_at_first, passes_at_first}
use Rattle.st_values.specs.declared.duration.TimeUnit.{TimeUnit}
use Rattle.st_values.specs.declared.duration.TimeUnit.TheVariants.{Days, Hours, Minutes, Seconds, Milliseconds}
use Rattle.st_values.specs.Durations.{letters_of, milliseconds_of, units, part_number, part_letters, part_rest, sum_of, amount_read, fraction_read, last_amount_read, is_point, without_underscore, parts_read, interval_read}
use Rattle.st_values.specs.Numbers.{are_digits, capped, digits_read}
use Rattle.st_values.specs.Words.{after, begins_with, is_word, is_word_byte, AreWordBytes}
use Rattle.st_tokens.specs.Characters.{BeginsWord}
use Rattle.st_tokens.specs.Scanning.{run, after_run, ends_in_digit, has_fraction, fraction_of, interval_prefix, interval_rest, interval_at}
use Rattle.st_tokens.proofs.Numbers.{Found, begins, digits_test, read_words, decimal_digit}
use Rattle.st_tokens.proofs.Runs.{run_splits, after_run_not, run_is, words_in_run, words_append}
use Rattle.st_tokens.proofs.Cases.{below, by_test, both, is_equal, not_both, some_parts}

-- a text that ends in such a byte
pub record Ends (test : ℕ → Bool) (text : List ℕ) : Type 0 where
  pub init : List ℕ
  pub last : ℕ
  pub splits : text ≡ init ++ last ∷ []
  pub passes : test last ≡ true

-- one byte that passes
ends_one : (test : ℕ → Bool) (b : ℕ) → test b ≡ true → Ends test (b ∷ [])
ends_one test b h = record { init = []; last = b; splits = refl; passes = h }

-- what stands before changes nothing
ends_more : (test : ℕ → Bool) (a b : List ℕ) → Ends test b → Ends test (a ++ b)
ends_more test a b e = record {
  init = a ++ e.init;
  last = e.last;
  splits = ap (λ (zs : List ℕ). a ++ zs) e.splits ∙ sym (append_assoc a e.init (e.last ∷ []));
  passes = e.passes;
}

-- bytes that all pass, and are some, end in one
ends_all : (test : ℕ → Bool) (bs : List ℕ) → list_all test bs ≡ true → 0 < length bs → Ends test bs
ends_all test [] h p = absurd (omega arith)
ends_all test (b ∷ []) h p = ends_one test b (both (test b) true h).0
ends_all test (b ∷ c ∷ bs) h p = ends_more test (b ∷ []) (c ∷ bs) (ends_all test (c ∷ bs) (both (test b) (list_all test (c ∷ bs)) h).1 (omega arith))

-- the byte at the last place
last_is : (init : List ℕ) (b : ℕ) → slice_index (init ++ b ∷ []) (length (init ++ b ∷ []) - 1) ≡ b
last_is init b =
    let l : length (init ++ b ∷ []) - 1 ≡ length init = omega (arith, length-append init (b ∷ [])) in
    ap (λ (n : ℕ). slice_index (init ++ b ∷ []) n) l ∙ get_or-append_seam init b [] 0

-- a text that ends in a digit passes the test
digit_ends : (w : List ℕ) → Ends is_ascii_digit w → ends_in_digit w ≡ true
digit_ends w e = ap ends_in_digit e.splits ∙ ap is_ascii_digit (last_is e.init e.last) ∙ e.passes

-- no letter is a digit
letter_no_digit : (b : ℕ) → is_ascii_alphabetic b ≡ true → is_ascii_digit b ≡ false
letter_no_digit b h = grind (arith, nat_tests)

-- a text that ends in a letter fails it
letter_ends : (w : List ℕ) → Ends is_ascii_alphabetic w → ends_in_digit w ≡ false
letter_ends w e = ap ends_in_digit e.splits ∙ ap is_ascii_digit (last_is e.init e.last) ∙ letter_no_digit e.last e.passes

-- a letter is a byte of a word
letter_word : (b : ℕ) → is_ascii_alphabetic b ≡ true → is_word_byte b ≡ true
letter_word b h = grind (arith, nat_tests)

-- letters are bytes of a word
letters_words : (bs : List ℕ) → list_all is_ascii_alphabetic bs ≡ true → AreWordBytes bs
letters_words [] h = tt
letters_words (b ∷ bs) h = let p = both (is_ascii_alphabetic b) (list_all is_ascii_alphabetic bs) h in (letter_word b p.0, letters_words bs p.1)

-- decimal digits are bytes of a word
digits_words : (bs : List ℕ) → list_all (λ c. is_digit c 10) bs ≡ true → AreWordBytes bs
digits_words [] h = tt
digits_words (b ∷ bs) h = let p = both (is_digit b 10) (list_all (λ c. is_digit c 10) bs) h in (digit_word b (decimal_digit b p.0), digits_words bs p.1) where
  digit_word : (b : ℕ) → is_ascii_digit b ≡ true → is_word_byte b ≡ true
  digit_word b h = grind (arith, nat_tests)

-- digits end in a digit
digits_end : (flag : Bool) (c : ℕ) (ds : List ℕ) → are_digits 10 flag (c ∷ ds) ≡ true → Ends is_ascii_digit (c ∷ ds)
digits_end flag c [] h = by_test (c == 95)
    (λ t. let h' : (flag && false) ≡ true = rw t at h in let k = (both flag false h').1 in absurd (cc))
    (λ t. let h' : (is_digit c 10 && true) ≡ true = rw t at h in ends_one is_ascii_digit c (decimal_digit c (both (is_digit c 10) true h').0))
digits_end flag c (d ∷ ds) h = by_test (c == 95)
    (λ t. let h' : (flag && are_digits 10 false (d ∷ ds)) ≡ true = rw t at h in
    ends_more is_ascii_digit (c ∷ []) (d ∷ ds) (digits_end false d ds (both flag (are_digits 10 false (d ∷ ds)) h').1))
    (λ t. let h' : (is_digit c 10 && are_digits 10 true (d ∷ ds)) ≡ true = rw t at h in
    ends_more is_ascii_digit (c ∷ []) (d ∷ ds) (digits_end true d ds (both (is_digit c 10) (are_digits 10 true (d ∷ ds)) h').1))

-- what reads as a decimal number ends in a digit
decimal_ends : (ds : List ℕ) (n : ℕ) → digits_read 10 ds ≡ Some n → Ends is_ascii_digit ds
decimal_ends [] n h = let t = digits_test 10 [] n h in absurd (cc)
decimal_ends (c ∷ ds) n h = digits_end false c ds (digits_test 10 (c ∷ ds) n h)

-- ---- what parts look like

-- a text is what is taken from its prefix, and the rest
taken : (p : ℕ → Bool) (xs : List ℕ) → xs ≡ take_while p xs ++ drop (length (take_while p xs)) xs
taken p [] = refl
taken p (x ∷ xs) = by_test (p x)
    (λ t. rw (t, one-add) (ap (λ (zs : List ℕ). x ∷ zs) (taken p xs)))
    (λ t. rw t refl)

-- all that is taken passes
taken_pass : (p : ℕ → Bool) (xs : List ℕ) → list_all p (take_while p xs) ≡ true
taken_pass p [] = refl
taken_pass p (x ∷ xs) = by_test (p x) (λ t. rw (t, one-add) (rw t (taken_pass p xs))) (λ t. rw t refl)

-- a text is its first part and the rest
part_splits : (text : List ℕ) → text ≡ part_number text ++ (part_letters text ++ part_rest text)
part_splits text = taken (λ c. not (is_ascii_alphabetic c)) text
    ∙ ap (λ (zs : List ℕ). part_number text ++ zs) (taken is_ascii_alphabetic (after (part_number text) text))

-- what reads as an interval has bytes of a word alone and ends in a letter, or has one `.` after a digit
pub record Whole (text : List ℕ) : Type 0 where
  pub words : AreWordBytes text
  pub ends : Ends is_ascii_alphabetic text

-- one `.` stands after a digit
pub record Split (text : List ℕ) : Type 0 where
  pub prefix : List ℕ
  pub back : List ℕ
  pub splits : text ≡ prefix ++ 46 ∷ back
  pub prefix_words : AreWordBytes prefix
  pub back_words : AreWordBytes back
  pub ends : Ends is_ascii_digit prefix

-- each unit has letters
letters_some : (unit : TimeUnit) (w : List ℕ) → is_word (letters_of unit) w ≡ true → 0 < length w
letters_some unit [] h = never unit h where
  never : (u : TimeUnit) → is_word (letters_of u) [] ≡ true → 0 < 0
  never Days g = absurd (cc)
  never Hours g = absurd (cc)
  never Minutes g = absurd (cc)
  never Seconds g = absurd (cc)
  never Milliseconds g = absurd (cc)
letters_some unit (b ∷ w) h = omega arith

-- a sum has both parts
sum_parts : (a b : Option ℕ) (n : ℕ) → sum_of a b ≡ Some n → (k : ℕ) × (l : ℕ) × (a ≡ Some k) × (b ≡ Some l)
sum_parts None b n h = absurd (cc)
sum_parts (Some k) None n h = absurd (cc)
sum_parts (Some k) (Some l) n h = (k, l, refl, refl)

-- an amount is read from digits
amount_digits : (unit : TimeUnit) (number : List ℕ) (n : ℕ) → amount_read unit number ≡ Some n → (k : ℕ) × (digits_read 10 number ≡ Some k)
amount_digits unit number n h = at (digits_read 10 number) refl h where
  at : (o : Option ℕ) → digits_read 10 number ≡ o → option_map (λ m. m * milliseconds_of unit) o ≡ Some n → (k : ℕ) × (digits_read 10 number ≡ Some k)
  at None e g = absurd (cc)
  at (Some k) e g = (k, e)

-- a fraction is read from digits
fraction_digits : (unit : TimeUnit) (digits : List ℕ) (n : ℕ) → fraction_read unit digits ≡ Some n → AreWordBytes digits
fraction_digits unit digits n h = by_test (list_all (λ c. is_digit c 10) digits)
    (λ t. digits_words digits t)
    (λ t. by_test (nat_lt 0 (length digits))
    (λ u. let h' : ◌≡◌ {A = Option ℕ} None (Some n) = rw (u, t) at h in absurd (cc))
    (λ u. let h' : ◌≡◌ {A = Option ℕ} None (Some n) = rw u at h in absurd (cc)))

-- a number with a `.` is what stands before and after the first
point_splits : (number : List ℕ) → is_some (position is_point number) ≡ true → number ≡ before_first is_point number ++ 46 ∷ after_first is_point number
point_splits number h = by_test (nat_lt (position_or_len is_point number) (length number))
    (λ t. let lt : position_or_len is_point number < length number = below _ _ t in
    let passes = is_equal (get_or number (position_or_len is_point number) 0) 46 (passes_at_first is_point number 0 lt) in
    split_at_first is_point number 0 lt ∙ ap (λ (c : ℕ). before_first is_point number ++ c ∷ after_first is_point number) passes)
    (λ t. let h' : false ≡ true = rw t at h in absurd (cc))

-- a prefix of bytes of a word before it
grown : (prefix text rest : List ℕ) → text ≡ prefix ++ rest → AreWordBytes prefix → Whole rest ⊎ Split rest → Whole text ⊎ Split text
grown prefix text rest e words (inl w) = inl (record {
  words = subst AreWordBytes (sym e) (words_append prefix rest words w.words);
  ends = subst (Ends is_ascii_alphabetic) (sym e) (ends_more is_ascii_alphabetic prefix rest w.ends);
})
grown prefix text rest e words (inr s) = inr (record {
  prefix = prefix ++ s.prefix;
  back = s.back;
  splits = e ∙ ap (λ (zs : List ℕ). prefix ++ zs) s.splits ∙ sym (append_assoc prefix s.prefix (46 ∷ s.back));
  prefix_words = words_append prefix s.prefix words s.prefix_words;
  back_words = s.back_words;
  ends = ends_more is_ascii_digit prefix s.prefix s.ends;
})

-- the last part
last_shape : (unit : TimeUnit) (number letters : List ℕ) (n : ℕ) → last_amount_read unit number ≡ Some n
    → list_all is_ascii_alphabetic letters ≡ true → 0 < length letters → Whole (number ++ letters) ⊎ Split (number ++ letters)
last_shape unit number letters n h l some = by_test (is_some (position is_point number))
    (λ t. let s = sum_parts _ _ n (rw t at h) in let d = amount_digits unit (before_first is_point number) s.0 s.2 in
    inr (record {
      prefix = before_first is_point number;
      back = after_first is_point number ++ letters;
      splits = ap (λ (zs : List ℕ). zs ++ letters) (point_splits number t) ∙ append_assoc (before_first is_point number) (46 ∷ after_first is_point number) letters;
      prefix_words = read_words 10 (before_first is_point number) d.0 (omega arith) d.1;
      back_words = words_append (after_first is_point number) letters (fraction_digits unit (after_first is_point number) s.1 s.3) (letters_words letters l);
      ends = decimal_ends (before_first is_point number) d.0 d.1;
    }))
    (λ t. let d = amount_digits unit number n (rw t at h) in
    inl (record {
      words = words_append number letters (read_words 10 number d.0 (omega arith) d.1) (letters_words letters l);
      ends = ends_more is_ascii_alphabetic number letters (ends_all is_ascii_alphabetic letters l some);
    }))

-- a `_` may stand first
underscore_splits : (text : List ℕ) → (text ≡ without_underscore text) ⊎ (text ≡ 95 ∷ without_underscore text)
underscore_splits [] = inl refl
underscore_splits (b ∷ bs) = by_test (b == 95)
    (λ t. inr (rw t (ap (λ (x : ℕ). x ∷ bs) (is_equal b 95 t))))
    (λ t. inl (rw t refl))

-- what reads as parts has one of the two shapes
parts_shape : (us : List TimeUnit) (text : List ℕ) (n : ℕ) → parts_read us text ≡ Some n → Whole text ⊎ Split text
parts_shape [] text n h = absurd (cc)
parts_shape (unit ∷ smaller) text n h = by_test (is_word (letters_of unit) (part_letters text))
    (λ t. by_test (length (part_rest text) == 0)
    (λ u. let e : part_rest text ≡ [] = nothing (part_rest text) u in
    let f : text ≡ part_number text ++ part_letters text =
    part_splits text ∙ ap (λ (zs : List ℕ). part_number text ++ (part_letters text ++ zs)) e
    ∙ ap (λ (zs : List ℕ). part_number text ++ zs) (append-nil (part_letters text)) in
    subst (λ zs. Whole zs ⊎ Split zs) (sym f)
    (last_shape unit (part_number text) (part_letters text) n (rw (t, u) at h) (taken_pass is_ascii_alphabetic (after (part_number text) text))
    (letters_some unit (part_letters text) t)))
    (λ u. let s = sum_parts (amount_read unit (part_number text)) (parts_read smaller (without_underscore (part_rest text))) n (rw (t, u) at h) in
    let d = amount_digits unit (part_number text) s.0 s.2 in
    let words : AreWordBytes (part_number text ++ part_letters text) =
    words_append (part_number text) (part_letters text) (read_words 10 (part_number text) d.0 (omega arith) d.1)
    (letters_words (part_letters text) (taken_pass is_ascii_alphabetic (after (part_number text) text))) in
    let f : text ≡ (part_number text ++ part_letters text) ++ part_rest text = part_splits text ∙ sym (append_assoc (part_number text) (part_letters text) (part_rest text)) in
    grown (part_number text ++ part_letters text) text (part_rest text) f words
    (after_underscore (underscore_splits (part_rest text)) (parts_shape smaller (without_underscore (part_rest text)) s.1 s.3))))
    (λ t. parts_shape smaller text n (rw t at h)) where
      nothing : (xs : List ℕ) → (length xs == 0) ≡ true → xs ≡ []
      nothing [] g = refl
      nothing (x ∷ xs) g = let e = is_equal (length (x ∷ xs)) 0 g in absurd (omega arith)

      after_underscore : (part_rest text ≡ without_underscore (part_rest text)) ⊎ (part_rest text ≡ 95 ∷ without_underscore (part_rest text))
          → Whole (without_underscore (part_rest text)) ⊎ Split (without_underscore (part_rest text)) → Whole (part_rest text) ⊎ Split (part_rest text)
      after_underscore (inl e) s = subst (λ zs. Whole zs ⊎ Split zs) (sym e) s
      after_underscore (inr e) s = grown (95 ∷ []) (part_rest text) (without_underscore (part_rest text)) e (refl, tt) s

-- what reads as an interval has one of the two shapes
pub interval_shape : (text : List ℕ) (n : ℕ) → interval_read text ≡ Some n → Whole text ⊎ Split text
unfolding interval_read
interval_shape text n h = parts_shape units text n h

-- ---- at the start of a text

-- the longest prefix that reads as an interval
abbrev pub IntervalFound : List ℕ → List ℕ → ℕ → Type 0
IntervalFound text rest v = Found interval_read capped text rest v

-- where a fraction follows, a `.` stands after the run
fraction_test : (text : List ℕ) → has_fraction text ≡ true → after_run text ≡ 46 ∷ fraction_of text
fraction_test text h = begins (codes ".") (after_run text) (both (ends_in_digit (run text)) (begins_with (codes ".") (after_run text)) h).1

-- a prefix with a `.` has it after the run
split_run : (text prefix back rest : List ℕ) → text ≡ (prefix ++ 46 ∷ back) ++ rest → AreWordBytes prefix → (run text ≡ prefix) × (after_run text ≡ 46 ∷ (back ++ rest))
split_run text prefix back rest e words = run_is text prefix (46 ∷ (back ++ rest)) (e ∙ append_assoc prefix (46 ∷ back) rest) words (λ (k : is_word_byte 46 ≡ true). cc)

-- a `.` after a run that ends in a digit begins a fraction
split_test : (text : List ℕ) (s : Ends is_ascii_digit (run text)) (more : List ℕ) → after_run text ≡ 46 ∷ more → has_fraction text ≡ true
split_test text s more e = rw (digit_ends (run text) s) (ap (λ (zs : List ℕ). begins_with (codes ".") zs) e)

-- what was mapped
option_parts : (text rest : List ℕ) (v : ℕ) (o : Option ℕ) → option_map {T = ℕ} {U = ℕ × List ℕ} (λ n. (capped n, interval_rest text)) o ≡ Some (v, rest)
    → (n : ℕ) × (o ≡ Some n) × (v ≡ capped n) × (rest ≡ interval_rest text)
option_parts text rest v None h = absurd (cc)
option_parts text rest v (Some n) h = let p = some_parts h in (n, refl, sym p.0, sym p.1)

-- what reading an interval gave
interval_parts : (text rest : List ℕ) (v : ℕ) → interval_at text ≡ Some (v, rest)
    → (n : ℕ) × (interval_read (interval_prefix text) ≡ Some n) × (v ≡ capped n) × (rest ≡ interval_rest text)
unfolding interval_at
interval_parts text rest v h = option_parts text rest v (interval_read (interval_prefix text)) h

-- what is read is the longest interval
pub interval_found : (text rest : List ℕ) (v : ℕ) → interval_at text ≡ Some (v, rest) → IntervalFound text rest v
interval_found text rest v h = by_test (has_fraction text)
    (λ t. let p = interval_parts text rest v h in with_fraction t p.0 (rw t at p.1) p.2 (rw t at p.3))
    (λ t. let p = interval_parts text rest v h in without t p.0 (rw t at p.1) p.2 (rw t at p.3)) where
      with_fraction : has_fraction text ≡ true → (n : ℕ) → interval_read (run text ++ 46 ∷ run (fraction_of text)) ≡ Some n → v ≡ capped n
          → rest ≡ after_run (fraction_of text) → IntervalFound text rest v
      with_fraction t n r e f = record {
        prefix = run text ++ 46 ∷ run (fraction_of text);
        value = n;
        same = e;
        splits = run_splits text ∙ ap (λ (zs : List ℕ). run text ++ zs) (fraction_test text t ∙ ap (λ (zs : List ℕ). 46 ∷ zs) (run_splits (fraction_of text) ∙ ap (λ (zs : List ℕ). run (fraction_of text) ++ zs) (sym f)))
            ∙ sym (append_assoc (run text) (46 ∷ run (fraction_of text)) rest);
        reads = r;
        ends = subst (λ zs. BeginsWord zs → ⊥) (sym f) (after_run_not (fraction_of text));
        covers = let l = length-append (run text) (46 ∷ run (fraction_of text)) in omega arith;
        longest = λ other back w g k. at other back g (interval_shape other w k);
      } where
        at : (other back : List ℕ) → text ≡ other ++ back → Whole other ⊎ Split other → length other ≤ length (run text ++ 46 ∷ run (fraction_of text))
        at other back g (inl w) =
            let le = words_in_run text other back g w.words in let l = length-append (run text) (46 ∷ run (fraction_of text)) in omega arith
        at other back g (inr s) =
            let u = split_run text s.prefix s.back back (g ∙ ap (λ (zs : List ℕ). zs ++ back) s.splits) s.prefix_words in
            let tail : fraction_of text ≡ s.back ++ back = ap (λ (zs : List ℕ). after (codes ".") zs) u.1 in
            let le = words_in_run (fraction_of text) s.back back tail s.back_words in
            let l = length-append (run text) (46 ∷ run (fraction_of text)) in let m = length-append s.prefix (46 ∷ s.back) in
            let same = ap length s.splits in let prefix = ap length u.0 in omega arith

      without : has_fraction text ≡ false → (n : ℕ) → interval_read (run text) ≡ Some n → v ≡ capped n → rest ≡ after_run text → IntervalFound text rest v
      without t n r e f = record {
        prefix = run text;
        value = n;
        same = e;
        splits = run_splits text ∙ ap (λ (zs : List ℕ). run text ++ zs) (sym f);
        reads = r;
        ends = subst (λ zs. BeginsWord zs → ⊥) (sym f) (after_run_not text);
        covers = omega arith;
        longest = λ other back w g k. at other back g (interval_shape other w k);
      } where
        at : (other back : List ℕ) → text ≡ other ++ back → Whole other ⊎ Split other → length other ≤ length (run text)
        at other back g (inl w) = words_in_run text other back g w.words
        at other back g (inr s) =
            let u = split_run text s.prefix s.back back (g ∙ ap (λ (zs : List ℕ). zs ++ back) s.splits) s.prefix_words in
            not_both (split_test text (subst (Ends is_ascii_digit) (sym u.0) s.ends) (s.back ++ back) u.1) t

-- an interval that no byte of a word follows is read
pub interval_only : (text prefix rest : List ℕ) (n : ℕ) → text ≡ prefix ++ rest → interval_read prefix ≡ Some n → (BeginsWord rest → ⊥) → interval_at text ≡ Some (capped n, rest)
unfolding interval_at
interval_only text prefix rest n e h ends = at (interval_shape prefix n h) where
  made : interval_prefix text ≡ prefix → interval_rest text ≡ rest → option_map {T = ℕ} {U = ℕ × List ℕ} (λ m. (capped m, interval_rest text)) (interval_read (interval_prefix text)) ≡ Some (capped n, rest)
  made f g = ap (λ (zs : List ℕ). option_map {T = ℕ} {U = ℕ × List ℕ} (λ m. (capped m, zs)) (interval_read (interval_prefix text))) g
      ∙ ap (λ (o : Option ℕ). option_map {T = ℕ} {U = ℕ × List ℕ} (λ m. (capped m, rest)) o) (ap interval_read f ∙ h)

  at : Whole prefix ⊎ Split prefix → option_map {T = ℕ} {U = ℕ × List ℕ} (λ m. (capped m, interval_rest text)) (interval_read (interval_prefix text)) ≡ Some (capped n, rest)
  at (inl w) =
      let u = run_is text prefix rest e w.words ends in
      let t : has_fraction text ≡ false = rw (u.0, letter_ends prefix w.ends) refl in
      made (rw t u.0) (rw t u.1)
  at (inr s) =
      let u = split_run text s.prefix s.back rest (e ∙ ap (λ (zs : List ℕ). zs ++ rest) s.splits) s.prefix_words in
      let t = split_test text (subst (Ends is_ascii_digit) (sym u.0) s.ends) (s.back ++ rest) u.1 in
      let tail : fraction_of text ≡ s.back ++ rest = ap (λ (zs : List ℕ). after (codes ".") zs) u.1 in
      let v = run_is (fraction_of text) s.back rest tail s.back_words ends in
      made (rw t (ap (λ (zs : List ℕ). run text ++ 46 ∷ zs) v.0 ∙ ap (λ (zs : List ℕ). zs ++ 46 ∷ s.back) u.0 ∙ sym s.splits)) (rw t v.1)

-- a text split after its run, a `.` and as many bytes more
pub split_at_fraction : (text fraction prefix back : List ℕ) (n : ℕ) → has_fraction text ≡ true → fraction ≡ fraction_of text → take n fraction ≡ prefix → drop n fraction ≡ back → n ≤ length fraction
    → (take (length (run text) + 1 + n) text ≡ run text ++ 46 ∷ prefix) × (drop (length (run text) + 1 + n) text ≡ back) × (length (run text) + 1 + n ≤ length text)
split_at_fraction text fraction prefix back n h e f g le =
    let split : text ≡ run text ++ 46 ∷ fraction = run_splits text ∙ ap (λ (zs : List ℕ). run text ++ zs) (fraction_test text h ∙ ap (λ (zs : List ℕ). 46 ∷ zs) (sym e)) in
    let sum : length (run text) + 1 + n ≡ length (run text) + suc n = omega arith in
    let size : length text ≡ length (run text) + suc (length fraction) = ap length split ∙ length-append (run text) (46 ∷ fraction) in (
      ap (λ (m : ℕ). take m text) sum ∙ ap (λ (zs : List ℕ). take (length (run text) + suc n) zs) split
          ∙ take-append-add (run text) (46 ∷ fraction) (suc n) ∙ ap (λ (zs : List ℕ). run text ++ 46 ∷ zs) f,
      ap (λ (m : ℕ). drop m text) sum ∙ ap (λ (zs : List ℕ). drop (length (run text) + suc n) zs) split
          ∙ drop-append-add (run text) (46 ∷ fraction) (suc n) ∙ g,
      omega arith,
    )
