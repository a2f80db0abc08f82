-- What is read as an interval is what its grammar says.
use Rattle.std.proofs.Common.{◌≡◌, ℕ, suc, ◌+◌, ◌<◌, ◌≤◌, Bool, true, false, not, ◌&&◌, ◌||◌, List, [], ◌∷◌, ◌++◌, length, length-append, drop, map, refl, ap, sym, ◌∙◌, subst, arith, ◌==◌, slice_index, get_or, append_assoc, append-nil, add-zero, nat_lt}
use Rattle.std.proofs.Math.Seq.{drop-append-add, drop-append_seam, take-append_seam}
use Rattle.std.proofs.lemmas.Grind.{common_steps}
use Rattle.std.proofs.lemmas.List.Folds.{length-prefix_len, list_all-append}
use Rattle.std.proofs.lemmas.List.{take-append-drop}
use Rattle.std.proofs.lemmas.List.Sums.{passes_at_first, split_at_first}
use Rattle.std.proofs.lemmas.Slice.Eq.{bytes_eq-Decides}
use Rattle.std.specs.Char.{digit_value, is_ascii_alphabetic, is_digit, to_ascii_lowercase}
use Rattle.std.specs.List.{after_first, before_first, list_all, list_any, position_or_len, prefix_len, take_while}
use Rattle.std.specs.Prelude.{◌↔◌, Option, Some, None, is_some, option_map, position, if◌then◌else◌}
use Rattle.st_values.proofs.Cases.{below, both, differs, is_below, is_not_below, not_true}
use Rattle.st_values.proofs.DigitTexts.{is_decimal}
use Rattle.st_values.specs.Durations.{IsInterval, amount_read, fraction_read, interval_read, is_point, last_amount_read, letters_of, part_letters, part_number, part_rest, parts_read, sum_of, units, without_underscore}
use Rattle.st_values.specs.Durations.IsInterval.{last_part, last_part_with_fraction, part, part_and_underscore, left_out}
use Rattle.st_values.specs.Numbers.{are_digits}
use Rattle.st_values.specs.Words.{is_word}
use Rattle.st_values.specs.declared.duration.TimeUnit.{TimeUnit}
use Rattle.st_values.specs.declared.duration.TimeUnit.TheVariants.{Days, Hours, Minutes, Seconds, Milliseconds}

-- ---- prefixes of lists

abbrev no_letter : ℕ → Bool
no_letter c = not (is_ascii_alphabetic c)

abbrev no_point : ℕ → Bool
no_point c = not (is_point c)

prefix_len-append : (p : ℕ → Bool) (xs ys : List ℕ) → list_all p xs ≡ true → prefix_len p (xs ++ ys) ≡ length xs + prefix_len p ys
prefix_len-append p [] ys all = omega arith
prefix_len-append p (x ∷ xs) ys all =
    let parts = both (p x) (list_all p xs) all in
    rw (parts.0, prefix_len-append p xs ys parts.1) (omega arith)

take_while-append : (p : ℕ → Bool) (xs ys : List ℕ) → list_all p xs ≡ true → prefix_len p ys ≡ 0 → take_while p (xs ++ ys) ≡ xs
take_while-append p xs ys all stops = rw (prefix_len-append p xs ys all, stops, add-zero) (take-append_seam xs ys)

-- a list is its prefix and what stands after it
prefix_and_rest : (p : ℕ → Bool) (xs : List ℕ) → xs ≡ take_while p xs ++ drop (length (take_while p xs)) xs
prefix_and_rest p xs = rw (length-prefix_len p xs) (sym (take-append-drop (prefix_len p xs) xs))

parts_of : (text : List ℕ) → text ≡ part_number text ++ (part_letters text ++ part_rest text)
parts_of text =
    prefix_and_rest no_letter text
    ∙ ap (λ (rest : List ℕ). part_number text ++ rest) (prefix_and_rest is_ascii_alphabetic (drop (length (part_number text)) text))

list_all-weaker : (p q : ℕ → Bool) → ((c : ℕ) → p c ≡ true → q c ≡ true) → (xs : List ℕ) → list_all p xs ≡ true → list_all q xs ≡ true
list_all-weaker p q weaker [] all = refl
list_all-weaker p q weaker (x ∷ xs) all =
    let parts = both (p x) (list_all p xs) all in rw (weaker x parts.0, list_all-weaker p q weaker xs parts.1) refl

-- ---- numbers

same : (a b : ℕ) → (a == b) ≡ true → a ≡ b
same a b h = grind (arith, common_steps)

decimal : (c : ℕ) → is_digit c 10 ≡ true → (48 ≤ c) × (c ≤ 57)
decimal c h = is_decimal c (below (digit_value c) 10 h)

-- what holds of `_` and of each decimal digit holds of each byte of a number
byte_passes : (p : ℕ → Bool) → p 95 ≡ true → ((c : ℕ) → 48 ≤ c → c ≤ 57 → p c ≡ true) → (after : Bool) (c : ℕ) (text : List ℕ)
    → ((now : Bool) → are_digits 10 now text ≡ true → list_all p text ≡ true)
    → (b : Bool) → (c == 95) ≡ b → (if b then after && are_digits 10 false text else (is_digit c 10 && are_digits 10 true text)) ≡ true → list_all p (c ∷ text) ≡ true
byte_passes p line digit after c text rest true is ok =
    let here : p c ≡ true = ap p (same c 95 is) ∙ line in
    rw (here, rest false (both after (are_digits 10 false text) ok).1) refl
byte_passes p line digit after c text rest false is ok =
    let parts = both (is_digit c 10) (are_digits 10 true text) ok in
    let range = decimal c parts.0 in
    rw (digit c range.0 range.1, rest true parts.1) refl

digits_pass : (p : ℕ → Bool) → p 95 ≡ true → ((c : ℕ) → 48 ≤ c → c ≤ 57 → p c ≡ true) → (after : Bool) (text : List ℕ) → are_digits 10 after text ≡ true → list_all p text ≡ true
digits_pass p line digit after [] ok = refl
digits_pass p line digit after (c ∷ text) ok = byte_passes p line digit after c text (λ now h. digits_pass p line digit now text h) (c == 95) refl ok

first_digit : (text : List ℕ) → are_digits 10 false text ≡ true → (rest : List ℕ) → digit_value (slice_index (text ++ rest) 0) < 10
first_digit [] ok rest = cc
first_digit (c ∷ text) ok rest = go (c == 95) ok
  where
    go : (b : Bool) → (if b then false else (is_digit c 10 && are_digits 10 true text)) ≡ true → digit_value c < 10
    go true h = cc
    go false h = below (digit_value c) 10 (both (is_digit c 10) (are_digits 10 true text) h).0

if-some : (b : Bool) (v m : ℕ) (f : ℕ → ℕ) → option_map f (if b then Some v else None) ≡ Some m → b ≡ true
if-some true v m f h = refl
if-some false v m f h = cc

amount-digits : (unit : TimeUnit) (number : List ℕ) (m : ℕ) → amount_read unit number ≡ Some m → are_digits 10 false number ≡ true
amount-digits unit number m h = if-some (are_digits 10 false number) _ m _ h

if-middle : (p q r : Bool) (v n : ℕ) → (if p && (q && r) then Some v else None) ≡ Some n → q ≡ true
if-middle true true r v n h = refl
if-middle true false r v n h = cc
if-middle false q r v n h = cc

fraction-digits : (unit : TimeUnit) (digits : List ℕ) (n : ℕ) → fraction_read unit digits ≡ Some n → list_all (λ c. is_digit c 10) digits ≡ true
fraction-digits unit digits n h = if-middle (nat_lt 0 (length digits)) (list_all (λ c. is_digit c 10) digits) _ _ n h

decimal_no_letter : (c : ℕ) → 48 ≤ c → c ≤ 57 → no_letter c ≡ true
decimal_no_letter c low high = grind (arith, common_steps)

decimal_no_point : (c : ℕ) → 48 ≤ c → c ≤ 57 → no_point c ≡ true
decimal_no_point c low high = grind (arith, common_steps)

number_no_letter : (unit : TimeUnit) (number : List ℕ) (m : ℕ) → amount_read unit number ≡ Some m → list_all no_letter number ≡ true
number_no_letter unit number m h = digits_pass no_letter refl decimal_no_letter false number (amount-digits unit number m h)

number_no_point : (unit : TimeUnit) (number : List ℕ) (m : ℕ) → amount_read unit number ≡ Some m → list_all no_point number ≡ true
number_no_point unit number m h = digits_pass no_point refl decimal_no_point false number (amount-digits unit number m h)

-- ---- the letters of units

lower-letter : (c : ℕ) → is_ascii_alphabetic (to_ascii_lowercase c) ≡ is_ascii_alphabetic c
lower-letter c = grind (arith, common_steps)

list_all-lower : (xs : List ℕ) → list_all is_ascii_alphabetic (map to_ascii_lowercase xs) ≡ list_all is_ascii_alphabetic xs
list_all-lower [] = refl
list_all-lower (x ∷ xs) = rw (lower-letter x, list_all-lower xs) refl

same_word : (word text : List ℕ) → is_word word text ≡ true → map to_ascii_lowercase text ≡ map to_ascii_lowercase word
same_word word text h = (bytes_eq-Decides (map to_ascii_lowercase text) (map to_ascii_lowercase word)).0 h

unit_letters : (unit : TimeUnit) → list_all is_ascii_alphabetic (map to_ascii_lowercase (letters_of unit)) ≡ true
unit_letters Days = refl
unit_letters Hours = refl
unit_letters Minutes = refl
unit_letters Seconds = refl
unit_letters Milliseconds = refl

word_letters : (unit : TimeUnit) (letters : List ℕ) → is_word (letters_of unit) letters ≡ true → list_all is_ascii_alphabetic letters ≡ true
word_letters unit letters word = sym (list_all-lower letters) ∙ ap (list_all is_ascii_alphabetic) (same_word (letters_of unit) letters word) ∙ unit_letters unit

no_empty_word : (unit : TimeUnit) → is_word (letters_of unit) [] ≡ false
no_empty_word Days = refl
no_empty_word Hours = refl
no_empty_word Minutes = refl
no_empty_word Seconds = refl
no_empty_word Milliseconds = refl

letters_first : (unit : TimeUnit) (letters rest : List ℕ) → is_word (letters_of unit) letters ≡ true → prefix_len no_letter (letters ++ rest) ≡ 0
letters_first unit [] rest word = let none = no_empty_word unit in cc
letters_first unit (c ∷ cs) rest word =
    let letter = (both (is_ascii_alphabetic c) (list_all is_ascii_alphabetic cs) (word_letters unit (c ∷ cs) word)).0 in rw letter refl

-- ---- the first part of a text

record IsParted (text number letters rest : List ℕ) : Type 0 where
  number_is : part_number text ≡ number
  letters_is : part_letters text ≡ letters
  rest_is : part_rest text ≡ rest

parted : (unit : TimeUnit) (number letters rest : List ℕ) → list_all no_letter number ≡ true → is_word (letters_of unit) letters ≡ true → prefix_len is_ascii_alphabetic rest ≡ 0
    → IsParted (number ++ (letters ++ rest)) number letters rest
parted unit number letters rest plain word stops =
    let number_is : part_number (number ++ (letters ++ rest)) ≡ number = take_while-append no_letter number (letters ++ rest) plain (letters_first unit letters rest word) in
    let letters_is : part_letters (number ++ (letters ++ rest)) ≡ letters =
    rw (number_is, drop-append_seam number (letters ++ rest)) (take_while-append is_ascii_alphabetic letters rest (word_letters unit letters word) stops) in
    let rest_is : part_rest (number ++ (letters ++ rest)) ≡ rest = rw (letters_is, number_is, drop-append_seam number (letters ++ rest)) (drop-append_seam letters rest) in
    record { number_is = number_is; letters_is = letters_is; rest_is = rest_is }

parted-last : (unit : TimeUnit) (number letters : List ℕ) → list_all no_letter number ≡ true → is_word (letters_of unit) letters ≡ true → IsParted (number ++ letters) number letters []
parted-last unit number letters plain word =
    subst (λ (l : List ℕ). IsParted (number ++ l) number letters []) (append-nil letters) (parted unit number letters [] plain word refl)

-- the same of a text as the grammar writes it
parted-left : (unit : TimeUnit) (number letters rest : List ℕ) → list_all no_letter number ≡ true → is_word (letters_of unit) letters ≡ true → prefix_len is_ascii_alphabetic rest ≡ 0
    → IsParted (number ++ letters ++ rest) number letters rest
parted-left unit number letters rest plain word stops =
    subst (λ (text : List ℕ). IsParted text number letters rest) (sym (append_assoc number letters rest)) (parted unit number letters rest plain word stops)

fraction_no_letter : (unit : TimeUnit) (number digits : List ℕ) (m n : ℕ) → amount_read unit number ≡ Some m → fraction_read unit digits ≡ Some n → list_all no_letter (number ++ 46 ∷ digits) ≡ true
fraction_no_letter unit number digits m n amount fraction =
    let plain : list_all no_letter digits ≡ true =
    list_all-weaker (λ c. is_digit c 10) no_letter (λ c h. decimal_no_letter c (decimal c h).0 (decimal c h).1) digits (fraction-digits unit digits n fraction) in
    list_all-append no_letter number (46 ∷ digits) ∙ rw (number_no_letter unit number m amount, plain) refl

-- ---- complete: what the grammar allows is read

-- an interval begins with a digit
first_digit-left : (text : List ℕ) → are_digits 10 false text ≡ true → (more rest : List ℕ) → digit_value (slice_index (text ++ more ++ rest) 0) < 10
first_digit-left text ok more rest =
    subst (λ (t : List ℕ). digit_value (slice_index t 0) < 10) (sym (append_assoc text more rest)) (first_digit text ok (more ++ rest))

digit_first : (us : List TimeUnit) (text : List ℕ) (n : ℕ) → IsInterval us text n → digit_value (slice_index text 0) < 10
digit_first us text n (last_part {unit = u} number letters amount word) = first_digit number (amount-digits u number _ amount) letters
digit_first us text n (last_part_with_fraction {unit = u} number digits letters amount fraction word) = first_digit-left number (amount-digits u number _ amount) (46 ∷ digits) letters
digit_first us text n (part {unit = u} number letters rest amount word more) = first_digit-left number (amount-digits u number _ amount) letters rest
digit_first us text n (part_and_underscore {unit = u} number letters rest amount word more) = first_digit-left number (amount-digits u number _ amount) letters (95 ∷ rest)
digit_first us text n (left_out {smaller = smaller} more) = digit_first smaller text n more

-- so it is no letter, no `_`, and something stands there
digit_begins : (text : List ℕ) → digit_value (slice_index text 0) < 10 → (prefix_len is_ascii_alphabetic text ≡ 0) × (without_underscore text ≡ text) × ((length text == 0) ≡ false)
digit_begins [] first = absurd (omega arith)
digit_begins (c ∷ text) first =
    let range = is_decimal c first in
    let letter : is_ascii_alphabetic c ≡ false = grind (arith, common_steps) in
    (rw letter refl, rw (differs c 95 (λ is. omega (arith, is, range.1))) refl, differs (suc (length text)) 0 (λ is. omega (arith, is)))

-- the first part has one of the units
abbrev has_unit : List ℕ → TimeUnit → Bool
has_unit letters unit = is_word (letters_of unit) letters

or_true : (p q : Bool) → q ≡ true → (p || q) ≡ true
or_true true q h = refl
or_true false q h = h

some_unit : (us : List TimeUnit) (text : List ℕ) (n : ℕ) → IsInterval us text n → list_any (has_unit (part_letters text)) us ≡ true
some_unit us text n (last_part {unit = u} number letters amount word) =
    rw ((parted-last u number letters (number_no_letter u number _ amount) word).letters_is, word) refl
some_unit us text n (last_part_with_fraction {unit = u} number digits letters amount fraction word) =
    rw ((parted-last u (number ++ 46 ∷ digits) letters (fraction_no_letter u number digits _ _ amount fraction) word).letters_is, word) refl
some_unit us text n (part {unit = u} {smaller = smaller} number letters rest amount word more) =
    let begins = digit_begins rest (digit_first smaller rest _ more) in
    rw ((parted-left u number letters rest (number_no_letter u number _ amount) word begins.0).letters_is, word) refl
some_unit us text n (part_and_underscore {unit = u} number letters rest amount word more) =
    rw ((parted-left u number letters (95 ∷ rest) (number_no_letter u number _ amount) word refl).letters_is, word) refl
some_unit us text n (left_out {unit = u} {smaller = smaller} more) = or_true (has_unit (part_letters text) u) _ (some_unit smaller text n more)

-- units of which no two have the same letters
abbrev differ_from : TimeUnit → TimeUnit → Bool
differ_from unit other = not (is_word (letters_of unit) (letters_of other))

abbrev distinct : List TimeUnit → Bool
distinct [] = true
distinct (unit ∷ others) = list_all (differ_from unit) others && distinct others

other_unit : (unit : TimeUnit) (others : List TimeUnit) (letters : List ℕ) → list_all (differ_from unit) others ≡ true → list_any (has_unit letters) others ≡ true → is_word (letters_of unit) letters ≡ false
other_unit unit [] letters distinct some = cc
other_unit unit (v ∷ others) letters distinct some =
    let parts = both (differ_from unit v) (list_all (differ_from unit) others) distinct in
    go (is_word (letters_of v) letters) refl parts.0 some (other_unit unit others letters parts.1)
  where
    go : (b : Bool) → is_word (letters_of v) letters ≡ b → differ_from unit v ≡ true → (b || list_any (has_unit letters) others) ≡ true
        → (list_any (has_unit letters) others ≡ true → is_word (letters_of unit) letters ≡ false) → is_word (letters_of unit) letters ≡ false
    go false is differ some rest = rest some
    go true is differ some rest = not_true (is_word (letters_of unit) letters) (λ word.
        let letters_v = same_word (letters_of v) letters is in
        let letters_u = same_word (letters_of unit) letters word in
        let equal : is_word (letters_of unit) (letters_of v) ≡ true = (bytes_eq-Decides (map to_ascii_lowercase (letters_of v)) (map to_ascii_lowercase (letters_of unit))).1 (sym letters_v ∙ letters_u) in
        let no : not true ≡ true = rw equal at differ in cc)

-- a part of another unit is left to the smaller ones
parts_read-other : (unit : TimeUnit) (smaller : List TimeUnit) (text : List ℕ) → is_word (letters_of unit) (part_letters text) ≡ false → parts_read (unit ∷ smaller) text ≡ parts_read smaller text
parts_read-other unit smaller text other = rw other refl

parts_read-last : (unit : TimeUnit) (smaller : List TimeUnit) (text : List ℕ) → is_word (letters_of unit) (part_letters text) ≡ true → part_rest text ≡ []
    → parts_read (unit ∷ smaller) text ≡ last_amount_read unit (part_number text)
parts_read-last unit smaller text same none = rw (same, none) refl

parts_read-more : (unit : TimeUnit) (smaller : List TimeUnit) (text number letters rest : List ℕ) → IsParted text number letters rest → is_word (letters_of unit) letters ≡ true → (length rest == 0) ≡ false
    → parts_read (unit ∷ smaller) text ≡ sum_of (amount_read unit number) (parts_read smaller (without_underscore rest))
parts_read-more unit smaller text number letters rest parts word some = rw (parts.rest_is, parts.letters_is, word, some, parts.number_is) refl

no_point_before : (number : List ℕ) → list_all no_point number ≡ true → is_some (position is_point number) ≡ false
no_point_before number all =
    let len : prefix_len no_point number ≡ length number =
    ap (prefix_len no_point) (sym (append-nil number)) ∙ prefix_len-append no_point number [] all ∙ (omega arith) in
    rw (len, is_not_below (length number) (length number) (omega arith)) refl

last_amount_read-whole : (unit : TimeUnit) (number : List ℕ) (n : ℕ) → amount_read unit number ≡ Some n → last_amount_read unit number ≡ Some n
last_amount_read-whole unit number n amount = rw (no_point_before number (number_no_point unit number n amount)) amount

last_amount_read-fraction : (unit : TimeUnit) (number digits : List ℕ) (m n : ℕ) → amount_read unit number ≡ Some m → fraction_read unit digits ≡ Some n → last_amount_read unit (number ++ 46 ∷ digits) ≡ Some (m + n)
last_amount_read-fraction unit number digits m n amount fraction =
    let at : prefix_len no_point (number ++ 46 ∷ digits) ≡ length number = prefix_len-append no_point number (46 ∷ digits) (number_no_point unit number m amount) ∙ (omega arith) in
    let within : nat_lt (length number) (length (number ++ 46 ∷ digits)) ≡ true = is_below _ _ (omega (arith, length-append number (46 ∷ digits))) in
    rw (at, within, take-append_seam number (46 ∷ digits), drop-append-add number (46 ∷ digits) 1, amount, fraction) refl

complete : (us : List TimeUnit) (text : List ℕ) (n : ℕ) → IsInterval us text n → distinct us ≡ true → parts_read us text ≡ Some n
complete us text n (last_part {unit = u} {smaller = smaller} number letters amount word) all =
    let parts = parted-last u number letters (number_no_letter u number _ amount) word in
    parts_read-last u smaller (number ++ letters) (ap (is_word (letters_of u)) parts.letters_is ∙ word) parts.rest_is
    ∙ ap (last_amount_read u) parts.number_is ∙ last_amount_read-whole u number _ amount
complete us text n (last_part_with_fraction {unit = u} {smaller = smaller} number digits letters amount fraction word) all =
    let parts = parted-last u (number ++ 46 ∷ digits) letters (fraction_no_letter u number digits _ _ amount fraction) word in
    parts_read-last u smaller (number ++ 46 ∷ digits ++ letters) (ap (is_word (letters_of u)) parts.letters_is ∙ word) parts.rest_is
    ∙ ap (last_amount_read u) parts.number_is ∙ last_amount_read-fraction u number digits _ _ amount fraction
complete us text n (part {unit = u} {smaller = smaller} number letters rest amount word more) all =
    let begins = digit_begins rest (digit_first smaller rest _ more) in
    parts_read-more u smaller (number ++ letters ++ rest) number letters rest (parted-left u number letters rest (number_no_letter u number _ amount) word begins.0) word begins.2
    ∙ rw (amount, begins.1, complete smaller rest _ more (both _ (distinct smaller) all).1) refl
complete us text n (part_and_underscore {unit = u} {smaller = smaller} number letters rest amount word more) all =
    parts_read-more u smaller (number ++ letters ++ 95 ∷ rest) number letters (95 ∷ rest) (parted-left u number letters (95 ∷ rest) (number_no_letter u number _ amount) word refl) word
    (differs (suc (length rest)) 0 (λ is. omega (arith, is)))
    ∙ rw (amount, complete smaller rest _ more (both _ (distinct smaller) all).1) refl
complete us text n (left_out {unit = u} {smaller = smaller} more) all =
    let parts = both (list_all (differ_from u) smaller) (distinct smaller) all in
    parts_read-other u smaller text (other_unit u smaller (part_letters text) parts.0 (some_unit smaller text n more)) ∙ complete smaller text n more parts.1

-- ---- sound: what is read the grammar allows

sum_of-some : (a b : Option ℕ) (n : ℕ) → sum_of a b ≡ Some n → (m : ℕ) × (k : ℕ) × (a ≡ Some m) × (b ≡ Some k) × (m + k ≡ n)
sum_of-some None b n h = cc
sum_of-some (Some m) None n h = cc
sum_of-some (Some m) (Some k) n h = (m, k, refl, refl, cc)

-- a number with a point is what stands before it, the point, and what stands after it
point_between : (number : List ℕ) → is_some (position is_point number) ≡ true → before_first is_point number ++ 46 ∷ after_first is_point number ≡ number
point_between number some = go (nat_lt (position_or_len is_point number) (length number)) refl some
  where
    go : (b : Bool) → nat_lt (position_or_len is_point number) (length number) ≡ b → is_some (if b then Some (position_or_len is_point number) else None) ≡ true
        → before_first is_point number ++ 46 ∷ after_first is_point number ≡ number
    go false is h = cc
    go true is h =
        let within = below (position_or_len is_point number) (length number) is in
        let point : get_or number (position_or_len is_point number) 0 ≡ 46 = same _ 46 (passes_at_first is_point number 0 within) in
        sym (rw point at (split_at_first {X = ℕ} is_point number 0 within))

sound_last : (unit : TimeUnit) (smaller : List TimeUnit) (number letters : List ℕ) (n : ℕ) → last_amount_read unit number ≡ Some n → is_word (letters_of unit) letters ≡ true
    → IsInterval (unit ∷ smaller) (number ++ letters) n
sound_last unit smaller number letters n h word = go (is_some (position is_point number)) refl h
  where
    go : (b : Bool) → is_some (position is_point number) ≡ b
        → (if b then sum_of (amount_read unit (before_first is_point number)) (fraction_read unit (after_first is_point number)) else amount_read unit number) ≡ Some n
        → IsInterval (unit ∷ smaller) (number ++ letters) n
    go false is amount = last_part number letters amount word
    go true is sum =
        let parts = sum_of-some (amount_read unit (before_first is_point number)) (fraction_read unit (after_first is_point number)) n sum in
        let interval = last_part_with_fraction {smaller = smaller} (before_first is_point number) (after_first is_point number) letters parts.2 parts.3 word in
        subst (λ (k : ℕ). IsInterval (unit ∷ smaller) (number ++ letters) k) parts.4
        (subst (λ (text : List ℕ). IsInterval (unit ∷ smaller) (text ++ letters) (parts.0 + parts.1)) (point_between number is) interval)

sound_more : (unit : TimeUnit) (smaller : List TimeUnit) (number letters rest : List ℕ) (n : ℕ) → ((text : List ℕ) (k : ℕ) → parts_read smaller text ≡ Some k → IsInterval smaller text k)
    → sum_of (amount_read unit number) (parts_read smaller (without_underscore rest)) ≡ Some n → is_word (letters_of unit) letters ≡ true → IsInterval (unit ∷ smaller) (number ++ letters ++ rest) n
sound_more unit smaller number letters rest n more sum word =
    let parts = sum_of-some (amount_read unit number) (parts_read smaller (without_underscore rest)) n sum in
    subst (λ (k : ℕ). IsInterval (unit ∷ smaller) (number ++ letters ++ rest) k) parts.4
    (go rest (slice_index rest 0 == 95) parts.0 parts.1 refl (more (without_underscore rest) parts.1 parts.3) parts.2)
  where
    go : (rest : List ℕ) (b : Bool) (m k : ℕ) → (slice_index rest 0 == 95) ≡ b → IsInterval smaller (without_underscore rest) k → amount_read unit number ≡ Some m
        → IsInterval (unit ∷ smaller) (number ++ letters ++ rest) (m + k)
    go rest false m k is interval amount = part number letters rest amount word (rw is at interval)
    go [] true m k is interval amount = cc
    go (c ∷ rest) true m k is interval amount =
        let underscore : c ≡ 95 = same c 95 is in
        let after : IsInterval smaller rest k = rw is at interval in
        subst (λ (d : ℕ). IsInterval (unit ∷ smaller) (number ++ letters ++ d ∷ rest) (m + k)) (sym underscore) (part_and_underscore number letters rest amount word after)

sound_part : (unit : TimeUnit) (smaller : List TimeUnit) (text : List ℕ) (n : ℕ) → ((text : List ℕ) (k : ℕ) → parts_read smaller text ≡ Some k → IsInterval smaller text k)
    → (b : Bool) → is_word (letters_of unit) (part_letters text) ≡ b
    → (e : Bool) → (length (part_rest text) == 0) ≡ e
    → (if not b then parts_read smaller text else if e then last_amount_read unit (part_number text) else sum_of (amount_read unit (part_number text)) (parts_read smaller (without_underscore (part_rest text)))) ≡ Some n
    → IsInterval (unit ∷ smaller) text n
sound_part unit smaller text n more false word e end h = left_out (more text n h)
sound_part unit smaller text n more true word true end h =
    let none : part_rest text ≡ [] = no_items (part_rest text) (same (length (part_rest text)) 0 end) in
    let whole : part_number text ++ part_letters text ≡ text =
    ap (λ (letters : List ℕ). part_number text ++ letters) (sym (append-nil (part_letters text)) ∙ ap (λ (rest : List ℕ). part_letters text ++ rest) (sym none)) ∙ sym (parts_of text) in
    subst (λ (t : List ℕ). IsInterval (unit ∷ smaller) t n) whole (sound_last unit smaller (part_number text) (part_letters text) n h word)
  where
    no_items : (xs : List ℕ) → length xs ≡ 0 → xs ≡ []
    no_items [] is = refl
    no_items (x ∷ xs) is = absurd (omega arith)
sound_part unit smaller text n more true word false end h =
    subst (λ (t : List ℕ). IsInterval (unit ∷ smaller) t n) (append_assoc (part_number text) (part_letters text) (part_rest text) ∙ sym (parts_of text))
    (sound_more unit smaller (part_number text) (part_letters text) (part_rest text) n more h word)

sound : (us : List TimeUnit) (text : List ℕ) (n : ℕ) → parts_read us text ≡ Some n → IsInterval us text n
sound [] text n h = cc
sound (unit ∷ smaller) text n h = sound_part unit smaller text n (λ t k read. sound smaller t k read) (is_word (letters_of unit) (part_letters text)) refl (length (part_rest text) == 0) refl h

pub interval_read-IsInterval : (text : List ℕ) (n : ℕ) → (interval_read text ≡ Some n) ↔ IsInterval units text n
unfolding interval_read
interval_read-IsInterval text n = (sound units text n, λ interval. complete units text n interval refl)
