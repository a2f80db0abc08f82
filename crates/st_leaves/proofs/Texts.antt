-- How long the texts of numbers are.
use Rattle.std.proofs.Common.{◌≡◌, ℕ, zero, suc, ◌+◌, ◌/◌, ◌%◌, ◌^◌, ◌≤◌, ◌<◌, ℤ, pos, negsuc, ◌+ℤ◌, ◌-ℤ◌, [], ◌∷◌, map, length, refl, ap, sym, ◌∙◌, arith, ◌⊎◌, inl, inr, length-append, subst}
use Rattle.std.specs.Prelude.{max, min, Bool, false, true}
use Rattle.std.specs.Fmt.{decimal, signed_decimal}
use Rattle.std.proofs.lemmas.Fmt.{decimal_digit, decimal_step_wide, length-decimal-le_wide}
use Rattle.st_leaves.specs.Sizes.{AreChoices, largest}
use Rattle.st_leaves.specs.declared.limited.Choices.{Choices}
use Rattle.std.proofs.lemmas.Int.{ints}
use Rattle.st_leaves.specs.Subscripts.{next, numbers, texts_between, value_of, values_from}
use Rattle.st_leaves.specs.declared.subrange.Number.{Number}

-- of a number of one digit
pub short : (n : ℕ) → n < 10 → length (decimal n) ≡ 1
short n h = ap length (decimal_digit n h)

-- one digit more than a tenth of it
pub longer_by_one : (n : ℕ) → 10 ≤ n → n < 10 ^ 64 → length (decimal n) ≡ length (decimal (n / 10)) + 1
longer_by_one n h small = ap length (decimal_step_wide n h small) ∙ length-append (decimal (n / 10)) ((48 + n % 10) ∷ [])

below_ten : (n : ℕ) → (n < 10) ⊎ (10 ≤ n)
below_ten n = grind arith

abbrev pub Longer : ℕ → ℕ → Type 0
Longer n m = length (decimal n) ≤ length (decimal m)

longer_few : (n m : ℕ) → n ≤ m → m < 10 → Longer n m
longer_few n m le few = omega (arith, short n (omega (arith, few, le)), short m few)

longer_many : (n m : ℕ) → n ≤ m → m < 10 ^ 64 → 10 ≤ m → ((n < 10) ⊎ (10 ≤ n)) → Longer (n / 10) (m / 10) → Longer n m
longer_many n m le small many (inl few) h = omega (arith, short n few, longer_by_one m many small)
longer_many n m le small many (inr more) h = omega (arith, longer_by_one n more (omega (arith, le, small)), longer_by_one m many small, h)

longer_by : (n m : ℕ) → n ≤ m → m < 10 ^ 64 → ((m < 10) ⊎ (10 ≤ m)) → Longer (n / 10) (m / 10) → Longer n m
longer_by n m le small (inl few) h = longer_few n m le few
longer_by n m le small (inr many) h = longer_many n m le small many (below_ten n) h

-- a larger number has no fewer digits
longer_within : (k n m : ℕ) → m ≤ k → n ≤ m → m < 10 ^ 64 → Longer n m
longer_within zero n m h le small = longer_few n m le (omega (arith, h))
longer_within (suc k) n m h le small = longer_by n m le small (below_ten m) (longer_within k (n / 10) (m / 10) (omega (arith, h)) (omega (arith, le)) (omega (arith, small)))

pub longer : (n m : ℕ) → n ≤ m → m < 10 ^ 64 → Longer n m
longer n m le small = longer_within m n m (omega arith) le small

-- ---- signed numbers

abbrev pub text_len : ℤ → ℕ
text_len z = length (signed_decimal z)

-- so many numbers on
abbrev pub last : ℕ → ℤ → ℤ
last zero from = from
last (suc n) from = last n (next from)

-- how far from zero a number may be
abbrev pub IsNear : ℤ → Type 0
IsNear (pos n) = n < 10 ^ 64
IsNear (negsuc n) = suc n < 10 ^ 64

last_pos : (n k : ℕ) → last n (pos k) ≡ pos (n + k)
last_pos zero k = ap pos (zero_add k) where
  zero_add : (k : ℕ) → k ≡ 0 + k
  zero_add k = omega arith
last_pos (suc n) k = last_pos n (k + 1) ∙ ap pos (one_on n k) where
  one_on : (n k : ℕ) → n + (k + 1) ≡ suc n + k
  one_on n k = omega arith

-- The text of no number between two is longer than both of theirs: going on by one makes it longer only past zero.
step : (n : ℕ) (z : ℤ) → IsNear z → IsNear (last (suc n) z) → text_len (next z) ≤ max (text_len z) (text_len (last (suc n) z))
step n (pos k) near far =
    let at : last (suc n) (pos k) ≡ pos (n + (k + 1)) = last_pos n (k + 1) in
    let small : n + (k + 1) < 10 ^ 64 = subst IsNear at far in
    omega (arith, ap text_len at, longer (k + 1) (n + (k + 1)) (omega arith) small)
step n (negsuc zero) near far = omega (arith, short 0 (omega arith), short 1 (omega arith))
step n (negsuc (suc k)) near far = omega (arith, longer (suc k) (suc (suc k)) (omega arith) near)

near_next : (n : ℕ) (z : ℤ) → IsNear z → IsNear (last (suc n) z) → IsNear (next z)
near_next n (pos k) near far = omega (arith, subst IsNear (last_pos n (k + 1)) far)
near_next n (negsuc zero) near far = omega arith
near_next n (negsuc (suc k)) near far = omega (arith, near)

-- of all numbers from one to another the longest text is that of the one or of the other
pub ends : (n : ℕ) (z : ℤ) → IsNear z → IsNear (last n z) → largest (map text_len (numbers (suc n) z)) ≡ max (text_len z) (text_len (last n z))
ends zero z near far = omega arith
ends (suc n) z near far = omega (arith, ends n (next z) (near_next n z near far) far, step n z near far)

pub count : (n : ℕ) (z : ℤ) → length (map text_len (numbers n z)) ≡ n
count zero z = refl
count (suc n) z = ap suc (count n (next z))

pub next_is : (z : ℤ) → next z ≡ z +ℤ pos 1
next_is (pos n) = omega (arith, ints)
next_is (negsuc zero) = omega (arith, ints)
next_is (negsuc (suc n)) = omega (arith, ints)

last_is : (n : ℕ) (z : ℤ) → last n z ≡ z +ℤ pos n
last_is zero z = omega (arith, ints)
last_is (suc n) z = last_is n (next z) ∙ ap (λ y. y +ℤ pos n) (next_is z) ∙ omega (arith, ints)

-- ---- the texts of a subscript

pub near : (n : Number) → n.magnitude < 2 ^ 128 → IsNear (value_of n)
near n small = by n.is_negative n.magnitude (omega (arith, small)) where
  by : (is_negative : Bool) (m : ℕ) → m < 10 ^ 64 → IsNear (value_of (record { is_negative = is_negative; magnitude = m }))
  by false m h = h
  by true zero h = h
  by true (suc m) h = h

-- so many numbers on from the lower one is the upper one
pub ordered : (lower upper : ℤ) → IsNear lower → IsNear upper → 0 < values_from (upper -ℤ lower) → largest (texts_between lower upper) ≡ max (text_len lower) (text_len upper)
ordered lower upper one other some = by (upper -ℤ lower) refl some where
  by : (d : ℤ) → d ≡ upper -ℤ lower → 0 < values_from d → largest (map text_len (numbers (values_from d) lower)) ≡ max (text_len lower) (text_len upper)
  by (pos n) is some =
      let at : last n lower ≡ upper = last_is n lower ∙ omega (arith, ints, is) in
      ap (λ k. largest (map text_len (numbers k lower))) (add_one n) ∙ ends n lower one (subst IsNear (sym at) other) ∙ ap (λ z. max (text_len lower) (text_len z)) at where
        add_one : (n : ℕ) → n + 1 ≡ suc n
        add_one n = omega arith
  by (negsuc n) is some = absurd (omega (arith, some))

counted : (lower upper : ℤ) → length (texts_between lower upper) ≡ values_from (upper -ℤ lower)
counted lower upper = count (values_from (upper -ℤ lower)) lower

none_between : (lower upper : ℤ) → values_from (upper -ℤ lower) ≡ 0 → largest (texts_between lower upper) ≡ 0
none_between lower upper none = ap (λ n. largest (map text_len (numbers n lower))) none

pub no_texts : (a : Choices) (lower upper : ℤ) → a.count ≡ min (values_from (upper -ℤ lower)) 1000000 → a.count ≡ 0 → a.longest ≡ 0 → AreChoices a (texts_between lower upper)
no_texts a lower upper is none longest = record {
  count = omega (arith, is, counted lower upper);
  longest = omega (arith, longest, none_between lower upper (omega (arith, is, none)));
}

pub texts_of : (a : Choices) (lower upper : ℤ) → IsNear lower → IsNear upper → a.count ≡ min (values_from (upper -ℤ lower)) 1000000 → 0 < a.count
    → a.longest ≡ max (text_len lower) (text_len upper) → max (text_len lower) (text_len upper) ≤ 1000000 → AreChoices a (texts_between lower upper)
texts_of a lower upper one other is some longest small = record {
  count = omega (arith, is, counted lower upper);
  longest = omega (arith, longest, small, ordered lower upper one other (omega (arith, is, some)));
}

-- ---- digits, counted

-- of the number so many digits are counted, but for those of the rest
pub record Counted (number rest digits : ℕ) : Type 0 where
  pub all : length (decimal number) + 1 ≡ length (decimal rest) + digits
  pub less : rest ≤ number

pub counted_one : (number rest digits : ℕ) → number < 2 ^ 128 → 10 ≤ rest → Counted number rest digits → Counted number (rest / 10) (digits + 1)
counted_one number rest digits small many c = record {
  all = omega (arith, c.all, longer_by_one rest many (omega (arith, small, c.less)));
  less = omega (arith, c.less);
}

pub few_counted : (number rest digits : ℕ) → number < 2 ^ 128 → 10 ≤ rest → Counted number rest digits → digits + 1 < 2 ^ 64
few_counted number rest digits small many c =
    omega (arith, c.all, length-decimal-le_wide 39 number (omega arith) (omega (arith, small)) (omega (arith, small)))

pub all_counted : (number rest digits : ℕ) → rest < 10 → Counted number rest digits → digits ≡ length (decimal number)
all_counted number rest digits few c = omega (arith, c.all, short rest few)
