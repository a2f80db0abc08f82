-- The digits of a number, laid from the last one on.
use Rattle.std.proofs.Common.{◌≡◌, ℕ, zero, suc, ◌+◌, ◌*◌, ◌/◌, ◌%◌, ◌^◌, ◌<◌, ◌≤◌, Bool, true, false, cond, List, [], ◌∷◌, ◌++◌, length, drop, refl, sym, arith, add-one, ◌==◌, slice_set, ℤ, pos, negsuc, unsigned_abs}
use Rattle.std.proofs.Math.Nat.{div-lt_iff_lt-mul, mul-le-mul_left}
use Rattle.std.proofs.lemmas.Grind.{common_steps, drop-set_at}
use Rattle.std.specs.Fmt.{decimal, digits, digits_onto, digit_glyph}
use Rattle.std.specs.Int.Signed.{lt_z}
use Rattle.st_values.specs.Texts.{signed_text}

-- what stands before `laid` once the digits of n, if any are left, are laid too
abbrev pub with_rest : ℕ → ℕ → ℕ → List ℕ → List ℕ
with_rest k base n laid = cond (n == 0) laid (digits_onto k base true n laid)

with_rest-some : (k base n : ℕ) (laid : List ℕ) → 0 < n → with_rest k base n laid ≡ digits_onto k base true n laid
with_rest-some k base n laid h = grind (arith, common_steps)

-- a division leaves one digit fewer
pub fewer_places : (base n m places : ℕ) → 10 ≤ base → places ≡ suc m → n < 10 ^ places → n / base < 10 ^ m
fewer_places base n m places low e small =
    let scaled : 10 ^ m * 10 ≤ 10 ^ m * base = mul-le-mul_left (10 ^ m) low in
    let positive : 0 < base = omega arith in
    let at : n < 10 ^ suc m = rw (← e) small in
    (div-lt_iff_lt-mul {k = base} {x = n} {y = 10 ^ m} positive).1 (omega arith)

pub some_place : (n places : ℕ) → 0 < n → n < 10 ^ places → 0 < places
some_place n zero positive small = absurd (omega arith)
some_place n (suc places) positive small = omega arith

pub quotient_falls : (base n : ℕ) → 0 < n → 10 ≤ base → n / base < n
quotient_falls base n positive low =
    let scaled : n * 10 ≤ n * base = mul-le-mul_left n low in
    let some : 0 < base = omega arith in
    (div-lt_iff_lt-mul {k = base} {x = n} {y = n} some).1 (omega arith)

-- a byte set just before `end`
set_before : (buffer : List ℕ) (at end glyph : ℕ) → end ≡ at + 1 → at < length buffer → drop at (slice_set buffer at glyph) ≡ glyph ∷ drop end buffer
set_before buffer at end glyph e within = rw e (drop-set_at buffer at at glyph refl within)

digits_onto-append : (k base n : ℕ) (upper : Bool) (laid more : List ℕ) → digits_onto k base upper n (laid ++ more) ≡ digits_onto k base upper n laid ++ more
digits_onto-append zero base n upper laid more = refl
digits_onto-append (suc k) base n upper laid more =
    elim (n / base == 0) as (λ b. cond b (digit_glyph upper (n % base) ∷ (laid ++ more)) (digits_onto k base upper (n / base) (digit_glyph upper (n % base) ∷ (laid ++ more)))
    ≡ cond b (digit_glyph upper (n % base) ∷ laid) (digits_onto k base upper (n / base) (digit_glyph upper (n % base) ∷ laid)) ++ more)
    [ true ↦ refl | false ↦ digits_onto-append k base (n / base) upper (digit_glyph upper (n % base) ∷ laid) more ]

digits_onto-digits : (base n : ℕ) (more : List ℕ) → digits_onto 64 base true n more ≡ digits base true n ++ more
unfolding digits
digits_onto-digits base n more = digits_onto-append 64 base n true [] more

-- after the first digit
pub laid_first : (base n : ℕ) (buffer : List ℕ) (at end k : ℕ) → end ≡ at + 1 → at < length buffer → k ≡ 63
    → with_rest k base (n / base) (drop at (slice_set buffer at (digit_glyph true (n % base)))) ≡ digits base true n ++ drop end buffer
laid_first base n buffer at end k e within ke =
    rw (ke, set_before buffer at end (digit_glyph true (n % base)) e within) (digits_onto-digits base n (drop end buffer))

-- after one more digit
pub laid_next : (base n : ℕ) (buffer : List ℕ) (at end k more : ℕ) → end ≡ at + 1 → at < length buffer → more ≡ suc k → 0 < n
    → with_rest k base (n / base) (drop at (slice_set buffer at (digit_glyph true (n % base)))) ≡ with_rest more base n (drop end buffer)
laid_next base n buffer at end k more e within ke positive =
    rw (ke, set_before buffer at end (digit_glyph true (n % base)) e within) (sym (with_rest-some (suc k) base n (drop end buffer) positive))

-- at base ten both cases have the same digits
glyph_ten : (d : ℕ) → d < 10 → digit_glyph true d ≡ digit_glyph false d
glyph_ten d h = grind (arith, common_steps)

digits_onto-ten : (k n : ℕ) (laid : List ℕ) → digits_onto k 10 true n laid ≡ digits_onto k 10 false n laid
digits_onto-ten zero n laid = refl
digits_onto-ten (suc k) n laid = rw (glyph_ten (n % 10) (omega arith), digits_onto-ten k (n / 10) (digit_glyph false (n % 10) ∷ laid)) refl

pub digits-ten : (n : ℕ) → digits 10 true n ≡ decimal n
unfolding digits
digits-ten n = digits_onto-ten 64 n []

pub signed_text-below : (z : ℤ) → lt_z z (pos 0) ≡ true → signed_text z ≡ 45 ∷ decimal (unsigned_abs z)
signed_text-below (pos n) h = absurd (grind arith)
signed_text-below (negsuc n) h = rw add-one refl

pub signed_text-above : (z : ℤ) → lt_z z (pos 0) ≡ false → signed_text z ≡ decimal (unsigned_abs z)
signed_text-above (pos n) h = refl
signed_text-above (negsuc n) h = absurd (grind arith)
