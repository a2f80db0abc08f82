-- Fractions of a unit, from the last digit to the first.
use Rattle.std.proofs.Common.{◌≡◌, ◌≢◌, ℕ, zero, suc, ◌+◌, ◌*◌, ◌/◌, ◌%◌, ◌^◌, ◌<◌, Bool, true, false, ◌&&◌, List, [], ◌∷◌, length, drop, get_or, refl, ap, sym, ◌∙◌, arith, add-one, ◌==◌}
use Rattle.std.proofs.Math.Seq.{drop-cons}
use Rattle.std.proofs.Math.Arith.{mod-mul}
use Rattle.std.proofs.Math.Nat.{div-div-eq-div-mul, mul-add-div_right, mul-add-mod_self_right, mul_comm, pow-suc, pow-succ'}
use Rattle.st_values.proofs.Cases.{differs, is_below}
use Rattle.std.specs.Char.{digit_value, is_digit}
use Rattle.std.specs.List.{list_all}
use Rattle.std.specs.Option.{option_and_then}
use Rattle.std.specs.Prelude.{Option, Some, None, if◌then◌else◌}
use Rattle.std.specs.Str.Parse.{digits_value, digits_value_after}
use Rattle.st_values.specs.Durations.{fraction_read, milliseconds_of}
use Rattle.st_values.specs.declared.duration.TimeUnit.{TimeUnit}

-- one more digit before a share, in milliseconds of ten units
abbrev pub next_share : ℕ → ℕ → ℕ → Option ℕ
next_share whole d n =
    if is_digit d 10 then (if (digit_value d * whole + n) % 10 == 0 then Some ((digit_value d * whole + n) / 10) else None) else None

abbrev pub share : ℕ → List ℕ → Option ℕ
share whole [] = Some 0
share whole (d ∷ digits) = option_and_then (next_share whole d) (share whole digits)

-- the share of digits is none where that of their end is none
pub share-drop : (whole i : ℕ) (digits : List ℕ) → share whole (drop i digits) ≡ None → share whole digits ≡ None
share-drop whole zero digits none = none
share-drop whole (suc i) [] none = none
share-drop whole (suc i) (d ∷ digits) none = rw (share-drop whole i digits none) refl

ten_pow : (k : ℕ) → 0 < 10 ^ k
ten_pow zero = omega arith
ten_pow (suc k) = let more = ten_pow k in omega (arith, pow-suc 10 k)

digits_value_after-from : (n : ℕ) (digits : List ℕ) → digits_value_after 10 n digits ≡ n * 10 ^ length digits + digits_value 10 digits
digits_value_after-from n [] = omega arith
digits_value_after-from n (d ∷ digits) =
    placed n (digit_value d) (10 ^ length digits) (10 ^ suc (length digits)) _ _ _
    (digits_value_after-from (n * 10 + digit_value d) digits) (digits_value_after-from (0 * 10 + digit_value d) digits) (pow-suc 10 (length digits))
  where
    placed : (n v p q after from rest : ℕ) → after ≡ (n * 10 + v) * p + rest → from ≡ (0 * 10 + v) * p + rest → q ≡ p * 10 → after ≡ n * q + from
    placed n v p q after from rest a b e = rw e (omega arith)

-- x in units of p, where it is a whole number of them
abbrev pub whole_part : ℕ → ℕ → Option ℕ
whole_part x p = if x % p == 0 then Some (x / p) else None

both_none : (u v p : ℕ) → 0 < p → (u * p + v == 0) ≡ ((v == 0) && (u == 0))
both_none zero zero p positive = let none : 0 * p + 0 ≡ 0 = omega arith in rw none refl
both_none (suc u) zero p positive = differs (suc u * p + 0) 0 (λ none. omega arith) ∙ sym (differs (suc u) 0 (λ none. omega arith))
both_none u (suc v) p positive = differs (u * p + suc v) 0 (λ none. omega arith) ∙ sym (ap (λ b. b && (u == 0)) (differs (suc v) 0 (λ none. omega arith)))

if-then : (b c : Bool) (f : ℕ → Option ℕ) (n v : ℕ) → f n ≡ (if c then Some v else None) → option_and_then f (if b then Some n else None) ≡ (if b && c then Some v else None)
if-then true c f n v is = is
if-then false c f n v is = refl

-- a digit before what has one place fewer
whole_part-digit : (m a p : ℕ) → 0 < p → option_and_then (λ n. whole_part (m + n) 10) (whole_part a p) ≡ whole_part (m * p + a) (10 * p)
whole_part-digit m a p positive =
    let rest : (m * p + a) % p ≡ a % p = mul-add-mod_self_right m p a in
    let count : (m * p + a) / p ≡ m + a / p = mul-add-div_right positive m a in
    let left : (m * p + a) % (10 * p) ≡ ((m + a / p) % 10) * p + a % p = mod-mul (m * p + a) {m = 10} {c = p} (omega arith) positive ∙ rw (rest, count) refl in
    let quotient : (m * p + a) / (10 * p) ≡ (m + a / p) / 10 = rw (mul_comm 10 p) (sym (div-div-eq-div-mul (m * p + a) p 10) ∙ rw count refl) in
    if-then (a % p == 0) ((m + a / p) % 10 == 0) (λ n. whole_part (m + n) 10) (a / p) ((m + a / p) / 10) refl
    ∙ rw (left, quotient, both_none ((m + a / p) % 10) (a % p) p positive) refl

-- the share that digits of so many places have
abbrev pub whole_share : ℕ → List ℕ → Option ℕ
whole_share whole digits = whole_part (digits_value 10 digits * whole) (10 ^ length digits)

if-both : (p q : Bool) (f : ℕ → Option ℕ) (below above : Option ℕ) → option_and_then f below ≡ above →
    option_and_then (λ n. if p then f n else None) (if q then below else None) ≡ (if p && q then above else None)
if-both true true f below above is = is
if-both true false f below above is = refl
if-both false true f None above is = refl
if-both false true f (Some n) above is = refl
if-both false false f below above is = refl

value-digit : (v whole p n after : ℕ) → after ≡ (0 * 10 + v) * p + n → after * whole ≡ v * whole * p + n * whole
value-digit v whole p n after is = rw is (omega arith)

whole_share-digit : (whole d : ℕ) (digits : List ℕ) →
    option_and_then (λ n. whole_part (digit_value d * whole + n) 10) (whole_share whole digits) ≡ whole_share whole (d ∷ digits)
whole_share-digit whole d digits =
    let value = value-digit (digit_value d) whole (10 ^ length digits) (digits_value 10 digits) _ (digits_value_after-from (0 * 10 + digit_value d) digits) in
    whole_part-digit (digit_value d * whole) (digits_value 10 digits * whole) (10 ^ length digits) (ten_pow (length digits))
    ∙ rw (← value, ← pow-succ' 10 (length digits)) refl

-- the share of digits, from the last to the first, is that of the number that they are
pub share-whole_share : (whole : ℕ) (digits : List ℕ) → share whole digits ≡ (if list_all (λ c. is_digit c 10) digits then whole_share whole digits else None)
share-whole_share whole [] = let none : 0 * whole ≡ 0 = omega arith in rw none refl
share-whole_share whole (d ∷ digits) =
    rw (share-whole_share whole digits)
    (if-both (is_digit d 10) (list_all (λ c. is_digit c 10) digits) (λ n. whole_part (digit_value d * whole + n) 10) (whole_share whole digits) (whole_share whole (d ∷ digits))
    (whole_share-digit whole d digits))

if-and : (p q : Bool) (some : Option ℕ) → (if p && q then some else None) ≡ (if p then (if q then some else None) else None)
if-and true q some = refl
if-and false q some = refl

pub fraction_read-share : (unit : TimeUnit) (digits : List ℕ) → 0 < length digits → fraction_read unit digits ≡ share (milliseconds_of unit) digits
fraction_read-share unit digits some =
    let x = digits_value 10 digits * milliseconds_of unit in
    let p = 10 ^ length digits in
    rw (is_below 0 (length digits) some)
    (if-and (list_all (λ c. is_digit c 10) digits) (x % p == 0) (Some (x / p)) ∙ sym (share-whole_share (milliseconds_of unit) digits))

abbrev no_share : Option ℕ
no_share = None

none_either : (b : Bool) → (if b then no_share else no_share) ≡ no_share
none_either true = refl
none_either false = refl

next_share-rest : (whole d n : ℕ) → (n + digit_value d * whole) % 10 ≢ 0 → next_share whole d n ≡ None
next_share-rest whole d n rest =
    let swapped : digit_value d * whole + n ≡ n + digit_value d * whole = omega arith in
    let left : ((digit_value d * whole + n) % 10 == 0) ≡ false = rw swapped (differs _ 0 rest) in
    rw left (none_either (is_digit d 10))

-- no share is left where one more digit isn't a whole number
pub share-rest : (whole n i end : ℕ) (digits : List ℕ) → end ≡ i + 1 → i < length digits → share whole (drop end digits) ≡ Some n
    → (n + digit_value (get_or digits i 0) * whole) % 10 ≢ 0 → share whole digits ≡ None
share-rest whole n i end digits is within told rest =
    let at : share whole (drop (suc i) digits) ≡ Some n = rw (is, add-one) at told in
    share-drop whole i digits (rw (drop-cons digits i 0, at) (next_share-rest whole (get_or digits i 0) n rest))
