-- A literal without faults isn't wrapped: it is the number that is written.
use Rattle.std.proofs.Common.{◌≡◌, ℕ, zero, suc, ◌+◌, ◌-◌, ◌%◌, ◌^◌, ◌<◌, ◌≤◌, Bool, true, false, nat_lt, ◌&&◌, ◌||◌, not, if◌then◌else◌, ℤ, pos, negsuc, ◌-ℤ◌, [], ◌∷◌, refl, sym, ap, ◌∙◌, subst, arith}
use Rattle.std.proofs.Math.Nat.{mod-eq_of_lt}
use Rattle.std.proofs.lemmas.Int.{ints}
use Rattle.st_values.proofs.Cases.{below, both, is_below, is_not_below}
use Rattle.st_values.specs.Numbers.{capped, negative}
use Rattle.st_values.specs.Types.{bits_of, is_same, is_signed, limit_of}
use Rattle.st_values.specs.Values.{in_range, residue, wrapped, wrapped_number}
use Rattle.st_values.specs.declared.elem.Elem.{Elem}
use Rattle.st_values.specs.declared.elem.Elem.TheVariants as elems
use Rattle.st_tree.specs.declared.tree.constant.Constant.{Constant}
use Rattle.st_tree.specs.declared.tree.constant.Constant.TheVariants as constants
use Rattle.st_tree.specs.declared.tree.constant.SignedInteger.{SignedInteger}
use Rattle.st_tree.specs.declared.tree.position.Position.{Position}
use Rattle.st_faults.specs.Faults.{fault, when}
use Rattle.st_faults.specs.declared.fault.Fault.{Fault}
use Rattle.st_faults.specs.declared.fault.Rule.TheVariants as rules
use Rattle.st_types.specs.Initials.{integer_of, value_written}
use Rattle.st_tree.specs.Literals.{number_of}
use Rattle.st_check_expressions.specs.Known.{is_held, is_misstated, literal_faults, stated_faults, untimed_fault}
use Rattle.st_check.proofs.Apart.{kept_when}
use Rattle.st_check.proofs.DataTypes.{is_true}
use Rattle.st_meaning.proofs.TypedTerms.{same_type}
use Rattle.st_compile.specs.Terms.{IsLiteral, integer, stated, duration, false_is, true_is, value}

-- ---- a number in the range stays as it is

abbrev chosen : Elem → ℤ → ℤ
chosen e z = if in_range e z then z else (z -ℤ pos (2 ^ bits_of e))

abbrev either : Elem → ℤ → Bool → ℤ
either e z inside = if inside then z else (z -ℤ pos (2 ^ bits_of e))

kept : (e : Elem) (n : ℕ) → n < 2 ^ bits_of e → in_range e (pos n) ≡ true → wrapped_number e (pos n) ≡ pos n
kept e n few inside =
    let left : residue e (pos n) ≡ pos n = ap (λ (k : ℕ). pos k) (mod-eq_of_lt few) in
    ap (chosen e) left ∙ ap (either e (pos n)) inside

lowered : (e : Elem) (n m : ℕ) → m + suc n ≡ 2 ^ bits_of e → in_range e (pos m) ≡ false → wrapped_number e (negsuc n) ≡ negsuc n
lowered e n m sum outside =
    let few : n < 2 ^ bits_of e = omega (arith, sum) in
    let turned : 2 ^ bits_of e - 1 - n % 2 ^ bits_of e ≡ m = omega (arith, sum, mod-eq_of_lt few) in
    let left : residue e (negsuc n) ≡ pos m = ap (λ (k : ℕ). pos k) turned in
    let less : pos m -ℤ pos (2 ^ bits_of e) ≡ negsuc n = omega (arith, ints, sum) in
    ap (chosen e) left ∙ ap (either e (pos m)) outside ∙ less

signed_stays : (e : Elem) (half : ℕ) → 2 ^ bits_of e ≡ half + half → ((k : ℕ) → in_range e (pos k) ≡ nat_lt k half) → ((k : ℕ) → in_range e (negsuc k) ≡ nat_lt k half)
    → (z : ℤ) → in_range e z ≡ true → wrapped_number e z ≡ z
signed_stays e half both up down (pos k) h = let few : k < half = below k half (sym (up k) ∙ h) in kept e k (omega (arith, both, few)) h
signed_stays e half both up down (negsuc k) h =
    let few : k < half = below k half (sym (down k) ∙ h) in
    lowered e k (half + half - suc k) (omega (arith, both, few)) (up (half + half - suc k) ∙ is_not_below (half + half - suc k) half (omega (arith, few)))

unsigned_stays : (e : Elem) (most : ℕ) → 2 ^ bits_of e ≡ most → ((k : ℕ) → in_range e (pos k) ≡ nat_lt k most) → ((k : ℕ) → in_range e (negsuc k) ≡ false)
    → (z : ℤ) → in_range e z ≡ true → wrapped_number e z ≡ z
unsigned_stays e most is up down (pos k) h = let few : k < most = below k most (sym (up k) ∙ h) in kept e k (omega (arith, is, few)) h
unsigned_stays e most is up down (negsuc k) h = absurd (let no : false ≡ true = sym (down k) ∙ h in cc)

bool_stays : (z : ℤ) → in_range elems.Bool z ≡ true → wrapped elems.Bool z ≡ value elems.Bool z
bool_stays (pos zero) h = refl
bool_stays (pos (suc zero)) h = refl
bool_stays (pos (suc (suc n))) h = absurd (let few : suc (suc n) < 2 = below (suc (suc n)) 2 h in omega (arith, few))
bool_stays (negsuc n) h = absurd cc

pub stays : (e : Elem) (z : ℤ) → in_range e z ≡ true → wrapped e z ≡ value e z
stays elems.Bool z h = bool_stays z h
stays elems.Sint z h = ap (value elems.Sint) (signed_stays elems.Sint (2 ^ 7) refl (λ k. refl) (λ k. refl) z h)
stays elems.Int z h = ap (value elems.Int) (signed_stays elems.Int (2 ^ 15) refl (λ k. refl) (λ k. refl) z h)
stays elems.Dint z h = ap (value elems.Dint) (signed_stays elems.Dint (2 ^ 31) refl (λ k. refl) (λ k. refl) z h)
stays elems.Lint z h = ap (value elems.Lint) (signed_stays elems.Lint (2 ^ 63) refl (λ k. refl) (λ k. refl) z h)
stays elems.Time z h = ap (value elems.Time) (signed_stays elems.Time (2 ^ 63) refl (λ k. refl) (λ k. refl) z h)
stays elems.Usint z h = ap (value elems.Usint) (unsigned_stays elems.Usint (2 ^ 8) refl (λ k. refl) (λ k. refl) z h)
stays elems.Uint z h = ap (value elems.Uint) (unsigned_stays elems.Uint (2 ^ 16) refl (λ k. refl) (λ k. refl) z h)
stays elems.Udint z h = ap (value elems.Udint) (unsigned_stays elems.Udint (2 ^ 32) refl (λ k. refl) (λ k. refl) z h)
stays elems.Ulint z h = ap (value elems.Ulint) (unsigned_stays elems.Ulint (2 ^ 64) refl (λ k. refl) (λ k. refl) z h)
stays elems.Byte z h = ap (value elems.Byte) (unsigned_stays elems.Byte (2 ^ 8) refl (λ k. refl) (λ k. refl) z h)
stays elems.Word z h = ap (value elems.Word) (unsigned_stays elems.Word (2 ^ 16) refl (λ k. refl) (λ k. refl) z h)
stays elems.Dword z h = ap (value elems.Dword) (unsigned_stays elems.Dword (2 ^ 32) refl (λ k. refl) (λ k. refl) z h)
stays elems.Lword z h = ap (value elems.Lword) (unsigned_stays elems.Lword (2 ^ 64) refl (λ k. refl) (λ k. refl) z h)

-- ---- numbers that no type holds count as one of them

limit_small : (e : Elem) → nat_lt 18446744073709551616 (limit_of e) ≡ false
limit_small elems.Bool = refl
limit_small elems.Sint = refl
limit_small elems.Int = refl
limit_small elems.Dint = refl
limit_small elems.Lint = refl
limit_small elems.Usint = refl
limit_small elems.Uint = refl
limit_small elems.Udint = refl
limit_small elems.Ulint = refl
limit_small elems.Byte = refl
limit_small elems.Word = refl
limit_small elems.Dword = refl
limit_small elems.Lword = refl
limit_small elems.Time = refl

limit_at_most : (limit : ℕ) → nat_lt 18446744073709551616 limit ≡ false → limit ≤ 18446744073709551616
limit_at_most limit h = grind arith

few_counted : (m : ℕ) → m ≤ 18446744073709551616 → capped m ≡ m
few_counted m few = omega (arith, few)

up_counted : (e : Elem) (m : ℕ) → in_range e (pos m) ≡ true → capped m ≡ m
up_counted e m h =
    let few = below m (limit_of e) h in
    let small = limit_at_most (limit_of e) (limit_small e) in
    few_counted m (omega (arith, few, small))

down_counted : (e : Elem) (m : ℕ) → in_range e (negative m) ≡ true → negative (capped m) ≡ negative m
down_counted e zero h = refl
down_counted e (suc m) h =
    let few = below m (limit_of e) (both (is_signed e) (nat_lt m (limit_of e)) h).1 in
    let small = limit_at_most (limit_of e) (limit_small e) in
    ap negative (few_counted (suc m) (omega (arith, few, small)))

pub counted : (e : Elem) (n : SignedInteger) → in_range e (number_of n) ≡ true → integer_of n ≡ number_of n
counted e n h = by n.is_negative h where
  by : (b : Bool) → in_range e (if b then negative n.magnitude else pos n.magnitude) ≡ true
      → (if b then negative (capped n.magnitude) else pos (capped n.magnitude)) ≡ (if b then negative n.magnitude else pos n.magnitude)
  by true h = down_counted e n.magnitude h
  by false h = ap (λ (k : ℕ). pos k) (up_counted e n.magnitude h)

-- ---- a number that some type has as a value

signed_limit : (e : Elem) → (is_signed e && nat_lt 9223372036854775808 (limit_of e)) ≡ false
signed_limit elems.Bool = refl
signed_limit elems.Sint = refl
signed_limit elems.Int = refl
signed_limit elems.Dint = refl
signed_limit elems.Lint = refl
signed_limit elems.Usint = refl
signed_limit elems.Uint = refl
signed_limit elems.Udint = refl
signed_limit elems.Ulint = refl
signed_limit elems.Byte = refl
signed_limit elems.Word = refl
signed_limit elems.Dword = refl
signed_limit elems.Lword = refl
signed_limit elems.Time = refl

signed_at_most : (limit : ℕ) → nat_lt 9223372036854775808 limit ≡ false → limit ≤ 9223372036854775808
signed_at_most limit h = grind arith

or_true : (a b : Bool) → b ≡ true → (a || b) ≡ true
or_true true b h = refl
or_true false b h = h

left_true : (a b : Bool) → a ≡ true → (a || b) ≡ true
left_true true b h = refl
left_true false b h = absurd (cc)

held : (e : Elem) (z : ℤ) → in_range e z ≡ true → (in_range elems.Lint z || in_range elems.Ulint z) ≡ true
held e (pos k) h =
    let few = below k (limit_of e) h in
    let small = limit_at_most (limit_of e) (limit_small e) in
    or_true (in_range elems.Lint (pos k)) (in_range elems.Ulint (pos k)) (is_below k 18446744073709551616 (omega (arith, few, small)))
held e (negsuc k) h =
    let is = both (is_signed e) (nat_lt k (limit_of e)) h in
    let few = below k (limit_of e) is.1 in
    let small = signed_at_most (limit_of e) (sym (ap (λ (b : Bool). b && nat_lt 9223372036854775808 (limit_of e)) is.0) ∙ signed_limit e) in
    left_true (in_range elems.Lint (negsuc k)) (in_range elems.Ulint (negsuc k)) (is_below k 9223372036854775808 (omega (arith, few, small)))

-- ---- literals without faults

-- what names its type has it, and lies in its range
stated_parts : (inside : Bool) (given e : Elem) (position at : Position) → stated_faults (not inside) given position at e ≡ [] → (inside ≡ true) × (given ≡ e)
stated_parts true given e position at h = (refl, same_type given e (is_true (is_same given e) (kept_when (not (is_same given e)) (fault at rules.TypeMismatch) h)))
stated_parts false given e position at h = absurd (cc)

integer_parts : (timed inside : Bool) (f g : Fault) → (if timed then f ∷ [] else when (not inside) g) ≡ [] → (timed ≡ false) × (inside ≡ true)
integer_parts true inside f g h = absurd (cc)
integer_parts false inside f g h = (refl, is_true inside (kept_when (not inside) g h))

pub literal_is : (c : Constant) (at : Position) (e : Elem) → literal_faults c at e ≡ [] → IsLiteral e c (value_written e c)
literal_is (constants.Integer n) at e h =
    let parts = integer_parts (is_same e elems.Time) (in_range e (number_of n)) (untimed_fault n at) (fault n.position rules.OutOfRange) h in
    let same : wrapped e (integer_of n) ≡ value e (number_of n) = ap (wrapped e) (counted e n parts.1) ∙ stays e (number_of n) parts.1 in
    subst (IsLiteral e (constants.Integer n)) (sym same) (integer parts.0 parts.1)
literal_is (constants.Typed position v) at e h =
    let parts = stated_parts (in_range v.elem v.bits) v.elem e position at h in
    let same : wrapped v.elem v.bits ≡ v = stays v.elem v.bits parts.0 in
    subst (λ d. IsLiteral d (constants.Typed position v) (value_written d (constants.Typed position v))) parts.1
    (subst (IsLiteral v.elem (constants.Typed position v)) (sym same) (stated parts.0))
literal_is (constants.Duration d) at e h =
    let parts = stated_parts (in_range elems.Time d.milliseconds) elems.Time e d.position at h in
    let same : wrapped elems.Time d.milliseconds ≡ value elems.Time d.milliseconds = stays elems.Time d.milliseconds parts.0 in
    subst (λ t. IsLiteral t (constants.Duration d) (value_written t (constants.Duration d))) parts.1
    (subst (IsLiteral elems.Time (constants.Duration d)) (sym same) (duration parts.0))
literal_is (constants.Bool position b) at e h =
    let parts = stated_parts true elems.Bool e position at h in
    subst (λ t. IsLiteral t (constants.Bool position b) (value_written t (constants.Bool position b))) parts.1 (by b) where
      by : (b : Bool) → IsLiteral elems.Bool (constants.Bool position b) (value_written elems.Bool (constants.Bool position b))
      by true = true_is
      by false = false_is

pub literal_known : (c : Constant) (at : Position) (e : Elem) → literal_faults c at e ≡ [] → is_misstated c ≡ false
literal_known (constants.Integer n) at e h =
    let parts = integer_parts (is_same e elems.Time) (in_range e (number_of n)) (untimed_fault n at) (fault n.position rules.OutOfRange) h in
    ap not (held e (number_of n) parts.1)
literal_known (constants.Typed position v) at e h = ap not (stated_parts (in_range v.elem v.bits) v.elem e position at h).0
literal_known (constants.Duration d) at e h = ap not (stated_parts (in_range elems.Time d.milliseconds) elems.Time e d.position at h).0
literal_known (constants.Bool position b) at e h = refl
