-- Numbers as cells of the stack, and back.
use Rattle.std.proofs.Common.{◌≡◌, ℕ, zero, suc, ◌+◌, ◌-◌, ◌^◌, ◌<◌, ◌≤◌, nat_le, nat_lt, Bool, true, false, ◌&&◌, if◌then◌else◌, ◌⊎◌, inl, inr, ℤ, pos, negsuc, IsTrue, refl, sym, ap, ◌∙◌, subst, arith, lit≤}
use Rattle.std.specs.Prelude.{◌||◌, ◌+ℤ◌, ◌-ℤ◌, ◌≤ℤ◌, int_le}
use Rattle.std.proofs.Math.Dec.{leb-zero}
use Rattle.std.proofs.lemmas.Bool.{and_from, and_parts, cases_lt, false_from_ne_true, le-leb, leb-true, ltb-true, lt-ltb, le-ltb}
use Rattle.std.proofs.lemmas.Bool.Decides.{same_from_decides}
use Rattle.std.proofs.lemmas.Int.{ints}
use Rattle.st_values.specs.Types.{is_signed, limit_of}
use Rattle.st_values.specs.Values.{in_range}
use Rattle.st_values.specs.declared.elem.Elem.{Elem}
use Rattle.st_values.specs.declared.elem.Elem.TheVariants as elems
use Rattle.st_values.specs.declared.value.Value.{Value}
use Rattle.st_tree.specs.declared.tree.declaration.Subrange.{Subrange}
use Rattle.st_leaves.specs.Subscripts.{values_from}
use Rattle.st_leaves.specs.Bounds.{IsBounded}
use Rattle.st_tree.specs.Literals.{number_of}
use Rattle.st_leaves.specs.Places.{extent_of}
use Rattle.st_operators.specs.Laws.{IsOf}
use Rattle.st_meaning.specs.Meaning.{is_within}
use Rattle.st_meaning.specs.Statements.{goes_on, is_nonzero}
use Rattle.st_code.specs.Code.{cell_of}
use Rattle.st_code.specs.Machine.{is_cell_of, number_in, value_in}

-- the values of a signed type lie below 2 to the 63, those of another one below 2 to the 64
limits : (e : Elem) → limit_of e ≤ (if is_signed e then 2 ^ 63 else 2 ^ 64)
limits elems.Bool = lit≤ tt
limits elems.Sint = lit≤ tt
limits elems.Int = lit≤ tt
limits elems.Dint = lit≤ tt
limits elems.Lint = lit≤ tt
limits elems.Usint = lit≤ tt
limits elems.Uint = lit≤ tt
limits elems.Udint = lit≤ tt
limits elems.Ulint = lit≤ tt
limits elems.Byte = lit≤ tt
limits elems.Word = lit≤ tt
limits elems.Dword = lit≤ tt
limits elems.Lword = lit≤ tt
limits elems.Time = lit≤ tt

-- a number below 2 to the 63 is its own cell
low_cell : (n : ℕ) → n < 2 ^ 63 → cell_of (pos n) ≡ pos n
low_cell n h = ap (λ b. if b then pos n else (pos n -ℤ pos (2 ^ 63 + 2 ^ 63))) (lt-ltb n (2 ^ 63) h)

-- one from there on has a cell below 0
high_cell : (n k : ℕ) → n + suc k ≡ 2 ^ 64 → 2 ^ 63 ≤ n → cell_of (pos n) ≡ negsuc k
high_cell n k e h =
    let down : pos n -ℤ pos (2 ^ 64) ≡ negsuc k = omega (arith, ints, e) in
    ap (λ b. if b then pos n else (pos n -ℤ pos (2 ^ 64))) (le-ltb n (2 ^ 63) h) ∙ down

-- the range of a type, by its limit
abbrev within : Bool → ℕ → ℤ → Bool
within signed limit (pos n) = nat_lt n limit
within signed limit (negsuc n) = signed && nat_lt n limit

within_is : (e : Elem) (n : ℤ) → in_range e n ≡ within (is_signed e) (limit_of e) n
within_is e (pos n) = refl
within_is e (negsuc n) = refl

abbrev unsigned_in : ℤ → ℤ
unsigned_in cell = if int_le (pos 0) cell then cell else (cell +ℤ pos (2 ^ 64))

read_unsigned : (n : ℕ) → ((n < 2 ^ 63) ⊎ (2 ^ 63 ≤ n)) → n < 2 ^ 64 → unsigned_in (cell_of (pos n)) ≡ pos n
read_unsigned n (inl low) h = ap unsigned_in (low_cell n low) ∙ ap (λ b. if b then pos n else (pos n +ℤ pos (2 ^ 64))) (leb-zero n)
read_unsigned n (inr high) h =
    let k = 2 ^ 64 - 1 - n in
    let e : n + suc k ≡ 2 ^ 64 = omega arith in
    ap unsigned_in (high_cell n k e high) ∙ omega (arith, ints)

-- the number that a cell is, of a type whose values lie below a limit
read_back : (signed : Bool) (limit : ℕ) (n : ℤ) → limit ≤ (if signed then 2 ^ 63 else 2 ^ 64) → within signed limit n ≡ true
    → (if signed || int_le (pos 0) (cell_of n) then cell_of n else (cell_of n +ℤ pos (2 ^ 64))) ≡ n
read_back true limit (pos n) few h = low_cell n (omega (arith, few, ltb-true n limit h))
read_back true limit (negsuc n) few h = refl
read_back false limit (pos n) few h = read_unsigned n (cases_lt n (2 ^ 63)) (omega (arith, few, ltb-true n limit h))
read_back false limit (negsuc n) few h = absurd (cc)

-- a cell of a number of a type is that number again
pub number_back : (e : Elem) (n : ℤ) → IsTrue (in_range e n) → number_in e (cell_of n) ≡ n
number_back e n h = read_back (is_signed e) (limit_of e) n (limits e) (sym (within_is e n) ∙ h)

pub is_cell : (e : Elem) (n : ℤ) → IsTrue (in_range e n) → is_cell_of e (cell_of n) ≡ true
is_cell e n h = ap (in_range e) (number_back e n h) ∙ h

-- a value of a type, by its number
abbrev valued : Elem → ℤ → Value
valued e n = record { elem = e; bits = n }

pub value_back : (e : Elem) (v : Value) → IsOf e v → value_in e (cell_of v.bits) ≡ v
value_back e v h =
    let ranged : IsTrue (in_range e v.bits) = subst (λ f. IsTrue (in_range f v.bits)) h.of_type h.in_range in
    ap (λ n. valued e n) (number_back e v.bits ranged) ∙ ap (λ f. valued f v.bits) (sym h.of_type)

pub number_of_value : (e : Elem) (v : Value) → IsOf e v → number_in e (cell_of v.bits) ≡ v.bits
number_of_value e v h = ap (λ u. u.bits) (value_back e v h)

pub is_cell_of_value : (e : Elem) (v : Value) → IsOf e v → is_cell_of e (cell_of v.bits) ≡ true
is_cell_of_value e v h =
    let ranged : IsTrue (in_range e v.bits) = subst (λ f. IsTrue (in_range f v.bits)) h.of_type h.in_range in
    is_cell e v.bits ranged

-- a cell is 0 where the number is
nonzero_pos : (n : ℕ) → ((suc n < 2 ^ 63) ⊎ (2 ^ 63 ≤ suc n)) → suc n < 2 ^ 64 → is_nonzero (cell_of (pos (suc n))) ≡ true
nonzero_pos n (inl low) h = ap is_nonzero (low_cell (suc n) low)
nonzero_pos n (inr high) h =
    let k = 2 ^ 64 - 1 - suc n in
    let e : suc n + suc k ≡ 2 ^ 64 = omega arith in
    ap is_nonzero (high_cell (suc n) k e high)

nonzero_below : (signed : Bool) (limit : ℕ) (n : ℤ) → limit ≤ (if signed then 2 ^ 63 else 2 ^ 64) → within signed limit n ≡ true → is_nonzero (cell_of n) ≡ is_nonzero n
nonzero_below signed limit (pos zero) few h = refl
nonzero_below true limit (pos (suc n)) few h = nonzero_pos n (cases_lt (suc n) (2 ^ 63)) (omega (arith, few, ltb-true (suc n) limit h))
nonzero_below false limit (pos (suc n)) few h = nonzero_pos n (cases_lt (suc n) (2 ^ 63)) (omega (arith, few, ltb-true (suc n) limit h))
nonzero_below signed limit (negsuc n) few h = refl

pub nonzero_cell : (e : Elem) (v : Value) → IsOf e v → is_nonzero (cell_of v.bits) ≡ is_nonzero v.bits
nonzero_cell e v h = nonzero_below (is_signed v.elem) (limit_of v.elem) v.bits (limits v.elem) (sym (within_is v.elem v.bits) ∙ h.in_range)

-- ---- counting

-- a number between two of a type is one of it
between_limits : (signed : Bool) (limit : ℕ) (a n b : ℤ) → within signed limit a ≡ true → within signed limit b ≡ true → int_le a n ≡ true → int_le n b ≡ true
    → within signed limit n ≡ true
between_limits signed limit a (pos n) (pos m) ha hb p q = lt-ltb n limit (omega (arith, ltb-true m limit hb, leb-true n m q))
between_limits signed limit a (pos n) (negsuc m) ha hb p q = absurd (cc)
between_limits signed limit (pos m) (negsuc n) b ha hb p q = absurd (cc)
between_limits signed limit (negsuc m) (negsuc n) b ha hb p q =
    let parts = and_parts signed (nat_lt m limit) ha in
    and_from signed (nat_lt n limit) parts.0 (lt-ltb n limit (omega (arith, ltb-true m limit parts.1, leb-true n m p)))

between : (e : Elem) (a n b : ℤ) → IsTrue (in_range e a) → IsTrue (in_range e b) → int_le a n ≡ true → int_le n b ≡ true → IsTrue (in_range e n)
between e a n b ha hb p q = within_is e n ∙ between_limits (is_signed e) (limit_of e) a n b (sym (within_is e a) ∙ ha) (sym (within_is e b) ∙ hb) p q

le_test : (a b : ℤ) → a ≤ℤ b → int_le a b ≡ true
le_test (pos a) (pos b) h = le-leb a b (omega (arith, ints, h))
le_test (pos a) (negsuc b) h = absurd (omega (arith, ints, h))
le_test (negsuc a) (pos b) h = refl
le_test (negsuc a) (negsuc b) h = le-leb b a (omega (arith, ints, h))

le_tested : (a b : ℤ) → int_le a b ≡ true → a ≤ℤ b
le_tested (pos a) (pos b) h = let le = leb-true a b h in omega (arith, ints, le)
le_tested (pos a) (negsuc b) h = absurd (cc)
le_tested (negsuc a) (pos b) h = omega (arith, ints)
le_tested (negsuc a) (negsuc b) h = let le = leb-true b a h in omega (arith, ints, le)

-- where FOR goes on, its next number is one of its type
pub next_ranged : (e : Elem) (counter last step : ℤ) → IsTrue (in_range e counter) → IsTrue (in_range e last) → goes_on (counter +ℤ step) last step ≡ true
    → IsTrue (in_range e (counter +ℤ step))
next_ranged e counter last (pos n) hc hl h =
    let up : counter ≤ℤ (counter +ℤ pos n) = omega (arith, ints) in
    between e counter (counter +ℤ pos n) last hc hl (le_test counter (counter +ℤ pos n) up) h
next_ranged e counter last (negsuc n) hc hl h =
    let down : (counter +ℤ negsuc n) ≤ℤ counter = omega (arith, ints) in
    between e last (counter +ℤ negsuc n) counter hl hc h (le_test (counter +ℤ negsuc n) counter down)

-- ---- subscripts

-- a subscript below the lower bound
pub below_bound : (r : Subrange) (i : ℤ) (n : ℕ) → i -ℤ number_of r.lower ≡ negsuc n → is_within r i ≡ false
below_bound r i n e =
    let no : int_le (number_of r.lower) i ≡ true → ⊥ = λ t. let le = le_tested (number_of r.lower) i t in absurd (omega (arith, ints, e, le)) in
    ap (λ b. b && int_le i (number_of r.upper)) (false_from_ne_true (int_le (number_of r.lower) i) no)

extent_less_one : (z : ℤ) (m : ℕ) → z ≡ pos m → values_from z - 1 ≡ m
extent_less_one z m e = ap (λ y. values_from y - 1) e ∙ omega arith

-- one so far above it
pub above_bound : (r : Subrange) (i : ℤ) (far : ℕ) → IsBounded r → i -ℤ number_of r.lower ≡ pos far → is_within r i ≡ nat_le far (extent_of r - 1)
above_bound r i far bounded e =
    let low = number_of r.lower in let high = number_of r.upper in
    let ordered = bounded.ordered in
    let begun : low ≤ℤ i = omega (arith, ints, e) in
    ap (λ b. b && int_le i high) (le_test low i begun) ∙ reaches_up (high -ℤ low) refl where
      reaches_up : (z : ℤ) → number_of r.upper -ℤ number_of r.lower ≡ z → int_le i (number_of r.upper) ≡ nat_le far (extent_of r - 1)
      reaches_up (pos m) f =
          let last = extent_less_one (number_of r.upper -ℤ number_of r.lower) m f in
          same_from_decides (int_le i (number_of r.upper)) (nat_le far (extent_of r - 1))
          ((λ t. let le = le_tested i (number_of r.upper) t in omega (arith, ints, e, f, le, last)), (λ le. le_test i (number_of r.upper) (omega (arith, ints, e, f, le, last))))
          ((λ t. leb-true far (extent_of r - 1) t), (λ le. le-leb far (extent_of r - 1) le))
      reaches_up (negsuc m) f = let ordered = bounded.ordered in absurd (omega (arith, ints, f, ordered))

-- an array's bound has at least one number
pub some_extent : (r : Subrange) → IsBounded r → 1 ≤ extent_of r
some_extent r bounded = some_values (number_of r.upper -ℤ number_of r.lower) refl where
  some_values : (z : ℤ) → number_of r.upper -ℤ number_of r.lower ≡ z → 1 ≤ values_from z
  some_values (pos m) f = omega arith
  some_values (negsuc m) f = let ordered = bounded.ordered in absurd (omega (arith, ints, f, ordered))

-- how far it stands above the lower bound
pub distance_above : (r : Subrange) (i : ℤ) (far : ℕ) → i -ℤ number_of r.lower ≡ pos far → i ≡ number_of r.lower +ℤ pos far
distance_above r i far e = omega (arith, ints, e)
