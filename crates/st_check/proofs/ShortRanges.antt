-- What has no fault has short ranges, and so have all arrays that it declares.
use Rattle.std.proofs.Common.{◌≡◌, ℕ, zero, suc, ◌+◌, ◌<◌, ◌≤◌, ◌^◌, ℤ, pos, negsuc, ◌-ℤ◌, ◌≤ℤ◌, int_lt, nat_abs, Bool, true, false, not, if◌then◌else◌, [], Option, Some, None, is_some, refl, ap, subst, arith}
use Rattle.std.specs.List.{AllByRecursion as Each}
use Rattle.std.proofs.lemmas.Bool.{ltb-true}
use Rattle.std.proofs.lemmas.Int.{ints}
use Rattle.st_values.specs.Values.{in_range}
use Rattle.st_values.specs.declared.elem.Elem.TheVariants as elems
use Rattle.st_tree.specs.declared.tree.constant.SignedInteger.{SignedInteger}
use Rattle.st_tree.specs.declared.tree.declaration.Subrange.{Subrange}
use Rattle.st_tree.specs.declared.tree.position.Position.{Position}
use Rattle.st_faults.specs.Faults.{fault, when}
use Rattle.st_faults.specs.declared.fault.Rule.TheVariants as rules
use Rattle.st_leaves.specs.Subscripts.{next, numbers, values_from}
use Rattle.st_tree.specs.Literals.{number_of}
use Rattle.st_check_units.specs.Subscripts.{bound_by, bound_of, is_upper, subrange_faults}
use Rattle.st_check.proofs.Apart.{kept_when, nothing_parts}
use Rattle.st_check.proofs.ShortSubscripts.{IsShortRange}

-- ---- numbers, one after another

next_near : (z : ℤ) → nat_abs (next z) ≤ suc (nat_abs z)
next_near (pos n) = omega arith
next_near (negsuc zero) = omega arith
next_near (negsuc (suc n)) = omega arith

short_numbers : (n : ℕ) (from : ℤ) → nat_abs from + n ≤ 10 ^ 64 → Each (λ i. nat_abs i < 10 ^ 64) (numbers n from)
short_numbers zero from h = tt
short_numbers (suc n) from h = (let near = next_near from in (omega (arith, h), short_numbers n (next from) (omega (arith, h, near))))

-- from a number to another there are no more than both are far from zero, and one
count_near : (lower upper : ℤ) → values_from (upper -ℤ lower) ≤ nat_abs upper + nat_abs lower + 1
count_near lower upper = by lower upper (upper -ℤ lower) refl
  where
    by : (l u d : ℤ) → d ≡ u -ℤ l → values_from d ≤ nat_abs u + nat_abs l + 1
    by l u (negsuc n) is = omega arith
    by (pos a) (pos b) (pos n) is = omega (arith, ints, is)
    by (pos a) (negsuc b) (pos n) is = omega (arith, ints, is)
    by (negsuc a) (pos b) (pos n) is = omega (arith, ints, is)
    by (negsuc a) (negsuc b) (pos n) is = omega (arith, ints, is)

-- ---- bounds

near_lint : (z : ℤ) → in_range elems.Lint z ≡ true → nat_abs z ≤ 2 ^ 63
near_lint (pos n) h = (let below = ltb-true n (2 ^ 63) h in omega (arith, below))
near_lint (negsuc n) h = (let below = ltb-true n (2 ^ 63) h in omega (arith, below))

known_in_range : (z : ℤ) → is_some (bound_by z) ≡ true → in_range elems.Lint z ≡ true
known_in_range z h = by (in_range elems.Lint z) h
  where
    by : (b : Bool) → is_some (if b then Some z else None) ≡ true → b ≡ true
    by true h = refl
    by false h = absurd (cc)

upper_known : (lower upper : Option ℤ) → is_upper lower upper ≡ true → is_some upper ≡ true
upper_known lower None h = absurd (cc)
upper_known lower (Some u) h = refl

bound_of_near : (is_negative : Bool) (magnitude : ℕ) (position : Position) → is_some (bound_of (record { is_negative = is_negative; magnitude = magnitude; position = position })) ≡ true
    → nat_abs (number_of (record { is_negative = is_negative; magnitude = magnitude; position = position })) ≤ 2 ^ 63
bound_of_near true zero position h = near_lint (pos 0) (known_in_range (pos 0) h)
bound_of_near true (suc n) position h = near_lint (negsuc n) (known_in_range (negsuc n) h)
bound_of_near false n position h = near_lint (pos n) (known_in_range (pos n) h)

bound_near : (n : SignedInteger) → is_some (bound_of n) ≡ true → nat_abs (number_of n) ≤ 2 ^ 63
bound_near n h = bound_of_near n.is_negative n.magnitude n.position h

-- a bound that is known is a number of LINT, and it is the one that is written
lint_of : (is_negative : Bool) (magnitude : ℕ) (position : Position) → is_some (bound_of (record { is_negative = is_negative; magnitude = magnitude; position = position })) ≡ true
    → in_range elems.Lint (number_of (record { is_negative = is_negative; magnitude = magnitude; position = position })) ≡ true
lint_of true zero position h = known_in_range (pos 0) h
lint_of true (suc n) position h = known_in_range (negsuc n) h
lint_of false n position h = known_in_range (pos n) h

is_lint : (n : SignedInteger) → is_some (bound_of n) ≡ true → in_range elems.Lint (number_of n) ≡ true
is_lint n h = lint_of n.is_negative n.magnitude n.position h

written_of : (is_negative : Bool) (magnitude : ℕ) (position : Position) → is_some (bound_of (record { is_negative = is_negative; magnitude = magnitude; position = position })) ≡ true
    → bound_of (record { is_negative = is_negative; magnitude = magnitude; position = position }) ≡ Some (number_of (record { is_negative = is_negative; magnitude = magnitude; position = position }))
written_of true zero position h = ap (λ b. if b then Some (pos 0) else None) (known_in_range (pos 0) h)
written_of true (suc n) position h = ap (λ b. if b then Some (negsuc n) else None) (known_in_range (negsuc n) h)
written_of false n position h = ap (λ b. if b then Some (pos n) else None) (known_in_range (pos n) h)

is_written : (n : SignedInteger) → is_some (bound_of n) ≡ true → bound_of n ≡ Some (number_of n)
is_written n h = written_of n.is_negative n.magnitude n.position h

in_order : (lower upper : ℤ) (low high : Option ℤ) → low ≡ Some lower → high ≡ Some upper → is_upper low high ≡ true → lower ≤ℤ upper
in_order lower upper low high known found h =
    let e : not (int_lt upper lower) ≡ true = subst (λ o. is_upper (Some lower) o ≡ true) found (subst (λ o. is_upper o high ≡ true) known h) in
    not_below lower upper (int_lt upper lower) refl e
  where
    not_below : (lower upper : ℤ) (b : Bool) → int_lt upper lower ≡ b → not b ≡ true → lower ≤ℤ upper
    not_below lower upper false is h = omega (arith, ints, is)
    not_below lower upper true is h = absurd cc

is_true : (b : Bool) → not b ≡ false → b ≡ true
is_true true h = refl
is_true false h = absurd (cc)

-- a range without faults is short
pub short_range : (r : Subrange) → subrange_faults r ≡ [] → IsShortRange r
short_range r none =
    let parts = nothing_parts (when (not (is_some (bound_of r.lower))) (fault r.lower.position rules.OutOfRange))
    (when (not (is_upper (bound_of r.lower) (bound_of r.upper))) (fault r.upper.position rules.OutOfRange)) none in
    let ordered = is_true (is_upper (bound_of r.lower) (bound_of r.upper)) (kept_when (not (is_upper (bound_of r.lower) (bound_of r.upper))) (fault r.upper.position rules.OutOfRange) parts.1) in
    let lower_known = is_true (is_some (bound_of r.lower)) (kept_when (not (is_some (bound_of r.lower))) (fault r.lower.position rules.OutOfRange) parts.0) in
    let upper_is_known = upper_known (bound_of r.lower) (bound_of r.upper) ordered in
    let lower = bound_near r.lower lower_known in
    let upper = bound_near r.upper upper_is_known in
    let count = count_near (number_of r.lower) (number_of r.upper) in (
      short_numbers (values_from (number_of r.upper -ℤ number_of r.lower)) (number_of r.lower) (omega (arith, lower, upper, count)),
      record {
        lower = is_lint r.lower lower_known;
        upper = is_lint r.upper upper_is_known;
        ordered = in_order (number_of r.lower) (number_of r.upper) (bound_of r.lower) (bound_of r.upper) (is_written r.lower lower_known) (is_written r.upper upper_is_known) ordered;
      },
    )
