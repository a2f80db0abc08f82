-- Numbers between two values of a type.
use Rattle.std.proofs.Common.{◌≡◌, ℤ, pos, negsuc, ◌≤ℤ◌, Bool, true, false, ◌&&◌, nat_lt, IsTrue, w64, FitsSigned, arith}
use Rattle.std.proofs.lemmas.Int.{ints}
use Rattle.st_values.specs.Types.{is_signed, limit_of}
use Rattle.st_values.specs.Values.{in_range}
use Rattle.st_values.specs.declared.elem.Elem.{Elem}
use Rattle.st_values.specs.declared.elem.Elem.TheVariants as elems
use Rattle.st_values.proofs.Cases.{below, both, is_below}

both_true : (a b : Bool) → a ≡ true → b ≡ true → (a && b) ≡ true
both_true true b h k = k
both_true false b h k = h

-- what lies between two values of a type is one too
pub between : (e : Elem) (low high i : ℤ) → IsTrue (in_range e low) → IsTrue (in_range e high) → low ≤ℤ i → i ≤ℤ high → IsTrue (in_range e i)
between e low (pos m) (pos n) h k above under = is_below n (limit_of e) (omega (arith, ints, below m (limit_of e) k))
between e low (negsuc m) (pos n) h k above under = absurd (omega (arith, ints))
between e (pos m) high (negsuc n) h k above under = absurd (omega (arith, ints))
between e (negsuc m) high (negsuc n) h k above under =
    let parts = both (is_signed e) (nat_lt m (limit_of e)) h in
    both_true (is_signed e) (nat_lt n (limit_of e)) parts.0 (is_below n (limit_of e) (omega (arith, ints, below m (limit_of e) parts.1)))

-- each number of 64 bits is a TIME
pub is_time : (now : ℤ) → FitsSigned w64 now → IsTrue (in_range elems.Time now)
is_time (pos n) fits = is_below n (limit_of elems.Time) (omega (arith, fits.sfits))
is_time (negsuc n) fits = is_below n (limit_of elems.Time) (omega (arith, fits.sfits))
