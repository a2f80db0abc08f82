-- The counter of FOR is a value of its type.
use Rattle.std.proofs.Common.{◌≡◌, ℤ, pos, negsuc, ◌+ℤ◌, ◌≤ℤ◌, true, IsTrue, arith}
use Rattle.std.proofs.lemmas.Int.{ints}
use Rattle.st_values.specs.Values.{in_range}
use Rattle.st_values.specs.declared.elem.Elem.{Elem}
use Rattle.st_blocks.proofs.RangeLemmas.{between}
use Rattle.st_meaning.specs.Statements.{goes_on}

-- it hasn't turned back
abbrev pub IsBehind : ℤ → ℤ → ℤ → Type 0
IsBehind first counter (pos n) = first ≤ℤ counter
IsBehind first counter (negsuc n) = counter ≤ℤ first

pub begins_behind : (i step : ℤ) → IsBehind i i step
begins_behind i (pos n) = omega (arith, ints)
begins_behind i (negsuc n) = omega (arith, ints)

pub stays_behind : (first counter step : ℤ) → IsBehind first counter step → IsBehind first (counter +ℤ step) step
stays_behind first counter (pos n) h = omega (arith, ints, h)
stays_behind first counter (negsuc n) h = omega (arith, ints, h)

-- where FOR goes on, its counter lies between the first value and the last
pub counter_in_range : (e : Elem) (first last counter step : ℤ) → IsTrue (in_range e first) → IsTrue (in_range e last) → IsBehind first counter step → goes_on counter last step ≡ true
    → IsTrue (in_range e counter)
counter_in_range e first last counter (pos n) h k behind on = let under : counter ≤ℤ last = omega (arith, ints, on) in between e first last counter h k behind under
counter_in_range e first last counter (negsuc n) h k behind on = let above : last ≤ℤ counter = omega (arith, ints, on) in between e last first counter k h above behind
