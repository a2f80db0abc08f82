-- Moments as values of TIME.
use Rattle.std.proofs.Common.{ℤ, pos, negsuc, ◌-◌, ◌^◌, ◌≤ℤ◌, IsTrue, refl}
use Rattle.st_values.specs.Values.{in_range}
use Rattle.st_values.specs.declared.elem.Elem.TheVariants as elems
use Rattle.st_blocks.proofs.RangeLemmas.{between}

-- what lies between two of them is one
pub is_time_between : (now : ℤ) → negsuc (2 ^ 63 - 1) ≤ℤ now → now ≤ℤ pos (2 ^ 63 - 1) → IsTrue (in_range elems.Time now)
is_time_between now low high = between elems.Time (negsuc (2 ^ 63 - 1)) (pos (2 ^ 63 - 1)) now refl refl low high
