-- The texts of an array's subscripts, as paths show them.
use Rattle.std.specs.Prelude.{ℕ, zero, suc, ◌+◌, ℤ, pos, negsuc, ◌-ℤ◌, List, [], ◌∷◌, map, length, if◌then◌else◌}
use Rattle.std.specs.Fmt.{signed_decimal}
use Rattle.st_values.specs.Numbers.{negative}
use Rattle.st_leaves.specs.declared.subrange.Number.{Number}

abbrev pub value_of : Number → ℤ
value_of n = if n.is_negative then negative n.magnitude else pos n.magnitude

abbrev pub next : ℤ → ℤ
next (pos n) = pos (n + 1)
next (negsuc zero) = pos 0
next (negsuc (suc n)) = negsuc n

-- so many numbers, from this one on
abbrev pub numbers : ℕ → ℤ → List ℤ
numbers zero from = []
numbers (suc n) from = from ∷ numbers n (next from)

abbrev pub values_from : ℤ → ℕ
values_from (pos n) = n + 1
values_from (negsuc n) = 0

-- how many bytes the text of each number has, from the lower one to the upper one
abbrev pub texts_between : ℤ → ℤ → List ℕ
texts_between lower upper = map (λ i. length (signed_decimal i)) (numbers (values_from (upper -ℤ lower)) lower)
