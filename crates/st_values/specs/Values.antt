-- The values of the elementary types.
use Rattle.std.specs.Int.{int_rem_euclid}
use Rattle.std.specs.Ordering.{int_eq}
use Rattle.std.specs.Prelude.{◌≡◌, ◌^◌, Bool, ◌&&◌, if◌then◌else◌, ℤ, pos, negsuc, ◌-ℤ◌, nat_lt, IsTrue}
use Rattle.st_values.specs.Types.{bits_of, is_signed, limit_of}
use Rattle.st_values.specs.declared.elem.Elem.{Elem}
use Rattle.st_values.specs.declared.elem.Elem.TheVariants as elems
use Rattle.st_values.specs.declared.value.Value.{Value}

-- whether a number lies in the range of a type; `negsuc n` is the number -(n + 1)
abbrev pub in_range : Elem → ℤ → Bool
in_range elem (pos n) = nat_lt n (limit_of elem)
in_range elem (negsuc n) = is_signed elem && nat_lt n (limit_of elem)

abbrev pub is_value : Value → Bool
is_value value = in_range value.elem value.bits

-- the number of a value lies in the range of its type
abbrev pub IsValue : Value → Type 0
IsValue value = IsTrue (is_value value)

-- a value of this type
abbrev pub IsOfType : Elem → Value → Type 0
IsOfType elem value = (value.elem ≡ elem) × IsValue value

-- the number from 0 to 2 to the width that differs from a number by a multiple of it
abbrev pub residue : Elem → ℤ → ℤ
residue elem number = int_rem_euclid number (pos (2 ^ bits_of elem))

-- the number of a type that differs from a number by a multiple of 2 to the width
abbrev pub wrapped_number : Elem → ℤ → ℤ
wrapped_number elem number =
    if in_range elem (residue elem number) then residue elem number
    else (residue elem number -ℤ pos (2 ^ bits_of elem))

-- what a number is as a value of a type; of BOOL, whether it isn't 0
abbrev pub wrapped : Elem → ℤ → Value
wrapped elems.Bool number = record { elem = elems.Bool; bits = if int_eq number (pos 0) then pos 0 else pos 1 }
wrapped elem number = record { elem = elem; bits = wrapped_number elem number }

-- TRUE or FALSE as a value
abbrev pub truth : Bool → Value
truth is = record { elem = elems.Bool; bits = if is then pos 1 else pos 0 }
