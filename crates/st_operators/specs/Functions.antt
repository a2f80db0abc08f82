-- The standard functions over values (IEC 61131-3:2003, 2.5.1.5, tables 22 to 27), as functions of whole numbers.
use Rattle.std.specs.Prelude.{ℕ, zero, ◌+◌, ◌-◌, ◌*◌, ◌/◌, ◌%◌, ◌^◌, if◌then◌else◌, ℤ, pos, negsuc, int_lt, unsigned_abs}
use Rattle.st_values.specs.Types.{bits_of}
use Rattle.st_values.specs.Values.{wrapped}
use Rattle.st_values.specs.declared.elem.Elem.{Elem}
use Rattle.st_values.specs.declared.value.Value.{Value}
use Rattle.st_operators.specs.Operators.{bits_in, of_bits}

-- ABS
abbrev pub absolute_of : Value → Value
absolute_of a = wrapped a.elem (pos (unsigned_abs a.bits))

-- ---- selection (table 27)

-- MIN
abbrev pub least_of : Value → Value → Value
least_of a b = if int_lt b.bits a.bits then b else a

-- MAX
abbrev pub greatest_of : Value → Value → Value
greatest_of a b = if int_lt a.bits b.bits then b else a

-- LIMIT(MN, IN, MX) = MIN(MAX(IN, MN), MX)
abbrev pub limited_to : Value → Value → Value → Value
limited_to low a high = least_of (greatest_of a low) high

-- one of two values by a number: the first at 0
abbrev pub selected_by : ℤ → Value → Value → Value
selected_by (pos zero) a b = a
selected_by _ a b = b

-- SEL(G, IN0, IN1): IN0 where G is FALSE, else IN1
abbrev pub selected_of : Value → Value → Value → Value
selected_of g a b = selected_by g.bits a b

-- ---- shifts and rotations (table 25)

-- by how many places a count shifts: none where it is below 1
abbrev pub places_of : ℤ → ℕ
places_of (pos n) = n
places_of (negsuc n) = 0

-- SHL: zeros come in on the right; what passes the left end is lost
abbrev pub shifted_left_by : Value → ℕ → Value
shifted_left_by a places = of_bits a.elem ((bits_in a * 2 ^ places) % 2 ^ bits_of a.elem)

-- SHR: zeros come in on the left; what passes the right end is lost
abbrev pub shifted_right_by : Value → ℕ → Value
shifted_right_by a places = of_bits a.elem (bits_in a / 2 ^ places)

-- bits of a width, where the lowest, so many of them, are put before the others
abbrev pub turned : ℕ → ℕ → ℕ → ℕ
turned width low bits = (bits % 2 ^ low) * 2 ^ (width - low) + bits / 2 ^ low

-- ROR: what passes the right end comes in on the left; the count is taken modulo the width
abbrev pub rotated_right_by : Value → ℕ → Value
rotated_right_by a places = of_bits a.elem (turned (bits_of a.elem) (places % bits_of a.elem) (bits_in a))

-- ROL: what passes the left end comes in on the right; so the others, which are the lowest, come before it
abbrev pub rotated_left_by : Value → ℕ → Value
rotated_left_by a places = of_bits a.elem (turned (bits_of a.elem) (bits_of a.elem - places % bits_of a.elem) (bits_in a))

-- ---- conversions (table 22)

-- X_TO_Y: the number, wrapped to the width of Y; to BOOL whether it isn't 0
abbrev pub converted_to : Elem → Value → Value
converted_to elem a = wrapped elem a.bits
