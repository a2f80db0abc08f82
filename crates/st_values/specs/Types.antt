-- The elementary types of the profile (IEC 61131-3:2003, 2.3.1, table 10).
use Rattle.std.specs.Prelude.{ℕ, ◌-◌, ◌/◌, ◌^◌, Bool, true, false, List, codes, nat_eq, if◌then◌else◌}
use Rattle.st_values.specs.declared.elem.Class.{Class}
use Rattle.st_values.specs.declared.elem.Class.TheVariants.{Boolean, Integer, BitString, Duration}
use Rattle.st_values.specs.declared.elem.Elem.{Elem}
use Rattle.st_values.specs.declared.elem.Elem.TheVariants as elems

-- the keyword of a type
abbrev pub name_of : Elem → List ℕ
name_of elems.Bool = codes "BOOL"
name_of elems.Sint = codes "SINT"
name_of elems.Int = codes "INT"
name_of elems.Dint = codes "DINT"
name_of elems.Lint = codes "LINT"
name_of elems.Usint = codes "USINT"
name_of elems.Uint = codes "UINT"
name_of elems.Udint = codes "UDINT"
name_of elems.Ulint = codes "ULINT"
name_of elems.Byte = codes "BYTE"
name_of elems.Word = codes "WORD"
name_of elems.Dword = codes "DWORD"
name_of elems.Lword = codes "LWORD"
name_of elems.Time = codes "TIME"

-- the place of a type in the table, from 0
abbrev pub place_of : Elem → ℕ
place_of elems.Bool = 0
place_of elems.Sint = 1
place_of elems.Int = 2
place_of elems.Dint = 3
place_of elems.Lint = 4
place_of elems.Usint = 5
place_of elems.Uint = 6
place_of elems.Udint = 7
place_of elems.Ulint = 8
place_of elems.Byte = 9
place_of elems.Word = 10
place_of elems.Dword = 11
place_of elems.Lword = 12
place_of elems.Time = 13

-- whether two types are the same
abbrev pub is_same : Elem → Elem → Bool
is_same a b = nat_eq (place_of a) (place_of b)

-- how many bits a value has: the standard's N, and 64 for TIME, whose size the standard leaves open
abbrev pub bits_of : Elem → ℕ
bits_of elems.Bool = 1
bits_of elems.Sint = 8
bits_of elems.Int = 16
bits_of elems.Dint = 32
bits_of elems.Lint = 64
bits_of elems.Usint = 8
bits_of elems.Uint = 16
bits_of elems.Udint = 32
bits_of elems.Ulint = 64
bits_of elems.Byte = 8
bits_of elems.Word = 16
bits_of elems.Dword = 32
bits_of elems.Lword = 64
bits_of elems.Time = 64

-- how the values of a type are written
abbrev pub class_of : Elem → Class
class_of elems.Bool = Boolean
class_of elems.Sint = Integer
class_of elems.Int = Integer
class_of elems.Dint = Integer
class_of elems.Lint = Integer
class_of elems.Usint = Integer
class_of elems.Uint = Integer
class_of elems.Udint = Integer
class_of elems.Ulint = Integer
class_of elems.Byte = BitString
class_of elems.Word = BitString
class_of elems.Dword = BitString
class_of elems.Lword = BitString
class_of elems.Time = Duration

-- whether numbers below zero are values of the type
abbrev pub is_signed : Elem → Bool
is_signed elems.Sint = true
is_signed elems.Int = true
is_signed elems.Dint = true
is_signed elems.Lint = true
is_signed elems.Time = true
is_signed _ = false

-- the least number above the range: a signed type has one bit less for the number
abbrev pub limit_of : Elem → ℕ
limit_of elem = if is_signed elem then 2 ^ (bits_of elem - 1) else 2 ^ bits_of elem

-- how many bytes a value takes in memory
abbrev pub width_of : Elem → ℕ
width_of elems.Bool = 1
width_of elem = bits_of elem / 8
