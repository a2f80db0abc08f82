-- What is said of literals that are out of range.
use Rattle.std.specs.Prelude.{ℕ, List, [], codes}
use Rattle.st_values.specs.declared.elem.Elem.{Elem}
use Rattle.st_values.specs.declared.elem.Elem.TheVariants as elems
use Rattle.st_type_messages.specs.declared.cause.Cause.{Cause}
use Rattle.st_type_messages.specs.declared.cause.Cause.TheVariants as causes

-- of a type: BOOL has two values, the types with 64 bits are the widest, and each other type has a wider one
abbrev pub range_cause : Elem → Cause
range_cause elems.Bool = causes.OutOfBool
range_cause elems.Lint = causes.OutOfRange
range_cause elems.Ulint = causes.OutOfRange
range_cause elems.Lword = causes.OutOfRange
range_cause elems.Time = causes.OutOfRange
range_cause _ = causes.OutOfNarrow

-- a type of the same kind with twice as many bits
abbrev pub wider_than : Elem → List ℕ
wider_than elems.Sint = codes "INT"
wider_than elems.Usint = codes "UINT"
wider_than elems.Int = codes "DINT"
wider_than elems.Uint = codes "UDINT"
wider_than elems.Dint = codes "LINT"
wider_than elems.Udint = codes "ULINT"
wider_than elems.Byte = codes "WORD"
wider_than elems.Word = codes "DWORD"
wider_than elems.Dword = codes "LWORD"
wider_than _ = []
