-- The types of values, in one place for the crates above.
use Rattle.st_values.specs.declared.elem.Class as class
use Rattle.st_values.specs.declared.elem.Elem as elem
use Rattle.st_values.specs.declared.value.Value as value

abbrev pub Class : Type 0
Class = class.Class

abbrev pub Elem : Type 0
Elem = elem.Elem

abbrev pub Value : Type 0
Value = value.Value
