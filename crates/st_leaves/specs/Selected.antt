-- What a part of a whole consists of (2.4.1): a member by its name, an element by its subscripts.
use Rattle.std.specs.Prelude.{ℕ, ◌==◌, Bool, false, List, [], length, Option, Some, None, if◌then◌else◌}
use Rattle.st_values.specs.Words.{is_word}
use Rattle.st_values.specs.declared.elem.Elem.{Elem}
use Rattle.st_tree.specs.declared.tree.declaration.Subrange.{Subrange}
use Rattle.st_types.specs.Compositions.{Composition, unknown, elementary, array, composed, standard, Members, none, member}
use Rattle.st_types.specs.Initials.{zero_of}
use Rattle.st_types.specs.Standard.{Pin, pin_named, pins_of}

-- the first member of a name
abbrev pub member_selected : Members → List ℕ → Composition
member_selected none name = unknown
member_selected (member other kind c ms) name = if is_word other name then c else member_selected ms name

abbrev pub pin_selected : Option Pin → Composition
pin_selected None = unknown
pin_selected (Some pin) = elementary (zero_of pin.elem)

-- what the name selects
abbrev pub selected_by : Composition → List ℕ → Composition
selected_by (composed whole ms chart) name = member_selected ms name
selected_by (standard b) name = pin_selected (pin_named (pins_of b) name)
selected_by _ name = unknown

-- the subscripts that select an element
abbrev pub subscripts_of : Composition → List Subrange
subscripts_of (array ranges firsts c) = ranges
subscripts_of _ = []

-- each of the elements
abbrev pub element_of : Composition → Composition
element_of (array ranges firsts c) = c
element_of _ = unknown

-- so many subscripts select an element
abbrev pub takes_subscripts : Composition → ℕ → Bool
takes_subscripts (array ranges firsts c) n = n == length ranges
takes_subscripts _ n = false

-- the type of the one value, where there is one
abbrev pub value_type : Composition → Option Elem
value_type (elementary v) = Some v.elem
value_type _ = None
