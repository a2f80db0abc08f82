-- Expressions in the scope of a unit.
use Rattle.std.specs.Prelude.{List, ℕ, Bool, false, if◌then◌else◌, [], ◌∷◌, map, Option, Some, None}
use Rattle.st_values.specs.Types.{is_same}
use Rattle.st_values.specs.declared.elem.Elem.{Elem}
use Rattle.st_values.specs.declared.elem.Elem.TheVariants as elems
use Rattle.st_tree.specs.declared.operator.BinOp.{BinOp}
use Rattle.st_tree.specs.declared.tree.expression.Expression.{Expression}
use Rattle.st_tree.specs.declared.tree.expression.Operation.{Operation}
use Rattle.st_tree.specs.declared.tree.expression.Part.{Part}
use Rattle.st_operators.specs.Operators.{is_comparison}
use Rattle.st_types.specs.OwnTypes.{first_own, or_lint}
use Rattle.st_meaning.specs.Operations.{takes_two}
use Rattle.st_values.specs.declared.value.Value.{Value}
use Rattle.st_meaning.specs.Terms.{Parts, whole, field_part}
use Rattle.st_meaning.specs.Typing.{Typed, chained, operation_typed, part_typed, through, typed}
use Rattle.st_meaning.specs.Wholes.{Whole}
use Rattle.st_meaning.specs.declared.operation.Binary.TheVariants as binaries
use Rattle.st_places.specs.Parts.{TablesView, whole_in}

-- the variables and constants of a unit of tables
abbrev pub whole_of : TablesView × ℕ → Whole
whole_of scope = whole_in scope.0 scope.1

-- ---- chains

-- the first operands, with the operators between them
abbrev pub chain_of : Whole → Expression → List Operation → Typed
chain_of w x os = chained (typed w x) (map (operation_typed w) os)

-- the own type behind one operand more
abbrev pub own_joined : Whole → Option Elem → Operation → Option Elem
own_joined w own o = if is_comparison o.operator then Some elems.Bool else first_own (own ∷ (typed w o.operand).own ∷ [])

abbrev pub own_behind : Whole → Option Elem → List Operation → Option Elem
own_behind w own [] = own
own_behind w own (o ∷ os) = own_behind w (own_joined w own o) os

-- the last operator compares
abbrev pub ends_in_comparison : List Operation → Bool
ends_in_comparison [] = false
ends_in_comparison (o ∷ []) = is_comparison o.operator
ends_in_comparison (o ∷ os) = ends_in_comparison os

-- the type at which operands with these own types are taken, where this one is due of the whole; or there is no such type
abbrev pub operand_type : BinOp → Option Elem → Option Elem → Elem → Option Elem
operand_type o a b due =
    if is_comparison o then (if is_same elems.Bool due then Some (or_lint (first_own (a ∷ b ∷ []))) else None)
    else (if takes_two (binaries.Operator o) due then Some due else None)

-- ---- places

-- what the further parts of a variable select
abbrev pub parts_in : Whole → List Part → Parts
parts_in w ps = through (map (part_typed w) ps)

-- the value of the constant that a place without parts names
abbrev pub constant_in : Whole → Parts → Option Value
constant_in w (field_part name whole) = w.constants name
constant_in w ps = None
