-- What the functions of this crate give that do parts of the walk.
use Rattle.std.specs.Prelude.{ℕ, Bool, true, ◌&&◌, ◌||◌, not, List, [], ◌∷◌, ◌++◌, Option, Some, None, if◌then◌else◌}
use Rattle.std.specs.List.{list_any}
use Rattle.st_values.specs.Words.{is_word}
use Rattle.st_values.specs.declared.elem.Elem.{Elem}
use Rattle.st_values.specs.declared.elem.Elem.TheVariants as elems
use Rattle.st_tree.specs.declared.operator.BinOp.{BinOp}
use Rattle.st_tree.specs.declared.tree.expression.Variable.{Variable}
use Rattle.st_tree.specs.declared.tree.position.Position.{Position}
use Rattle.st_faults.specs.Faults.{fault, when}
use Rattle.st_faults.specs.declared.fault.Fault.{Fault}
use Rattle.st_faults.specs.declared.fault.Rule.TheVariants as rules
use Rattle.st_operators.specs.Operators.{complements, is_boolean, is_integer, negates}
use Rattle.st_types.specs.OwnTypes.{compared_type, compares, types_call}
use Rattle.st_types.specs.Scopes.{Scope}
use Rattle.st_types.specs.Types.{Shape, elem_of, is_unknown, is_value}
use Rattle.st_types.specs.declared.standard.StandardFunction.{StandardFunction}
use Rattle.st_types.specs.declared.symbol.Due.{Due}
use Rattle.st_types.specs.declared.symbol.Due.TheVariants as dues
use Rattle.st_check_expressions.specs.Calls.{ArgumentKnown, positional}
use Rattle.st_check_expressions.specs.Known.{Known, OperandKnown, all_combine, all_compare, alone, faults_here, is_empty, operators_of, owns_of}
use Rattle.st_check_expressions.specs.Variables.{element_faults, is_fixed, misfit, shape_elements, start_by}
use Rattle.st_check_expressions.specs.Walk.{known_parts}
use Rattle.st_check_expressions.specs.declared.route.Route.{Route}
use Rattle.st_check_expressions.specs.declared.route.Start.{Start}

-- ---- calls

-- the own type of an argument by position, the first or not, where that is the type of the call
abbrev pub argument_own : StandardFunction → Bool → ArgumentKnown → Option Elem
argument_own f is_first (positional x) = if types_call f is_first then x.own else None
argument_own f is_first _ = None

-- ---- what is due

-- the type at which a part is taken where this is due, if that can be known
abbrev pub due_elem : Known → Due → Option Elem
due_elem x (dues.Type e) = Some e
due_elem x dues.Any = x.own
due_elem x _ = Some (alone x)

-- a part meets what is due, besides the type at which it is taken
abbrev pub meets : Known → Due → Bool
meets x dues.Any = true
meets x (dues.Type d) = true
meets x dues.Integer = is_integer (alone x) || x.fits_all
meets x dues.NoValue = x.fits_all

-- `-` takes an operand of this type, or of one that can't be known
abbrev pub negates_due : Option Elem → Bool
negates_due None = true
negates_due (Some e) = negates e

-- .. and NOT
abbrev pub complements_due : Option Elem → Bool
complements_due None = true
complements_due (Some e) = complements e

-- ---- chains

-- Each type here is one that can be known, or none.

-- the type at which the operands of a chain are taken, where this type is due of the whole
abbrev pub chain_type : Known → List OperandKnown → Option Elem → Option Elem
chain_type x ls due = if compares (operators_of ls) then Some (compared_type x.own (owns_of ls)) else due

-- the type at which the operands behind the second are taken
abbrev pub further_type : List BinOp → Option Elem → Option Elem
further_type os due = if compares os then Some elems.Bool else due

-- operands: the first at this type, and each further one at that
abbrev pub operands_from : List OperandKnown → Option Elem → Option Elem → List Fault
operands_from [] due further = []
operands_from (l ∷ ls) due further = faults_here l.operand due ++ operands_from ls further further

-- the operators are of one kind, take their operands, and give what is due
abbrev pub fits_chain : List BinOp → Option Elem → Bool
fits_chain os None = if compares os then all_compare os else true
fits_chain os (Some e) = if compares os then is_boolean e && all_compare os else all_combine os e

-- ---- variables

-- where the way through a variable begins
abbrev pub start_at : Scope → Variable → Start
start_at scope v = start_by scope v.name (known_parts scope v.parts) (scope.variable v.name.spelling)

-- so many subscripts at this position are not as many as the array has
abbrev pub count_faults : Scope → Shape → Position → ℕ → List Fault
count_faults scope s position count = element_faults (is_unknown s.base) position count (shape_elements scope s)

-- what is no one value
abbrev pub whole_faults : Shape → Position → List Fault
whole_faults s at = when (not (is_unknown s.base || is_value s)) (fault at rules.TypeMismatch)

-- it has another type than is due, or is no one value
abbrev pub shape_misfit : Shape → Position → Option Elem → List Fault
shape_misfit s at None = whole_faults s at
shape_misfit s at (Some e) = misfit (is_unknown s.base) (elem_of s) at e

-- A variable that is reached so takes no value: it is a constant or an input, or the way to it led through an instance or a
-- step, or a loop counts it.
abbrev pub is_kept : Scope → List (List ℕ) → Variable → Route → Bool
is_kept scope counters v r = is_fixed (scope.variable v.name.spelling) || r.through || (is_empty v.parts && list_any (is_word v.name.spelling) counters)
