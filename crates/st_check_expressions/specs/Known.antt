-- What is known of a part of an expression (3.3.1), and what the rules say of it where a type is due.
use Rattle.std.specs.Prelude.{ℕ, zero, suc, pos, negsuc, Bool, true, false, ◌&&◌, ◌||◌, not, List, [], ◌∷◌, ◌++◌, map, Option, Some, None, ℤ, if◌then◌else◌}
use Rattle.std.specs.List.{flat_map, list_all}
use Rattle.std.specs.Option.{is_some}
use Rattle.st_values.specs.Types.{is_same}
use Rattle.st_values.specs.Values.{in_range}
use Rattle.st_values.specs.declared.elem.Elem.{Elem}
use Rattle.st_values.specs.declared.elem.Elem.TheVariants as elems
use Rattle.st_tree.specs.declared.operator.BinOp.{BinOp}
use Rattle.st_tree.specs.declared.tree.constant.Constant.{Constant}
use Rattle.st_tree.specs.declared.tree.constant.Constant.TheVariants as constants
use Rattle.st_tree.specs.declared.tree.constant.SignedInteger.{SignedInteger}
use Rattle.st_tree.specs.declared.tree.position.Position.{Position}
use Rattle.st_tree.specs.Literals.{number_of}
use Rattle.st_faults.specs.Faults.{fault, when}
use Rattle.st_faults.specs.declared.fault.Fault.{Fault}
use Rattle.st_faults.specs.declared.fault.Rule.TheVariants as rules
use Rattle.st_operators.specs.Operators.{complements, is_boolean, is_comparison, is_integer, negates, takes}
use Rattle.st_types.specs.OwnTypes.{chain_own, compared_type, compares, literal_own, or_lint}
use Rattle.st_types.specs.declared.symbol.Due.{Due}
use Rattle.st_types.specs.declared.symbol.Due.TheVariants as dues

abbrev pub is_empty : {A : Type 0} → List A → Bool
is_empty [] = true
is_empty (x ∷ xs) = false

pub record Known : Type 0 where
  pub position : Position  -- of its first token
  pub own : Option Elem  -- its own type
  pub fits_all : Bool  -- its type can't be known, for a fault of its own
  pub faults_at : Position → Elem → List Fault  -- its faults where this type is due, those of its type at this position
  pub faults_open : Position → List Fault  -- .. where a type is due that can't be known: a literal that some type holds has none

-- its faults where this type is due, or one that can't be known
abbrev pub faults_due : Known → Position → Option Elem → List Fault
faults_due x at None = x.faults_open at
faults_due x at (Some e) = x.faults_at at e

-- .. those of its type at its first token
abbrev pub faults_here : Known → Option Elem → List Fault
faults_here x due = faults_due x x.position due

-- the type that a part has without context
abbrev pub alone : Known → Elem
alone x = or_lint x.own

-- its faults where nothing is due
abbrev pub faults_alone : Known → List Fault
faults_alone x = x.faults_at x.position (alone x)

-- Its faults where this is due. Where that can't be known, a part has its own type, and a part without one may have any.
abbrev pub faults_as : Known → Due → List Fault
faults_as x dues.Any = faults_here x x.own
faults_as x (dues.Type e) = x.faults_at x.position e
faults_as x dues.Integer = faults_alone x ++ when (not (is_integer (alone x) || x.fits_all)) (fault x.position rules.TypeMismatch)
faults_as x dues.NoValue = faults_alone x ++ when (not x.fits_all) (fault x.position rules.TypeMismatch)

-- ---- literals (2.2)

abbrev pub literal_position : Constant → Position
literal_position (constants.Integer n) = n.position
literal_position (constants.Typed position v) = position
literal_position (constants.Duration d) = d.position
literal_position (constants.Bool position b) = position

-- a type holds the number
abbrev pub is_held : SignedInteger → Bool
is_held n = in_range elems.Lint (number_of n) || in_range elems.Ulint (number_of n)

-- No type holds it: a number of no type, or what is out of the range of the type that it names itself.
abbrev pub is_misstated : Constant → Bool
is_misstated (constants.Integer n) = not (is_held n)
is_misstated (constants.Typed position v) = not (in_range v.elem v.bits)
is_misstated (constants.Duration d) = not (in_range elems.Time d.milliseconds)
is_misstated _ = false

-- a literal that names its type
abbrev pub stated_faults : Bool → Elem → Position → Position → Elem → List Fault
stated_faults misstated stated position at e =
    if misstated then fault position rules.OutOfRange ∷ [] else when (not (is_same stated e)) (fault at rules.TypeMismatch)

-- a number where TIME is due, which no number fits
abbrev pub untimed_fault : SignedInteger → Position → Fault
untimed_fault n at = if is_held n then fault at rules.TypeMismatch else fault n.position rules.OutOfRange

abbrev pub literal_faults : Constant → Position → Elem → List Fault
literal_faults (constants.Integer n) at e =
    if is_same e elems.Time then untimed_fault n at ∷ [] else when (not (in_range e (number_of n))) (fault n.position rules.OutOfRange)
literal_faults (constants.Typed position v) at e = stated_faults (not (in_range v.elem v.bits)) v.elem position at e
literal_faults (constants.Duration d) at e = stated_faults (not (in_range elems.Time d.milliseconds)) elems.Time d.position at e
literal_faults (constants.Bool position b) at e = stated_faults false elems.Bool position at e

-- where a type is due that can't be known
abbrev pub open_literal_faults : Constant → List Fault
open_literal_faults c = when (is_misstated c) (fault (literal_position c) rules.OutOfRange)

-- where this type is due, or one that can't be known
abbrev pub due_literal_faults : Constant → Position → Option Elem → List Fault
due_literal_faults c at None = open_literal_faults c
due_literal_faults c at (Some e) = literal_faults c at e

abbrev pub literal : Constant → Known
literal c = record {
  position = literal_position c;
  own = literal_own c;
  fits_all = is_misstated c;
  faults_at = literal_faults c;
  faults_open = λ at. open_literal_faults c;
}

-- ---- selectors

-- the type of what a part selects by: its own, or else LINT, where it can be known
abbrev pub selected : Known → Option Elem
selected x = if not (is_some x.own) && x.fits_all then None else Some (alone x)

-- ---- operators (table 55)

-- an operator, and its right operand
pub record OperandKnown : Type 0 where
  pub operator : BinOp
  pub operand : Known

-- A part in parentheses begins at its `(`.
abbrev pub parenthesized : Position → Known → Known
parenthesized position x = record { position = position; own = x.own; fits_all = x.fits_all; faults_at = x.faults_at; faults_open = x.faults_open }

abbrev pub negated : Position → Known → Known
negated position x = record {
  position = position;
  own = x.own;
  fits_all = false;
  faults_at = λ at e. x.faults_at x.position e ++ when (not (negates e)) (fault at rules.TypeMismatch);
  faults_open = λ at. x.faults_open x.position;
}

abbrev pub complemented : Position → Known → Known
complemented position x = record {
  position = position;
  own = x.own;
  fits_all = false;
  faults_at = λ at e. x.faults_at x.position e ++ when (not (complements e)) (fault at rules.TypeMismatch);
  faults_open = λ at. x.faults_open x.position;
}

abbrev pub operators_of : List OperandKnown → List BinOp
operators_of ls = map (λ l. l.operator) ls

abbrev pub operands_at : List OperandKnown → Elem → List Fault
operands_at ls e = flat_map (λ l. l.operand.faults_at l.operand.position e) ls

-- the operator takes operands of the type, and gives a value of it: a comparison gives a BOOL
abbrev pub combines : BinOp → Elem → Bool
combines o e = not (is_comparison o) && takes o e

-- operators that give what they take: each operand has the type of the whole
abbrev pub all_combine : List BinOp → Elem → Bool
all_combine os e = list_all (λ o. combines o e) os

abbrev pub arithmetic_faults : Known → List OperandKnown → Position → Elem → List Fault
arithmetic_faults x ls at e = x.faults_at x.position e ++ operands_at ls e ++ when (not (all_combine (operators_of ls) e)) (fault at rules.TypeMismatch)

-- Comparisons give BOOL. The first compares its two sides; each further one a BOOL, which is what those before it give.
abbrev pub compared_at : List OperandKnown → Elem → List Fault
compared_at [] e = []
compared_at (l ∷ ls) e = l.operand.faults_at l.operand.position e ++ compared_at ls elems.Bool

abbrev pub all_compare : List BinOp → Bool
all_compare os = list_all is_comparison os

abbrev pub comparison_faults : Elem → Known → List OperandKnown → Position → Elem → List Fault
comparison_faults compared x ls at e = x.faults_at x.position compared ++ compared_at ls compared ++ when (not (is_boolean e && all_compare (operators_of ls))) (fault at rules.TypeMismatch)

abbrev pub owns_of : List OperandKnown → List (Option Elem)
owns_of ls = map (λ l. l.operand.own) ls

-- The first operator says of which kind the chain is, and each further one is of that kind.
abbrev pub chain_faults : Known → List OperandKnown → Position → Elem → List Fault
chain_faults x ls at e = if compares (operators_of ls) then comparison_faults (compared_type x.own (owns_of ls)) x ls at e else arithmetic_faults x ls at e

abbrev pub operands_open : List OperandKnown → List Fault
operands_open ls = flat_map (λ l. l.operand.faults_open l.operand.position) ls

-- Where a type is due that can't be known, so it is with each operand. A comparison is a BOOL.
abbrev pub open_chain_faults : Known → List OperandKnown → Position → List Fault
open_chain_faults x ls at =
    if compares (operators_of ls) then comparison_faults (compared_type x.own (owns_of ls)) x ls at elems.Bool
    else (x.faults_open x.position ++ operands_open ls)

abbrev pub chain : Position → Known → List OperandKnown → Known
chain position x ls = record {
  position = position;
  own = chain_own (operators_of ls) x.own (owns_of ls);
  fits_all = false;
  faults_at = chain_faults x ls;
  faults_open = open_chain_faults x ls;
}
