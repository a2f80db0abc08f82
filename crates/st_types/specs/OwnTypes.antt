-- Which type an expression has of itself, and which types operators and functions take (3.3.1, 2.5.1.5). Types never convert
-- implicitly: a part without a type of its own, a number, takes the one that is due.
use Rattle.std.specs.Prelude.{ℕ, zero, suc, nat_lt, Bool, true, false, ◌&&◌, ◌||◌, not, List, [], ◌∷◌, Option, Some, None, if◌then◌else◌}
use Rattle.std.specs.Option.{is_some}
use Rattle.st_operators.specs.Operators.{is_bits, is_comparison, is_integer}
use Rattle.st_values.specs.Types.{class_of, is_same}
use Rattle.st_values.specs.declared.elem.Class.{Class}
use Rattle.st_values.specs.declared.elem.Class.TheVariants as classes
use Rattle.st_values.specs.declared.elem.Elem.{Elem}
use Rattle.st_values.specs.declared.elem.Elem.TheVariants as elems
use Rattle.st_tree.specs.declared.operator.BinOp.{BinOp}
use Rattle.st_tree.specs.declared.operator.BinOp.TheVariants as operators
use Rattle.st_tree.specs.declared.tree.constant.Constant.{Constant}
use Rattle.st_tree.specs.declared.tree.constant.Constant.TheVariants as constants
use Rattle.st_types.specs.Signatures.{Input}
use Rattle.st_types.specs.declared.standard.StandardFunction.{StandardFunction}
use Rattle.st_types.specs.declared.standard.StandardFunction.TheVariants as functions
use Rattle.st_types.specs.declared.symbol.Callee.{Callee}
use Rattle.st_types.specs.declared.symbol.Callee.TheVariants as callees
use Rattle.st_types.specs.declared.symbol.Due.{Due}
use Rattle.st_types.specs.declared.symbol.Due.TheVariants as dues

-- ---- own types

-- the first type in a list of own types
abbrev pub first_own : List (Option Elem) → Option Elem
first_own [] = None
first_own (own ∷ more) = if is_some own then own else first_own more

-- without a type of its own, and with none due, a part is LINT
abbrev pub or_lint : Option Elem → Elem
or_lint None = elems.Lint
or_lint (Some e) = e

-- of a literal: a number has none
abbrev pub literal_own : Constant → Option Elem
literal_own (constants.Integer n) = None
literal_own (constants.Typed position v) = Some v.elem
literal_own (constants.Duration d) = Some elems.Time
literal_own (constants.Bool position b) = Some elems.Bool

-- the first operator of a chain compares
abbrev pub compares : List BinOp → Bool
compares [] = false
compares (o ∷ os) = is_comparison o

-- of operands with these operators between them
abbrev pub chain_own : List BinOp → Option Elem → List (Option Elem) → Option Elem
chain_own os first others = if compares os then Some elems.Bool else first_own (first ∷ others)

-- the type at which the two sides of a comparison are taken: the first own type of the two
abbrev pub compared_type : Option Elem → List (Option Elem) → Elem
compared_type first [] = or_lint first
compared_type first (second ∷ more) = or_lint (first_own (first ∷ second ∷ []))

-- ---- standard functions: what they take and give (2.5.1.5)

abbrev pub is_shift : StandardFunction → Bool
is_shift functions.Shl = true
is_shift functions.Shr = true
is_shift functions.Rol = true
is_shift functions.Ror = true
is_shift _ = false

-- how many arguments a function takes: at least
abbrev pub least_arguments : StandardFunction → ℕ
least_arguments functions.Abs = 1
least_arguments functions.Limit = 3
least_arguments functions.Sel = 3
least_arguments _ = 2

-- and at most, where there is a most
abbrev pub most_arguments : StandardFunction → Option ℕ
most_arguments functions.Abs = Some 1
most_arguments functions.Min = None
most_arguments functions.Max = None
most_arguments functions.Limit = Some 3
most_arguments functions.Sel = Some 3
most_arguments _ = Some 2

abbrev pub is_at_most : ℕ → Option ℕ → Bool
is_at_most n None = true
is_at_most n (Some most) = nat_lt n (suc most)

-- a function takes so many arguments
abbrev pub takes_count : StandardFunction → ℕ → Bool
takes_count f n = is_at_most (least_arguments f) (Some n) && is_at_most n (most_arguments f)

-- a function gives values of the type
abbrev pub function_gives : StandardFunction → Elem → Bool
function_gives functions.Abs e = is_integer e
function_gives f e = not (is_shift f) || is_bits e

abbrev pub is_first : ℕ → Bool
is_first zero = true
is_first (suc n) = false

-- what is asked of the argument of this number, from 0, where `whole` is asked of the call
abbrev pub standard_due : StandardFunction → Due → ℕ → Due
standard_due functions.Sel whole n = if is_first n then dues.Type elems.Bool else whole
standard_due f whole n = if is_shift f && not (is_first n) then dues.Integer else whole

-- the own type of an argument, the first or not, is that of the call
abbrev pub types_call : StandardFunction → Bool → Bool
types_call functions.Sel first = not first
types_call f first = not (is_shift f) || first

abbrev pub without_first : {A : Type 0} → List A → List A
without_first [] = []
without_first (x ∷ xs) = xs

abbrev pub only_first : {A : Type 0} → List A → List A
only_first [] = []
only_first (x ∷ xs) = x ∷ []

-- of arguments those that type a call, where the first does or not, and the others do or not
abbrev pub typing : {A : Type 0} → Bool → Bool → List A → List A
typing true true arguments = arguments
typing true false arguments = only_first arguments
typing false true arguments = without_first arguments
typing false false arguments = []

-- the own type of a call whose arguments have these
abbrev pub standard_own : StandardFunction → List (Option Elem) → Option Elem
standard_own f arguments = first_own (typing (types_call f true) (types_call f false) arguments)

-- ---- calls

-- the own type of a call
abbrev pub call_own : Callee → List (Option Elem) → Option Elem
call_own (callees.Standard f) arguments = standard_own f arguments
call_own (callees.Conversion x y) arguments = Some y
call_own (callees.Own f) arguments = Some f.result
call_own _ arguments = None

abbrev pub nth_due : List Input → ℕ → Due
nth_due [] n = dues.Any
nth_due (i ∷ is) zero = i.due
nth_due (i ∷ is) (suc n) = nth_due is n

-- what is asked of an argument by its position
abbrev pub position_due : Callee → Due → ℕ → Due
position_due (callees.Standard f) whole n = standard_due f whole n
position_due (callees.Conversion x y) whole n = dues.Type x
position_due (callees.Own f) whole n = nth_due f.inputs n
position_due _ whole n = dues.Any

-- the callee gives values of the type
abbrev pub gives : Callee → Elem → Bool
gives (callees.Standard f) e = function_gives f e
gives (callees.Conversion x y) e = is_same y e
gives (callees.Own f) e = is_same f.result e
gives _ e = true
