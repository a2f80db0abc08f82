-- Calls of standard functions and conversions, argument by argument (2.5.1.5).
use Rattle.std.specs.Prelude.{ℕ, suc, ◌≡◌, ◌==◌, Bool, false, ◌&&◌, not, if◌then◌else◌, List, [], ◌∷◌, ◌++◌, map, Option, Some, None}
use Rattle.std.specs.List.{flat_map}
use Rattle.std.specs.Option.{is_some}
use Rattle.st_values.specs.Types.{is_same}
use Rattle.st_values.specs.declared.elem.Elem.{Elem}
use Rattle.st_tree.specs.declared.tree.expression.Argument.{Argument}
use Rattle.st_types.specs.Compositions.{Composition}
use Rattle.st_types.specs.OwnTypes.{function_gives, or_lint, standard_due, types_call}
use Rattle.st_types.specs.declared.standard.Standard.{Standard}
use Rattle.st_types.specs.declared.standard.Standard.TheVariants as standards
use Rattle.st_types.specs.declared.standard.StandardFunction.TheVariants as functions
use Rattle.st_types.specs.declared.symbol.Due.{Due}
use Rattle.st_types.specs.declared.symbol.Due.TheVariants as dues
use Rattle.st_meaning.specs.Sound.{term_type}
use Rattle.st_meaning.specs.Typing.{Passed, Typed, argument_typed, converted, function_typed, unnamed, untyped}
use Rattle.st_meaning.specs.Wholes.{Whole}
use Rattle.st_meaning.specs.declared.operation.Binary.TheVariants as binaries
use Rattle.st_meaning.specs.declared.operation.Unary.TheVariants as unaries
use Rattle.st_code.specs.Code.{Line, plain, term_code}
use Rattle.st_code.specs.declared.instr.Instr.{Instr}
use Rattle.st_code.specs.declared.instr.Instr.TheVariants.{Apply, Combine, Select}

-- the arguments that have values, in written order
abbrev pub passed_in : Whole → List Argument → List Passed
passed_in w arguments = flat_map (λ a. a) (map (argument_typed w) arguments)

-- those by position
abbrev pub positionals : Whole → List Argument → List Typed
positionals w arguments = flat_map unnamed (map (argument_typed w) arguments)

-- a call with these arguments by position
abbrev pub standard_typed : Standard → List Typed → Typed
standard_typed (standards.Function f) xs = function_typed f xs
standard_typed (standards.Conversion from to) xs = converted from to xs
standard_typed (standards.Block b) xs = untyped

-- it takes so many arguments
abbrev pub takes_number : Standard → ℕ → Bool
takes_number (standards.Function functions.Abs) n = n == 1
takes_number (standards.Function functions.Min) n = not (n == 0)
takes_number (standards.Function functions.Max) n = not (n == 0)
takes_number (standards.Function functions.Limit) n = n == 3
takes_number (standards.Function functions.Sel) n = n == 3
takes_number (standards.Function f) n = n == 2
takes_number (standards.Conversion from to) n = n == 1
takes_number (standards.Block b) n = false

-- it gives values of the type
abbrev pub gives_type : Standard → Elem → Bool
gives_type (standards.Function f) t = function_gives f t
gives_type (standards.Conversion from to) t = is_same to t
gives_type (standards.Block b) t = false

-- the own type of the argument of this number counts
abbrev pub counts : Standard → ℕ → Bool
counts (standards.Function f) n = types_call f (n == 0)
counts _ n = false

-- the first own type of arguments that counts, from the argument of this number on
abbrev pub own_from : Standard → ℕ → List Typed → Option Elem
own_from s n [] = None
own_from s n (x ∷ xs) = if counts s n && is_some x.own then x.own else own_from s (suc n) xs

-- the type at which an argument of this own type is taken, where this is due of it
abbrev pub taken_at : Due → Option Elem → Elem
taken_at (dues.Type t) own = t
taken_at _ own = or_lint own

-- the type that is due of the argument of this number, which has this own type, where this type is due of the call
abbrev pub argument_type : Standard → Elem → ℕ → Option Elem → Elem
argument_type (standards.Function f) t n own = taken_at (standard_due f (dues.Type t) n) own
argument_type (standards.Conversion from to) t n own = from
argument_type (standards.Block b) t n own = t

-- what is done behind the argument of this number, which has this type
abbrev pub behind_argument : Standard → Elem → ℕ → Elem → Option Instr
behind_argument (standards.Function functions.Abs) t n e = Some (Apply unaries.Absolute t)
behind_argument (standards.Function functions.Min) t n e = if n == 0 then None else Some (Combine binaries.Least t t)
behind_argument (standards.Function functions.Max) t n e = if n == 0 then None else Some (Combine binaries.Greatest t t)
behind_argument (standards.Function functions.Limit) t n e =
    if n == 0 then None else (if n == 1 then Some (Combine binaries.Greatest t t) else Some (Combine binaries.Least t t))
behind_argument (standards.Function functions.Sel) t n e = if n == 2 then Some Select else None
behind_argument (standards.Function functions.Shl) t n e = if n == 0 then None else Some (Combine binaries.ShiftLeft t e)
behind_argument (standards.Function functions.Shr) t n e = if n == 0 then None else Some (Combine binaries.ShiftRight t e)
behind_argument (standards.Function functions.Rol) t n e = if n == 0 then None else Some (Combine binaries.RotateLeft t e)
behind_argument (standards.Function functions.Ror) t n e = if n == 0 then None else Some (Combine binaries.RotateRight t e)
behind_argument (standards.Conversion from to) t n e = Some (Apply (unaries.Convert to) from)
behind_argument (standards.Block b) t n e = None

abbrev pub optional : Option Instr → List Line
optional None = []
optional (Some i) = plain i

-- the argument of this number, and what is done behind it
abbrev pub argument_code : Composition → Standard → Elem → ℕ → Typed → List Line
argument_code root s t n x =
    let e = argument_type s t n x.own in term_code root (x.as_type e) ++ optional (behind_argument s t n e)

-- the arguments from the one of this number on
abbrev pub arguments_code : Composition → Standard → Elem → ℕ → List Typed → List Line
arguments_code root s t n [] = []
arguments_code root s t n (x ∷ xs) = argument_code root s t n x ++ arguments_code root s t (suc n) xs

-- each argument has the type that is due of it, from the one of this number on
abbrev pub AreTyped : Composition → Standard → Elem → ℕ → List Typed → Type 0
AreTyped root s t n [] = Unit {0}
AreTyped root s t n (x ∷ xs) = (term_type root (x.as_type (argument_type s t n x.own)) ≡ argument_type s t n x.own) × AreTyped root s t (suc n) xs
