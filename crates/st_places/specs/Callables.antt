-- The tables of functions: which there are, and with which values their variables begin.
use Rattle.std.specs.Prelude.{◌≡◌, ℕ, Bool, true, false, List, [], ◌∷◌, ◌++◌, length, map, Option, Some, None}
use Rattle.std.specs.List.{All, slice_get}
use Rattle.std.specs.Option.{option_and_then}
use Rattle.st_values.specs.declared.elem.Elem.{Elem}
use Rattle.st_values.specs.declared.value.Value.{Value}
use Rattle.st_tree.specs.declared.tree.declaration.VarKind.{VarKind}
use Rattle.st_tree.specs.declared.tree.declaration.VarKind.TheVariants as var_kinds
use Rattle.st_tree.specs.declared.tree.unit.Function.{Function as Section}
use Rattle.st_types.specs.Compositions.{Members, none, member, declared_composition, members_by}
use Rattle.st_types.specs.Initials.{zero_of}
use Rattle.st_types.specs.Names.{Declared, Declares, Named, unit_at, variables_of}
use Rattle.st_types.specs.Names as names
use Rattle.st_check.specs.Laws.{IsOneValue}
use Rattle.st_meaning.specs.Units.{function_at, input_in, inputs_in}
use Rattle.st_meaning.specs.Wholes.{Called, Input, constant_value}
use Rattle.st_meaning.specs.declared.start.Start.{Start}
use Rattle.st_meaning.specs.declared.start.Start.TheVariants as beginnings
use Rattle.st_places.specs.Parts.{inside}
use Rattle.st_places.specs.declared.function.Variables.{Variables}
use Rattle.st_places.specs.declared.functions.Callable.{Callable}
use Rattle.st_places.specs.declared.functions.Functions.{Functions}

-- ---- variables

-- an input begins with the next value that is given, and what else is one value with that
abbrev pub own_start : Option Input → Option Value → List Start
own_start (Some i) v = beginnings.Input ∷ []
own_start None (Some v) = beginnings.Value v ∷ []
own_start None None = []

abbrev pub own_starts : Members → List Start
own_starts none = []
own_starts (member name kind c ms) = own_start (input_in name kind c) (constant_value c) ++ own_starts ms

-- what is declared so
abbrev pub declared_members : List Named → List Declared → Members
declared_members units vs = members_by units (inside units) vs

-- of a function with a result of this type, and with these variables
pub record HasVariables (units : List Named) (result' : Elem) (vs : List Declared) (all : Variables) : Type 0 where
  pub names : all.names ≡ map (λ (i : Input). i.name) (inputs_in (declared_members units vs))
  pub initials : all.initials ≡ map (λ (i : Input). i.initial) (inputs_in (declared_members units vs))
  pub starts : all.starts ≡ beginnings.Value (zero_of result') ∷ own_starts (declared_members units vs)

-- ---- units

abbrev pub declared_own : List Named → Declares → List Start
declared_own units (names.function f) = beginnings.Value (zero_of f.result) ∷ own_starts (declared_members units (variables_of f.variables))
declared_own units _ = []

abbrev pub optional_own : List Named → Option Named → List Start
optional_own units None = []
optional_own units (Some u) = declared_own units u.declares

-- of the unit of this number
pub record IsCallable (units : List Named) (i : ℕ) (c : Callable) : Type 0 where
  pub function : c.function ≡ function_at units i
  pub starts : c.starts ≡ optional_own units (unit_at units i)

abbrev pub callable_function : Option Callable → Option Called
callable_function o = option_and_then (λ (c : Callable). c.function) o

-- the names of all units
abbrev pub unit_spellings : List Named → List (List ℕ)
unit_spellings units = map (λ (u : Named). u.name.spelling) units

-- each stands for the unit of its number
abbrev pub AreCallable : List Named → List Callable → Type 0
AreCallable units all = (i : ℕ) (c : Callable) → slice_get all i ≡ Some c → IsCallable units i c

-- of all units of a text
pub record AreFunctions (units : List Named) (all : Functions) : Type 0 where
  pub names : all.names ≡ unit_spellings units
  pub len : length all.units.items ≡ length units
  pub each : AreCallable units all.units.items

-- each variable of each function is one value
abbrev pub AreElementary : List Named → Type 0
AreElementary units = (i : ℕ) (u : Named) (f : Section) → unit_at units i ≡ Some u → u.declares ≡ names.function f
    → All (λ v. IsOneValue (declared_composition units (inside units) v)) (variables_of f.variables)
