-- Which term an expression is where a type is due: by cases, and without a term where no case fits.
use Rattle.std.specs.List.{flat_map, position}
use Rattle.std.specs.Prelude.{◌≡◌, ℕ, suc, ◌==◌, Bool, true, false, ◌&&◌, ◌||◌, not, if◌then◌else◌, List, [], ◌∷◌, length, map, slice_get, ℤ, pos, Option, Some, None}
use Rattle.st_values.specs.Types.{is_same}
use Rattle.st_values.specs.Values.{in_range}
use Rattle.st_values.specs.Words.{is_word}
use Rattle.st_values.specs.declared.elem.Elem.{Elem}
use Rattle.st_values.specs.declared.elem.Elem.TheVariants as elems
use Rattle.st_values.specs.declared.value.Value.{Value}
use Rattle.st_tree.specs.declared.tree.constant.Constant.{Constant}
use Rattle.st_tree.specs.declared.tree.constant.Constant.TheVariants as constants
use Rattle.st_tree.specs.declared.tree.constant.Duration.{Duration}
use Rattle.st_tree.specs.declared.tree.constant.SignedInteger.{SignedInteger}
use Rattle.st_tree.specs.declared.tree.expression.Argument.{Argument, roll-Argument}
use Rattle.st_tree.specs.declared.tree.expression.Argument.TheOpen.{Argument-F, Expression-F, Part-F}
use Rattle.st_tree.specs.declared.tree.expression.Call.{Call}
use Rattle.st_tree.specs.declared.tree.expression.Expression.{Expression, roll-Expression}
use Rattle.st_tree.specs.declared.tree.expression.Operation.{Operation}
use Rattle.st_tree.specs.declared.tree.expression.Part.{Part, roll-Part}
use Rattle.st_tree.specs.declared.tree.expression.Variable.{Variable}
use Rattle.st_tree.specs.declared.tree.position.Identifier.{Identifier}
use Rattle.st_tree.specs.declared.tree.position.Position.{Position}
use Rattle.st_operators.specs.Operators.{is_comparison, is_integer}
use Rattle.st_types.specs.OwnTypes.{first_own, or_lint}
use Rattle.st_types.specs.Standard.{standard_of}
use Rattle.st_types.specs.declared.standard.Standard.TheVariants as standards
use Rattle.st_types.specs.declared.standard.StandardFunction.{StandardFunction}
use Rattle.st_types.specs.declared.standard.StandardFunction.TheVariants as functions
use Rattle.st_check_expressions.specs.Calls.{is_repeated}
use Rattle.st_tree.specs.Literals.{number_of}
use Rattle.st_check_expressions.specs.Known.{is_empty}
use Rattle.st_check_expressions.specs.Nodes.{inputs_of, positionals_of}
use Rattle.st_meaning.specs.Operations.{takes_one, takes_two}
use Rattle.st_meaning.specs.Steps.{has_step, step_elem}
use Rattle.st_meaning.specs.Terms.{Term, constant, stored, of_step, unary, binary, selection, call, Terms, no_terms, more_terms, Parts, whole, field_part, element_part}
use Rattle.st_meaning.specs.Typing.{Passed, argument_typed, go_to, sources_from, step_part, typed}
use Rattle.st_meaning.specs.Wholes.{Called, Input, Whole, type_of}
use Rattle.st_meaning.specs.declared.operation.Binary.{Binary}
use Rattle.st_meaning.specs.declared.operation.Binary.TheVariants as binaries
use Rattle.st_meaning.specs.declared.operation.Unary.TheVariants as unaries

abbrev pub value : Elem → ℤ → Value
value e n = record { elem = e; bits = n }

-- ---- literals (2.2): the number that is written, in the range of the type

pub data IsLiteral : Elem → Constant → Value → Type 0 where
  integer : {n : SignedInteger} {e : Elem} → is_same e elems.Time ≡ false → in_range e (number_of n) ≡ true
      → IsLiteral e (constants.Integer n) (value e (number_of n))
  stated : {position : Position} {v : Value} → in_range v.elem v.bits ≡ true → IsLiteral v.elem (constants.Typed position v) v
  duration : {d : Duration} → in_range elems.Time d.milliseconds ≡ true
      → IsLiteral elems.Time (constants.Duration d) (value elems.Time d.milliseconds)
  false_is : {position : Position} → IsLiteral elems.Bool (constants.Bool position false) (value elems.Bool (pos 0))
  true_is : {position : Position} → IsLiteral elems.Bool (constants.Bool position true) (value elems.Bool (pos 1))

-- ---- expressions (3.3.1)

-- a name without parts that is that of a constant
abbrev pub constant_at : Whole → Parts → Option Value
constant_at w (field_part name whole) = w.constants name
constant_at w _ = None

-- the type that an expression has of itself
abbrev pub own_type : Whole → Expression → Option Elem
own_type w x = (typed w x).own

-- the type at which the two sides of a comparison are taken
abbrev pub common_type : Whole → Expression → Expression → Elem
common_type w x y = or_lint (first_own (own_type w x ∷ own_type w y ∷ []))

-- ---- calls

abbrev pub positional : Expression → Argument
positional x = roll-Argument (Argument-F.Positional x)

-- the shifts and rotations
abbrev pub shift_of : StandardFunction → Option Binary
shift_of functions.Shl = Some binaries.ShiftLeft
shift_of functions.Shr = Some binaries.ShiftRight
shift_of functions.Rol = Some binaries.RotateLeft
shift_of functions.Ror = Some binaries.RotateRight
shift_of _ = None

-- by position one for each input or none, or else by the names of inputs, none twice
abbrev pub are_passed : List Input → List Argument → Bool
are_passed inputs arguments =
    let count = length (positionals_of arguments) in
    if is_empty (inputs_of arguments) then (count == 0) || (count == length inputs) else (count == 0) && not (is_repeated (inputs_of arguments))

-- the arguments of a call of a function of the text
abbrev pub passed_by : Whole → List Argument → List Passed
passed_by w arguments = flat_map (λ a. a) (map (argument_typed w) arguments)

mutual
  pub data IsTerm (w : Whole) : Elem → Expression → Term → Type 0 where
    literal : {e : Elem} {c : Constant} {v : Value} → IsLiteral e c v
        → IsTerm w e (roll-Expression (Expression-F.Constant c)) (constant v)
    named : {v : Variable} {ps : Parts} {x : Value} → IsPlace w v ps → constant_at w ps ≡ Some x
        → IsTerm w x.elem (roll-Expression (Expression-F.Variable v)) (constant x)
    place : {e : Elem} {v : Variable} {ps : Parts} → IsPlace w v ps → constant_at w ps ≡ None → type_of w.variables ps ≡ Some e
        → IsTerm w e (roll-Expression (Expression-F.Variable v)) (stored ps)
    step : {v : Variable} {name part : List ℕ} {is_time : Bool} → IsPlace w v (field_part name (field_part part whole))
        → type_of w.variables (field_part name (field_part part whole)) ≡ None → step_part part ≡ Some is_time
        → has_step w.variables name ≡ true
        → IsTerm w (step_elem is_time) (roll-Expression (Expression-F.Variable v)) (of_step is_time name)
    parenthesized : {e : Elem} (position : Position) {x : Expression} {t : Term} → IsTerm w e x t
        → IsTerm w e (roll-Expression (Expression-F.Parenthesized position x)) t
    negate : {e : Elem} (position : Position) {x : Expression} {t : Term} → takes_one unaries.Negate e ≡ true → IsTerm w e x t
        → IsTerm w e (roll-Expression (Expression-F.Negate position x)) (unary unaries.Negate t)
    complement : {e : Elem} (position : Position) {x : Expression} {t : Term} → takes_one unaries.Complement e ≡ true
        → IsTerm w e x t
        → IsTerm w e (roll-Expression (Expression-F.Not position x)) (unary unaries.Complement t)
    -- operators that give what they take
    combination : {e : Elem} (position : Position) {x : Expression} {os : List Operation} {a t : Term} → IsTerm w e x a
        → AreCombined w e a os t
        → IsTerm w e (roll-Expression (Expression-F.Chain position x os)) t
    comparison : (position : Position) (x : Expression) (o : Operation) {os : List Operation} {a b t : Term}
        → is_comparison o.operator ≡ true
        → IsTerm w (common_type w x o.operand) x a → IsTerm w (common_type w x o.operand) o.operand b
        → AreCompared w (binary (binaries.Operator o.operator) o.position.line a b) os t
        → IsTerm w elems.Bool (roll-Expression (Expression-F.Chain position x (o ∷ os))) t
    called : {e : Elem} {c : Call} {t : Term} → IsCalled w e c t → IsTerm w e (roll-Expression (Expression-F.Call c)) t

  -- a first operand, and further ones of the same type
  pub data AreCombined (w : Whole) : Elem → Term → List Operation → Term → Type 0 where
    all_combined : {e : Elem} {a : Term} → AreCombined w e a [] a
    combined_with : {e : Elem} {o : Operation} {os : List Operation} {a b t : Term} → is_comparison o.operator ≡ false
        → takes_two (binaries.Operator o.operator) e ≡ true
        → IsTerm w e o.operand b → AreCombined w e (binary (binaries.Operator o.operator) o.position.line a b) os t
        → AreCombined w e a (o ∷ os) t

  -- what a comparison gives, compared with further operands
  pub data AreCompared (w : Whole) : Term → List Operation → Term → Type 0 where
    all_compared : {a : Term} → AreCompared w a [] a
    compared_with : {o : Operation} {os : List Operation} {a b t : Term} → is_comparison o.operator ≡ true
        → IsTerm w elems.Bool o.operand b
        → AreCompared w (binary (binaries.Operator o.operator) o.position.line a b) os t → AreCompared w a (o ∷ os) t

  -- ---- places (2.4.1)

  pub data IsPlace (w : Whole) : Variable → Parts → Type 0 where
    variable : {v : Variable} {ps : Parts} → AreParts w v.parts ps → IsPlace w v (field_part v.name.spelling ps)

  pub data AreParts (w : Whole) : List Part → Parts → Type 0 where
    no_part : AreParts w [] whole
    field : (n : Identifier) {parts : List Part} {ps : Parts} → AreParts w parts ps
        → AreParts w (roll-Part (Part-F.Field n) ∷ parts) (field_part n.spelling ps)
    element : (position : Position) {xs : List Expression} {ts : Terms} {parts : List Part} {ps : Parts} → AreSubscripts w xs ts
        → AreParts w parts ps
        → AreParts w (roll-Part (Part-F.Subscripts position xs) ∷ parts) (element_part position.line ts ps)

  -- each of an integer type
  pub data AreSubscripts (w : Whole) : List Expression → Terms → Type 0 where
    no_subscript : AreSubscripts w [] no_terms
    subscript : {x : Expression} {xs : List Expression} {t : Term} {ts : Terms} → is_integer (or_lint (own_type w x)) ≡ true
        → IsTerm w (or_lint (own_type w x)) x t
        → AreSubscripts w xs ts → AreSubscripts w (x ∷ xs) (more_terms t ts)

  -- ---- calls (2.5.1)

  pub data IsCalled (w : Whole) : Elem → Call → Term → Type 0 where
    function : {e : Elem} {c : Call} (f : StandardFunction) {xs : List Expression} {t : Term}
        → standard_of c.name.spelling ≡ Some (standards.Function f)
        → c.arguments ≡ map positional xs → IsFunction w f e xs t → IsCalled w e c t
    conversion : {c : Call} {from to : Elem} {x : Expression} {a : Term}
        → standard_of c.name.spelling ≡ Some (standards.Conversion from to)
        → c.arguments ≡ positional x ∷ [] → IsTerm w from x a → IsCalled w to c (unary (unaries.Convert to) a)
    own : {c : Call} (f : Called) {ts : Terms} → standard_of c.name.spelling ≡ None → w.functions c.name.spelling ≡ Some f
        → are_passed f.inputs c.arguments ≡ true → AreGiven w f.inputs 0 c.arguments ts
        → IsCalled w f.result c (call c.name.position.line f.number f.result ts (sources_from (go_to f.inputs 0 (passed_by w c.arguments)) 0 f.inputs))

  -- of a standard function (2.5.1.5)
  pub data IsFunction (w : Whole) : StandardFunction → Elem → List Expression → Term → Type 0 where
    absolute : {e : Elem} {x : Expression} {a : Term} → takes_one unaries.Absolute e ≡ true → IsTerm w e x a
        → IsFunction w functions.Abs e (x ∷ []) (unary unaries.Absolute a)
    least : {e : Elem} {x y : Expression} {xs : List Expression} {a t : Term} → IsTerm w e x a
        → AreAll w binaries.Least e a (y ∷ xs) t → IsFunction w functions.Min e (x ∷ y ∷ xs) t
    greatest : {e : Elem} {x y : Expression} {xs : List Expression} {a t : Term} → IsTerm w e x a
        → AreAll w binaries.Greatest e a (y ∷ xs) t → IsFunction w functions.Max e (x ∷ y ∷ xs) t
    limited : {e : Elem} {low x high : Expression} {a b c : Term} → IsTerm w e low a → IsTerm w e x b → IsTerm w e high c
        → IsFunction w functions.Limit e (low ∷ x ∷ high ∷ []) (binary binaries.Least 0 (binary binaries.Greatest 0 a b) c)
    selected : {e : Elem} {g x y : Expression} {a b c : Term} → IsTerm w elems.Bool g a → IsTerm w e x b → IsTerm w e y c
        → IsFunction w functions.Sel e (g ∷ x ∷ y ∷ []) (selection a b c)
    -- the count has its own type
    shifted : {f : StandardFunction} {o : Binary} {e : Elem} {x n : Expression} {a b : Term} → shift_of f ≡ Some o
        → takes_two o e ≡ true → IsTerm w e x a
        → is_integer (or_lint (own_type w n)) ≡ true → IsTerm w (or_lint (own_type w n)) n b
        → IsFunction w f e (x ∷ n ∷ []) (binary o 0 a b)

  -- a first value, and further ones of the same type
  pub data AreAll (w : Whole) : Binary → Elem → Term → List Expression → Term → Type 0 where
    all_taken : {o : Binary} {e : Elem} {a : Term} → AreAll w o e a [] a
    taken_with : {o : Binary} {e : Elem} {y : Expression} {ys : List Expression} {a b t : Term} → IsTerm w e y b
        → AreAll w o e (binary o 0 a b) ys t → AreAll w o e a (y ∷ ys) t

  -- each argument, from this place on, goes to an input of its type
  pub data AreGiven (w : Whole) : List Input → ℕ → List Argument → Terms → Type 0 where
    all_given : {inputs : List Input} {place : ℕ} → AreGiven w inputs place [] no_terms
    by_place : {inputs : List Input} {place : ℕ} {i : Input} {x : Expression} {as' : List Argument} {t : Term} {ts : Terms}
        → slice_get inputs place ≡ Some i
        → IsTerm w i.initial.elem x t → AreGiven w inputs (suc place) as' ts
        → AreGiven w inputs place (roll-Argument (Argument-F.Positional x) ∷ as') (more_terms t ts)
    by_name : {inputs : List Input} {place number : ℕ} (n : Identifier) {i : Input} {x : Expression} {as' : List Argument} {t : Term} {ts : Terms}
        → position (λ j. is_word j.name n.spelling) inputs ≡ Some number → slice_get inputs number ≡ Some i
        → IsTerm w i.initial.elem x t → AreGiven w inputs (suc place) as' ts
        → AreGiven w inputs place (roll-Argument (Argument-F.Input n x) ∷ as') (more_terms t ts)
