-- What typing makes of expressions is sound.
use Rattle.std.proofs.Common.{List, [], ◌∷◌, map, refl, sym, subst}
use Rattle.std.specs.List.{flat_map}
use Rattle.st_tree.specs.declared.tree.expression.Argument.{Argument, fold-roll-Argument, map-Argument, roll-Argument}
use Rattle.st_tree.specs.declared.tree.expression.Argument.TheOpen.{Argument-F, Call-F, Expression-F, Operation-F, Part-F, Variable-F}
use Rattle.st_tree.specs.declared.tree.expression.Call.{Call, fold-roll-Call, map-Call, roll-Call}
use Rattle.st_tree.specs.declared.tree.expression.Expression.{Expression, fold-roll-Expression, ind-Expression, map-Expression, roll-Expression}
use Rattle.st_tree.specs.declared.tree.expression.Operation.{Operation, fold-roll-Operation, map-Operation, roll-Operation}
use Rattle.st_tree.specs.declared.tree.expression.Part.{Part, fold-roll-Part, map-Part, roll-Part}
use Rattle.st_tree.specs.declared.tree.expression.Variable.{Variable, fold-roll-Variable, ind-Variable, map-Variable, roll-Variable}
use Rattle.st_types.specs.Standard.{standard_of}
use Rattle.st_meaning.specs.Sound.{AreSoundParts}
use Rattle.st_meaning.specs.Typing.{argument_typed, call_typed_in, operation_typed, part_typed, place_of, typed}
use Rattle.st_meaning.specs.Wholes.{Functions, Whole}
use Rattle.st_meaning.specs.declared.operation.Unary.TheVariants as unaries
use Rattle.st_meaning.proofs.TypedFunctions.{ArePassed, KnowsNames, call_sound, passed_append}
use Rattle.st_meaning.proofs.TypedTerms.{AreSound, IsSound, KeepParts, KeepSound, KeepsParts, KeepsSound, chained_sound, joined_sound, literal_sound, prefixed_sound, terms_sound, through_sound, variable_sound}

-- ---- lists

each_sound : (functions : Functions) (w : Whole) (xs : List ((x : Expression) × IsSound functions w.variables (typed w x))) → AreSound functions w.variables (map (typed w) (map (λ e. e.0) xs))
each_sound functions w [] = tt
each_sound functions w (x ∷ xs) = (x.1, each_sound functions w xs)

each_keeps : (functions : Functions) (w : Whole) (os : List ((o : Operation) × KeepsSound functions w.variables (operation_typed w o))) → KeepSound functions w.variables (map (operation_typed w) (map (λ e. e.0) os))
each_keeps functions w [] = tt
each_keeps functions w (o ∷ os) = (o.1, each_keeps functions w os)

each_part : (functions : Functions) (w : Whole) (ps : List ((p : Part) × KeepsParts functions w.variables (part_typed w p))) → KeepParts functions w.variables (map (part_typed w) (map (λ e. e.0) ps))
each_part functions w [] = tt
each_part functions w (p ∷ ps) = (p.1, each_part functions w ps)

each_argument : (functions : Functions) (w : Whole) (xs : List ((a : Argument) × ArePassed functions w.variables (argument_typed w a)))
    → ArePassed functions w.variables (flat_map (λ a. a) (map (argument_typed w) (map (λ e. e.0) xs)))
each_argument functions w [] = tt
each_argument functions w (x ∷ xs) = passed_append functions w.variables (argument_typed w x.0) (flat_map (λ a. a) (map (argument_typed w) (map (λ e. e.0) xs))) x.1 (each_argument functions w xs)

-- ---- one layer of a tree, where each part is sound

module _ (functions : Functions) (w : Whole) (known : KnowsNames functions w) where
  abbrev SoundArgument : Type 0
  SoundArgument = (z : Argument) × ArePassed functions w.variables (argument_typed w z)

  abbrev SoundExpression : Type 0
  SoundExpression = (z : Expression) × IsSound functions w.variables (typed w z)

  abbrev SoundPart : Type 0
  SoundPart = (z : Part) × KeepsParts functions w.variables (part_typed w z)

  abbrev SoundCall : Type 0
  SoundCall = (z : Call) × IsSound functions w.variables (call_typed_in w z)

  abbrev SoundOperation : Type 0
  SoundOperation = (z : Operation) × KeepsSound functions w.variables (operation_typed w z)

  abbrev SoundVariable : Type 0
  SoundVariable = (z : Variable) × AreSoundParts functions w.variables (place_of w z)

  expression_made : (y : Expression-F SoundArgument SoundExpression SoundPart SoundCall SoundOperation SoundVariable)
      → IsSound functions w.variables (typed w (roll-Expression (map-Expression _ _ _ _ _ _ Argument Expression Part Call Operation Variable (λ e. e.0) (λ e. e.0) (λ e. e.0) (λ e. e.0) (λ e. e.0) (λ e. e.0) y)))
  expression_made (Expression-F.Constant c) = subst (IsSound functions w.variables) (sym (fold-roll-Expression _ _ _ _ _ _ _ _ _ _ _ _ _)) (literal_sound functions w.variables c)
  expression_made (Expression-F.Variable v) = subst (IsSound functions w.variables) (sym (fold-roll-Expression _ _ _ _ _ _ _ _ _ _ _ _ _)) (variable_sound functions w (place_of w v.0) known.values v.1)
  expression_made (Expression-F.Call c) = subst (IsSound functions w.variables) (sym (fold-roll-Expression _ _ _ _ _ _ _ _ _ _ _ _ _)) c.1
  expression_made (Expression-F.Parenthesized p x) = subst (IsSound functions w.variables) (sym (fold-roll-Expression _ _ _ _ _ _ _ _ _ _ _ _ _)) x.1
  expression_made (Expression-F.Negate p x) =
      subst (IsSound functions w.variables) (sym (fold-roll-Expression _ _ _ _ _ _ _ _ _ _ _ _ _)) (prefixed_sound functions w.variables unaries.Negate (typed w x.0) (λ e. refl) x.1)
  expression_made (Expression-F.Not p x) =
      subst (IsSound functions w.variables) (sym (fold-roll-Expression _ _ _ _ _ _ _ _ _ _ _ _ _)) (prefixed_sound functions w.variables unaries.Complement (typed w x.0) (λ e. refl) x.1)
  expression_made (Expression-F.Chain p x os) =
      subst (IsSound functions w.variables) (sym (fold-roll-Expression _ _ _ _ _ _ _ _ _ _ _ _ _))
      (chained_sound functions w.variables (typed w x.0) (map (operation_typed w) (map (λ e. e.0) os)) x.1 (each_keeps functions w os))

  argument_made : (y : Argument-F SoundArgument SoundExpression SoundPart SoundCall SoundOperation SoundVariable)
      → ArePassed functions w.variables (argument_typed w (roll-Argument (map-Argument _ _ _ _ _ _ Argument Expression Part Call Operation Variable (λ e. e.0) (λ e. e.0) (λ e. e.0) (λ e. e.0) (λ e. e.0) (λ e. e.0) y)))
  argument_made (Argument-F.Positional x) = subst (ArePassed functions w.variables) (sym (fold-roll-Argument _ _ _ _ _ _ _ _ _ _ _ _ _)) (x.1, tt)
  argument_made (Argument-F.Input n x) = subst (ArePassed functions w.variables) (sym (fold-roll-Argument _ _ _ _ _ _ _ _ _ _ _ _ _)) (x.1, tt)
  argument_made (Argument-F.Output n v) = subst (ArePassed functions w.variables) (sym (fold-roll-Argument _ _ _ _ _ _ _ _ _ _ _ _ _)) tt

  part_made : (y : Part-F SoundArgument SoundExpression SoundPart SoundCall SoundOperation SoundVariable)
      → KeepsParts functions w.variables (part_typed w (roll-Part (map-Part _ _ _ _ _ _ Argument Expression Part Call Operation Variable (λ e. e.0) (λ e. e.0) (λ e. e.0) (λ e. e.0) (λ e. e.0) (λ e. e.0) y)))
  part_made (Part-F.Field n) = subst (KeepsParts functions w.variables) (sym (fold-roll-Part _ _ _ _ _ _ _ _ _ _ _ _ _)) (λ ps h. h)
  part_made (Part-F.Subscripts p xs) =
      subst (KeepsParts functions w.variables) (sym (fold-roll-Part _ _ _ _ _ _ _ _ _ _ _ _ _)) (λ ps h. (terms_sound functions w.variables (map (typed w) (map (λ e. e.0) xs)) (each_sound functions w xs), h))

  call_made : (y : Call-F SoundArgument SoundExpression SoundPart SoundCall SoundOperation SoundVariable)
      → IsSound functions w.variables (call_typed_in w (roll-Call (map-Call _ _ _ _ _ _ Argument Expression Part Call Operation Variable (λ e. e.0) (λ e. e.0) (λ e. e.0) (λ e. e.0) (λ e. e.0) (λ e. e.0) y)))
  call_made y =
      subst (IsSound functions w.variables) (sym (fold-roll-Call _ _ _ _ _ _ _ _ _ _ _ _ _))
      (call_sound functions w known y.name.position.line y.name.spelling (standard_of y.name.spelling) (flat_map (λ a. a) (map (argument_typed w) (map (λ e. e.0) y.arguments))) (each_argument functions w y.arguments))

  operation_made : (y : Operation-F SoundArgument SoundExpression SoundPart SoundCall SoundOperation SoundVariable)
      → KeepsSound functions w.variables (operation_typed w (roll-Operation (map-Operation _ _ _ _ _ _ Argument Expression Part Call Operation Variable (λ e. e.0) (λ e. e.0) (λ e. e.0) (λ e. e.0) (λ e. e.0) (λ e. e.0) y)))
  operation_made y =
      subst (KeepsSound functions w.variables) (sym (fold-roll-Operation _ _ _ _ _ _ _ _ _ _ _ _ _)) (λ x h. joined_sound functions w.variables y.operator y.position.line x (typed w y.operand.0) h y.operand.1)

  variable_made : (y : Variable-F SoundArgument SoundExpression SoundPart SoundCall SoundOperation SoundVariable)
      → AreSoundParts functions w.variables (place_of w (roll-Variable (map-Variable _ _ _ _ _ _ Argument Expression Part Call Operation Variable (λ e. e.0) (λ e. e.0) (λ e. e.0) (λ e. e.0) (λ e. e.0) (λ e. e.0) y)))
  variable_made y =
      subst (AreSoundParts functions w.variables) (sym (fold-roll-Variable _ _ _ _ _ _ _ _ _ _ _ _ _)) (through_sound functions w.variables (map (part_typed w) (map (λ e. e.0) y.parts)) (each_part functions w y.parts))

  -- ---- whole trees

  pub expression_sound : (x : Expression) → IsSound functions w.variables (typed w x)
  expression_sound =
      ind-Expression (λ z. ArePassed functions w.variables (argument_typed w z)) (λ z. IsSound functions w.variables (typed w z)) (λ z. KeepsParts functions w.variables (part_typed w z))
      (λ z. IsSound functions w.variables (call_typed_in w z)) (λ z. KeepsSound functions w.variables (operation_typed w z)) (λ z. AreSoundParts functions w.variables (place_of w z))
      (λ x y is. subst (λ z. ArePassed functions w.variables (argument_typed w (roll-Argument z))) is (argument_made y))
      (λ x y is. subst (λ z. IsSound functions w.variables (typed w (roll-Expression z))) is (expression_made y))
      (λ x y is. subst (λ z. KeepsParts functions w.variables (part_typed w (roll-Part z))) is (part_made y))
      (λ x y is. subst (λ z. IsSound functions w.variables (call_typed_in w (roll-Call z))) is (call_made y))
      (λ x y is. subst (λ z. KeepsSound functions w.variables (operation_typed w (roll-Operation z))) is (operation_made y))
      (λ x y is. subst (λ z. AreSoundParts functions w.variables (place_of w (roll-Variable z))) is (variable_made y))

  pub place_parts : (x : Variable) → AreSoundParts functions w.variables (place_of w x)
  place_parts =
      ind-Variable (λ z. ArePassed functions w.variables (argument_typed w z)) (λ z. IsSound functions w.variables (typed w z)) (λ z. KeepsParts functions w.variables (part_typed w z))
      (λ z. IsSound functions w.variables (call_typed_in w z)) (λ z. KeepsSound functions w.variables (operation_typed w z)) (λ z. AreSoundParts functions w.variables (place_of w z))
      (λ x y is. subst (λ z. ArePassed functions w.variables (argument_typed w (roll-Argument z))) is (argument_made y))
      (λ x y is. subst (λ z. IsSound functions w.variables (typed w (roll-Expression z))) is (expression_made y))
      (λ x y is. subst (λ z. KeepsParts functions w.variables (part_typed w (roll-Part z))) is (part_made y))
      (λ x y is. subst (λ z. IsSound functions w.variables (call_typed_in w (roll-Call z))) is (call_made y))
      (λ x y is. subst (λ z. KeepsSound functions w.variables (operation_typed w (roll-Operation z))) is (operation_made y))
      (λ x y is. subst (λ z. AreSoundParts functions w.variables (place_of w (roll-Variable z))) is (variable_made y))
