-- Trees need at least as many cells as what they are typed as: expressions.
use Rattle.std.proofs.Common.{◌≡◌, ℕ, ◌≤◌, List, [], ◌∷◌, map, refl, sym, subst, arith}
use Rattle.std.specs.List.{flat_map}
use Rattle.std.specs.Prelude.{max}
use Rattle.st_tree.specs.declared.tree.expression.Argument.{Argument, fold-roll-Argument, map-Argument, roll-Argument}
use Rattle.st_tree.specs.declared.tree.expression.Argument.TheOpen.{Argument-F, Call-F, Expression-F, Operation-F, Part-F, Variable-F}
use Rattle.st_tree.specs.declared.tree.expression.Call.{Call, fold-roll-Call, map-Call, roll-Call}
use Rattle.st_tree.specs.declared.tree.expression.Expression.{Expression, fold-roll-Expression, ind-Expression, map-Expression, roll-Expression}
use Rattle.st_tree.specs.declared.tree.expression.Operation.{Operation, fold-roll-Operation, map-Operation, roll-Operation}
use Rattle.st_tree.specs.declared.tree.expression.Part.{Part, fold-roll-Part, map-Part, roll-Part}
use Rattle.st_tree.specs.declared.tree.expression.Variable.{Variable, fold-roll-Variable, ind-Variable, map-Variable, roll-Variable}
use Rattle.st_types.specs.Standard.{standard_of}
use Rattle.st_meaning.specs.Terms.{Parts}
use Rattle.st_meaning.specs.Typing.{argument_typed, call_typed_in, operation_typed, part_typed, place_of, typed, variable_typed}
use Rattle.st_meaning.specs.Wholes.{Whole}
use Rattle.st_meaning.specs.declared.operation.Unary.TheVariants as unaries
use Rattle.st_code.specs.Depth.{parts_depth}
use Rattle.st_code.specs.Depths.{argument_depths, call_depth, expression_depth, operation_depth, part_depth, place_depth}
use Rattle.st_code.proofs.TypedDepths.{AddDepths, AddsDepth, HasDepth, HaveDepths, PassDepths, PutDepths, PutsDepth, TakeAtMost, append_depths, call_typed_depth, chained_depth, joined_depth, literal_depth, more_depth, prefixed_depth, terms_of_depth, through_depth, variable_depth}

abbrev PlaceDepth : Parts → ℕ → Type 0
PlaceDepth ps d = parts_depth ps ≤ d

-- of two that are others
pub along : {A B : Type 0} (P : A → B → Type 0) {x y : A} {m n : B} → x ≡ y → m ≡ n → P y n → P x m
along P {x = x} {y = y} {m = m} {n = n} e f h = subst (λ a. P a m) (sym e) (subst (λ b. P y b) (sym f) h)

module _ (w : Whole) (inputs : ℕ) (few : TakeAtMost w inputs) where
  -- ---- each kind of tree

  abbrev DeepArgument : Argument → Type 0
  DeepArgument z = PassDepths (argument_typed w z) (argument_depths inputs z)

  abbrev DeepExpression : Expression → Type 0
  DeepExpression z = HasDepth (typed w z) (expression_depth inputs z)

  abbrev DeepPart : Part → Type 0
  DeepPart z = PutsDepth (part_typed w z) (part_depth inputs z)

  abbrev DeepCall : Call → Type 0
  DeepCall z = HasDepth (call_typed_in w z) (call_depth inputs z)

  abbrev DeepOperation : Operation → Type 0
  DeepOperation z = AddsDepth (operation_typed w z) (operation_depth inputs z)

  abbrev DeepVariable : Variable → Type 0
  DeepVariable z = PlaceDepth (place_of w z) (place_depth inputs z)

  -- ---- lists

  each_expression : (xs : List ((x : Expression) × DeepExpression x)) → HaveDepths (map (typed w) (map (λ e. e.0) xs)) (map (expression_depth inputs) (map (λ e. e.0) xs))
  each_expression [] = tt
  each_expression (x ∷ xs) = (x.1, each_expression xs)

  each_operation : (os : List ((o : Operation) × DeepOperation o)) → AddDepths (map (operation_typed w) (map (λ e. e.0) os)) (map (operation_depth inputs) (map (λ e. e.0) os))
  each_operation [] = tt
  each_operation (o ∷ os) = (o.1, each_operation os)

  each_part : (ps : List ((p : Part) × DeepPart p)) → PutDepths (map (part_typed w) (map (λ e. e.0) ps)) (map (part_depth inputs) (map (λ e. e.0) ps))
  each_part [] = tt
  each_part (p ∷ ps) = (p.1, each_part ps)

  each_argument : (xs : List ((a : Argument) × DeepArgument a))
      → PassDepths (flat_map (λ a. a) (map (argument_typed w) (map (λ e. e.0) xs))) (flat_map (λ a. a) (map (argument_depths inputs) (map (λ e. e.0) xs)))
  each_argument [] = tt
  each_argument (x ∷ xs) =
      append_depths (argument_typed w x.0) (flat_map (λ a. a) (map (argument_typed w) (map (λ e. e.0) xs))) (argument_depths inputs x.0) (flat_map (λ a. a) (map (argument_depths inputs) (map (λ e. e.0) xs))) x.1 (each_argument xs)

  -- ---- one layer of a tree

  abbrev SomeArgument : Type 0
  SomeArgument = (z : Argument) × DeepArgument z

  abbrev SomeExpression : Type 0
  SomeExpression = (z : Expression) × DeepExpression z

  abbrev SomePart : Type 0
  SomePart = (z : Part) × DeepPart z

  abbrev SomeCall : Type 0
  SomeCall = (z : Call) × DeepCall z

  abbrev SomeOperation : Type 0
  SomeOperation = (z : Operation) × DeepOperation z

  abbrev SomeVariable : Type 0
  SomeVariable = (z : Variable) × DeepVariable z

  expression_made : (y : Expression-F SomeArgument SomeExpression SomePart SomeCall SomeOperation SomeVariable) → DeepExpression (roll-Expression (map-Expression _ _ _ _ _ _ Argument Expression Part Call Operation Variable (λ e. e.0) (λ e. e.0) (λ e. e.0) (λ e. e.0) (λ e. e.0) (λ e. e.0) y))
  expression_made (Expression-F.Constant c) =
      along HasDepth (fold-roll-Expression _ _ _ _ _ _ _ _ _ _ _ _ _) (fold-roll-Expression _ _ _ _ _ _ _ _ _ _ _ _ _)
      (literal_depth c)
  expression_made (Expression-F.Variable v) =
      along HasDepth (fold-roll-Expression _ _ _ _ _ _ _ _ _ _ _ _ _) (fold-roll-Expression _ _ _ _ _ _ _ _ _ _ _ _ _)
      (more_depth (variable_typed w (place_of w v.0)) (max 1 (parts_depth (place_of w v.0))) (max 1 (place_depth inputs v.0)) (variable_depth w (place_of w v.0)) (omega (arith, v.1)))
  expression_made (Expression-F.Call c) =
      along HasDepth (fold-roll-Expression _ _ _ _ _ _ _ _ _ _ _ _ _) (fold-roll-Expression _ _ _ _ _ _ _ _ _ _ _ _ _)
      (c.1)
  expression_made (Expression-F.Parenthesized p x) =
      along HasDepth (fold-roll-Expression _ _ _ _ _ _ _ _ _ _ _ _ _) (fold-roll-Expression _ _ _ _ _ _ _ _ _ _ _ _ _)
      (x.1)
  expression_made (Expression-F.Negate p x) =
      along HasDepth (fold-roll-Expression _ _ _ _ _ _ _ _ _ _ _ _ _) (fold-roll-Expression _ _ _ _ _ _ _ _ _ _ _ _ _)
      (prefixed_depth unaries.Negate (typed w x.0) (expression_depth inputs x.0) x.1)
  expression_made (Expression-F.Not p x) =
      along HasDepth (fold-roll-Expression _ _ _ _ _ _ _ _ _ _ _ _ _) (fold-roll-Expression _ _ _ _ _ _ _ _ _ _ _ _ _)
      (prefixed_depth unaries.Complement (typed w x.0) (expression_depth inputs x.0) x.1)
  expression_made (Expression-F.Chain p x os) =
      along HasDepth (fold-roll-Expression _ _ _ _ _ _ _ _ _ _ _ _ _) (fold-roll-Expression _ _ _ _ _ _ _ _ _ _ _ _ _)
      (chained_depth (typed w x.0) (expression_depth inputs x.0) (map (operation_typed w) (map (λ e. e.0) os)) (map (operation_depth inputs) (map (λ e. e.0) os)) x.1 (each_operation os))

  argument_made : (y : Argument-F SomeArgument SomeExpression SomePart SomeCall SomeOperation SomeVariable) → DeepArgument (roll-Argument (map-Argument _ _ _ _ _ _ Argument Expression Part Call Operation Variable (λ e. e.0) (λ e. e.0) (λ e. e.0) (λ e. e.0) (λ e. e.0) (λ e. e.0) y))
  argument_made (Argument-F.Positional x) =
      along PassDepths (fold-roll-Argument _ _ _ _ _ _ _ _ _ _ _ _ _) (fold-roll-Argument _ _ _ _ _ _ _ _ _ _ _ _ _)
      ((record { deep = x.1; named = refl }, tt))
  argument_made (Argument-F.Input n x) =
      along PassDepths (fold-roll-Argument _ _ _ _ _ _ _ _ _ _ _ _ _) (fold-roll-Argument _ _ _ _ _ _ _ _ _ _ _ _ _)
      ((record { deep = x.1; named = refl }, tt))
  argument_made (Argument-F.Output n v) =
      along PassDepths (fold-roll-Argument _ _ _ _ _ _ _ _ _ _ _ _ _) (fold-roll-Argument _ _ _ _ _ _ _ _ _ _ _ _ _)
      (tt)

  part_made : (y : Part-F SomeArgument SomeExpression SomePart SomeCall SomeOperation SomeVariable) → DeepPart (roll-Part (map-Part _ _ _ _ _ _ Argument Expression Part Call Operation Variable (λ e. e.0) (λ e. e.0) (λ e. e.0) (λ e. e.0) (λ e. e.0) (λ e. e.0) y))
  part_made (Part-F.Field n) =
      along PutsDepth (fold-roll-Part _ _ _ _ _ _ _ _ _ _ _ _ _) (fold-roll-Part _ _ _ _ _ _ _ _ _ _ _ _ _)
      (λ ps. omega arith)
  part_made (Part-F.Subscripts p xs) =
      along PutsDepth (fold-roll-Part _ _ _ _ _ _ _ _ _ _ _ _ _) (fold-roll-Part _ _ _ _ _ _ _ _ _ _ _ _ _)
      (λ ps. omega (arith, terms_of_depth (map (typed w) (map (λ e. e.0) xs)) (map (expression_depth inputs) (map (λ e. e.0) xs)) (each_expression xs)))

  call_made : (y : Call-F SomeArgument SomeExpression SomePart SomeCall SomeOperation SomeVariable) → DeepCall (roll-Call (map-Call _ _ _ _ _ _ Argument Expression Part Call Operation Variable (λ e. e.0) (λ e. e.0) (λ e. e.0) (λ e. e.0) (λ e. e.0) (λ e. e.0) y))
  call_made y =
      along HasDepth (fold-roll-Call _ _ _ _ _ _ _ _ _ _ _ _ _) (fold-roll-Call _ _ _ _ _ _ _ _ _ _ _ _ _)
      (call_typed_depth w inputs few y.name.position.line y.name.spelling (standard_of y.name.spelling) (flat_map (λ a. a) (map (argument_typed w) (map (λ e. e.0) y.arguments))) (flat_map (λ a. a) (map (argument_depths inputs) (map (λ e. e.0) y.arguments))) (each_argument y.arguments))

  operation_made : (y : Operation-F SomeArgument SomeExpression SomePart SomeCall SomeOperation SomeVariable) → DeepOperation (roll-Operation (map-Operation _ _ _ _ _ _ Argument Expression Part Call Operation Variable (λ e. e.0) (λ e. e.0) (λ e. e.0) (λ e. e.0) (λ e. e.0) (λ e. e.0) y))
  operation_made y =
      along AddsDepth (fold-roll-Operation _ _ _ _ _ _ _ _ _ _ _ _ _) (fold-roll-Operation _ _ _ _ _ _ _ _ _ _ _ _ _)
      (λ x n h. joined_depth y.operator y.position.line x (typed w y.operand.0) n (expression_depth inputs y.operand.0) h y.operand.1)

  variable_made : (y : Variable-F SomeArgument SomeExpression SomePart SomeCall SomeOperation SomeVariable) → DeepVariable (roll-Variable (map-Variable _ _ _ _ _ _ Argument Expression Part Call Operation Variable (λ e. e.0) (λ e. e.0) (λ e. e.0) (λ e. e.0) (λ e. e.0) (λ e. e.0) y))
  variable_made y =
      along PlaceDepth (fold-roll-Variable _ _ _ _ _ _ _ _ _ _ _ _ _) (fold-roll-Variable _ _ _ _ _ _ _ _ _ _ _ _ _)
      (through_depth (map (part_typed w) (map (λ e. e.0) y.parts)) (map (part_depth inputs) (map (λ e. e.0) y.parts)) (each_part y.parts))

  -- ---- whole trees

  pub expression_deep : (x : Expression) → DeepExpression x
  expression_deep =
      ind-Expression DeepArgument DeepExpression DeepPart DeepCall DeepOperation DeepVariable
      (λ x y is. subst (λ z. DeepArgument (roll-Argument z)) is (argument_made y))
      (λ x y is. subst (λ z. DeepExpression (roll-Expression z)) is (expression_made y))
      (λ x y is. subst (λ z. DeepPart (roll-Part z)) is (part_made y))
      (λ x y is. subst (λ z. DeepCall (roll-Call z)) is (call_made y))
      (λ x y is. subst (λ z. DeepOperation (roll-Operation z)) is (operation_made y))
      (λ x y is. subst (λ z. DeepVariable (roll-Variable z)) is (variable_made y))

  pub place_deep : (x : Variable) → DeepVariable x
  place_deep =
      ind-Variable DeepArgument DeepExpression DeepPart DeepCall DeepOperation DeepVariable
      (λ x y is. subst (λ z. DeepArgument (roll-Argument z)) is (argument_made y))
      (λ x y is. subst (λ z. DeepExpression (roll-Expression z)) is (expression_made y))
      (λ x y is. subst (λ z. DeepPart (roll-Part z)) is (part_made y))
      (λ x y is. subst (λ z. DeepCall (roll-Call z)) is (call_made y))
      (λ x y is. subst (λ z. DeepOperation (roll-Operation z)) is (operation_made y))
      (λ x y is. subst (λ z. DeepVariable (roll-Variable z)) is (variable_made y))
