-- What typing makes of expressions calls what is named in them.
use Rattle.std.proofs.Common.{ℕ, List, [], ◌∷◌, ◌++◌, map, refl, sym, subst}
use Rattle.std.specs.List.{flat_map}
use Rattle.st_tree.specs.declared.tree.expression.Argument.{Argument, fold-roll-Argument, map-Argument, roll-Argument}
use Rattle.st_tree.specs.declared.tree.expression.Argument.TheOpen.{Argument-F, Call-F, Expression-F, Operation-F, Part-F, Variable-F}
use Rattle.st_tree.specs.declared.tree.expression.Call.{Call, fold-roll-Call, map-Call, roll-Call}
use Rattle.st_tree.specs.declared.tree.expression.Expression.{Expression, fold-roll-Expression, ind-Expression, map-Expression, roll-Expression}
use Rattle.st_tree.specs.declared.tree.expression.Operation.{Operation, fold-roll-Operation, map-Operation, roll-Operation}
use Rattle.st_tree.specs.declared.tree.expression.Part.{Part, fold-roll-Part, map-Part, roll-Part}
use Rattle.st_tree.specs.declared.tree.expression.Variable.{Variable, fold-roll-Variable, ind-Variable, map-Variable, roll-Variable}
use Rattle.st_types.specs.Standard.{standard_of}
use Rattle.st_references.specs.Calls.{all, argument_calls, call_calls, expression_calls, operation_calls, part_calls, variable_calls}
use Rattle.st_meaning.specs.CalledBy.{CalledTest, PartsCall}
use Rattle.st_meaning.specs.Typing.{argument_typed, call_typed_in, operation_typed, part_typed, place_of, typed}
use Rattle.st_meaning.specs.Wholes.{Whole}
use Rattle.st_meaning.specs.declared.operation.Unary.TheVariants as unaries
use Rattle.st_compile.specs.Named.{NamesPass}
use Rattle.st_compile.proofs.NamedTerms.{ArePassed, KeepParts, KeepPassing, KeepsParts, KeepsPassing, Pass, Passes, call_passes, chained_passes, joined_passes, passed_append, prefixed_passes, terms_pass, through_passes, variable_passes}

module _ (w : Whole) (test : CalledTest) where
  abbrev pub Named : List (List ℕ) → Type 0
  Named names = NamesPass w test names

  pub named_left : (a b : List (List ℕ)) → Named (a ++ b) → Named a
  named_left [] b h = tt
  named_left (n ∷ a) b h = (h.0, named_left a b h.1)

  pub named_right : (a b : List (List ℕ)) → Named (a ++ b) → Named b
  named_right [] b h = h
  named_right (n ∷ a) b h = named_right a b h.1

  -- ---- of each kind of tree

  abbrev ArgumentIs : Argument → Type 0
  ArgumentIs z = Named (argument_calls z) → ArePassed test (argument_typed w z)

  abbrev pub ExpressionIs : Expression → Type 0
  ExpressionIs z = Named (expression_calls z) → Passes test (typed w z)

  abbrev PartIs : Part → Type 0
  PartIs z = Named (part_calls z) → KeepsParts test (part_typed w z)

  abbrev CallIs : Call → Type 0
  CallIs z = Named (call_calls z) → Passes test (call_typed_in w z)

  abbrev OperationIs : Operation → Type 0
  OperationIs z = Named (operation_calls z) → KeepsPassing test (operation_typed w z)

  abbrev pub VariableIs : Variable → Type 0
  VariableIs z = Named (variable_calls z) → PartsCall test (place_of w z)

  -- ---- lists

  each_expression : (xs : List ((z : Expression) × ExpressionIs z)) → Named (all (map expression_calls (map (λ e. e.0) xs))) → Pass test (map (typed w) (map (λ e. e.0) xs))
  each_expression [] h = tt
  each_expression (x ∷ xs) h =
      let rest = all (map expression_calls (map (λ e. e.0) xs)) in
      (x.1 (named_left (expression_calls x.0) rest h), each_expression xs (named_right (expression_calls x.0) rest h))

  each_operation : (xs : List ((z : Operation) × OperationIs z)) → Named (all (map operation_calls (map (λ e. e.0) xs))) → KeepPassing test (map (operation_typed w) (map (λ e. e.0) xs))
  each_operation [] h = tt
  each_operation (x ∷ xs) h =
      let rest = all (map operation_calls (map (λ e. e.0) xs)) in
      (x.1 (named_left (operation_calls x.0) rest h), each_operation xs (named_right (operation_calls x.0) rest h))

  each_part : (xs : List ((z : Part) × PartIs z)) → Named (all (map part_calls (map (λ e. e.0) xs))) → KeepParts test (map (part_typed w) (map (λ e. e.0) xs))
  each_part [] h = tt
  each_part (x ∷ xs) h =
      let rest = all (map part_calls (map (λ e. e.0) xs)) in
      (x.1 (named_left (part_calls x.0) rest h), each_part xs (named_right (part_calls x.0) rest h))

  each_argument : (xs : List ((z : Argument) × ArgumentIs z)) → Named (all (map argument_calls (map (λ e. e.0) xs)))
      → ArePassed test (flat_map (λ a. a) (map (argument_typed w) (map (λ e. e.0) xs)))
  each_argument [] h = tt
  each_argument (x ∷ xs) h =
      let rest = all (map argument_calls (map (λ e. e.0) xs)) in
      passed_append test (argument_typed w x.0) (flat_map (λ a. a) (map (argument_typed w) (map (λ e. e.0) xs))) (x.1 (named_left (argument_calls x.0) rest h))
      (each_argument xs (named_right (argument_calls x.0) rest h))

  -- ---- one layer of a tree

  abbrev InArgument : Type 0
  InArgument = (z : Argument) × ArgumentIs z

  abbrev InExpression : Type 0
  InExpression = (z : Expression) × ExpressionIs z

  abbrev InPart : Type 0
  InPart = (z : Part) × PartIs z

  abbrev InCall : Type 0
  InCall = (z : Call) × CallIs z

  abbrev InOperation : Type 0
  InOperation = (z : Operation) × OperationIs z

  abbrev InVariable : Type 0
  InVariable = (z : Variable) × VariableIs z

  expression_made : (y : Expression-F InArgument InExpression InPart InCall InOperation InVariable)
      → ExpressionIs (roll-Expression (map-Expression _ _ _ _ _ _ Argument Expression Part Call Operation Variable (λ e. e.0) (λ e. e.0) (λ e. e.0) (λ e. e.0) (λ e. e.0) (λ e. e.0) y))
  expression_made (Expression-F.Constant c) h = subst (Passes test) (sym (fold-roll-Expression _ _ _ _ _ _ _ _ _ _ _ _ _)) (λ t. tt)
  expression_made (Expression-F.Variable v) h =
      subst (Passes test) (sym (fold-roll-Expression _ _ _ _ _ _ _ _ _ _ _ _ _)) (variable_passes test w (place_of w v.0) (v.1 (subst Named (fold-roll-Expression _ _ _ _ _ _ _ _ _ _ _ _ _) h)))
  expression_made (Expression-F.Call c) h =
      subst (Passes test) (sym (fold-roll-Expression _ _ _ _ _ _ _ _ _ _ _ _ _)) (c.1 (subst Named (fold-roll-Expression _ _ _ _ _ _ _ _ _ _ _ _ _) h))
  expression_made (Expression-F.Parenthesized p x) h =
      subst (Passes test) (sym (fold-roll-Expression _ _ _ _ _ _ _ _ _ _ _ _ _)) (x.1 (subst Named (fold-roll-Expression _ _ _ _ _ _ _ _ _ _ _ _ _) h))
  expression_made (Expression-F.Negate p x) h =
      subst (Passes test) (sym (fold-roll-Expression _ _ _ _ _ _ _ _ _ _ _ _ _))
      (prefixed_passes test unaries.Negate (typed w x.0) (x.1 (subst Named (fold-roll-Expression _ _ _ _ _ _ _ _ _ _ _ _ _) h)))
  expression_made (Expression-F.Not p x) h =
      subst (Passes test) (sym (fold-roll-Expression _ _ _ _ _ _ _ _ _ _ _ _ _))
      (prefixed_passes test unaries.Complement (typed w x.0) (x.1 (subst Named (fold-roll-Expression _ _ _ _ _ _ _ _ _ _ _ _ _) h)))
  expression_made (Expression-F.Chain p x os) h =
      let rest = all (map operation_calls (map (λ e. e.0) os)) in
      let both : Named (expression_calls x.0 ++ rest) = subst Named (fold-roll-Expression _ _ _ _ _ _ _ _ _ _ _ _ _) h in
      subst (Passes test) (sym (fold-roll-Expression _ _ _ _ _ _ _ _ _ _ _ _ _))
      (chained_passes test (typed w x.0) (map (operation_typed w) (map (λ e. e.0) os)) (x.1 (named_left (expression_calls x.0) rest both)) (each_operation os (named_right (expression_calls x.0) rest both)))

  argument_made : (y : Argument-F InArgument InExpression InPart InCall InOperation InVariable)
      → ArgumentIs (roll-Argument (map-Argument _ _ _ _ _ _ Argument Expression Part Call Operation Variable (λ e. e.0) (λ e. e.0) (λ e. e.0) (λ e. e.0) (λ e. e.0) (λ e. e.0) y))
  argument_made (Argument-F.Positional x) h =
      subst (ArePassed test) (sym (fold-roll-Argument _ _ _ _ _ _ _ _ _ _ _ _ _)) (x.1 (subst Named (fold-roll-Argument _ _ _ _ _ _ _ _ _ _ _ _ _) h), tt)
  argument_made (Argument-F.Input n x) h =
      subst (ArePassed test) (sym (fold-roll-Argument _ _ _ _ _ _ _ _ _ _ _ _ _)) (x.1 (subst Named (fold-roll-Argument _ _ _ _ _ _ _ _ _ _ _ _ _) h), tt)
  argument_made (Argument-F.Output n v) h = subst (ArePassed test) (sym (fold-roll-Argument _ _ _ _ _ _ _ _ _ _ _ _ _)) tt

  part_made : (y : Part-F InArgument InExpression InPart InCall InOperation InVariable)
      → PartIs (roll-Part (map-Part _ _ _ _ _ _ Argument Expression Part Call Operation Variable (λ e. e.0) (λ e. e.0) (λ e. e.0) (λ e. e.0) (λ e. e.0) (λ e. e.0) y))
  part_made (Part-F.Field n) h = subst (KeepsParts test) (sym (fold-roll-Part _ _ _ _ _ _ _ _ _ _ _ _ _)) (λ ps k. k)
  part_made (Part-F.Subscripts p xs) h =
      subst (KeepsParts test) (sym (fold-roll-Part _ _ _ _ _ _ _ _ _ _ _ _ _))
      (λ ps k. (terms_pass test (map (typed w) (map (λ e. e.0) xs)) (each_expression xs (subst Named (fold-roll-Part _ _ _ _ _ _ _ _ _ _ _ _ _) h)), k))

  call_made : (y : Call-F InArgument InExpression InPart InCall InOperation InVariable)
      → CallIs (roll-Call (map-Call _ _ _ _ _ _ Argument Expression Part Call Operation Variable (λ e. e.0) (λ e. e.0) (λ e. e.0) (λ e. e.0) (λ e. e.0) (λ e. e.0) y))
  call_made y h =
      let both : Named (y.name.spelling ∷ all (map argument_calls (map (λ e. e.0) y.arguments))) = subst Named (fold-roll-Call _ _ _ _ _ _ _ _ _ _ _ _ _) h in
      subst (Passes test) (sym (fold-roll-Call _ _ _ _ _ _ _ _ _ _ _ _ _))
      (call_passes test w y.name.position.line y.name.spelling (standard_of y.name.spelling) (flat_map (λ a. a) (map (argument_typed w) (map (λ e. e.0) y.arguments))) refl both.0 (each_argument y.arguments both.1))

  operation_made : (y : Operation-F InArgument InExpression InPart InCall InOperation InVariable)
      → OperationIs (roll-Operation (map-Operation _ _ _ _ _ _ Argument Expression Part Call Operation Variable (λ e. e.0) (λ e. e.0) (λ e. e.0) (λ e. e.0) (λ e. e.0) (λ e. e.0) y))
  operation_made y h =
      let named : Named (expression_calls y.operand.0) = subst Named (fold-roll-Operation _ _ _ _ _ _ _ _ _ _ _ _ _) h in
      subst (KeepsPassing test) (sym (fold-roll-Operation _ _ _ _ _ _ _ _ _ _ _ _ _))
      (λ x k. joined_passes test y.operator y.position.line x (typed w y.operand.0) k (y.operand.1 named))

  variable_made : (y : Variable-F InArgument InExpression InPart InCall InOperation InVariable)
      → VariableIs (roll-Variable (map-Variable _ _ _ _ _ _ Argument Expression Part Call Operation Variable (λ e. e.0) (λ e. e.0) (λ e. e.0) (λ e. e.0) (λ e. e.0) (λ e. e.0) y))
  variable_made y h =
      subst (PartsCall test) (sym (fold-roll-Variable _ _ _ _ _ _ _ _ _ _ _ _ _))
      (through_passes test (map (part_typed w) (map (λ e. e.0) y.parts)) (each_part y.parts (subst Named (fold-roll-Variable _ _ _ _ _ _ _ _ _ _ _ _ _) h)))

  -- ---- whole trees

  pub expression_passes : (x : Expression) → ExpressionIs x
  expression_passes =
      ind-Expression ArgumentIs ExpressionIs PartIs CallIs OperationIs VariableIs
      (λ x y is. subst (λ z. ArgumentIs (roll-Argument z)) is (argument_made y))
      (λ x y is. subst (λ z. ExpressionIs (roll-Expression z)) is (expression_made y))
      (λ x y is. subst (λ z. PartIs (roll-Part z)) is (part_made y))
      (λ x y is. subst (λ z. CallIs (roll-Call z)) is (call_made y))
      (λ x y is. subst (λ z. OperationIs (roll-Operation z)) is (operation_made y))
      (λ x y is. subst (λ z. VariableIs (roll-Variable z)) is (variable_made y))

  pub variable_parts : (x : Variable) → VariableIs x
  variable_parts =
      ind-Variable ArgumentIs ExpressionIs PartIs CallIs OperationIs VariableIs
      (λ x y is. subst (λ z. ArgumentIs (roll-Argument z)) is (argument_made y))
      (λ x y is. subst (λ z. ExpressionIs (roll-Expression z)) is (expression_made y))
      (λ x y is. subst (λ z. PartIs (roll-Part z)) is (part_made y))
      (λ x y is. subst (λ z. CallIs (roll-Call z)) is (call_made y))
      (λ x y is. subst (λ z. OperationIs (roll-Operation z)) is (operation_made y))
      (λ x y is. subst (λ z. VariableIs (roll-Variable z)) is (variable_made y))
