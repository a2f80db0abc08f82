-- Whole expressions: where no fault is found, each has a term of the type that is due.
use Rattle.std.proofs.Common.{◌≡◌, List, [], ◌∷◌, map, refl, sym, ap, ◌∙◌, subst}
use Rattle.std.specs.List.{flat_map}
use Rattle.st_tree.specs.declared.tree.expression.Argument.{Argument, fold-roll-Argument, map-Argument, roll-Argument}
use Rattle.st_tree.specs.declared.tree.expression.Argument.TheOpen.{Argument-F, Call-F, Expression-F, Operation-F, Part-F, Variable-F}
use Rattle.st_tree.specs.declared.tree.expression.Call.{Call, fold_out-Call, ind-Call, map-Call, out-Call, out-roll-Call, roll-Call}
use Rattle.st_tree.specs.declared.tree.expression.Expression.{Expression, fold-roll-Expression, ind-Expression, map-Expression, roll-Expression}
use Rattle.st_tree.specs.declared.tree.expression.Operation.{Operation, fold_out-Operation, map-Operation, out-Operation, out-roll-Operation, roll-Operation}
use Rattle.st_tree.specs.declared.tree.expression.Part.{Part, fold-roll-Part, map-Part, roll-Part}
use Rattle.st_tree.specs.declared.tree.expression.Variable.{Variable, fold_out-Variable, ind-Variable, map-Variable, out-Variable, out-roll-Variable, roll-Variable}
use Rattle.st_types.specs.Scopes.{Scope}
use Rattle.st_types.specs.Standard.{standard_of}
use Rattle.st_check_expressions.specs.Calls.{ArgumentKnown, CallKnown, value_of_call}
use Rattle.st_check_expressions.specs.Known.{Known, OperandKnown, chain}
use Rattle.st_check_expressions.specs.Variables.{PartKnown, VariableKnown, value_of, variable_of}
use Rattle.st_check_expressions.specs.Walk.{known, known_argument, known_arguments, known_call, known_operation, known_part, known_parts, known_variable}
use Rattle.st_meaning.specs.Terms.{Parts, field_part}
use Rattle.st_meaning.specs.Typing.{Passed, Typed, argument_typed, call_typed, call_typed_in, chained, operation_typed, part_typed, place_of, through, typed, variable_typed}
use Rattle.st_meaning.specs.Wholes.{Whole}
use Rattle.st_compile.specs.Ties.{Ties}
use Rattle.st_compile.proofs.TypedCalls.{ArgumentFits, ArgumentsFit, call_fits, input_fits, more_arguments_fit, no_arguments_fit, output_fits, positional_fits}
use Rattle.st_compile.proofs.Chains.{Fits, OperandsFit, chain_fits, complement_fits, known_of, literal_fits, made_of, negate_fits, parenthesized_fits}
use Rattle.st_compile.proofs.Places.{EachFits, PartFits, PartsFit, field_fits, more_parts_fit, no_parts_fit, subscripts_fit, subscripts_fits}
use Rattle.st_compile.proofs.Variables.{variable_fits}

module _ (scope : Scope) (w : Whole) (ties : Ties scope w) where
  -- ---- what is to hold of each node

  abbrev OfExpression : Expression → Type 0
  OfExpression x = Fits w x (known scope x) (typed w x)

  abbrev OfArgument : Argument → Type 0
  OfArgument a = ArgumentFits scope w a (known_argument scope a) (argument_typed w a)

  abbrev OfPart : Part → Type 0
  OfPart p = PartFits scope w p (known_part scope p) (part_typed w p)

  abbrev OfCall : Call → Type 0
  OfCall c = ArgumentsFit scope w c.arguments (known_arguments scope c.arguments) (map (argument_typed w) c.arguments)

  abbrev OfOperation : Operation → Type 0
  OfOperation o = Fits w o.operand (known scope o.operand) (typed w o.operand)

  abbrev OfVariable : Variable → Type 0
  OfVariable v = PartsFit scope w v.parts (known_parts scope v.parts) (map (part_typed w) v.parts)

  -- ---- structs, from what they hold

  known_operation_is : (o : Operation) → known_operation scope o ≡ known_of scope w o
  known_operation_is o = fold_out-Operation _ _ _ _ _ _ _ _ _ _ _ _ o

  operation_typed_is : (o : Operation) → operation_typed w o ≡ made_of scope w o
  operation_typed_is o = fold_out-Operation _ _ _ _ _ _ _ _ _ _ _ _ o

  maps_alike : {A B : Type 0} (f g : A → B) (xs : List A) → ((x : A) → f x ≡ g x) → map f xs ≡ map g xs
  maps_alike f g [] same = refl
  maps_alike f g (x ∷ xs) same = ap (λ y. y ∷ map f xs) (same x) ∙ ap (λ ys. g x ∷ ys) (maps_alike f g xs same)

  operand_is : (z : Operation-F Argument Expression Part Call Operation Variable) → (out-Operation (roll-Operation z)).operand ≡ z.operand
  operand_is z = ap (λ (o : Operation-F Argument Expression Part Call Operation Variable). o.operand) (out-roll-Operation z)

  parts_are : (z : Variable-F Argument Expression Part Call Operation Variable) → (out-Variable (roll-Variable z)).parts ≡ z.parts
  parts_are z = ap (λ (v : Variable-F Argument Expression Part Call Operation Variable). v.parts) (out-roll-Variable z)

  arguments_are : (z : Call-F Argument Expression Part Call Operation Variable) → (out-Call (roll-Call z)).arguments ≡ z.arguments
  arguments_are z = ap (λ (c : Call-F Argument Expression Part Call Operation Variable). c.arguments) (out-roll-Call z)

  -- ---- one layer of a tree, where each part is as it is to be

  abbrev DoneArgument : Type 0
  DoneArgument = (z : Argument) × OfArgument z

  abbrev DoneExpression : Type 0
  DoneExpression = (z : Expression) × OfExpression z

  abbrev DonePart : Type 0
  DonePart = (z : Part) × OfPart z

  abbrev DoneCall : Type 0
  DoneCall = (z : Call) × OfCall z

  abbrev DoneOperation : Type 0
  DoneOperation = (z : Operation) × OfOperation z

  abbrev DoneVariable : Type 0
  DoneVariable = (z : Variable) × OfVariable z

  each_operand : (os : List DoneOperation) → OperandsFit scope w (map (λ e. e.0) os)
  each_operand [] = tt
  each_operand (o ∷ os) = (o.1, each_operand os)

  each_subscript : (xs : List DoneExpression) → EachFits scope w (map (λ e. e.0) xs)
  each_subscript [] = tt
  each_subscript (x ∷ xs) = (x.1, each_subscript xs)

  each_part : (ps : List DonePart) → PartsFit scope w (map (λ e. e.0) ps) (known_parts scope (map (λ e. e.0) ps)) (map (part_typed w) (map (λ e. e.0) ps))
  each_part [] = no_parts_fit
  each_part (p ∷ ps) = more_parts_fit p.1 (each_part ps)

  each_argument : (as' : List DoneArgument) → ArgumentsFit scope w (map (λ e. e.0) as') (known_arguments scope (map (λ e. e.0) as')) (map (argument_typed w) (map (λ e. e.0) as'))
  each_argument [] = no_arguments_fit
  each_argument (a ∷ more) = more_arguments_fit a.1 (each_argument more)

  -- both folds at a node
  fits_at : (x : Expression) (k : Known) (y : Typed) → known scope x ≡ k → typed w x ≡ y → Fits w x k y → Fits w x (known scope x) (typed w x)
  fits_at x k y p q h = subst (λ (l : Known). Fits w x l (typed w x)) (sym p) (subst (λ (z : Typed). Fits w x k z) (sym q) h)

  -- what a variable is known as, and its place
  pub known_variable_is : (v : Variable) → known_variable scope v ≡ variable_of scope v.name (known_parts scope v.parts)
  known_variable_is v = fold_out-Variable _ _ _ _ _ _ _ _ _ _ _ _ v

  pub place_is : (v : Variable) → place_of w v ≡ field_part v.name.spelling (through (map (part_typed w) v.parts))
  place_is v = fold_out-Variable _ _ _ _ _ _ _ _ _ _ _ _ v

  pub known_call_is : (c : Call) → known_call scope c ≡ record { name = c.name; arguments = known_arguments scope c.arguments }
  known_call_is c = fold_out-Call _ _ _ _ _ _ _ _ _ _ _ _ c

  call_typed_is : (c : Call) → call_typed_in w c ≡ call_typed w c.name.position.line c.name.spelling (standard_of c.name.spelling) (flat_map (λ a. a) (map (argument_typed w) c.arguments))
  call_typed_is c = fold_out-Call _ _ _ _ _ _ _ _ _ _ _ _ c

  variable_at : (v : Variable) (ks : List PartKnown) (fs : List (Parts → Parts)) → known_variable scope v ≡ variable_of scope v.name ks → place_of w v ≡ field_part v.name.spelling (through fs)
      → PartsFit scope w v.parts ks fs → Fits w (roll-Expression (Expression-F.Variable v)) (value_of (known_variable scope v)) (variable_typed w (place_of w v))
  variable_at v ks fs same place fit =
      subst (λ (k : VariableKnown). Fits w (roll-Expression (Expression-F.Variable v)) (value_of k) (variable_typed w (place_of w v))) (sym same)
      (subst (λ (ps : Parts). Fits w (roll-Expression (Expression-F.Variable v)) (value_of (variable_of scope v.name ks)) (variable_typed w ps)) (sym place) (variable_fits scope w ties v ks fs fit))

  call_at : (c : Call) (ks : List ArgumentKnown) → known_call scope c ≡ record { name = c.name; arguments = ks } → ks ≡ known_arguments scope c.arguments
      → call_typed_in w c ≡ call_typed w c.name.position.line c.name.spelling (standard_of c.name.spelling) (flat_map (λ a. a) (map (argument_typed w) c.arguments))
      → ArgumentsFit scope w c.arguments ks (map (argument_typed w) c.arguments) → Fits w (roll-Expression (Expression-F.Call c)) (value_of_call scope (known_call scope c)) (call_typed_in w c)
  call_at c ks same knows typed_is fit =
      subst (λ (k : CallKnown). Fits w (roll-Expression (Expression-F.Call c)) (value_of_call scope k) (call_typed_in w c)) (sym same)
      (subst (λ (y : Typed). Fits w (roll-Expression (Expression-F.Call c)) (value_of_call scope (record { name = c.name; arguments = ks })) y) (sym typed_is)
      (call_fits scope w c ties ks (map (argument_typed w) c.arguments) fit knows refl))

  expression_made : (y : Expression-F DoneArgument DoneExpression DonePart DoneCall DoneOperation DoneVariable)
      → OfExpression (roll-Expression (map-Expression _ _ _ _ _ _ Argument Expression Part Call Operation Variable (λ e. e.0) (λ e. e.0) (λ e. e.0) (λ e. e.0) (λ e. e.0) (λ e. e.0) y))
  expression_made (Expression-F.Constant c) = fits_at _ _ _ (fold-roll-Expression _ _ _ _ _ _ _ _ _ _ _ _ _) (fold-roll-Expression _ _ _ _ _ _ _ _ _ _ _ _ _) (literal_fits scope w c)
  expression_made (Expression-F.Variable v) =
      fits_at _ _ _ (fold-roll-Expression _ _ _ _ _ _ _ _ _ _ _ _ _) (fold-roll-Expression _ _ _ _ _ _ _ _ _ _ _ _ _)
      (variable_at v.0 (known_parts scope v.0.parts) (map (part_typed w) v.0.parts) (known_variable_is v.0) (place_is v.0) v.1)
  expression_made (Expression-F.Call c) =
      fits_at _ _ _ (fold-roll-Expression _ _ _ _ _ _ _ _ _ _ _ _ _) (fold-roll-Expression _ _ _ _ _ _ _ _ _ _ _ _ _)
      (call_at c.0 (known_arguments scope c.0.arguments) (known_call_is c.0) refl (call_typed_is c.0) c.1)
  expression_made (Expression-F.Parenthesized position x) =
      fits_at _ _ _ (fold-roll-Expression _ _ _ _ _ _ _ _ _ _ _ _ _) (fold-roll-Expression _ _ _ _ _ _ _ _ _ _ _ _ _)
      (parenthesized_fits scope w position x.0 (known scope x.0) (typed w x.0) x.1)
  expression_made (Expression-F.Negate position x) =
      fits_at _ _ _ (fold-roll-Expression _ _ _ _ _ _ _ _ _ _ _ _ _) (fold-roll-Expression _ _ _ _ _ _ _ _ _ _ _ _ _)
      (negate_fits scope w position x.0 (known scope x.0) (typed w x.0) x.1)
  expression_made (Expression-F.Not position x) =
      fits_at _ _ _ (fold-roll-Expression _ _ _ _ _ _ _ _ _ _ _ _ _) (fold-roll-Expression _ _ _ _ _ _ _ _ _ _ _ _ _)
      (complement_fits scope w position x.0 (known scope x.0) (typed w x.0) x.1)
  expression_made (Expression-F.Chain position x os) =
      let ops = map (λ (e : DoneOperation). e.0) os in
      fits_at _ _ _
      (fold-roll-Expression _ _ _ _ _ _ _ _ _ _ _ _ _ ∙ ap (λ (ls : List OperandKnown). chain position (known scope x.0) ls) (maps_alike (known_operation scope) (known_of scope w) ops known_operation_is))
      (fold-roll-Expression _ _ _ _ _ _ _ _ _ _ _ _ _ ∙ ap (λ (fs : List (Typed → Typed)). chained (typed w x.0) fs) (maps_alike (operation_typed w) (made_of scope w) ops operation_typed_is))
      (chain_fits scope w position x.0 ops x.1 (each_operand os))

  argument_at : (a : Argument) (k : ArgumentKnown) (p : List Passed) → known_argument scope a ≡ k → argument_typed w a ≡ p → ArgumentFits scope w a k p
      → ArgumentFits scope w a (known_argument scope a) (argument_typed w a)
  argument_at a k p same typed_is h =
      subst (λ (l : ArgumentKnown). ArgumentFits scope w a l (argument_typed w a)) (sym same) (subst (λ (q : List Passed). ArgumentFits scope w a k q) (sym typed_is) h)

  argument_made : (y : Argument-F DoneArgument DoneExpression DonePart DoneCall DoneOperation DoneVariable)
      → OfArgument (roll-Argument (map-Argument _ _ _ _ _ _ Argument Expression Part Call Operation Variable (λ e. e.0) (λ e. e.0) (λ e. e.0) (λ e. e.0) (λ e. e.0) (λ e. e.0) y))
  argument_made (Argument-F.Positional x) =
      argument_at _ _ _ (fold-roll-Argument _ _ _ _ _ _ _ _ _ _ _ _ _) (fold-roll-Argument _ _ _ _ _ _ _ _ _ _ _ _ _)
      (positional_fits x.0 x.1)
  argument_made (Argument-F.Input n x) =
      argument_at _ _ _ (fold-roll-Argument _ _ _ _ _ _ _ _ _ _ _ _ _) (fold-roll-Argument _ _ _ _ _ _ _ _ _ _ _ _ _)
      (input_fits n x.0 x.1)
  argument_made (Argument-F.Output n v) =
      argument_at _ _ _ (fold-roll-Argument _ _ _ _ _ _ _ _ _ _ _ _ _) (fold-roll-Argument _ _ _ _ _ _ _ _ _ _ _ _ _)
      (output_fits n v.0 v.1)

  part_at : (p : Part) (k : PartKnown) (f : Parts → Parts) → known_part scope p ≡ k → part_typed w p ≡ f → PartFits scope w p k f → PartFits scope w p (known_part scope p) (part_typed w p)
  part_at p k f same typed_is h = subst (λ (l : PartKnown). PartFits scope w p l (part_typed w p)) (sym same) (subst (λ (g : Parts → Parts). PartFits scope w p k g) (sym typed_is) h)

  part_made : (y : Part-F DoneArgument DoneExpression DonePart DoneCall DoneOperation DoneVariable)
      → OfPart (roll-Part (map-Part _ _ _ _ _ _ Argument Expression Part Call Operation Variable (λ e. e.0) (λ e. e.0) (λ e. e.0) (λ e. e.0) (λ e. e.0) (λ e. e.0) y))
  part_made (Part-F.Field n) = part_at _ _ _ (fold-roll-Part _ _ _ _ _ _ _ _ _ _ _ _ _) (fold-roll-Part _ _ _ _ _ _ _ _ _ _ _ _ _) (field_fits n)
  part_made (Part-F.Subscripts position xs) =
      part_at _ _ _ (fold-roll-Part _ _ _ _ _ _ _ _ _ _ _ _ _) (fold-roll-Part _ _ _ _ _ _ _ _ _ _ _ _ _)
      (subscripts_fits position (map (λ (e : DoneExpression). e.0) xs) (subscripts_fit scope w (map (λ (e : DoneExpression). e.0) xs) (each_subscript xs)))

  operation_made : (y : Operation-F DoneArgument DoneExpression DonePart DoneCall DoneOperation DoneVariable)
      → OfOperation (roll-Operation (map-Operation _ _ _ _ _ _ Argument Expression Part Call Operation Variable (λ e. e.0) (λ e. e.0) (λ e. e.0) (λ e. e.0) (λ e. e.0) (λ e. e.0) y))
  operation_made y = subst OfExpression (sym (operand_is (map-Operation _ _ _ _ _ _ Argument Expression Part Call Operation Variable (λ (e : DoneArgument). e.0) (λ (e : DoneExpression). e.0) (λ (e : DonePart). e.0) (λ (e : DoneCall). e.0) (λ (e : DoneOperation). e.0) (λ (e : DoneVariable). e.0) y))) y.operand.1

  variable_made : (y : Variable-F DoneArgument DoneExpression DonePart DoneCall DoneOperation DoneVariable)
      → OfVariable (roll-Variable (map-Variable _ _ _ _ _ _ Argument Expression Part Call Operation Variable (λ e. e.0) (λ e. e.0) (λ e. e.0) (λ e. e.0) (λ e. e.0) (λ e. e.0) y))
  variable_made y =
      let parts = map (λ (e : DonePart). e.0) y.parts in
      let v = roll-Variable (map-Variable _ _ _ _ _ _ Argument Expression Part Call Operation Variable (λ (e : DoneArgument). e.0) (λ (e : DoneExpression). e.0) (λ (e : DonePart). e.0) (λ (e : DoneCall). e.0) (λ (e : DoneOperation). e.0) (λ (e : DoneVariable). e.0) y) in
      let are : v.parts ≡ parts = parts_are (map-Variable _ _ _ _ _ _ Argument Expression Part Call Operation Variable (λ (e : DoneArgument). e.0) (λ (e : DoneExpression). e.0) (λ (e : DonePart). e.0) (λ (e : DoneCall). e.0) (λ (e : DoneOperation). e.0) (λ (e : DoneVariable). e.0) y) in
      let fit = each_part y.parts in
      subst (λ (ps : List Part). PartsFit scope w ps (known_parts scope ps) (map (part_typed w) ps)) (sym are) fit

  call_made : (y : Call-F DoneArgument DoneExpression DonePart DoneCall DoneOperation DoneVariable)
      → OfCall (roll-Call (map-Call _ _ _ _ _ _ Argument Expression Part Call Operation Variable (λ e. e.0) (λ e. e.0) (λ e. e.0) (λ e. e.0) (λ e. e.0) (λ e. e.0) y))
  call_made y =
      let arguments = map (λ (e : DoneArgument). e.0) y.arguments in
      let c = roll-Call (map-Call _ _ _ _ _ _ Argument Expression Part Call Operation Variable (λ (e : DoneArgument). e.0) (λ (e : DoneExpression). e.0) (λ (e : DonePart). e.0) (λ (e : DoneCall). e.0) (λ (e : DoneOperation). e.0) (λ (e : DoneVariable). e.0) y) in
      let are : c.arguments ≡ arguments = arguments_are (map-Call _ _ _ _ _ _ Argument Expression Part Call Operation Variable (λ (e : DoneArgument). e.0) (λ (e : DoneExpression). e.0) (λ (e : DonePart). e.0) (λ (e : DoneCall). e.0) (λ (e : DoneOperation). e.0) (λ (e : DoneVariable). e.0) y) in
      let fit = each_argument y.arguments in
      subst (λ (as' : List Argument). ArgumentsFit scope w as' (known_arguments scope as') (map (argument_typed w) as')) (sym are) fit

  -- ---- whole trees

  pub expression_fits : (x : Expression) → OfExpression x
  expression_fits =
      ind-Expression OfArgument OfExpression OfPart OfCall OfOperation OfVariable
      (λ x y is. subst (λ z. OfArgument (roll-Argument z)) is (argument_made y))
      (λ x y is. subst (λ z. OfExpression (roll-Expression z)) is (expression_made y))
      (λ x y is. subst (λ z. OfPart (roll-Part z)) is (part_made y))
      (λ x y is. subst (λ z. OfCall (roll-Call z)) is (call_made y))
      (λ x y is. subst (λ z. OfOperation (roll-Operation z)) is (operation_made y))
      (λ x y is. subst (λ z. OfVariable (roll-Variable z)) is (variable_made y))

  pub parts_fit : (v : Variable) → OfVariable v
  parts_fit =
      ind-Variable OfArgument OfExpression OfPart OfCall OfOperation OfVariable
      (λ x y is. subst (λ z. OfArgument (roll-Argument z)) is (argument_made y))
      (λ x y is. subst (λ z. OfExpression (roll-Expression z)) is (expression_made y))
      (λ x y is. subst (λ z. OfPart (roll-Part z)) is (part_made y))
      (λ x y is. subst (λ z. OfCall (roll-Call z)) is (call_made y))
      (λ x y is. subst (λ z. OfOperation (roll-Operation z)) is (operation_made y))
      (λ x y is. subst (λ z. OfVariable (roll-Variable z)) is (variable_made y))

  pub arguments_fit : (c : Call) → OfCall c
  arguments_fit =
      ind-Call OfArgument OfExpression OfPart OfCall OfOperation OfVariable
      (λ x y is. subst (λ z. OfArgument (roll-Argument z)) is (argument_made y))
      (λ x y is. subst (λ z. OfExpression (roll-Expression z)) is (expression_made y))
      (λ x y is. subst (λ z. OfPart (roll-Part z)) is (part_made y))
      (λ x y is. subst (λ z. OfCall (roll-Call z)) is (call_made y))
      (λ x y is. subst (λ z. OfOperation (roll-Operation z)) is (operation_made y))
      (λ x y is. subst (λ z. OfVariable (roll-Variable z)) is (variable_made y))
