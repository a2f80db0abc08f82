-- What typing makes of a call statement is sound (3.3.2.2).
use Rattle.std.proofs.Common.{◌≡◌, ℕ, List, [], ◌∷◌, Option, Some, None, refl, ap, sym, ◌∙◌}
use Rattle.st_values.specs.declared.elem.Elem.{Elem}
use Rattle.st_tree.specs.declared.tree.expression.Argument.{Argument, out-Argument}
use Rattle.st_tree.specs.declared.tree.expression.Argument.TheOpen.{Argument-F}
use Rattle.st_tree.specs.declared.tree.expression.Call.{Call, out-Call}
use Rattle.st_tree.specs.declared.tree.expression.Expression.{Expression}
use Rattle.st_tree.specs.declared.tree.expression.Operation.{Operation}
use Rattle.st_tree.specs.declared.tree.expression.Part.{Part}
use Rattle.st_tree.specs.declared.tree.expression.Variable.{Variable}
use Rattle.st_types.specs.Compositions.{Composition, unknown, elementary, array, composed, standard}
use Rattle.st_types.specs.declared.standard.StandardBlock.{StandardBlock}
use Rattle.st_leaves.specs.Selected.{selected_by}
use Rattle.st_meaning.specs.Sound.{AreSoundMoves, IsPlaceOf, IsSoundBody, IsSoundCommand, term_type}
use Rattle.st_meaning.specs.Terms.{Moves}
use Rattle.st_meaning.specs.Typing.{call_command, entrance, input_moves, input_of, inputs_of, invocation, output_moves, output_of, outputs_of, pin_of, place_of, place_typed, typed}
use Rattle.st_meaning.specs.Wholes.{Functions, Invoked, Whole, block_of, type_of}
use Rattle.st_meaning.proofs.TypedExpressions.{expression_sound, place_parts}
use Rattle.st_meaning.proofs.TypedFunctions.{KnowsNames}
use Rattle.st_meaning.proofs.TypedTerms.{place_sound}

block_is : (c : Composition) (b : StandardBlock) → block_of c ≡ Some b → c ≡ standard b
block_is unknown b h = cc
block_is (elementary v) b h = cc
block_is (array ranges firsts c) b h = cc
block_is (composed name ms chart) b h = cc
block_is (standard other) b h = cc

-- the bodies of the units whose instances are invoked are sound
abbrev pub AreSoundBodies : Functions → Whole → Type 0
AreSoundBodies functions w = (name : List ℕ) (unit : Invoked) → w.invoked name ≡ Some unit → IsSoundBody functions (selected_by w.variables name) unit.body

module _ (functions : Functions) (w : Whole) (known : KnowsNames functions w) (bodies : AreSoundBodies functions w) where
  input_sound : (name pin : List ℕ) (e : Option Elem) (x : Expression) (more : Moves) → type_of w.variables (pin_of name pin) ≡ e
      → AreSoundMoves functions w.variables more → AreSoundMoves functions w.variables (input_moves w name e pin x more)
  input_sound name pin None x more h rest = rest
  input_sound name pin (Some e) x more h rest =
      let is = expression_sound functions w known x e in
      let place : IsPlaceOf functions w.variables (term_type w.variables ((typed w x).as_type e)) (pin_of name pin) = record {
        type = h ∙ ap (λ d. Some d) (sym is.type);
        parts = tt;
      } in
      (place, is.sound, rest)

  one_input_sound : (name : List ℕ) (a : Argument-F Argument Expression Part Call Operation Variable) (more : Moves) → AreSoundMoves functions w.variables more
      → AreSoundMoves functions w.variables (input_of w name a more)
  one_input_sound name (Argument-F.Positional x) more rest = rest
  one_input_sound name (Argument-F.Input n x) more rest = input_sound name n.spelling (type_of w.variables (pin_of name n.spelling)) x more refl rest
  one_input_sound name (Argument-F.Output n v) more rest = rest

  inputs_sound : (name : List ℕ) (xs : List Argument) → AreSoundMoves functions w.variables (inputs_of w name xs)
  inputs_sound name [] = tt
  inputs_sound name (a ∷ more) = one_input_sound name (out-Argument a) (inputs_of w name more) (inputs_sound name more)

  output_sound : (name pin : List ℕ) (e : Option Elem) (v : Variable) (more : Moves) → type_of w.variables (place_of w v) ≡ e
      → AreSoundMoves functions w.variables more → AreSoundMoves functions w.variables (output_moves w name e pin v more)
  output_sound name pin None v more h rest = rest
  output_sound name pin (Some e) v more h rest =
      let own = type_of w.variables (pin_of name pin) in
      let is = place_sound functions w.variables (pin_of name pin) own refl tt e in
      let place : IsPlaceOf functions w.variables (term_type w.variables ((place_typed (pin_of name pin) own).as_type e)) (place_of w v) = record {
        type = h ∙ ap (λ d. Some d) (sym is.type);
        parts = place_parts functions w known v;
      } in
      (place, is.sound, rest)

  one_output_sound : (name : List ℕ) (a : Argument-F Argument Expression Part Call Operation Variable) (more : Moves) → AreSoundMoves functions w.variables more
      → AreSoundMoves functions w.variables (output_of w name a more)
  one_output_sound name (Argument-F.Positional x) more rest = rest
  one_output_sound name (Argument-F.Input n x) more rest = rest
  one_output_sound name (Argument-F.Output n v) more rest = output_sound name n.spelling (type_of w.variables (place_of w v)) v more refl rest

  outputs_sound : (name : List ℕ) (xs : List Argument) → AreSoundMoves functions w.variables (outputs_of w name xs)
  outputs_sound name [] = tt
  outputs_sound name (a ∷ more) = one_output_sound name (out-Argument a) (outputs_of w name more) (outputs_sound name more)

  entrance_sound : (line : ℕ) (name : List ℕ) (unit : Option Invoked) (xs : List Argument) → w.invoked name ≡ unit
      → IsSoundCommand functions w.variables (entrance w line name unit xs)
  entrance_sound line name None xs h = tt
  entrance_sound line name (Some unit) xs h = (inputs_sound name xs, bodies name unit h, outputs_sound name xs)

  invocation_sound : (line : ℕ) (name : List ℕ) (b : Option StandardBlock) (xs : List Argument) → block_of (selected_by w.variables name) ≡ b
      → IsSoundCommand functions w.variables (invocation w line name b xs)
  invocation_sound line name None xs h = entrance_sound line name (w.invoked name) xs refl
  invocation_sound line name (Some b) xs h = record {
    block = block_is (selected_by w.variables name) b h;
    inputs = inputs_sound name xs;
    outputs = outputs_sound name xs;
  }

  pub call_command_sound : (c : Call) → IsSoundCommand functions w.variables (call_command w c)
  call_command_sound c =
      let x = out-Call c in
      invocation_sound x.name.position.line x.name.spelling (block_of (selected_by w.variables x.name.spelling)) x.arguments refl
