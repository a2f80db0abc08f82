-- Call statements (3.3.2.2): where no fault is found, an instance is invoked, and no input and no output is dropped.
use Rattle.std.proofs.Common.{◌≡◌, ℕ, Bool, true, false, ◌&&◌, ◌||◌, not, if◌then◌else◌, IsTrue, List, [], ◌∷◌, map, Option, Some, None, is_some, refl, sym, ap, ◌∙◌, subst}
use Rattle.std.specs.List.{flat_map, list_all}
use Rattle.st_values.proofs.Cases.{both}
use Rattle.st_values.specs.Types.{is_same}
use Rattle.st_values.specs.declared.elem.Elem.{Elem}
use Rattle.st_tree.specs.declared.tree.expression.Argument.{Argument, out-roll-Argument, roll-Argument}
use Rattle.st_tree.specs.declared.tree.expression.Argument.TheOpen.{Argument-F}
use Rattle.st_tree.specs.declared.tree.expression.Call.{Call}
use Rattle.st_tree.specs.declared.tree.expression.Expression.{Expression}
use Rattle.st_tree.specs.declared.tree.expression.Operation.{Operation}
use Rattle.st_tree.specs.declared.tree.expression.Part.{Part}
use Rattle.st_tree.specs.declared.tree.expression.Variable.{Variable}
use Rattle.st_tree.specs.declared.tree.position.Identifier.{Identifier}
use Rattle.st_faults.specs.Faults.{fault, when}
use Rattle.st_faults.specs.declared.fault.Rule.TheVariants as rules
use Rattle.st_types.specs.Scopes.{Scope, elem_due, shape_due}
use Rattle.st_types.specs.Types.{Shape, elem_of, is_unknown, is_value}
use Rattle.st_types.specs.declared.base.Base.{Base}
use Rattle.st_types.specs.declared.standard.StandardBlock.{StandardBlock}
use Rattle.st_types.specs.declared.symbol.Callee.{Callee}
use Rattle.st_types.specs.declared.symbol.Callee.TheVariants as callees
use Rattle.st_types.specs.declared.symbol.Due.{Due}
use Rattle.st_types.specs.declared.symbol.Due.TheVariants as dues
use Rattle.st_types.specs.declared.symbol.Symbol.{Symbol}
use Rattle.st_leaves.specs.Selected.{selected_by}
use Rattle.st_check_expressions.specs.Calls.{ArgumentKnown, CallKnown, inputs, is_repeated, outputs, positionals}
use Rattle.st_check_expressions.specs.Known.{Known, alone, faults_alone, faults_as, is_empty}
use Rattle.st_check_expressions.specs.Variables.{VariableKnown, target_faults}
use Rattle.st_check_expressions.specs.Walk.{known, known_arguments, known_call, known_parts, known_variable}
use Rattle.st_check_statements.specs.Invocations.{are_inputs, are_other, are_outputs, are_pins, call_faults_by, call_statement_faults, input_due, is_input, is_input_purpose, is_other, is_output, is_output_purpose, output_faults, pin, pin_faults, taker_faults}
use Rattle.st_check.proofs.Apart.{kept_when, nothing_parts}
use Rattle.st_check.proofs.DataTypes.{is_true}
use Rattle.st_meaning.proofs.TypedTerms.{same_type}
use Rattle.st_meaning.specs.Terms.{stored, more_moves}
use Rattle.st_meaning.specs.Typing.{Passed, argument_typed, call_command, entrance, input_moves, inputs_of, input_of, invocation, output_moves, output_of, outputs_of, part_typed, pin_of, place_of, place_typed, typed}
use Rattle.st_meaning.specs.Wholes.{Invoked, Whole, block_of, type_of}
use Rattle.st_compile.specs.Commands.{AreInputs, AreOutputs, IsInvoked, input, no_input, no_output, not_input, not_output, output, own_block, standard_block}
use Rattle.st_compile.specs.Ties.{IsCallee, IsInstance, Ties}
use Rattle.st_compile.proofs.TypedCalls.{ArgumentsFit, input_fits, is_nothing, more_arguments_fit, no_arguments_fit, output_fits, positional_fits}
use Rattle.st_compile.proofs.Chains.{Fits, holds}
use Rattle.st_compile.proofs.Expressions.{arguments_fit, known_call_is, known_variable_is, place_is}
use Rattle.st_compile.proofs.Made.{made_known, made_value}
use Rattle.st_compile.proofs.Places.{PartsFit}
use Rattle.st_compile.proofs.Targets.{TargetAs, variable_target}
use Rattle.st_compile.proofs.Variables.{fitted_own}

module _ (scope : Scope) (w : Whole) (ties : Ties scope w) where
  -- a variable that takes a value
  pub target_strict : (v : Variable) (counters : List (List ℕ)) → PartsFit scope w v.parts (known_parts scope v.parts) (map (part_typed w) v.parts) → target_faults counters (known_variable scope v) ≡ []
      → TargetAs scope w ties v counters (known_variable scope v) (place_of w v)
  target_strict v counters fit h =
      let known = known_variable_is scope w ties v in
      let none = subst (λ (k : VariableKnown). target_faults counters k ≡ []) known h in
      let is = variable_target scope w ties v counters (known_parts scope v.parts) (map (part_typed w) v.parts) fit none in
      subst (λ (k : VariableKnown). TargetAs scope w ties v counters k (place_of w v)) (sym known) (subst (TargetAs scope w ties v counters _) (sym (place_is scope w ties v)) is)

  module _ (counters : List (List ℕ)) (name : List ℕ) (base : Base) (is : IsInstance scope w name base) where
    -- ---- inputs

    input_has : (x : Expression) → Fits w x (known scope x) (typed w x) → (n : Identifier) (s : Symbol) → pin scope base n ≡ Some s → is_input_purpose s.purpose ≡ true
        → faults_as (known scope x) (input_due (pin scope base n)) ≡ []
        → (e : Elem) × (elem_of s.shape ≡ Some e) × (Known.faults_at (known scope x) (Known.position (known scope x)) e ≡ [])
    input_has x fits n s q purpose h = by (elem_of s.shape) refl where
      shape_known : is_unknown s.shape.base ≡ false
      shape_known = made_known scope s.shape (selected_by (selected_by w.variables name) n.spelling) (is.pins n.spelling s q)

      by : (o : Option Elem) → elem_of s.shape ≡ o → (e : Elem) × (elem_of s.shape ≡ Some e) × (Known.faults_at (known scope x) (Known.position (known scope x)) e ≡ [])
      by (Some e) o =
          let due : input_due (pin scope base n) ≡ dues.Type e =
          ap input_due q ∙ ap (λ (b : Bool). if b then shape_due s.shape else dues.Any) purpose ∙ ap (λ (b : Bool). if b then dues.Any else if is_value s.shape then elem_due (elem_of s.shape) else dues.NoValue) shape_known
          ∙ ap (λ (o : Option Elem). if is_some o then elem_due o else dues.NoValue) o in
          (e, o, subst (λ (d : Due). faults_as (known scope x) d ≡ []) due h)
      by None o =
          let due : input_due (pin scope base n) ≡ dues.NoValue =
          ap input_due q ∙ ap (λ (b : Bool). if b then shape_due s.shape else dues.Any) purpose ∙ ap (λ (b : Bool). if b then dues.Any else if is_value s.shape then elem_due (elem_of s.shape) else dues.NoValue) shape_known
          ∙ ap (λ (o : Option Elem). if is_some o then elem_due o else dues.NoValue) o in
          let none = subst (λ (d : Due). faults_as (known scope x) d ≡ []) due h in
          let broken_at = when (not (Known.fits_all (known scope x))) (fault (Known.position (known scope x)) rules.TypeMismatch) in
          let parts = nothing_parts (faults_alone (known scope x)) broken_at none in
          let strictly = fits (Known.position (known scope x)) (alone (known scope x)) parts.0 in
          absurd (let e : false ≡ true = sym strictly.known ∙ holds (Known.fits_all (known scope x)) (fault (Known.position (known scope x)) rules.TypeMismatch) parts.1 in cc)

    input_is : (n : Identifier) → is_input (pin scope base n) ≡ true → (s : Symbol) × (pin scope base n ≡ Some s) × (is_input_purpose s.purpose ≡ true)
    input_is n h = by (pin scope base n) refl h where
      by : (o : Option Symbol) → pin scope base n ≡ o → is_input o ≡ true → (s : Symbol) × (pin scope base n ≡ Some s) × (is_input_purpose s.purpose ≡ true)
      by None q h = absurd (cc)
      by (Some s) q h = (s, q, h)

    output_is : (n : Identifier) → is_output (pin scope base n) ≡ true → (s : Symbol) × (pin scope base n ≡ Some s) × (is_output_purpose s.purpose ≡ true)
    output_is n h = by (pin scope base n) refl h where
      by : (o : Option Symbol) → pin scope base n ≡ o → is_output o ≡ true → (s : Symbol) × (pin scope base n ≡ Some s) × (is_output_purpose s.purpose ≡ true)
      by None q h = absurd (cc)
      by (Some s) q h = (s, q, h)

    pin_type : (n : Identifier) (s : Symbol) (e : Elem) → pin scope base n ≡ Some s → elem_of s.shape ≡ Some e → type_of w.variables (pin_of name n.spelling) ≡ Some e
    pin_type n s e q h = made_value scope s.shape (selected_by (selected_by w.variables name) n.spelling) (is.pins n.spelling s q) e h

    inputs_fit : (arguments : List Argument) (ks : List ArgumentKnown) (ps : List (List Passed)) → ArgumentsFit scope w arguments ks ps → positionals ks ≡ []
        → list_all (λ (n : Identifier). is_input (pin scope base n)) (inputs ks) ≡ true → flat_map (pin_faults scope base counters) ks ≡ [] → AreInputs w name arguments (inputs_of w name arguments)
    inputs_fit arguments ks ps no_arguments_fit none named h = no_input
    inputs_fit arguments ks ps (more_arguments_fit (positional_fits x fits) more) none named h = absurd (cc)
    inputs_fit arguments ks ps (more_arguments_fit {as' = others} {ks = ls} {ps = qs} (input_fits n x fits) more) none named h =
        let names = both (is_input (pin scope base n)) (list_all (λ (n : Identifier). is_input (pin scope base n)) (inputs ls)) named in
        let parts = nothing_parts (faults_as (known scope x) (input_due (pin scope base n))) (flat_map (pin_faults scope base counters) ls) h in
        let s = input_is n names.0 in
        let has = input_has x fits n s.0 s.1 s.2 parts.0 in
        let type = pin_type n s.0 has.0 s.1 has.1 in
        let strictly = fits (Known.position (known scope x)) has.0 has.2 in
        let ms = inputs_of w name others in
        let moved : inputs_of w name (roll-Argument (Argument-F.Input n x) ∷ others) ≡ more_moves (pin_of name n.spelling) ((typed w x).as_type has.0) ms =
        ap (λ (a : Argument-F Argument Expression Part Call Operation Variable). input_of w name a ms) (out-roll-Argument (Argument-F.Input n x)) ∙ ap (λ (o : Option Elem). input_moves w name o n.spelling x ms) type in
        subst (AreInputs w name (roll-Argument (Argument-F.Input n x) ∷ others)) (sym moved) (input n type strictly.term (inputs_fit others ls qs more none names.1 parts.1))
    inputs_fit arguments ks ps (more_arguments_fit {as' = others} {ks = ls} {ps = qs} (output_fits n v fit) more) none named h =
        let parts = nothing_parts (output_faults scope base counters n (known_variable scope v)) (flat_map (pin_faults scope base counters) ls) h in
        let ms = inputs_of w name others in
        let moved : inputs_of w name (roll-Argument (Argument-F.Output n v) ∷ others) ≡ ms =
        ap (λ (a : Argument-F Argument Expression Part Call Operation Variable). input_of w name a ms) (out-roll-Argument (Argument-F.Output n v)) in
        subst (AreInputs w name (roll-Argument (Argument-F.Output n v) ∷ others)) (sym moved) (not_output n v (inputs_fit others ls qs more none named parts.1))

    -- ---- outputs

    other_none : (target shape : Shape) (e : Elem) → is_unknown target.base ≡ false → is_unknown shape.base ≡ false → elem_of target ≡ Some e → is_other target shape ≡ false → elem_of shape ≡ Some e
    other_none target shape e sure shown own h =
        let a : (not (false || is_unknown shape.base) && are_other (elem_of target) (elem_of shape)) ≡ false = subst (λ (b : Bool). (not (b || is_unknown shape.base) && are_other (elem_of target) (elem_of shape)) ≡ false) sure h in
        let b : are_other (elem_of target) (elem_of shape) ≡ false = subst (λ (b : Bool). (not (false || b) && are_other (elem_of target) (elem_of shape)) ≡ false) shown a in
        by (elem_of shape) (subst (λ (o : Option Elem). are_other o (elem_of shape) ≡ false) own b) where
          by : (o : Option Elem) → are_other (Some e) o ≡ false → o ≡ Some e
          by None h = cc
          by (Some d) h = ap (λ (t : Elem). Some t) (sym (same_type e d (is_true (is_same e d) h)))

    outputs_fit : (arguments : List Argument) (ks : List ArgumentKnown) (ps : List (List Passed)) → ArgumentsFit scope w arguments ks ps → positionals ks ≡ []
        → list_all (λ (n : Identifier). is_output (pin scope base n)) (outputs ks) ≡ true → flat_map (pin_faults scope base counters) ks ≡ [] → AreOutputs w name arguments (outputs_of w name arguments)
    outputs_fit arguments ks ps no_arguments_fit none named h = no_output
    outputs_fit arguments ks ps (more_arguments_fit (positional_fits x fits) more) none named h = absurd (cc)
    outputs_fit arguments ks ps (more_arguments_fit {as' = others} {ks = ls} {ps = qs} (input_fits n x fits) more) none named h =
        let parts = nothing_parts (faults_as (known scope x) (input_due (pin scope base n))) (flat_map (pin_faults scope base counters) ls) h in
        let ms = outputs_of w name others in
        let moved : outputs_of w name (roll-Argument (Argument-F.Input n x) ∷ others) ≡ ms =
        ap (λ (a : Argument-F Argument Expression Part Call Operation Variable). output_of w name a ms) (out-roll-Argument (Argument-F.Input n x)) in
        subst (AreOutputs w name (roll-Argument (Argument-F.Input n x) ∷ others)) (sym moved) (not_input n x (outputs_fit others ls qs more none named parts.1))
    outputs_fit arguments ks ps (more_arguments_fit {as' = others} {ks = ls} {ps = qs} (output_fits n v fit) more) none named h =
        let names = both (is_output (pin scope base n)) (list_all (λ (n : Identifier). is_output (pin scope base n)) (outputs ls)) named in
        let k = known_variable scope v in
        let parts = nothing_parts (output_faults scope base counters n k) (flat_map (pin_faults scope base counters) ls) h in
        let own = nothing_parts (target_faults counters k) (taker_faults k.name.position k.reached.shape (pin scope base n)) parts.0 in
        let target = target_strict v counters fit own.0 in
        let s = output_is n names.0 in
        let taken = subst (λ (o : Option Symbol). taker_faults k.name.position k.reached.shape o ≡ []) s.1 own.1 in
        let same = subst (λ (b : Bool). (b && is_other k.reached.shape s.0.shape) ≡ false) s.2 (kept_when (is_output_purpose s.0.purpose && is_other k.reached.shape s.0.shape) (fault k.name.position rules.TypeMismatch) taken) in
        let shown = made_known scope s.0.shape (selected_by (selected_by w.variables name) n.spelling) (is.pins n.spelling s.0 s.1) in
        let e = target.elem in
        let type = pin_type n s.0 e s.1 (other_none k.reached.shape s.0.shape e target.known shown target.own same) in
        let ms = outputs_of w name others in
        let ps = pin_of name n.spelling in
        let moved : outputs_of w name (roll-Argument (Argument-F.Output n v) ∷ others) ≡ more_moves (place_of w v) (stored ps) ms =
        ap (λ (a : Argument-F Argument Expression Part Call Operation Variable). output_of w name a ms) (out-roll-Argument (Argument-F.Output n v))
        ∙ ap (λ (o : Option Elem). output_moves w name o n.spelling v ms) target.type ∙ ap (λ (o : Option Elem). more_moves (place_of w v) ((place_typed ps o).as_type e) ms) type
        ∙ ap (λ t. more_moves (place_of w v) t ms) (fitted_own e (stored ps)) in
        subst (AreOutputs w name (roll-Argument (Argument-F.Output n v) ∷ others)) (sym moved) (output n target.place target.type type (outputs_fit others ls qs more none names.1 parts.1))

  -- ---- the statement

  invoked_as : (c : Call) → IsTrue (is_some (block_of (selected_by w.variables c.name.spelling)) || is_some (w.invoked c.name.spelling)) → AreInputs w c.name.spelling c.arguments (inputs_of w c.name.spelling c.arguments)
      → AreOutputs w c.name.spelling c.arguments (outputs_of w c.name.spelling c.arguments) → IsInvoked w c (call_command w c)
  invoked_as c known ins outs = by (block_of (selected_by w.variables c.name.spelling)) refl known where
    own : (o : Option Invoked) → w.invoked c.name.spelling ≡ o → block_of (selected_by w.variables c.name.spelling) ≡ None → is_some o ≡ true
        → IsInvoked w c (entrance w c.name.position.line c.name.spelling o c.arguments)
    own None q none h = absurd (cc)
    own (Some unit) q none h = own_block unit none q ins outs

    by : (o : Option StandardBlock) → block_of (selected_by w.variables c.name.spelling) ≡ o → (is_some o || is_some (w.invoked c.name.spelling)) ≡ true
        → IsInvoked w c (invocation w c.name.position.line c.name.spelling o c.arguments)
    by (Some b) q h = standard_block b q ins outs
    by None q h = own (w.invoked c.name.spelling) refl q h

  pub call_statement_strict : (c : Call) (counters : List (List ℕ)) → call_statement_faults scope counters (known_call scope c) ≡ [] → IsInvoked w c (call_command w c)
  call_statement_strict c counters h =
      let ks = known_arguments scope c.arguments in
      let k : CallKnown = record { name = c.name; arguments = ks } in
      by (scope.callee c.name.spelling) (ties.callee c.name.spelling) (subst (λ (k : CallKnown). call_statement_faults scope counters k ≡ []) (known_call_is scope w ties c) h) where
        fit : ArgumentsFit scope w c.arguments (known_arguments scope c.arguments) (map (argument_typed w) c.arguments)
        fit = arguments_fit scope w ties c

        by : (callee : Callee) → IsCallee scope w c.name.spelling callee → call_faults_by scope counters (record { name = c.name; arguments = known_arguments scope c.arguments }) callee ≡ [] → IsInvoked w c (call_command w c)
        by (callees.Instance base) is h =
            let ks = known_arguments scope c.arguments in
            let parts = nothing_parts (when (not (are_pins scope base ks)) (fault c.name.position rules.CallMismatch)) (flat_map (pin_faults scope base counters) ks) h in
            let pins = holds (are_pins scope base ks) (fault c.name.position rules.CallMismatch) parts.0 in
            let two = both (is_empty (positionals ks) && are_inputs scope base (inputs ks)) (are_outputs scope base (outputs ks)) pins in
            let one = both (is_empty (positionals ks)) (are_inputs scope base (inputs ks)) two.0 in
            let named = (both (not (is_repeated (inputs ks))) (list_all (λ (n : Identifier). is_input (pin scope base n)) (inputs ks)) one.1).1 in
            let given = (both (not (is_repeated (outputs ks))) (list_all (λ (n : Identifier). is_output (pin scope base n)) (outputs ks)) two.1).1 in
            let none = is_nothing (positionals ks) one.0 in
            invoked_as c is.known (inputs_fit counters c.name.spelling base is c.arguments ks (map (argument_typed w) c.arguments) fit none named parts.1)
            (outputs_fit counters c.name.spelling base is c.arguments ks (map (argument_typed w) c.arguments) fit none given parts.1)
        by callees.Missing is h = absurd (cc)
        by callees.Faulty is h = absurd is
        by callees.Block is h = absurd (cc)
        by (callees.Standard f) is h = absurd (cc)
        by (callees.Conversion from to) is h = absurd (cc)
        by (callees.Own f) is h = absurd (cc)
