-- Calls in expressions (2.5.1): where no fault is found, each has a term.
use Rattle.std.proofs.Common.{◌≡◌, ℕ, zero, suc, ◌+◌, ◌==◌, Bool, true, false, ◌&&◌, ◌||◌, not, if◌then◌else◌, List, [], ◌∷◌, ◌++◌, map, length, slice_get, Option, Some, None, is_some, refl, sym, ap, ◌∙◌, subst, inl, inr, ◌⊎◌, ◌<◌, arith}
use Rattle.std.specs.List.{flat_map, list_all, position}
use Rattle.std.proofs.lemmas.List.Quantifiers.{position-Some}
use Rattle.std.proofs.lemmas.List.{length-map}
use Rattle.std.proofs.lemmas.Bool.Decides.{Decides-eqb}
use Rattle.st_values.proofs.Cases.{both}
use Rattle.st_values.specs.Words.{is_word}
use Rattle.st_values.specs.declared.elem.Elem.{Elem}
use Rattle.st_tree.specs.declared.tree.expression.Argument.{Argument, roll-Argument}
use Rattle.st_tree.specs.declared.tree.expression.Argument.TheOpen.{Argument-F, Expression-F}
use Rattle.st_tree.specs.declared.tree.expression.Call.{Call}
use Rattle.st_tree.specs.declared.tree.expression.Expression.{Expression, roll-Expression}
use Rattle.st_tree.specs.declared.tree.expression.Variable.{Variable}
use Rattle.st_tree.specs.declared.tree.position.Identifier.{Identifier}
use Rattle.st_tree.specs.declared.tree.position.Position.{Position}
use Rattle.st_faults.specs.Faults.{fault, when}
use Rattle.st_faults.specs.declared.fault.Rule.{Rule}
use Rattle.st_faults.specs.declared.fault.Rule.TheVariants as rules
use Rattle.st_types.proofs.Places.{position-map}
use Rattle.st_types.specs.OwnTypes.{call_own, gives, is_at_most, least_arguments, most_arguments, nth_due, takes_count}
use Rattle.st_types.specs.Scopes.{Scope}
use Rattle.st_types.specs.Signatures.{Input as Wanted, Signature, input_number}
use Rattle.st_types.specs.Standard.{standard_of}
use Rattle.st_types.specs.declared.standard.Standard.{Standard}
use Rattle.st_types.specs.declared.standard.Standard.TheVariants as standards
use Rattle.st_types.specs.declared.standard.StandardFunction.{StandardFunction}
use Rattle.st_types.specs.declared.symbol.Callee.{Callee}
use Rattle.st_types.specs.declared.symbol.Callee.TheVariants as callees
use Rattle.st_types.specs.declared.symbol.Due.{Due}
use Rattle.st_types.specs.declared.symbol.Due.TheVariants as dues
use Rattle.st_check_expressions.specs.Calls.{ArgumentKnown, CallKnown, arguments_faults, broken, call_rule, called, inputs, is_faulty, is_input_of, is_repeated, is_unknown_call, mismatch, named_due, outputs, owns_in, positionals, takes_arguments}
use Rattle.st_check_expressions.specs.Calls as calls
use Rattle.st_check_expressions.specs.Known.{Known, faults_as, is_empty}
use Rattle.st_check_expressions.specs.Walk.{known, known_arguments, known_parts, known_variable}
use Rattle.st_check_expressions.specs.Nodes.{inputs_of, positionals_of}
use Rattle.st_check_expressions.proofs.Nodes.{inputs_known, positionals_known}
use Rattle.st_check.proofs.Apart.{nothing_parts}
use Rattle.st_meaning.proofs.TypedTerms.{same_type}
use Rattle.st_meaning.specs.Meaning.{no_value}
use Rattle.st_meaning.specs.Terms.{unary, call, Terms, more_terms}
use Rattle.st_meaning.specs.Typing.{Passed, Typed, argument_typed, arguments_from, as_input, call_typed, converted, function_called, function_typed, go_to, goes_to, input_at, part_typed, passed, sources_from, typed, unnamed}
use Rattle.st_meaning.specs.Wholes.{Called, Input, Whole}
use Rattle.st_meaning.specs.declared.operation.Unary.TheVariants as unaries
use Rattle.st_compile.specs.Terms.{AreGiven, IsCalled, IsFunction, IsTerm, are_passed, positional}
use Rattle.st_compile.specs.Terms as strict
use Rattle.st_compile.specs.Ties.{AreInputs, IsCallee, IsOwn, Ties}
use Rattle.st_compile.proofs.Chains.{Fits, holds}
use Rattle.st_compile.proofs.TypedFunctions.{given, owns, standard_fits}
use Rattle.st_compile.proofs.Places.{EachFits, PartsFit, or_true}
use Rattle.st_compile.proofs.Variables.{fitted_own}

pub is_nothing : {A : Type 0} (xs : List A) → is_empty xs ≡ true → xs ≡ []
is_nothing [] h = refl
is_nothing (x ∷ xs) h = cc

no_length : {A : Type 0} (xs : List A) → length xs ≡ 0 → xs ≡ []
no_length [] h = refl
no_length (x ∷ xs) h = absurd (omega (arith, h))

fits_rule : (position : Position) (b : Bool) → broken position (mismatch b) ≡ [] → b ≡ true
fits_rule position true h = refl
fits_rule position false h = absurd (cc)

-- ---- the inputs of a function, on both sides

found_input : (gs : List Input) (n : ℕ) → n < length gs → (i : Input) × (slice_get gs n ≡ Some i)
found_input [] n h = absurd (omega arith)
found_input (g ∷ gs) zero h = (g, refl)
found_input (g ∷ gs) (suc n) h = found_input gs n (omega arith)

nth_input : (is : List Wanted) (gs : List Input) → AreInputs is gs → (n : ℕ) (i : Input) → slice_get gs n ≡ Some i → nth_due is n ≡ dues.Type i.initial.elem
nth_input [] [] same n i h = cc
nth_input (j ∷ is) (g ∷ gs) same zero i h = same.1 ∙ ap (λ (o : Input). dues.Type o.initial.elem) (let e : g ≡ i = cc in e)
nth_input (j ∷ is) (g ∷ gs) same (suc n) i h = nth_input is gs same.2 n i h
nth_input [] (g ∷ gs) same n i h = absurd same
nth_input (j ∷ is) [] same n i h = absurd same

names_alike : (is : List Wanted) (gs : List Input) → AreInputs is gs → map (λ (i : Wanted). i.name) is ≡ map (λ (g : Input). g.name) gs
names_alike [] [] same = refl
names_alike (i ∷ is) (g ∷ gs) same = ap (λ (n : List ℕ). n ∷ map (λ (i : Wanted). i.name) is) same.0 ∙ ap (λ (ns : List (List ℕ)). g.name ∷ ns) (names_alike is gs same.2)
names_alike [] (g ∷ gs) same = absurd same
names_alike (i ∷ is) [] same = absurd same

lengths_alike : (is : List Wanted) (gs : List Input) → AreInputs is gs → length is ≡ length gs
lengths_alike [] [] same = refl
lengths_alike (i ∷ is) (g ∷ gs) same = ap (λ n. suc n) (lengths_alike is gs same.2)
lengths_alike [] (g ∷ gs) same = absurd same
lengths_alike (i ∷ is) [] same = absurd same

numbers_alike : (is : List Wanted) (gs : List Input) → AreInputs is gs → (name : List ℕ) → input_number is name ≡ position (λ (g : Input). is_word g.name name) gs
numbers_alike is gs same name =
    sym (position-map (λ (i : Wanted). i.name) (λ n. is_word n name) is) ∙ ap (position (λ n. is_word n name)) (names_alike is gs same) ∙ position-map (λ (g : Input). g.name) (λ n. is_word n name) gs

module _ (scope : Scope) (w : Whole) where
  -- an argument: what is known of it, and what it passes
  pub data ArgumentFits : Argument → ArgumentKnown → List Passed → Type 0 where
    positional_fits : (x : Expression) → Fits w x (known scope x) (typed w x) → ArgumentFits (roll-Argument (Argument-F.Positional x)) (calls.positional (known scope x)) (passed None (typed w x))
    input_fits : (n : Identifier) (x : Expression) → Fits w x (known scope x) (typed w x)
        → ArgumentFits (roll-Argument (Argument-F.Input n x)) (calls.input n (known scope x)) (passed (Some n.spelling) (typed w x))
    output_fits : (n : Identifier) (v : Variable) → PartsFit scope w v.parts (known_parts scope v.parts) (map (part_typed w) v.parts)
        → ArgumentFits (roll-Argument (Argument-F.Output n v)) (calls.output n (known_variable scope v)) []

  pub data ArgumentsFit : List Argument → List ArgumentKnown → List (List Passed) → Type 0 where
    no_arguments_fit : ArgumentsFit [] [] []
    more_arguments_fit : {a : Argument} {k : ArgumentKnown} {p : List Passed} {as' : List Argument} {ks : List ArgumentKnown} {ps : List (List Passed)} → ArgumentFits a k p → ArgumentsFit as' ks ps
        → ArgumentsFit (a ∷ as') (k ∷ ks) (p ∷ ps)

  -- ---- all by position

  pub record ArePositional (arguments : List Argument) (ks : List ArgumentKnown) (ps : List (List Passed)) : Type 0 where
    pub values : List Expression
    pub arguments_are : arguments ≡ map positional values
    pub knowns_are : ks ≡ map (given scope w) values
    pub passed_are : unnamed (flat_map (λ a. a) ps) ≡ map (typed w) values
    pub fits : EachFits scope w values

  all_positional : (arguments : List Argument) (ks : List ArgumentKnown) (ps : List (List Passed)) → ArgumentsFit arguments ks ps → inputs ks ≡ [] → outputs ks ≡ [] → ArePositional arguments ks ps
  all_positional arguments ks ps no_arguments_fit no_inputs no_outputs = record { values = []; arguments_are = refl; knowns_are = refl; passed_are = refl; fits = tt }
  all_positional arguments ks ps (more_arguments_fit {as' = others} {ks = ls} {ps = qs} (positional_fits x fits) more) no_inputs no_outputs =
      let rest = all_positional others ls qs more no_inputs no_outputs in
      record {
        values = x ∷ rest.values;
        arguments_are = ap (λ (zs : List Argument). positional x ∷ zs) rest.arguments_are;
        knowns_are = ap (λ (zs : List ArgumentKnown). calls.positional (known scope x) ∷ zs) rest.knowns_are;
        passed_are = ap (λ (zs : List Typed). typed w x ∷ zs) rest.passed_are;
        fits = (fits, rest.fits);
      }
  all_positional arguments ks ps (more_arguments_fit (input_fits n x fits) more) no_inputs no_outputs = absurd (cc)
  all_positional arguments ks ps (more_arguments_fit (output_fits n v fit) more) no_inputs no_outputs = absurd (cc)

  owns_given : (xs : List Expression) → owns_in (map (given scope w) xs) ≡ owns scope w xs
  owns_given [] = refl
  owns_given (x ∷ xs) = ap (λ (os : List (Option Elem)). Known.own (known scope x) ∷ os) (owns_given xs)

  count_given : (xs : List Expression) → length (positionals (map (given scope w) xs)) ≡ length xs
  count_given [] = refl
  count_given (x ∷ xs) = ap (λ n. suc n) (count_given xs)

  module _ (c : Call) where
    abbrev Goal : Callee → List ArgumentKnown → Typed → Type 0
    Goal callee ks y = Fits w (roll-Expression (Expression-F.Call c)) (called callee (record { name = c.name; arguments = ks })) y

    -- what holds of a call without faults that fits the rules by this
    record CallHolds (callee : Callee) (ks : List ArgumentKnown) (t : Elem) : Type 0 where
      pub arguments : arguments_faults callee (dues.Type t) 0 ks ≡ []
      pub gives_it : gives callee t ≡ true

    call_holds : (callee : Callee) (ks : List ArgumentKnown) (at : Position) (t : Elem) → call_rule callee ks ≡ None → is_faulty callee ≡ false
        → Known.faults_at (called callee (record { name = c.name; arguments = ks })) at t ≡ [] → CallHolds callee ks t
    call_holds callee ks at t rule faulty h =
        let args = arguments_faults callee (dues.Type t) 0 ks in
        let last = nothing_parts (broken c.name.position (call_rule callee ks) ++ args) (when (not (is_unknown_call callee ks || gives callee t)) (fault at rules.TypeMismatch)) h in
        let first = nothing_parts (broken c.name.position (call_rule callee ks)) args last.0 in
        let fits = holds (is_unknown_call callee ks || gives callee t) (fault at rules.TypeMismatch) last.1 in
        let unknown : is_unknown_call callee ks ≡ false = ap (λ (r : Option Rule). is_some r || is_faulty callee) rule ∙ faulty in
        record { arguments = first.1; gives_it = or_true (is_unknown_call callee ks) (gives callee t) fits unknown }

    rule_holds : (callee : Callee) (ks : List ArgumentKnown) (at : Position) (t : Elem) → Known.faults_at (called callee (record { name = c.name; arguments = ks })) at t ≡ []
        → broken c.name.position (call_rule callee ks) ≡ []
    rule_holds callee ks at t h =
        let args = arguments_faults callee (dues.Type t) 0 ks in
        let last = nothing_parts (broken c.name.position (call_rule callee ks) ++ args) (when (not (is_unknown_call callee ks || gives callee t)) (fault at rules.TypeMismatch)) h in
        (nothing_parts (broken c.name.position (call_rule callee ks)) args last.0).0

    abbrev typed_call : Option Standard → List (List Passed) → Typed
    typed_call s ps = call_typed w c.name.position.line c.name.spelling s (flat_map (λ a. a) ps)

    -- ---- standard functions

    standard_call : (f : StandardFunction) (ks : List ArgumentKnown) (ps : List (List Passed)) → ArgumentsFit c.arguments ks ps → standard_of c.name.spelling ≡ Some (standards.Function f)
        → Goal (callees.Standard f) ks (function_typed f (unnamed (flat_map (λ a. a) ps)))
    standard_call f ks ps fit is at t h =
        let callee = callees.Standard f in
        let n = length (positionals ks) in
        let taken = is_empty (inputs ks) && takes_count f n in
        let fits = fits_rule c.name.position (is_empty (outputs ks) && taken) (rule_holds callee ks at t h) in
        let two = both (is_empty (outputs ks)) taken fits in
        let three = both (is_empty (inputs ks)) (takes_count f n) two.1 in
        let four = both (is_at_most (least_arguments f) (Some n)) (is_at_most n (most_arguments f)) three.1 in
        let rule : call_rule callee ks ≡ None = ap mismatch fits in
        let held = call_holds callee ks at t rule refl h in
        let all = all_positional c.arguments ks ps fit (is_nothing (inputs ks) three.0) (is_nothing (outputs ks) two.0) in
        let xs = all.values in
        let count : n ≡ length xs = ap (λ (zs : List ArgumentKnown). length (positionals zs)) all.knowns_are ∙ count_given xs in
        let low = subst (λ (m : ℕ). is_at_most (least_arguments f) (Some m) ≡ true) count four.0 in
        let high = subst (λ (m : ℕ). is_at_most m (most_arguments f) ≡ true) count four.1 in
        let none = subst (λ (zs : List ArgumentKnown). arguments_faults callee (dues.Type t) 0 zs ≡ []) all.knowns_are held.arguments in
        let done = standard_fits scope w f t xs all.fits low high none held.gives_it in
        let own = ap (λ (zs : List ArgumentKnown). call_own callee (owns_in zs)) all.knowns_are ∙ ap (call_own callee) (owns_given xs) ∙ done.own in
        record {
          own = own ∙ sym (ap (λ (ys : List Typed). (function_typed f ys).own) all.passed_are);
          known = ap (λ (r : Option Rule). is_some r || false) rule;
          term = subst (λ (ys : List Typed). IsTerm w t (roll-Expression (Expression-F.Call c)) ((function_typed f ys).as_type t)) (sym all.passed_are)
              (strict.called (strict.function f is all.arguments_are done.term));
        }

    -- ---- conversions

    conversion_call : (from to : Elem) (ks : List ArgumentKnown) (ps : List (List Passed)) → ArgumentsFit c.arguments ks ps → standard_of c.name.spelling ≡ Some (standards.Conversion from to)
        → Goal (callees.Conversion from to) ks (converted from to (unnamed (flat_map (λ a. a) ps)))
    conversion_call from to ks ps fit is at t h =
        let callee = callees.Conversion from to in
        let n = length (positionals ks) in
        let taken = is_empty (inputs ks) && (n == 1) in
        let fits = fits_rule c.name.position (is_empty (outputs ks) && taken) (rule_holds callee ks at t h) in
        let two = both (is_empty (outputs ks)) taken fits in
        let three = both (is_empty (inputs ks)) (n == 1) two.1 in
        let rule : call_rule callee ks ≡ None = ap mismatch fits in
        let held = call_holds callee ks at t rule refl h in
        let all = all_positional c.arguments ks ps fit (is_nothing (inputs ks) three.0) (is_nothing (outputs ks) two.0) in
        let count : n ≡ length all.values = ap (λ (zs : List ArgumentKnown). length (positionals zs)) all.knowns_are ∙ count_given all.values in
        let one : length all.values ≡ 1 = sym count ∙ (Decides-eqb n 1).0 three.1 in
        let none = subst (λ (zs : List ArgumentKnown). arguments_faults callee (dues.Type t) 0 zs ≡ []) all.knowns_are held.arguments in
        let due : to ≡ t = same_type to t held.gives_it in
        let found = by all.values one all.fits none all.arguments_are in
        record {
          own = found.0 ∙ sym (ap (λ (ys : List Typed). (converted from to ys).own) all.passed_are);
          known = ap (λ (r : Option Rule). is_some r || false) rule;
          term = subst (λ (ys : List Typed). IsTerm w t (roll-Expression (Expression-F.Call c)) ((converted from to ys).as_type t)) (sym all.passed_are)
              (subst (λ (d : Elem). IsTerm w d (roll-Expression (Expression-F.Call c)) ((converted from to (map (typed w) all.values)).as_type d)) due found.1);
        } where
          by : (xs : List Expression) → length xs ≡ 1 → EachFits scope w xs → arguments_faults (callees.Conversion from to) (dues.Type t) 0 (map (given scope w) xs) ≡ [] → c.arguments ≡ map positional xs
              → (Some to ≡ (converted from to (map (typed w) xs)).own) × IsTerm w to (roll-Expression (Expression-F.Call c)) ((converted from to (map (typed w) xs)).as_type to)
          by [] one fits none arguments = absurd (omega arith)
          by (x ∷ y ∷ xs) one fits none arguments = absurd (omega arith)
          by (x ∷ []) one fits none arguments =
              let k = known scope x in
              let strictly = fits.0 k.position from (nothing_parts (k.faults_at k.position from) [] none).0 in
              let y = unary (unaries.Convert to) ((typed w x).as_type from) in
              (refl, subst (IsTerm w to (roll-Expression (Expression-F.Call c))) (sym (fitted_own to y)) (strict.called (strict.conversion is arguments strictly.term)))

    -- ---- functions of the text

    -- by position one for each input from this place on, or else all by name
    abbrev Places : List Input → ℕ → List ArgumentKnown → Type 0
    Places gs place ks = ((inputs ks ≡ []) × (place + length (positionals ks) ≡ length gs)) ⊎ (positionals ks ≡ [])

    abbrev given_terms : List Input → ℕ → List (List Passed) → Terms
    given_terms gs place ps = arguments_from gs place (flat_map (λ a. a) ps)

    by_place_given : (f : Signature) (gs : List Input) → AreInputs f.inputs gs → (place : ℕ) (x : Expression) → place < length gs → Fits w x (known scope x) (typed w x)
        → faults_as (known scope x) (nth_due f.inputs place) ≡ [] → (arguments : List Argument) (ts : Terms) → AreGiven w gs (suc place) arguments ts
        → AreGiven w gs place (positional x ∷ arguments) (more_terms (as_input (typed w x) (input_at gs (Some place))) ts)
    by_place_given f gs same place x low fits h arguments ts rest =
        let i = found_input gs place low in
        let k = known scope x in
        let due = nth_input f.inputs gs same place i.0 i.1 in
        let none = subst (λ (d : Due). faults_as k d ≡ []) due h in
        let strictly = fits k.position i.0.initial.elem none in
        subst (λ (o : Option Input). AreGiven w gs place (positional x ∷ arguments) (more_terms (as_input (typed w x) o) ts)) (sym i.1) (strict.by_place i.1 strictly.term rest)

    by_name_given : (f : Signature) (gs : List Input) → AreInputs f.inputs gs → (place : ℕ) (n : Identifier) (x : Expression) (number : Option ℕ) → input_number f.inputs n.spelling ≡ number
        → is_some number ≡ true → Fits w x (known scope x) (typed w x) → faults_as (known scope x) (named_due f.inputs number) ≡ [] → (arguments : List Argument) (ts : Terms)
        → AreGiven w gs (suc place) arguments ts
        → AreGiven w gs place (roll-Argument (Argument-F.Input n x) ∷ arguments) (more_terms (as_input (typed w x) (input_at gs (goes_to gs place (Some n.spelling)))) ts)
    by_name_given f gs same place n x None is there fits h arguments ts rest = absurd (cc)
    by_name_given f gs same place n x (Some k) is there fits h arguments ts rest =
        let at : position (λ j. is_word j.name n.spelling) gs ≡ Some k = sym (numbers_alike f.inputs gs same n.spelling) ∙ is in
        let low = (position-Some (λ (j : Input). is_word j.name n.spelling) gs k (record { name = []; initial = no_value }) at).0 in
        let i = found_input gs k low in
        let z = known scope x in
        let due = nth_input f.inputs gs same k i.0 i.1 in
        let none = subst (λ (d : Due). faults_as z d ≡ []) due h in
        let strictly = fits z.position i.0.initial.elem none in
        let leads : input_at gs (goes_to gs place (Some n.spelling)) ≡ Some i.0 = ap (input_at gs) at ∙ i.1 in
        subst (λ (o : Option Input). AreGiven w gs place (roll-Argument (Argument-F.Input n x) ∷ arguments) (more_terms (as_input (typed w x) o) ts)) (sym leads)
        (strict.by_name n at i.1 strictly.term rest)

    all_given_by : (f : Signature) (gs : List Input) → AreInputs f.inputs gs → (t : Elem) (place : ℕ) (arguments : List Argument) (ks : List ArgumentKnown) (ps : List (List Passed)) → ArgumentsFit arguments ks ps
        → Places gs place ks → outputs ks ≡ [] → list_all (is_input_of f) (inputs ks) ≡ true → arguments_faults (callees.Own f) (dues.Type t) place ks ≡ []
        → AreGiven w gs place arguments (given_terms gs place ps)
    all_given_by f gs same t place arguments ks ps no_arguments_fit places none named h = strict.all_given
    all_given_by f gs same t place arguments ks ps (more_arguments_fit {as' = others} {ks = ls} {ps = qs} (positional_fits x fits) more) places none named h =
        let parts = nothing_parts (faults_as (known scope x) (nth_due f.inputs place)) (arguments_faults (callees.Own f) (dues.Type t) (place + 1) ls) h in
        let next : arguments_faults (callees.Own f) (dues.Type t) (suc place) ls ≡ [] = subst (λ (n : ℕ). arguments_faults (callees.Own f) (dues.Type t) n ls ≡ []) (let e : place + 1 ≡ suc place = omega arith in e) parts.1 in
        by places parts.0 (λ q. all_given_by f gs same t (suc place) others ls qs more q none named next) where
          by : Places gs place (calls.positional (known scope x) ∷ ls) → faults_as (known scope x) (nth_due f.inputs place) ≡ [] → (Places gs (suc place) ls → AreGiven w gs (suc place) others (given_terms gs (suc place) qs))
              → AreGiven w gs place (positional x ∷ others) (given_terms gs place (passed None (typed w x) ∷ qs))
          by (inl p) here rest =
              let count = p.1 in
              let behind : suc place + length (positionals ls) ≡ length gs = omega (arith, count) in
              by_place_given f gs same place x (omega (arith, count)) fits here others (given_terms gs (suc place) qs) (rest (inl (p.0, behind)))
          by (inr q) here rest = absurd (cc)
    all_given_by f gs same t place arguments ks ps (more_arguments_fit {as' = others} {ks = ls} {ps = qs} (input_fits n x fits) more) places none named h =
        let parts = nothing_parts (faults_as (known scope x) (named_due f.inputs (input_number f.inputs n.spelling))) (arguments_faults (callees.Own f) (dues.Type t) (place + 1) ls) h in
        let next : arguments_faults (callees.Own f) (dues.Type t) (suc place) ls ≡ [] = subst (λ (m : ℕ). arguments_faults (callees.Own f) (dues.Type t) m ls ≡ []) (let e : place + 1 ≡ suc place = omega arith in e) parts.1 in
        let names = both (is_input_of f n) (list_all (is_input_of f) (inputs ls)) named in
        by places parts.0 names.0 (λ q. all_given_by f gs same t (suc place) others ls qs more q none names.1 next) where
          by : Places gs place (calls.input n (known scope x) ∷ ls) → faults_as (known scope x) (named_due f.inputs (input_number f.inputs n.spelling)) ≡ [] → is_some (input_number f.inputs n.spelling) ≡ true
              → (Places gs (suc place) ls → AreGiven w gs (suc place) others (given_terms gs (suc place) qs))
              → AreGiven w gs place (roll-Argument (Argument-F.Input n x) ∷ others) (given_terms gs place (passed (Some n.spelling) (typed w x) ∷ qs))
          by (inl p) here there rest = absurd (let e = p.0 in cc)
          by (inr q) here there rest = by_name_given f gs same place n x (input_number f.inputs n.spelling) refl there fits here others (given_terms gs (suc place) qs) (rest (inr q))
    all_given_by f gs same t place arguments ks ps (more_arguments_fit (output_fits n v fit) more) places none named h = absurd (cc)

    -- the rules of arguments by position and by name
    own_rule : (empty a b d e : Bool) → (if empty then a || b else a && d && e) ≡ true → (if empty then a || b else a && d) ≡ true
    own_rule true a b d e h = h
    own_rule false a b d e h = (both (a && d) e h).0

    own_named : (f : Signature) (names : List Identifier) (a b d : Bool) → (if is_empty names then a || b else a && d && list_all (is_input_of f) names) ≡ true → list_all (is_input_of f) names ≡ true
    own_named f [] a b d h = refl
    own_named f (n ∷ ns) a b d h = (both (a && d) (list_all (is_input_of f) (n ∷ ns)) h).1

    own_places : (gs : List Input) (ks : List ArgumentKnown) (names : List Identifier) (count many : ℕ) (d e : Bool) → inputs ks ≡ names → length (positionals ks) ≡ count → many ≡ length gs
        → (if is_empty names then (count == 0) || (count == many) else (count == 0) && d && e) ≡ true → Places gs 0 ks
    own_places gs ks [] count many d e none counted all h = by (count == 0) refl where
      by : (z : Bool) → (count == 0) ≡ z → Places gs 0 ks
      by true z = inr (no_length (positionals ks) (counted ∙ (Decides-eqb count 0).0 z))
      by false z =
          let e : length (positionals ks) ≡ length gs = counted ∙ (Decides-eqb count many).0 (or_true (count == 0) (count == many) h z) ∙ all in
          inl (none, omega (arith, e))
    own_places gs ks (n ∷ ns) count many d e none counted all h =
        let zero = (both (count == 0) d (both ((count == 0) && d) e h).0).0 in
        inr (no_length (positionals ks) (counted ∙ (Decides-eqb count 0).0 zero))

    own_call : (f : Signature) (ks : List ArgumentKnown) (ps : List (List Passed)) → ArgumentsFit c.arguments ks ps → ks ≡ known_arguments scope c.arguments → ps ≡ map (argument_typed w) c.arguments → IsOwn w c.name.spelling f
        → Goal (callees.Own f) ks (typed_call None ps)
    own_call f ks ps fit knows passes is at t h =
        let callee = callees.Own f in
        let g = is.function in
        let n = length (positionals ks) in
        let taken = calls.are_own_arguments f n (inputs ks) in
        let fits = fits_rule c.name.position (is_empty (outputs ks) && taken) (rule_holds callee ks at t h) in
        let two = both (is_empty (outputs ks)) taken fits in
        let rule : call_rule callee ks ≡ None = ap mismatch fits in
        let held = call_holds callee ks at t rule refl h in
        let named = own_named f (inputs ks) (n == 0) (n == length f.inputs) (not (is_repeated (inputs ks))) two.1 in
        let places = own_places g.inputs ks (inputs ks) n (length f.inputs) (not (is_repeated (inputs ks))) (list_all (is_input_of f) (inputs ks)) refl refl (lengths_alike f.inputs g.inputs is.inputs) two.1 in
        let terms = all_given_by f g.inputs is.inputs t 0 c.arguments ks ps fit places (is_nothing (outputs ks) two.0) named held.arguments in
        let short = own_rule (is_empty (inputs ks)) (n == 0) (n == length f.inputs) (not (is_repeated (inputs ks))) (list_all (is_input_of f) (inputs ks)) two.1 in
        let many = subst (λ (m : ℕ). (if is_empty (inputs ks) then (n == 0) || (n == m) else (n == 0) && not (is_repeated (inputs ks))) ≡ true) (lengths_alike f.inputs g.inputs is.inputs) short in
        let names : inputs ks ≡ inputs_of c.arguments = ap inputs knows ∙ inputs_known scope c.arguments in
        let count : n ≡ length (positionals_of c.arguments) = ap (λ (zs : List ArgumentKnown). length (positionals zs)) knows ∙ ap (λ (zs : List Known). length zs) (positionals_known scope c.arguments) ∙ length-map (positionals_of c.arguments) (known scope) in
        let named_so = subst (λ (ns : List Identifier). (if is_empty ns then (n == 0) || (n == length g.inputs) else (n == 0) && not (is_repeated ns)) ≡ true) names many in
        let are : are_passed g.inputs c.arguments ≡ true =
        subst (λ (m : ℕ). (if is_empty (inputs_of c.arguments) then (m == 0) || (m == length g.inputs) else (m == 0) && not (is_repeated (inputs_of c.arguments))) ≡ true) count named_so in
        let y = typed_call None ps in
        let called_is : y ≡ function_called c.name.position.line (Some g) (flat_map (λ a. a) ps) = ap (λ (o : Option Called). function_called c.name.position.line o (flat_map (λ a. a) ps)) is.known in
        let due : g.result ≡ t = sym is.result ∙ same_type f.result t held.gives_it in
        let term = call c.name.position.line g.number g.result (given_terms g.inputs 0 ps) (sources_from (go_to g.inputs 0 (flat_map (λ a. a) ps)) 0 g.inputs) in
        let same : y.as_type g.result ≡ term = ap (λ (z : Typed). z.as_type g.result) called_is ∙ fitted_own g.result term in
        let whole : IsTerm w g.result (roll-Expression (Expression-F.Call c)) term =
        subst (λ (qs : List (List Passed)). IsTerm w g.result (roll-Expression (Expression-F.Call c)) (call c.name.position.line g.number g.result (given_terms g.inputs 0 ps) (sources_from (go_to g.inputs 0 (flat_map (λ a. a) qs)) 0 g.inputs))) (sym passes)
        (strict.called (strict.own g is.no_standard is.known are terms)) in
        record {
          own = ap (λ (e : Elem). Some e) is.result ∙ sym (ap Typed.own called_is);
          known = ap (λ (r : Option Rule). is_some r || false) rule;
          term = subst (λ (d : Elem). IsTerm w d (roll-Expression (Expression-F.Call c)) (y.as_type d)) due (subst (IsTerm w g.result (roll-Expression (Expression-F.Call c))) (sym same) whole);
        }

    -- ---- whatever is called

    none_called : (x : Bool) → (x && false) ≡ true → ⊥
    none_called true h = cc
    none_called false h = cc

    pub call_fits : Ties scope w → (ks : List ArgumentKnown) (ps : List (List Passed)) → ArgumentsFit c.arguments ks ps → ks ≡ known_arguments scope c.arguments → ps ≡ map (argument_typed w) c.arguments
        → Goal (scope.callee c.name.spelling) ks (typed_call (standard_of c.name.spelling) ps)
    call_fits ties ks ps fit knows passes = by (scope.callee c.name.spelling) (ties.callee c.name.spelling) where
      by : (callee : Callee) → IsCallee scope w c.name.spelling callee → Goal callee ks (typed_call (standard_of c.name.spelling) ps)
      by callees.Missing is = λ at t h. absurd (let e = rule_holds callees.Missing ks at t h in cc)
      by callees.Faulty is = absurd is
      by (callees.Instance base) is = λ at t h. absurd (none_called (is_empty (outputs ks)) (fits_rule c.name.position (is_empty (outputs ks) && false) (rule_holds (callees.Instance base) ks at t h)))
      by callees.Block is = λ at t h. absurd (none_called (is_empty (outputs ks)) (fits_rule c.name.position (is_empty (outputs ks) && false) (rule_holds callees.Block ks at t h)))
      by (callees.Standard f) is = subst (λ (s : Option Standard). Goal (callees.Standard f) ks (typed_call s ps)) (sym is) (standard_call f ks ps fit is)
      by (callees.Conversion from to) is = subst (λ (s : Option Standard). Goal (callees.Conversion from to) ks (typed_call s ps)) (sym is) (conversion_call from to ks ps fit is)
      by (callees.Own f) is = subst (λ (s : Option Standard). Goal (callees.Own f) ks (typed_call s ps)) (sym (IsOwn.no_standard is)) (own_call f ks ps fit knows passes is)
