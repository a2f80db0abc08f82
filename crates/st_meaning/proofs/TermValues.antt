-- The value of an expression is one of its type, and no more steps are left.
use Rattle.std.proofs.Common.{◌≡◌, ℕ, zero, suc, ◌≤◌, Bool, true, IsTrue, List, [], ◌∷◌, get_or, Option, Some, None, is_some, refl, ap, sym, ◌∙◌, subst, arith}
use Rattle.std.specs.Prelude.{slice_get}
use Rattle.st_values.specs.declared.elem.Elem.{Elem}
use Rattle.st_values.specs.declared.value.Value.{Value}
use Rattle.st_types.specs.Compositions.{Composition}
use Rattle.st_types.specs.OwnTypes.{or_lint}
use Rattle.st_leaves.specs.Paths.{Path, field, index}
use Rattle.st_leaves.specs.Selected.{element_of, selected_by, subscripts_of}
use Rattle.st_leaves.proofs.Places.{places_are_numbers}
use Rattle.st_operators.specs.Functions.{selected_of}
use Rattle.st_operators.specs.Laws.{IsOf}
use Rattle.st_operators.proofs.Results.{selected_is}
use Rattle.st_meaning.specs.Laws.{PlacesTakeSteps, TermsGiveValues}
use Rattle.st_meaning.specs.Meaning.{Calls, Values, inputs_from, located, no_value, numbers_in, value_at, value_from, value_of, value_of_leaf, values_of, when_within}
use Rattle.st_meaning.specs.Offsets.{step_leaf}
use Rattle.st_meaning.specs.Operations.{Answer, gives, then_with, answered_in, binary_value, unary_value}
use Rattle.st_meaning.specs.Sound.{AreInputsOf, AreSoundCalls, AreSoundParts, AreSoundTerms, AreSourcesOf, AreValuesOf, HasOneLeafEach, IsPlaceOf, IsResultOf, IsSoundTerm, IsSourceOf, term_type, types_in}
use Rattle.st_meaning.specs.Terms.{Source, written, left_out, Term, constant, stored, of_step, unary, binary, selection, call, Terms, no_terms, more_terms, Parts, whole, field_part, element_part}
use Rattle.st_meaning.specs.Steps.{has_step, step_elem, step_path}
use Rattle.st_meaning.specs.Wholes.{Functions, Input, type_of}
use Rattle.st_meaning.proofs.ChartTypes.{step_leads}
use Rattle.st_meaning.proofs.Giving.{answered_given, given_in, same_given, same_left, stepped_in, within_given}
use Rattle.st_meaning.proofs.Operands.{binary_is, binary_left, unary_is}
use Rattle.st_meaning.proofs.Places.{places_have_leaves}

-- there is a type, and it is the one of the value
own_type : (t : Option Elem) → IsTrue (is_some t) → t ≡ Some (or_lint t)
own_type None h = cc
own_type (Some e) h = refl

selected_alike : (e : Elem) (g a b : Value) → IsOf e a → IsOf e b → IsOf e (selected_of g a b)
selected_alike e g a b is is' =
    subst (λ d. IsOf d (selected_of g a b)) is.of_type (selected_is g a b (record { same = is.of_type ∙ sym is'.of_type; left = is.in_range; right = is'.in_range }))

-- ---- calls of functions

-- a value of each of the types
abbrev AreOf : List Elem → Values → Type 0
AreOf types values = (place : ℕ) (e : Elem) → slice_get types place ≡ Some e → IsOf e (get_or values place no_value)

record AreResultsOf (types : List Elem) (left : ℕ) (values : Values) (rest : ℕ) : Type 0 where
  each : AreOf types values
  steps : rest ≤ left

none_of : (values : Values) → AreOf [] values
none_of values place e h = cc

more_of : (d : Elem) (types : List Elem) (v : Value) (values : Values) → IsOf d v → AreOf types values → AreOf (d ∷ types) (v ∷ values)
more_of d types v values is are zero e h = let same : d ≡ e = cc in subst (λ t. IsOf t v) same is
more_of d types v values is are (suc place) e h = are place e h

source_given : (types : List Elem) (e : Elem) (s : Source) (values : Values) → AreOf types values → IsSourceOf types e s → IsOf e (value_from values s)
source_given types e (written place) values are sound = are place e sound
source_given types e (left_out v) values are sound = sound

inputs_given : (types : List Elem) (is : List Input) (sources : List Source) (values : Values) → AreOf types values → AreSourcesOf types is sources
    → AreInputsOf is (inputs_from values sources)
inputs_given types [] [] values are sound = tt
inputs_given types [] (s ∷ ss) values are sound = elim sound [ ]
inputs_given types (i ∷ is) [] values are sound = elim sound [ ]
inputs_given types (i ∷ is) (s ∷ ss) values are sound = (source_given types i.initial.elem s values are sound.0, inputs_given types is ss values are sound.1)

module _ (functions : Functions) (calls : Calls) (known : AreSoundCalls functions calls) (root : Composition) (values : Values) (one : HasOneLeafEach root)
    (all : AreValuesOf root values) where
  stored_value : (ps : Parts) (left : ℕ) (v : Value) (rest : ℕ) → IsSoundTerm functions root (stored ps) → value_of calls root values (stored ps) left ≡ gives v rest
      → IsOf (term_type root (stored ps)) v
  stored_value ps left v rest sound h =
      let e = or_lint (type_of root ps) in
      let place : IsPlaceOf functions root e ps = record { type = own_type (type_of root ps) sound.0; parts = sound.1 } in
      let found = given_in (located calls root values root ps left) (λ path n. gives (value_at root values path) n) v rest h in
      let leaf = places_have_leaves functions calls root values e ps left found.value found.left place found.first in
      let few = (places_are_numbers root found.value leaf.number leaf.leads).0 in
      let same : get_or values leaf.number no_value ≡ v =
      sym (ap (value_of_leaf values) (one found.value leaf.number leaf.leads)) ∙ same_given (value_at root values found.value) v found.left rest found.then' in
      subst (IsOf e) same (subst (λ d. IsOf d (get_or values leaf.number no_value)) leaf.type (all.each leaf.number few))

  step_value : (is_time : Bool) (name : List ℕ) → has_step root name ≡ true → IsOf (term_type root (of_step is_time name)) (value_at root values (step_path is_time name))
  step_value is_time name h =
      let at = step_leads root is_time name h in
      let n = step_leaf root is_time name in
      let path = step_path is_time name in
      let few = (places_are_numbers root path n at.leads).0 in
      subst (IsOf (step_elem is_time)) (sym (ap (value_of_leaf values) (one path n at.leads)))
      (subst (λ d. IsOf d (get_or values n no_value)) at.type (all.each n few))

  mutual
    pub term_value : (t : Term) (left : ℕ) (v : Value) (rest : ℕ) → IsSoundTerm functions root t → value_of calls root values t left ≡ gives v rest
        → IsResultOf (term_type root t) left v rest
    term_value (constant w) left v rest sound h =
        let is : IsOf w.elem w = record { in_range = sound; of_type = refl } in
        let same = same_left w v left rest h in
        record { value = subst (IsOf w.elem) (same_given w v left rest h) is; steps = omega (arith, same) }
    term_value (stored ps) left v rest sound h =
        let found = given_in (located calls root values root ps left) (λ path n. gives (value_at root values path) n) v rest h in
        let steps = place_steps root ps left found.value found.left sound.1 found.first in
        let same = same_left (value_at root values found.value) v found.left rest found.then' in
        record { value = stored_value ps left v rest sound h; steps = omega (arith, steps, same) }
    term_value (of_step is_time name) left v rest sound h =
        let w = value_at root values (step_path is_time name) in
        let same = same_left w v left rest h in
        record { value = subst (IsOf (term_type root (of_step is_time name))) (same_given w v left rest h) (step_value is_time name sound); steps = omega (arith, same) }
    term_value (unary o a) left v rest sound h =
        let x = given_in (value_of calls root values a left) (λ w n. gives (unary_value o w) n) v rest h in
        let is = term_value a left x.value x.left sound.0 x.first in
        let same = same_left (unary_value o x.value) v x.left rest x.then' in
        record {
          value = subst (IsOf (term_type root (unary o a))) (same_given (unary_value o x.value) v x.left rest x.then') (unary_is o (term_type root a) x.value is.value sound.1);
          steps = omega (arith, is.steps, same);
        }
    term_value (binary o line a b) left v rest sound h =
        let x = given_in (value_of calls root values a left) (λ w n. then_with (value_of calls root values b n) (λ z m. binary_value o line w z m)) v rest h in
        let y = given_in (value_of calls root values b x.left) (λ z m. binary_value o line x.value z m) v rest x.then' in
        let is = term_value a left x.value x.left sound.0 x.first in
        let is' = term_value b x.left y.value y.left sound.1 y.first in
        let same = binary_left o line x.value y.value y.left v rest y.then' in
        record {
          value = binary_is o line (term_type root a) (term_type root b) x.value y.value y.left v rest is.value is'.value sound.2 sound.3 y.then';
          steps = omega (arith, is.steps, is'.steps, same);
        }
    term_value (selection g a b) left v rest sound h =
        let x = given_in (value_of calls root values g left) (λ w n. then_with (value_of calls root values a n) (λ y m. then_with (value_of calls root values b m) (λ z k. gives (selected_of w y z) k))) v rest h in
        let y = given_in (value_of calls root values a x.left) (λ w m. then_with (value_of calls root values b m) (λ z k. gives (selected_of x.value w z) k)) v rest x.then' in
        let z = given_in (value_of calls root values b y.left) (λ w k. gives (selected_of x.value y.value w) k) v rest y.then' in
        let is = term_value g left x.value x.left sound.0 x.first in
        let is' = term_value a x.left y.value y.left sound.1 y.first in
        let is'' = term_value b y.left z.value z.left sound.2 z.first in
        let second : IsOf (term_type root a) z.value = subst (λ e. IsOf e z.value) (sym sound.3) is''.value in
        let same = same_left (selected_of x.value y.value z.value) v z.left rest z.then' in
        record {
          value = subst (IsOf (term_type root a)) (same_given (selected_of x.value y.value z.value) v z.left rest z.then')
              (selected_alike (term_type root a) x.value y.value z.value is'.value second);
          steps = omega (arith, is.steps, is'.steps, is''.steps, same);
        }
    term_value (call line unit result ts sources) left v rest sound h =
        let go : ℕ → Answer Value = (λ n. then_with (values_of calls root values ts n) (λ xs m. answered_in unit (calls unit (inputs_from xs sources) m))) in
        let behind = stepped_in line left go v rest h in
        let xs = given_in (values_of calls root values ts behind.behind) (λ xs m. answered_in unit (calls unit (inputs_from xs sources) m)) v rest behind.then' in
        let are = term_values ts behind.behind xs.value xs.left sound.0 xs.first in
        let f = sound.1.function in
        let is = known unit f (inputs_from xs.value sources) xs.left v rest sound.1.known (inputs_given (types_in root ts) f.inputs sources xs.value are.each sound.1.inputs)
        (answered_given unit (calls unit (inputs_from xs.value sources) xs.left) v rest xs.then') in
        record {
          value = subst (λ e. IsOf e v) sound.1.result_is is.value;
          steps = omega (arith, behind.steps, are.steps, is.steps);
        }

    term_values : (ts : Terms) (left : ℕ) (vs : Values) (rest : ℕ) → AreSoundTerms functions root ts → values_of calls root values ts left ≡ gives vs rest
        → AreResultsOf (types_in root ts) left vs rest
    term_values no_terms left vs rest sound h =
        let same = same_left [] vs left rest h in
        record { each = none_of vs; steps = omega (arith, same) }
    term_values (more_terms t ts) left vs rest sound h =
        let x = given_in (value_of calls root values t left) (λ w n. then_with (values_of calls root values ts n) (λ ws m. gives (w ∷ ws) m)) vs rest h in
        let xs = given_in (values_of calls root values ts x.left) (λ ws m. gives (x.value ∷ ws) m) vs rest x.then' in
        let is = term_value t left x.value x.left sound.0 x.first in
        let are = term_values ts x.left xs.value xs.left sound.1 xs.first in
        let same = same_left (x.value ∷ xs.value) vs xs.left rest xs.then' in
        record {
          each = subst (AreOf (types_in root (more_terms t ts))) (same_given (x.value ∷ xs.value) vs xs.left rest xs.then')
              (more_of (term_type root t) (types_in root ts) x.value xs.value is.value are.each);
          steps = omega (arith, is.steps, are.steps, same);
        }

    place_steps : (c : Composition) (ps : Parts) (left : ℕ) (path : Path) (rest : ℕ) → AreSoundParts functions root ps → located calls root values c ps left ≡ gives path rest → rest ≤ left
    place_steps c whole left path rest sound h = let same = same_left [] path left rest h in omega (arith, same)
    place_steps c (field_part name ps) left path rest sound h =
        let inner = given_in (located calls root values (selected_by c name) ps left) (λ p n. gives (field name ∷ p) n) path rest h in
        let steps = place_steps (selected_by c name) ps left inner.value inner.left sound inner.first in
        let same = same_left (field name ∷ inner.value) path inner.left rest inner.then' in
        omega (arith, steps, same)
    place_steps c (element_part line ts ps) left path rest sound h =
        let subscripts = given_in (values_of calls root values ts left)
        (λ xs n. when_within line (subscripts_of c) (numbers_in xs) (then_with (located calls root values (element_of c) ps n) (λ p m. gives (index (numbers_in xs) ∷ p) m))) path rest h in
        let is = numbers_in subscripts.value in
        let n = subscripts.left in
        let inside = within_given line (subscripts_of c) is (then_with (located calls root values (element_of c) ps n) (λ p m. gives (index is ∷ p) m)) path rest subscripts.then' in
        let inner = given_in (located calls root values (element_of c) ps n) (λ p m. gives (index is ∷ p) m) path rest inside.1 in
        let are = term_values ts left subscripts.value n sound.0 subscripts.first in
        let steps = place_steps (element_of c) ps n inner.value inner.left sound.1 inner.first in
        let same = same_left (index is ∷ inner.value) path inner.left rest inner.then' in
        omega (arith, are.steps, steps, same)

pub terms_give_values : TermsGiveValues
terms_give_values functions calls root values t left v rest known one all sound h = term_value functions calls known root values one all t left v rest sound h

pub places_take_steps : PlacesTakeSteps
places_take_steps functions calls root values e ps left path rest known one all is h = place_steps functions calls known root values one all root ps left path rest is.parts h
