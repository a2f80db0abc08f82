-- What the functions of a text give are values of the types of their results (2.5.1).
use Rattle.std.proofs.Common.{◌≡◌, ℕ, zero, suc, ◌<◌, List, [], ◌∷◌, length, get_or, codes, Option, Some, None, refl, ap, sym, ◌∙◌, subst, arith}
use Rattle.st_values.specs.declared.elem.Elem.{Elem}
use Rattle.st_values.specs.declared.value.Value.{Value}
use Rattle.st_tree.specs.declared.tree.position.Identifier.{Identifier}
use Rattle.st_tree.specs.declared.tree.unit.Function.{Function}
use Rattle.st_types.specs.Compositions.{Composition}
use Rattle.st_types.specs.Names.{Declares, Named, unit_at}
use Rattle.st_types.specs.Names as names
use Rattle.st_leaves.specs.Places.{count}
use Rattle.st_operators.specs.Laws.{IsOf}
use Rattle.st_meaning.specs.Laws.{CallsAreSound, StaysInFrame}
use Rattle.st_meaning.specs.Meaning.{Calls, Values, no_value}
use Rattle.st_meaning.specs.Operations.{gives}
use Rattle.st_meaning.specs.Sound.{AreInputsOf, AreSoundCalls, AreSoundCommands, AreValuesOf, HasOneLeafEach, IsResultOf, type_at}
use Rattle.st_meaning.specs.Statements.{Outcome, done, exited, returned, faulted, commands_meaning, ended}
use Rattle.st_meaning.specs.Typing.{body_of}
use Rattle.st_meaning.specs.Units.{called_as, called_by, calls_in, function_at, function_given, function_setting, inputs_in, members_begun, members_of_function, result_given, result_of, root_of, unit_given, unit_whole}
use Rattle.st_meaning.specs.Wholes.{Called, Functions}
use Rattle.st_meaning.proofs.BegunFunctions.{function_begins, members_have_values}
use Rattle.st_meaning.proofs.Commands.{commands_stay}
use Rattle.st_meaning.proofs.Giving.{same_given, same_left}
use Rattle.st_meaning.proofs.Typing.{typing_gives_sound_bodies}

-- ---- the result

first_of : (values : Values) → get_or values 0 no_value ≡ result_of values
first_of [] = refl
first_of (v ∷ values) = refl

module _ (root : Composition) (e : Elem) (some : 0 < count root) (type : type_at root 0 ≡ e) where
  result_is : (values : Values) (left rest : ℕ) (v : Value) → AreValuesOf root values → gives (result_of values) left ≡ gives v rest → IsOf e v
  result_is values left rest v all h =
      subst (IsOf e) (first_of values ∙ same_given (result_of values) v left rest h) (subst (λ t. IsOf t (get_or values 0 no_value)) type (all.each 0 some))

  -- whichever way the body ends
  outcome_gives : (values : Values) (left : ℕ) (o : Outcome) (v : Value) (rest : ℕ) → StaysInFrame root [] values left o → result_given (ended o) ≡ gives v rest
      → IsResultOf e left v rest
  outcome_gives values left (done others n) v rest keeps h =
      let same = same_left (result_of others) v n rest h in
      record { value = result_is others n rest v keeps.all h; steps = omega (arith, keeps.steps, same) }
  outcome_gives values left (exited others n) v rest keeps h =
      let same = same_left (result_of others) v n rest h in
      record { value = result_is others n rest v keeps.all h; steps = omega (arith, keeps.steps, same) }
  outcome_gives values left (returned others n) v rest keeps h =
      let same = same_left (result_of others) v n rest h in
      record { value = result_is others n rest v keeps.all h; steps = omega (arith, keeps.steps, same) }
  outcome_gives values left (faulted f) v rest keeps h = cc

-- ---- one call

module _ (units : List Named) where
  abbrev functions : Functions
  functions = function_at units

  module _ (calls : Calls) (known : AreSoundCalls functions calls) (number : ℕ) (name : Identifier) where
    abbrev unit : Declares → Named
    unit d = record { name = name; declares = d }

    -- what is called is this function
    function_is : (f : Function) (g : Called) → called_as units number (names.function f) ≡ Some g → (f.result ≡ g.result) × (inputs_in (members_of_function units f) ≡ g.inputs)
    function_is f g h =
        let same : record { number = number; result = f.result; inputs = inputs_in (members_of_function units f) } ≡ g = cc in
        (ap (λ c. c.result) same, ap (λ c. c.inputs) same)

    function_gives : (f : Function) (g : Called) (inputs : Values) (left : ℕ) (v : Value) (rest : ℕ) → HasOneLeafEach (root_of units (unit (names.function f)))
        → called_as units number (names.function f) ≡ Some g → AreInputsOf g.inputs inputs
        → function_given units calls (unit (names.function f)) (names.function f) inputs left ≡ gives v rest → IsResultOf g.result left v rest
    unfolding unit_whole
    function_gives f g inputs left v rest one is given h =
        let u = unit (names.function f) in
        let root = root_of units u in
        let same = function_is f g is in
        let ms = members_of_function units f in
        let fresh = members_begun ms inputs in
        let all : AreValuesOf root fresh = members_have_values (codes "PROGRAM") ms (function_begins units f) inputs (subst (λ is. AreInputsOf is inputs) (sym same.1) given) in
        let body = body_of (unit_whole units u) f.statements in
        let sound : AreSoundCommands functions root body = typing_gives_sound_bodies units u f.statements in
        let stays = commands_stay functions calls known root function_setting refl one body sound fresh left all in
        subst (λ e. IsResultOf e left v rest) same.0
        (outcome_gives root f.result (omega arith) refl fresh left (commands_meaning calls root function_setting body fresh left) v rest stays h)

    declared_gives : (d : Declares) (g : Called) (inputs : Values) (left : ℕ) (v : Value) (rest : ℕ) → HasOneLeafEach (root_of units (unit d)) → called_as units number d ≡ Some g
        → AreInputsOf g.inputs inputs → function_given units calls (unit d) d inputs left ≡ gives v rest → IsResultOf g.result left v rest
    declared_gives (names.function f) g inputs left v rest one is given h = function_gives f g inputs left v rest one is given h
    declared_gives (names.type t) g inputs left v rest one is given h = cc
    declared_gives (names.block b) g inputs left v rest one is given h = cc
    declared_gives (names.program p) g inputs left v rest one is given h = cc

  unit_gives : (calls : Calls) (known : AreSoundCalls functions calls) (number : ℕ) (unit : Option Named) (g : Called) (inputs : Values) (left : ℕ) (v : Value) (rest : ℕ)
      → ((u : Named) → unit ≡ Some u → HasOneLeafEach (root_of units u)) → called_by units number unit ≡ Some g → AreInputsOf g.inputs inputs
      → unit_given units calls unit inputs left ≡ gives v rest → IsResultOf g.result left v rest
  unit_gives calls known number None g inputs left v rest one is given h = cc
  unit_gives calls known number (Some u) g inputs left v rest one is given h =
      declared_gives calls known number u.name u.declares g inputs left v rest (one u refl) is given h

  calls_sound : ((number : ℕ) (unit : Named) → unit_at units number ≡ Some unit → HasOneLeafEach (root_of units unit)) → (most : ℕ) → AreSoundCalls functions (calls_in units most)
  unfolding calls_in
  calls_sound one zero unit g inputs left v rest is given h = cc
  calls_sound one (suc most) unit g inputs left v rest is given h =
      unit_gives (calls_in units most) (calls_sound one most) unit (unit_at units unit) g inputs left v rest (one unit) is given h

pub calls_are_sound : CallsAreSound
calls_are_sound units one = calls_sound units one (suc (length units))
