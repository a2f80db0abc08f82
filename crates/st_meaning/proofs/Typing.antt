-- What typing makes of the statements of a unit is sound.
use Rattle.std.proofs.Common.{◌≡◌, ℕ, Bool, true, false, if◌then◌else◌, List, Option, Some, None, ap, sym, ◌∙◌, subst}
use Rattle.st_values.specs.Words.{is_word}
use Rattle.st_types.specs.Compositions.{Composition, unknown, elementary, array, composed, standard, Members, none, member}
use Rattle.st_types.specs.Names.{Declares, Named, number_of, unit_at}
use Rattle.st_types.specs.Names as names
use Rattle.st_leaves.specs.Selected.{member_selected}
use Rattle.st_meaning.specs.Laws.{TypingGivesSoundBodies, TypingGivesSoundUnits}
use Rattle.st_meaning.specs.Sound.{IsSoundBody}
use Rattle.st_meaning.specs.Typing.{body_in}
use Rattle.st_meaning.specs.Units.{block_invoked, called_as, called_by, function_at, function_by, inputs_in, instance_of, instances_in, member_instance, members_of_function, number_invoked, root_of, statements_of, unit_invoked, unit_whole, whole_with}
use Rattle.st_meaning.specs.Wholes.{Called, Functions, Invoked}
use Rattle.st_meaning.proofs.BegunFunctions.{function_begins, inputs_begin}
use Rattle.st_meaning.proofs.Constants.{constants_have}
use Rattle.st_meaning.proofs.TypedCalls.{AreSoundBodies}
use Rattle.st_meaning.proofs.TypedFunctions.{BeginWithValues, IsFunction, KnowsNames}
use Rattle.st_meaning.proofs.TypedStatements.{body_sound, unit_body_sound}

-- ---- names

module _ (units : List Named) where
  -- a function of the text is found by its number
  known_as : (number : ℕ) (d : Declares) (f : Called) → called_as units number d ≡ Some f → (f.number ≡ number) × BeginWithValues f.inputs
  known_as number (names.function g) f h =
      let same : record { number = number; result = g.result; inputs = inputs_in (members_of_function units g) } ≡ f = cc in
      (sym (ap (λ c. c.number) same), subst BeginWithValues (ap (λ c. c.inputs) same) (inputs_begin (members_of_function units g) (function_begins units g)))
  known_as number (names.type t) f h = cc
  known_as number (names.block b) f h = cc
  known_as number (names.program p) f h = cc

  known_by : (number : ℕ) (unit : Option Named) (f : Called) → called_by units number unit ≡ Some f → (f.number ≡ number) × BeginWithValues f.inputs
  known_by number None f h = cc
  known_by number (Some unit) f h = known_as number unit.declares f h

  function_known : (number : Option ℕ) (f : Called) → function_by units number ≡ Some f → IsFunction (function_at units) f
  function_known None f h = cc
  function_known (Some number) f h =
      let is = known_by number (unit_at units number) f h in
      record { known = ap (function_at units) is.0 ∙ h; begins = is.1 }

  knows_names : (unit : Declares) (c : Composition) (inside : List ℕ → Option Invoked) → KnowsNames (function_at units) (whole_with units unit c inside)
  knows_names unit c inside = record { values = constants_have units unit; called = λ name f h. function_known (number_of units name) f h }

-- ---- the bodies of instances

module _ (units : List Named) where
  abbrev functions : Functions
  functions = function_at units

  -- of the names in an instance whose variables consist of this
  abbrev SoundInside : Composition → (List ℕ → Option Invoked) → Type 0
  SoundInside c invoked = (unit : Declares) → AreSoundBodies functions (whole_with units unit c invoked)

  block_sound : (number : ℕ) (c : Composition) (inside : List ℕ → Option Invoked) → SoundInside c inside → (unit : Declares) (found : Invoked)
      → block_invoked units number c inside unit ≡ Some found → IsSoundBody functions c found.body
  block_sound number c inside sound (names.block b) found h =
      let unit = names.block b in
      let is : body_in (whole_with units unit c inside) number (statements_of unit) ≡ found.body = cc in
      subst (IsSoundBody functions c) is (unit_body_sound functions (whole_with units unit c inside) (knows_names units unit c inside) (sound unit) number (statements_of unit))
  block_sound number c inside sound (names.type t) found h = cc
  block_sound number c inside sound (names.function f) found h = cc
  block_sound number c inside sound (names.program p) found h = cc

  unit_sound : (number : ℕ) (c : Composition) (inside : List ℕ → Option Invoked) → SoundInside c inside → (unit : Option Named) (found : Invoked)
      → unit_invoked units number c inside unit ≡ Some found → IsSoundBody functions c found.body
  unit_sound number c inside sound None found h = cc
  unit_sound number c inside sound (Some unit) found h = block_sound number c inside sound unit.declares found h

  number_sound : (c : Composition) (inside : List ℕ → Option Invoked) → SoundInside c inside → (number : Option ℕ) (found : Invoked)
      → number_invoked units c inside number ≡ Some found → IsSoundBody functions c found.body
  number_sound c inside sound None found h = cc
  number_sound c inside sound (Some number) found h = unit_sound number c inside sound (unit_at units number) found h

  member_or : (b : Bool) (c d : Composition) (e f : Option Invoked) (found : Invoked) → (if b then e else f) ≡ Some found
      → (e ≡ Some found → IsSoundBody functions c found.body) → (f ≡ Some found → IsSoundBody functions d found.body) → IsSoundBody functions (if b then c else d) found.body
  member_or true c d e f found h first other = first h
  member_or false c d e f found h first other = other h

  mutual
    instance_sound : (c : Composition) (found : Invoked) → instance_of units c ≡ Some found → IsSoundBody functions c found.body
    instance_sound unknown found h = cc
    instance_sound (elementary v) found h = cc
    instance_sound (array ranges firsts c) found h = cc
    instance_sound (composed name ms chart) found h =
        number_sound (composed name ms chart) (member_instance units ms) (λ unit other inside k. member_sound ms other inside k) (number_of units name) found h
    instance_sound (standard b) found h = cc

    member_sound : (ms : Members) (name : List ℕ) (found : Invoked) → member_instance units ms name ≡ Some found → IsSoundBody functions (member_selected ms name) found.body
    member_sound none name found h = cc
    member_sound (member other kind c ms) name found h =
        member_or (is_word other name) c (member_selected ms name) (instance_of units c) (member_instance units ms name) found h (instance_sound c found) (member_sound ms name found)

  instances_sound : (c : Composition) → SoundInside c (instances_in units c)
  instances_sound unknown unit name found h = cc
  instances_sound (elementary v) unit name found h = cc
  instances_sound (array ranges firsts c) unit name found h = cc
  instances_sound (composed whole ms chart) unit name found h = member_sound ms name found h
  instances_sound (standard b) unit name found h = cc

pub typing_gives_sound_bodies : TypingGivesSoundBodies
unfolding unit_whole
typing_gives_sound_bodies units unit body =
    body_sound (function_at units) (unit_whole units unit) (knows_names units unit.declares (root_of units unit) (instances_in units (root_of units unit))) (instances_sound units (root_of units unit) unit.declares) body

pub typing_gives_sound_units : TypingGivesSoundUnits
unfolding unit_whole
typing_gives_sound_units units unit number body =
    unit_body_sound (function_at units) (unit_whole units unit) (knows_names units unit.declares (root_of units unit) (instances_in units (root_of units unit))) (instances_sound units (root_of units unit) unit.declares) number body
