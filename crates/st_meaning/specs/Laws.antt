-- What follows of the meaning of programs.
use Rattle.std.specs.Prelude.{◌≡◌, ℕ, suc, ◌≤◌, Bool, true, false, IsTrue, List, ◌∷◌, length, get_or, Some}
use Rattle.st_values.specs.Values.{in_range}
use Rattle.st_values.specs.declared.elem.Elem.{Elem}
use Rattle.st_values.specs.declared.elem.Elem.TheVariants as elems
use Rattle.st_values.specs.declared.value.Value.{Value}
use Rattle.st_tree.specs.declared.tree.statement.Statement.{Statement}
use Rattle.st_tree.specs.declared.tree.unit.Function.{Function}
use Rattle.st_types.specs.Compositions.{Composition, composition_within, members_by}
use Rattle.st_types.specs.Names.{Named, unit_at, variables_of}
use Rattle.st_leaves.specs.Paths.{Path}
use Rattle.st_leaves.specs.Places.{LeadsTo}
use Rattle.st_meaning.specs.Meaning.{Calls, Values, located, no_value, value_of}
use Rattle.st_meaning.specs.Operations.{gives}
use Rattle.st_meaning.specs.Sound.{AreSoundCalls, AreSoundCommands, AreValuesOf, HasOneLeafEach, IsPlaceOf, IsResultOf, IsSoundBody, IsSoundTerm, term_type, type_at}
use Rattle.st_meaning.specs.Statements.{Setting, Outcome, done, exited, returned, faulted, body_meaning, commands_meaning}
use Rattle.st_meaning.specs.Terms.{Body, Commands, Parts, Term}
use Rattle.st_meaning.specs.Typing.{body_in, body_of}
use Rattle.st_meaning.specs.Units.{calls_of, function_at, members_of_function, result_declared, root_of, unit_whole}
use Rattle.st_meaning.specs.Wholes.{Functions}

-- what typing makes of the statements of a unit is sound
abbrev pub TypingGivesSoundBodies : Type 0
TypingGivesSoundBodies = (units : List Named) (unit : Named) (body : List Statement)
    → AreSoundCommands (function_at units) (unit_whole units unit).variables (body_of (unit_whole units unit) body)

-- and so is its body, a chart or statements, whichever number it has
abbrev pub TypingGivesSoundUnits : Type 0
TypingGivesSoundUnits = (units : List Named) (unit : Named) (number : ℕ) (body : List Statement)
    → IsSoundBody (function_at units) (unit_whole units unit).variables (body_in (unit_whole units unit) number body)

-- a leaf of this type stands at the path
pub record HasLeaf (root : Composition) (e : Elem) (path : Path) : Type 0 where
  pub number : ℕ
  pub leads : LeadsTo root path number
  pub type : type_at root number ≡ e

-- where the subscripts of a place are evaluated and lie within their bounds, there is a leaf
abbrev pub PlacesHaveLeaves : Type 0
PlacesHaveLeaves = (functions : Functions) (calls : Calls) (root : Composition) (values : Values) (e : Elem) (ps : Parts) (left : ℕ) (path : Path) (rest : ℕ)
    → IsPlaceOf functions root e ps → located calls root values root ps left ≡ gives path rest → HasLeaf root e path

-- the value of a sound term has the term's type, and no more steps are left
abbrev pub TermsGiveValues : Type 0
TermsGiveValues = (functions : Functions) (calls : Calls) (root : Composition) (values : Values) (t : Term) (left : ℕ) (v : Value) (rest : ℕ) → AreSoundCalls functions calls
    → HasOneLeafEach root → AreValuesOf root values → IsSoundTerm functions root t → value_of calls root values t left ≡ gives v rest
    → IsResultOf (term_type root t) left v rest

-- and where a place is found too
abbrev pub PlacesTakeSteps : Type 0
PlacesTakeSteps = (functions : Functions) (calls : Calls) (root : Composition) (values : Values) (e : Elem) (ps : Parts) (left : ℕ) (path : Path) (rest : ℕ)
    → AreSoundCalls functions calls → HasOneLeafEach root → AreValuesOf root values → IsPlaceOf functions root e ps
    → located calls root values root ps left ≡ gives path rest → rest ≤ left

-- values for all leaves, of which the forced ones stay, and no more steps
pub record KeepsFrame (root : Composition) (forced : List Bool) (values : Values) (left : ℕ) (others : Values) (rest : ℕ) : Type 0 where
  pub all : AreValuesOf root others
  pub kept : (n : ℕ) → get_or forced n false ≡ true → get_or others n no_value ≡ get_or values n no_value
  pub steps : rest ≤ left

abbrev pub StaysInFrame : Composition → List Bool → Values → ℕ → Outcome → Type 0
StaysInFrame root forced values left (done others rest) = KeepsFrame root forced values left others rest
StaysInFrame root forced values left (exited others rest) = KeepsFrame root forced values left others rest
StaysInFrame root forced values left (returned others rest) = KeepsFrame root forced values left others rest
StaysInFrame root forced values left (faulted f) = Unit {0}

-- whatever sound commands leave lies in the frame
abbrev pub CommandsKeepTheFrame : Type 0
CommandsKeepTheFrame = (functions : Functions) (calls : Calls) (root : Composition) (setting : Setting) (cs : Commands) (values : Values) (left : ℕ)
    → AreSoundCalls functions calls → IsTrue (in_range elems.Time setting.now) → HasOneLeafEach root → AreValuesOf root values → AreSoundCommands functions root cs
    → StaysInFrame root setting.forced values left (commands_meaning calls root setting cs values left)

-- and so does a sound body
abbrev pub BodiesKeepTheFrame : Type 0
BodiesKeepTheFrame = (functions : Functions) (calls : Calls) (root : Composition) (setting : Setting) (body : Body) (values : Values) (left : ℕ)
    → AreSoundCalls functions calls → IsTrue (in_range elems.Time setting.now) → HasOneLeafEach root → AreValuesOf root values → IsSoundBody functions root body
    → StaysInFrame root setting.forced values left (body_meaning calls root setting body values left)

-- The functions of a text are sound, where each place in the variables of one is that of one leaf.
abbrev pub CallsAreSound : Type 0
CallsAreSound = (units : List Named) → ((number : ℕ) (unit : Named) → unit_at units number ≡ Some unit → HasOneLeafEach (root_of units unit))
    → AreSoundCalls (function_at units) (calls_of units)

-- What the variables of a function consist of is that of its result and of what is declared, as of one list.
abbrev pub FunctionsDeclareTheirResults : Type 0
FunctionsDeclareTheirResults = (units : List Named) (f : Function)
    → members_of_function units f ≡ members_by units (composition_within units (suc (length units))) (result_declared f ∷ variables_of f.variables)
