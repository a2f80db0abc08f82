-- The bounds that the meaning of calls and loops is defined with are never met: more changes nothing.
use Rattle.std.specs.Prelude.{◌≡◌, ℕ, suc, ◌<◌, ℤ, length, IsTrue}
use Rattle.st_values.specs.Values.{in_range}
use Rattle.st_values.specs.declared.elem.Elem.{Elem}
use Rattle.st_values.specs.declared.elem.Elem.TheVariants as elems
use Rattle.st_values.specs.declared.value.Value.{Value}
use Rattle.st_check.specs.Programs.{IsChecked, ProgramView, text_of}
use Rattle.st_types.specs.Compositions.{Composition}
use Rattle.st_types.specs.Names.{units_of}
use Rattle.st_leaves.specs.Paths.{Path}
use Rattle.st_operators.specs.Laws.{IsOf}
use Rattle.st_meaning.specs.Laws.{HasLeaf}
use Rattle.st_meaning.specs.Meaning.{Calls, Values, stored_at, value_of}
use Rattle.st_meaning.specs.Operations.{Answer}
use Rattle.st_meaning.specs.Sound.{AreSoundCalls, AreSoundCommands, AreValuesOf, HasOneLeafEach, IsSoundTerm}
use Rattle.st_meaning.specs.Statements.{Outcome, Setting, alike, commands_meaning, count_turns, repeat_turns, while_turns}
use Rattle.st_meaning.specs.Terms.{Commands, Term}
use Rattle.st_meaning.specs.Units.{calls_in, calls_of}
use Rattle.st_meaning.specs.Wholes.{Functions}

-- A function of a checked program gives the same through any greater number of units.
abbrev pub MoreUnitsChangeNothing : Type 0
MoreUnitsChangeNothing = (program : ProgramView) → IsChecked program → (most number : ℕ) (inputs : Values) (left : ℕ) → length (units_of (text_of program)) < most
    → calls_in (units_of (text_of program)) most number inputs left ≡ calls_of (units_of (text_of program)) number inputs left

-- what sound statements run with
pub record RunsWith (functions : Functions) (calls : Calls) (root : Composition) (setting : Setting) (values : Values) : Type 0 where
  pub sound : AreSoundCalls functions calls
  pub moment : IsTrue (in_range elems.Time setting.now)
  pub one : HasOneLeafEach root
  pub all : AreValuesOf root values

-- what a test of a loop gives, and what the statements in it do
abbrev pub test_of : Calls → Composition → Term → Values → ℕ → Answer Value
test_of calls root t values left = value_of calls root values t left

abbrev pub turn_of : Calls → Composition → Setting → Commands → Values → ℕ → Outcome
turn_of calls root setting cs = commands_meaning calls root setting cs

-- WHILE does the same with any greater number of turns than there are steps left.
abbrev pub MoreWhileTurnsChangeNothing : Type 0
MoreWhileTurnsChangeNothing = (functions : Functions) (calls : Calls) (root : Composition) (setting : Setting) (values : Values) (line : ℕ) (t : Term) (cs : Commands)
    (left most : ℕ) → RunsWith functions calls root setting values → IsSoundTerm functions root t → AreSoundCommands functions root cs → left < most
    → while_turns most line (test_of calls root t) (turn_of calls root setting cs) values left
    ≡ while_turns (suc left) line (test_of calls root t) (turn_of calls root setting cs) values left

-- and REPEAT
abbrev pub MoreRepeatTurnsChangeNothing : Type 0
MoreRepeatTurnsChangeNothing = (functions : Functions) (calls : Calls) (root : Composition) (setting : Setting) (values : Values) (line : ℕ) (t : Term) (cs : Commands)
    (left most : ℕ) → RunsWith functions calls root setting values → IsSoundTerm functions root t → AreSoundCommands functions root cs → left < most
    → repeat_turns most line (test_of calls root t) (turn_of calls root setting cs) values left
    ≡ repeat_turns (suc left) line (test_of calls root t) (turn_of calls root setting cs) values left

-- the counter of FOR as what is stored in its variable, which stands at a path, as a value of the type of the first value
abbrev pub counter_stored : Setting → Composition → Path → Value → Values → ℤ → Values
counter_stored setting root path first values counter = stored_at root setting.forced values path (alike first counter)

-- and FOR, from a first value, to a last one, by a step
abbrev pub MoreCountTurnsChangeNothing : Type 0
MoreCountTurnsChangeNothing = (functions : Functions) (calls : Calls) (root : Composition) (setting : Setting) (values : Values) (line : ℕ) (cs : Commands) (e : Elem)
    (path : Path) (first last step : Value) (left most : ℕ) → RunsWith functions calls root setting values → AreSoundCommands functions root cs
    → HasLeaf root e path → IsOf e first → IsOf e last → left < most
    → count_turns most line (counter_stored setting root path first) last.bits step.bits (turn_of calls root setting cs) first.bits values left
    ≡ count_turns (suc left) line (counter_stored setting root path first) last.bits step.bits (turn_of calls root setting cs) first.bits values left
