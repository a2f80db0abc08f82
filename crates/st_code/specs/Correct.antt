-- Code does as commands mean.
use Rattle.std.specs.Prelude.{◌≡◌, ℕ, ◌≤◌, IsTrue, List, [], length, map, Some}
use Rattle.st_values.specs.Values.{in_range}
use Rattle.st_values.specs.declared.elem.Elem.TheVariants as elems
use Rattle.st_types.specs.Compositions.{Composition}
use Rattle.st_meaning.specs.Meaning.{Values}
use Rattle.st_meaning.specs.Offsets.{IsSmall}
use Rattle.st_meaning.specs.Sound.{AreSoundCalls, AreValuesOf, HasOneLeafEach, IsSoundBody}
use Rattle.st_meaning.specs.Sketches.{Sketch}
use Rattle.st_meaning.specs.Statements.{body_meaning}
use Rattle.st_meaning.specs.Terms.{Body, plain_body, chart_body}
use Rattle.st_meaning.specs.Wholes.{Called, Functions}
use Rattle.st_code.specs.Code.{Line, code_of}
use Rattle.st_code.specs.Depth.{body_depth}
use Rattle.st_code.specs.Invocations.{InvokesAs}
use Rattle.st_code.specs.Machine.{Environment, FunctionBody, Reaches, calls_by, state}

-- each function takes inputs of the types that are known of it
abbrev pub HaveTypes : Functions → (ℕ → FunctionBody) → Type 0
HaveTypes functions bodies = (unit : ℕ) (function : Called) → functions unit ≡ Some function → (bodies unit).inputs ≡ map (λ i. i.initial.elem) function.inputs

-- if the body is a chart, it is the one that is known of its unit
abbrev pub HasItsChart : (ℕ → Sketch) → Body → Type 0
HasItsChart charts (plain_body cs) = Unit {0}
HasItsChart charts (chart_body unit sketch _ _) = charts unit ≡ sketch

-- At any moment that a TIME can hold, from any values, any forces and any steps left, on a stack with so much room, the code ends as
-- the body does: with the same values and steps left, or at the same fault. It is never stuck. What the bodies of units do that it
-- invokes is what these mean, and the functions that it calls give values of their types.
pub record DoesAs (functions : Functions) (root : Composition) (body : Body) (room : ℕ) (code : List Line) : Type 0 where
  pub same : (env : Environment) (values : Values) (left : ℕ) → IsTrue (in_range elems.Time env.setting.now) → AreSoundCalls functions (calls_by env.functions)
      → HaveTypes functions env.functions → HasItsChart env.charts body → InvokesAs (calls_by env.functions) root env.bodies body → AreValuesOf root values
      → Reaches env room code (body_meaning (calls_by env.functions) root env.setting body values left) (state 0 [] values left)

abbrev pub CodeDoesAsCommandsMean : Type 0
CodeDoesAsCommandsMean = (functions : Functions) (root : Composition) (body : Body) (room : ℕ) → IsSmall root → HasOneLeafEach root
    → IsSoundBody functions root body → body_depth body ≤ room → DoesAs functions root body room (code_of root body)

abbrev pub DepthIsAtMostTheLength : Type 0
DepthIsAtMostTheLength = (root : Composition) (body : Body) → body_depth body ≤ length (code_of root body)
