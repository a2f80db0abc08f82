-- The body of a unit by cases: a chart, or else statements (2.5, 2.6).
use Rattle.std.specs.List.{flat_map}
use Rattle.std.specs.Prelude.{◌≡◌, ℕ, false, List, [], ◌∷◌}
use Rattle.st_tree.specs.declared.tree.unit.ChartElement.{ChartElement}
use Rattle.st_types.specs.Names.{Declares, Named, actions_in, chart_in, steps_in}
use Rattle.st_meaning.specs.Sketched.{transitions_in}
use Rattle.st_meaning.specs.Sketches.{Sketch}
use Rattle.st_meaning.specs.Terms.{Actions, Body, Commands, Tests, chart_body, plain_body}
use Rattle.st_meaning.specs.Units.{statements_of, unit_whole}
use Rattle.st_meaning.specs.Wholes.{Whole}
use Rattle.st_compile.specs.Charts.{AreActions, AreTests, IsSketch}
use Rattle.st_compile.specs.Commands.{AreCommands}

-- of a unit that declares this, which has this number
pub data IsBody (w : Whole) (d : Declares) (number : ℕ) : Body → Type 0 where
  statements : {cs : Commands} → chart_in d ≡ [] → AreCommands w false (statements_of d) cs → IsBody w d number (plain_body cs)
  chart : {first : ChartElement} {more : List ChartElement} {sketch : Sketch} {tests : Tests} {actions : Actions}
      → chart_in d ≡ first ∷ more
      → IsSketch w d (flat_map steps_in (first ∷ more)) (flat_map transitions_in (first ∷ more)) (flat_map actions_in (first ∷ more)) sketch
      → AreTests w (flat_map transitions_in (first ∷ more)) tests → AreActions w (flat_map actions_in (first ∷ more)) actions
      → IsBody w d number (chart_body number sketch tests actions)

-- The typing of a unit of a text, which has this number: names stand for what they stand for there.
abbrev pub IsTyping : List Named → ℕ → Named → Body → Type 0
IsTyping units number unit body = IsBody (unit_whole units unit) unit.declares number body
