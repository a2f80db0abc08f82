-- What stays below the bounds of code.
use Rattle.std.specs.Prelude.{◌≡◌, ℕ, ◌≤◌, ◌^◌, true, List, length}
use Rattle.std.specs.List.{All, flat_map}
use Rattle.st_tree.specs.declared.tree.expression.Call.{Call}
use Rattle.st_tree.specs.declared.tree.unit.Unit.{Unit as Section}
use Rattle.st_syntax.specs.Lengths.{IsShort, call_length}
use Rattle.st_types.specs.Names.{Named, chart_in, steps_of, units_of, variables_in}
use Rattle.st_meaning.specs.Sketched.{transitions_in}
use Rattle.st_check.specs.Programs.{IsChecked, ProgramView, text_of}
use Rattle.st_meaning.specs.Views.{names_of}
use Rattle.st_compile.specs.Small.{functions_are_small}

-- a unit with so few parts that their numbers fit into code
pub record FitsCode (unit : Named) : Type 0 where
  pub variables : length (variables_in unit.declares) ≤ 2 ^ 19
  pub steps : length (steps_of unit.declares) ≤ 2 ^ 20
  pub transitions : length (flat_map transitions_in (chart_in unit.declares)) ≤ 2 ^ 20
  pub names : length (names_of (chart_in unit.declares)) ≤ 2 ^ 20

-- so few units, and each of them fits
pub record AllFitCode (units : List Named) : Type 0 where
  pub few : length units ≤ 2 ^ 20
  pub each : All FitsCode units

abbrev pub ShortTextsFitCode : Type 0
ShortTextsFitCode = (text : List Section) → IsShort text → AllFitCode (units_of text)

abbrev pub ShortProgramsHaveSmallFunctions : Type 0
ShortProgramsHaveSmallFunctions = (program : ProgramView) → IsChecked program → IsShort (text_of program)
    → functions_are_small program ≡ true

abbrev pub ArgumentsTakeTokens : Type 0
ArgumentsTakeTokens = (call : Call) → length call.arguments ≤ call_length call
