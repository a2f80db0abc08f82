-- The code of charts (2.6), part by part.
use Rattle.std.specs.Prelude.{ℕ, pos, List, ◌++◌, length}
use Rattle.std.specs.List.{flat_map}
use Rattle.st_tree.specs.declared.tree.unit.Action.{Action}
use Rattle.st_tree.specs.declared.tree.unit.ChartElement.{ChartElement}
use Rattle.st_tree.specs.declared.tree.unit.Transition.{Transition}
use Rattle.st_types.specs.Names.{actions_in}
use Rattle.st_meaning.specs.Sketched.{transitions_in}
use Rattle.st_meaning.specs.Terms.{Actions, Tests}
use Rattle.st_meaning.specs.Typing.{actions_of, body_of, condition, tests_of}
use Rattle.st_meaning.specs.Wholes.{Whole}
use Rattle.st_code.specs.Code.{Line, at, body_code, branch_code, plain, term_code}
use Rattle.st_code.specs.declared.instr.Instr.TheVariants.{Ask, Cut, Push, SkipUnless, Step}

-- the conditions of the transitions among elements
abbrev pub tests_in : Whole → List ChartElement → Tests
tests_in w elements = tests_of w (flat_map transitions_in elements)

-- what the actions among elements do
abbrev pub acts_in : Whole → List ChartElement → Actions
acts_in w elements = actions_of w (flat_map actions_in elements)

-- the condition of the transition of this number: a step and the condition, where it is asked, else FALSE
abbrev pub test_code : Whole → (unit leaf number : ℕ) → Transition → List Line
test_code w unit leaf number t =
    branch_code (plain (Ask unit leaf number)) (at t.position.line Step ++ term_code w.variables (condition w t.condition)) (plain (Push (pos 0)))

-- an action, where so many are left with it
abbrev pub action_code : Whole → ℕ → Action → List Line
action_code w left a =
    let body = body_code w.variables (body_of w a.statements) in plain (Cut left) ++ (plain (SkipUnless (length body)) ++ body)
