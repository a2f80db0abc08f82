-- Programs with the type of each literal: what typing makes of a tree, and what meaning and code are about.
use Rattle.std.specs.Prelude.{ℕ, ◌+◌, ℤ, Bool, List}
use Rattle.st_values.specs.declared.elem.Elem.{Elem}
use Rattle.st_values.specs.declared.value.Value.{Value}
use Rattle.st_types.specs.declared.standard.StandardBlock.{StandardBlock}
use Rattle.st_meaning.specs.Sketches.{Sketch}
use Rattle.st_meaning.specs.declared.operation.Binary.{Binary}
use Rattle.st_meaning.specs.declared.operation.Unary.{Unary}

-- where the value of an input is from, in a call of a function
pub data Source : Type 0 where
  -- the written argument of this place, from 0
  written : ℕ → Source
  -- the input is left out, and begins with this
  left_out : Value → Source

mutual
  -- an expression (3.3.1); the number beside an operator is its line
  pub data Term : Type 0 where
    -- a literal, or a named constant
    constant : Value → Term
    -- the value of a place
    stored : Parts → Term
    -- of the step of this name (2.6.2) for how long it has been active, where this is TRUE, else whether it is
    of_step : Bool → List ℕ → Term
    unary : Unary → Term → Term
    binary : Binary → ℕ → Term → Term → Term
    -- SEL: the first of the last two where the one before is FALSE, else the second
    selection : Term → Term → Term → Term
    -- a call of a function of the text (2.5.1): the line of its name, the number of its unit, the type of its result, the arguments
    -- in written order, and for each input, in the order of their declaration, where its value is from
    call : ℕ → ℕ → Elem → Terms → List Source → Term

  pub data Terms : Type 0 where
    no_terms : Terms
    more_terms : Term → Terms → Terms

  -- a place, from the outside in (2.4.1): what each name and each list of subscripts selects, with the line of its `[`
  pub data Parts : Type 0 where
    whole : Parts
    field_part : List ℕ → Parts → Parts
    element_part : ℕ → Terms → Parts → Parts

abbrev pub how_many : Terms → ℕ
how_many no_terms = 0
how_many (more_terms t ts) = 1 + how_many ts

-- values that are stored one after the other, each with its place
pub data Moves : Type 0 where
  no_moves : Moves
  more_moves : Parts → Term → Moves → Moves

-- the least and the greatest number of a label (3.3.2.3)
pub record LabelRange : Type 0 where
  pub least : ℤ
  pub greatest : ℤ

-- the conditions of transitions (2.6.3), in the order of the text, each with the line of its TRANSITION
pub data Tests : Type 0 where
  no_tests : Tests
  more_tests : ℕ → Term → Tests → Tests

abbrev pub count_tests : Tests → ℕ
count_tests no_tests = 0
count_tests (more_tests line t ts) = 1 + count_tests ts

mutual
  -- a statement, and its line (3.3.2)
  pub data Command : Type 0 where
    nothing : ℕ → Command
    assign : ℕ → Parts → Term → Command
    choice : ℕ → Branches → Commands → Command
    cases : ℕ → Term → Cases → Commands → Command
    -- FOR: the variable, its first and its last value, and how far apart two are
    count_loop : ℕ → Parts → Term → Term → Term → Commands → Command
    while_loop : ℕ → Term → Commands → Command
    repeat_loop : ℕ → Commands → Term → Command
    -- an invocation of a standard function block (3.3.2.2): the name of the instance, what its inputs are given, and what its outputs
    -- are assigned to
    invoke : ℕ → List ℕ → StandardBlock → Moves → Moves → Command
    -- an invocation of a function block of the text: the name of the instance, the number of its unit, what the body of that unit is,
    -- what its inputs are given, and what its outputs are assigned to
    enter : ℕ → List ℕ → ℕ → Body → Moves → Moves → Command
    exit : ℕ → Command
    finish : ℕ → Command

  pub data Commands : Type 0 where
    no_commands : Commands
    more_commands : Command → Commands → Commands

  -- of IF and each ELSIF: the condition, and what runs where it is the first that is TRUE
  pub data Branches : Type 0 where
    no_branches : Branches
    more_branches : Term → Commands → Branches → Branches

  -- of CASE: the labels, and what runs where they are the first that the selector's number is among
  pub data Cases : Type 0 where
    no_cases : Cases
    more_cases : List LabelRange → Commands → Cases → Cases

  -- what actions do (2.6.4), in the order of the text
  pub data Actions : Type 0 where
    no_actions : Actions
    more_actions : Commands → Actions → Actions

  -- what a program or a function block does
  pub data Body : Type 0 where
    plain_body : Commands → Body
    -- a chart: the number of the unit that it is of, its steps and transitions, their conditions, and its actions
    chart_body : ℕ → Sketch → Tests → Actions → Body

abbrev pub count_actions : Actions → ℕ
count_actions no_actions = 0
count_actions (more_actions cs more) = 1 + count_actions more
