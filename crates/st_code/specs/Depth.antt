-- How many cells the code of terms and commands puts on the stack at most, beside those that stand there before.
use Rattle.std.specs.Prelude.{ℕ, ◌+◌, max, List, [], ◌∷◌, length, Option, Some, None, if◌then◌else◌}
use Rattle.st_meaning.specs.Terms.{Source, Term, constant, stored, of_step, unary, binary, selection, call, Terms, no_terms, more_terms, how_many, Parts, whole, field_part, element_part, Command, nothing, assign, choice, cases, count_loop, while_loop, repeat_loop, invoke, enter, exit, finish, Moves, no_moves, more_moves, Commands, no_commands, more_commands, Branches, no_branches, more_branches, Cases, no_cases, more_cases, Tests, no_tests, more_tests, Actions, no_actions, more_actions, count_actions, Body, plain_body, chart_body}
use Rattle.st_code.specs.Code.{are_in_order}

-- the arguments, the inputs above them where they aren't the arguments themselves, and the value
abbrev pub call_depth : (arguments : ℕ) → List Source → ℕ
call_depth arguments sources = if are_in_order arguments 0 sources then 1 else (1 + arguments + length sources)

abbrev mutual
  pub term_depth : Term → ℕ
  term_depth (constant v) = 1
  term_depth (stored ps) = max 1 (parts_depth ps)
  term_depth (of_step is_time name) = 1
  term_depth (unary o a) = term_depth a
  term_depth (binary o line a b) = max (term_depth a) (1 + term_depth b)
  term_depth (selection g a b) = max (term_depth g) (max (1 + term_depth a) (2 + term_depth b))
  term_depth (call line unit result ts sources) = max (terms_depth ts) (call_depth (how_many ts) sources)

  -- one after the other
  pub terms_depth : Terms → ℕ
  terms_depth no_terms = 0
  terms_depth (more_terms t ts) = max (term_depth t) (1 + terms_depth ts)

  -- above a distance that may stand there, to which one is added
  pub parts_depth : Parts → ℕ
  parts_depth whole = 0
  parts_depth (field_part name ps) = parts_depth ps
  parts_depth (element_part line ts ps) = max 2 (max (1 + terms_depth ts) (parts_depth ps))

abbrev pub moves_depth : Moves → ℕ
moves_depth no_moves = 0
moves_depth (more_moves ps t more) = max (max (term_depth t) (1 + parts_depth ps)) (moves_depth more)

abbrev mutual
  pub command_depth : Command → ℕ
  command_depth (nothing line) = 0
  command_depth (assign line ps t) = max (term_depth t) (1 + parts_depth ps)
  command_depth (choice line bs others) = max (branches_depth bs) (commands_depth others)
  command_depth (cases line t cs others) = max (term_depth t) (max (cases_depth cs) (commands_depth others))
  command_depth (count_loop line ps a b c cs) = max (term_depth a) (max (1 + term_depth b) (max (2 + term_depth c) (3 + commands_depth cs)))
  command_depth (while_loop line t cs) = max (term_depth t) (commands_depth cs)
  command_depth (repeat_loop line cs t) = max (term_depth t) (commands_depth cs)
  command_depth (invoke line name b inputs outputs) = max (moves_depth inputs) (moves_depth outputs)
  -- what its body needs is counted with the code of that
  command_depth (enter line name unit body inputs outputs) = max (moves_depth inputs) (moves_depth outputs)
  command_depth (exit line) = 0
  command_depth (finish line) = 0

  pub commands_depth : Commands → ℕ
  commands_depth no_commands = 0
  commands_depth (more_commands c cs) = max (command_depth c) (commands_depth cs)

  pub branches_depth : Branches → ℕ
  branches_depth no_branches = 0
  branches_depth (more_branches t cs bs) = max (term_depth t) (max (commands_depth cs) (branches_depth bs))

  -- the selector, whether it has a label, and the two ends of one
  pub cases_depth : Cases → ℕ
  cases_depth no_cases = 0
  cases_depth (more_cases labels cs more) = max 4 (max (commands_depth cs) (cases_depth more))

-- ---- charts

-- each condition stays on the stack
abbrev pub tests_depth : Tests → ℕ
tests_depth no_tests = 0
tests_depth (more_tests line t more) = max (max 1 (term_depth t)) (1 + tests_depth more)

-- how many of the names are variables
abbrev pub count_variables : List (Option (List ℕ)) → ℕ
count_variables [] = 0
count_variables (None ∷ names) = count_variables names
count_variables (Some name ∷ names) = 1 + count_variables names

-- an action runs above a number for each one behind it
abbrev pub actions_depth : Actions → ℕ
actions_depth no_actions = 0
actions_depth (more_actions cs more) = max (count_actions more + commands_depth cs) (actions_depth more)

abbrev pub body_depth : Body → ℕ
body_depth (plain_body cs) = commands_depth cs
body_depth (chart_body unit sketch tests actions) = max (tests_depth tests) (max (count_variables sketch.variables + count_actions actions) (actions_depth actions))
