-- What statements do (3.3.2): from the values of variables, the forced leaves and the steps left, to new values and the steps that
-- are left then, or to what stops the run.
use Rattle.std.specs.Prelude.{ℕ, zero, suc, ◌+◌, Bool, true, false, ◌&&◌, ◌||◌, if◌then◌else◌, ℤ, pos, negsuc, ◌+ℤ◌, int_le, List, [], ◌∷◌, ◌++◌, drop, get_or, length, take}
use Rattle.st_values.specs.declared.value.Value.{Value}
use Rattle.st_types.specs.Compositions.{Composition, standard}
use Rattle.st_types.specs.declared.standard.StandardBlock.{StandardBlock}
use Rattle.st_leaves.specs.Places.{count}
use Rattle.st_leaves.specs.Selected.{selected_by}
use Rattle.st_blocks.specs.Steps.{stepped}
use Rattle.st_meaning.specs.Charts.{actions_on, is_asked, moved_on, names_on, names_stored, times_set}
use Rattle.st_meaning.specs.Meaning.{Calls, Values, located, stored_at, value_of}
use Rattle.st_meaning.specs.Offsets.{chart_offset, offset_of}
use Rattle.st_meaning.specs.Operations.{Answer, gives, stops, Stop, stop, in_unit, then_with, with_step}
use Rattle.st_meaning.specs.Sketches.{Sketch, chart_size}
use Rattle.st_meaning.specs.Terms.{Term, LabelRange, Tests, no_tests, more_tests, Actions, no_actions, more_actions, Body, plain_body, chart_body, Command, nothing, assign, choice, cases, count_loop, while_loop, repeat_loop, invoke, enter, exit, finish, Moves, no_moves, more_moves, Commands, no_commands, more_commands, Branches, no_branches, more_branches, Cases, no_cases, more_cases}
use Rattle.st_meaning.specs.declared.fault.RunFaultKind.TheVariants as faults

-- what a run is given beside the values: the moment, in milliseconds, and which leaves are forced
pub record Setting : Type 0 where
  pub now : ℤ
  pub forced : List Bool

-- how statements end: they are done, EXIT leaves the loop around them, RETURN the body, or the run stops
pub data Outcome : Type 0 where
  done : Values → ℕ → Outcome
  exited : Values → ℕ → Outcome
  returned : Values → ℕ → Outcome
  faulted : Stop → Outcome

-- one after the other
abbrev pub then_do : Outcome → (Values → ℕ → Outcome) → Outcome
then_do (done values left) go = go values left
then_do (exited values left) go = exited values left
then_do (returned values left) go = returned values left
then_do (faulted f) go = faulted f

-- what follows a turn of a loop, which EXIT ends
abbrev pub after_turn : Outcome → (Values → ℕ → Outcome) → Outcome
after_turn (done values left) go = go values left
after_turn (exited values left) go = done values left
after_turn (returned values left) go = returned values left
after_turn (faulted f) go = faulted f

-- counts a step: one for each statement that begins, and one for each test of a loop
abbrev pub after_step : ℕ → ℕ → (ℕ → Outcome) → Outcome
after_step line zero go = faulted (stop faults.StepLimit line)
after_step line (suc n) go = go n

abbrev pub given : {A : Type 0} → Answer A → (A → ℕ → Outcome) → Outcome
given (gives x left) go = go x left
given (stops f) go = faulted f

-- FALSE is 0
abbrev pub is_nonzero : ℤ → Bool
is_nonzero (pos zero) = false
is_nonzero _ = true

abbrev pub is_true : Value → Bool
is_true v = is_nonzero v.bits

-- ---- loops: at most so many turns. Each takes a step, so that one more than there are steps is enough.

abbrev pub while_turns : ℕ → ℕ → (Values → ℕ → Answer Value) → (Values → ℕ → Outcome) → Values → ℕ → Outcome
while_turns zero line test body values left = faulted (stop faults.StepLimit line)
while_turns (suc k) line test body values left =
    after_step line left (λ n. given (test values n) (λ v m. if is_true v then after_turn (body values m) (while_turns k line test body) else done values m))

abbrev pub repeat_turns : ℕ → ℕ → (Values → ℕ → Answer Value) → (Values → ℕ → Outcome) → Values → ℕ → Outcome
repeat_turns zero line test body values left = faulted (stop faults.StepLimit line)
repeat_turns (suc k) line test body values left =
    after_turn (body values left) (λ others m. after_step line m (λ n.
    given (test others n) (λ v i. if is_true v then done others i else repeat_turns k line test body others i)))

-- whether the counter hasn't passed the last value
abbrev pub goes_on : ℤ → ℤ → ℤ → Bool
goes_on counter last (pos n) = int_le counter last
goes_on counter last (negsuc n) = int_le last counter

-- FOR has a counter of its own, which grows without wrapping, and is stored where the test holds.
abbrev pub count_turns : ℕ → ℕ → (Values → ℤ → Values) → ℤ → ℤ → (Values → ℕ → Outcome) → ℤ → Values → ℕ → Outcome
count_turns zero line store last step body counter values left = faulted (stop faults.StepLimit line)
count_turns (suc k) line store last step body counter values left =
    after_step line left (λ n.
    if goes_on counter last step then after_turn (body (store values counter) n) (count_turns k line store last step body (counter +ℤ step)) else done values n)

-- ---- CASE

abbrev pub is_labelled : LabelRange → ℤ → Bool
is_labelled r i = int_le r.least i && int_le i r.greatest

abbrev pub has_label : List LabelRange → ℤ → Bool
has_label [] i = false
has_label (r ∷ rs) i = is_labelled r i || has_label rs i

-- ---- invocations of standard function blocks

-- the values of leaves that stand together: so many from one of them on
abbrev pub stretch : Values → (offset size : ℕ) → Values
stretch values offset size = take size (drop offset values)

-- others in their place
abbrev pub with_stretch : Values → ℕ → Values → Values
with_stretch values offset part = take offset values ++ (part ++ drop (offset + length part) values)

-- of each two values the new one, unless the leaf is forced
abbrev pub unless_forced : List Bool → (old new : Values) → Values
unless_forced forced [] new = []
unless_forced forced old [] = []
unless_forced [] (v ∷ old) (w ∷ new) = w ∷ unless_forced [] old new
unless_forced (f ∷ forced) (v ∷ old) (w ∷ new) = (if f then v else w) ∷ unless_forced forced old new

-- one invocation of a standard block, whose first leaf has this number: all new values follow from the old ones and the moment
abbrev pub block_done : Setting → StandardBlock → ℕ → Values → Values
block_done setting b offset values =
    let old = stretch values offset (count (standard b)) in
    with_stretch values offset (unless_forced (drop offset setting.forced) old (stepped b old setting.now))

-- ---- invocations of function blocks of the text: the body runs on the values of the instance

-- the same moment, and which of the leaves from this one on are forced
abbrev pub setting_from : ℕ → Setting → Setting
setting_from offset setting = record { now = setting.now; forced = drop offset setting.forced }

-- RETURN ends the body, and so would an EXIT that stands in no loop, which no program that keeps the rules has.
abbrev pub ended : Outcome → Outcome
ended (done values left) = done values left
ended (exited values left) = done values left
ended (returned values left) = done values left
ended (faulted f) = faulted f

-- what the body of this unit leaves of an instance stands among the values from its first leaf on
abbrev pub left_by : ℕ → ℕ → Values → Outcome → Outcome
left_by unit offset values (done part left) = done (with_stretch values offset part) left
left_by unit offset values (exited part left) = exited (with_stretch values offset part) left
left_by unit offset values (returned part left) = returned (with_stretch values offset part) left
left_by unit offset values (faulted f) = faulted (in_unit unit f)

-- what the body of a unit, which does this, does to an instance of it
abbrev pub instance_meaning : Composition → Setting → List ℕ → ℕ → (Setting → Values → ℕ → Outcome) → Values → ℕ → Outcome
instance_meaning root setting name unit body values left =
    let offset = offset_of root name in
    left_by unit offset values (body (setting_from offset setting) (stretch values offset (count (selected_by root name))) left)

-- ---- charts (2.6)

-- the values of the leaves of a chart
abbrev pub chart_part : Composition → Sketch → Values → Values
chart_part root sketch values = stretch values (chart_offset root) (chart_size sketch)

-- what is made of values that stand together takes their place, unless a leaf is forced
abbrev pub part_made : List Bool → (offset size : ℕ) → (Values → Values) → Values → Values
part_made forced offset size make values =
    let old = stretch values offset size in with_stretch values offset (unless_forced (drop offset forced) old (make old))

-- the times of the active steps
abbrev pub times_done : Setting → Sketch → ℕ → Values → Values
times_done setting sketch offset values = part_made setting.forced offset (chart_size sketch) (times_set sketch setting.now) values

-- what follows of the conditions
abbrev pub chart_done : Setting → Sketch → ℕ → List Bool → Values → Values
chart_done setting sketch offset conditions values = part_made setting.forced offset (chart_size sketch) (moved_on sketch conditions setting.now) values

-- A condition that is asked takes a step, and one that isn't counts as FALSE.
abbrev pub condition_value : Calls → Composition → Values → Bool → ℕ → Term → ℕ → Answer Bool
condition_value calls root values asked line t left =
    if asked then with_step line left (λ n. then_with (value_of calls root values t n) (λ v m. gives (is_true v) m)) else gives false left

-- of the transitions from this number on
abbrev pub conditions_meaning : Calls → Composition → Values → (ℕ → Bool) → ℕ → Tests → ℕ → Answer (List Bool)
conditions_meaning calls root values asked number no_tests left = gives [] left
conditions_meaning calls root values asked number (more_tests line t more) left =
    then_with (condition_value calls root values (asked number) line t left) (λ b n.
    then_with (conditions_meaning calls root values asked (suc number) more n) (λ bs m. gives (b ∷ bs) m))

-- The times are set, the conditions are asked, the transitions are cleared, and the variables are stored that the steps are
-- associated with; then the actions run, of which it is known which are on.
abbrev pub chart_meaning : Calls → Composition → Setting → Sketch → Tests → (List Bool → Values → ℕ → Outcome) → Values → ℕ → Outcome
chart_meaning calls root setting sketch tests run values left =
    let timed = times_done setting sketch (chart_offset root) values in
    given (conditions_meaning calls root timed (is_asked sketch (chart_part root sketch timed)) 0 tests left) (λ conditions n.
    let on = names_on sketch conditions setting.now (chart_part root sketch timed) in
    run (actions_on sketch on) (names_stored root setting.forced sketch.variables on (chart_done setting sketch (chart_offset root) conditions timed)) n)

-- ---- statements

-- this number as a value of the type that the other one has
abbrev pub alike : Value → ℤ → Value
alike v i = record { elem = v.elem; bits = i }

-- one value after the other, each stored before the next is evaluated
abbrev pub moves_meaning : Calls → Composition → Setting → Moves → Values → ℕ → Outcome
moves_meaning calls root setting no_moves values left = done values left
moves_meaning calls root setting (more_moves ps t more) values left =
    given (value_of calls root values t left) (λ v n.
    given (located calls root values root ps n) (λ path m. moves_meaning calls root setting more (stored_at root setting.forced values path v) m))

abbrev mutual
  pub command_meaning : Calls → Composition → Setting → Command → Values → ℕ → Outcome
  command_meaning calls root setting (nothing line) values left = after_step line left (λ n. done values n)
  command_meaning calls root setting (assign line ps t) values left =
      after_step line left (λ n. given (value_of calls root values t n) (λ v m.
      given (located calls root values root ps m) (λ path k. done (stored_at root setting.forced values path v) k)))
  command_meaning calls root setting (choice line bs others) values left =
      after_step line left (branches_meaning calls root setting bs (commands_meaning calls root setting others) values)
  command_meaning calls root setting (cases line t cs others) values left =
      after_step line left (λ n. given (value_of calls root values t n) (λ v m.
      cases_meaning calls root setting cs (commands_meaning calls root setting others) v.bits values m))
  -- the first value, the last one and the step are evaluated in this order, and the first is stored before the first test
  command_meaning calls root setting (count_loop line ps first last step cs) values left =
      after_step line left (λ n. given (value_of calls root values first n) (λ a m. given (value_of calls root values last m) (λ b k.
      given (value_of calls root values step k) (λ c j. given (located calls root values root ps j) (λ path i.
      count_turns (suc i) line (λ others counter. stored_at root setting.forced others path (alike a counter)) b.bits c.bits (commands_meaning calls root setting cs) a.bits
      (stored_at root setting.forced values path a) i)))))
  command_meaning calls root setting (while_loop line t cs) values left =
      after_step line left (λ n. while_turns (suc n) line (λ others m. value_of calls root others t m) (commands_meaning calls root setting cs) values n)
  command_meaning calls root setting (repeat_loop line cs t) values left =
      after_step line left (λ n. repeat_turns (suc n) line (λ others m. value_of calls root others t m) (commands_meaning calls root setting cs) values n)
  -- Its inputs are stored one after the other, the block does what it does, and its outputs are assigned. The invocation takes a step
  -- beside its statement.
  command_meaning calls root setting (invoke line name b inputs outputs) values left =
      after_step line left (λ m. after_step line m (λ n.
      then_do (moves_meaning calls root setting inputs values n) (λ others k. moves_meaning calls root setting outputs (block_done setting b (offset_of root name) others) k)))
  -- Its inputs are stored one after the other, its body runs, and its outputs are assigned. It takes the same steps.
  command_meaning calls root setting (enter line name unit body inputs outputs) values left =
      after_step line left (λ m. after_step line m (λ n.
      then_do (moves_meaning calls root setting inputs values n) (λ others k.
      then_do (instance_meaning root setting name unit (λ within part i. body_meaning calls (selected_by root name) within body part i) others k)
      (λ them j. moves_meaning calls root setting outputs them j))))
  command_meaning calls root setting (exit line) values left = after_step line left (λ n. exited values n)
  command_meaning calls root setting (finish line) values left = after_step line left (λ n. returned values n)

  pub commands_meaning : Calls → Composition → Setting → Commands → Values → ℕ → Outcome
  commands_meaning calls root setting no_commands values left = done values left
  commands_meaning calls root setting (more_commands c cs) values left =
      then_do (command_meaning calls root setting c values left) (commands_meaning calls root setting cs)

  -- the first branch whose condition is TRUE
  pub branches_meaning : Calls → Composition → Setting → Branches → (Values → ℕ → Outcome) → Values → ℕ → Outcome
  branches_meaning calls root setting no_branches others values left = others values left
  branches_meaning calls root setting (more_branches t cs bs) others values left =
      given (value_of calls root values t left) (λ v n.
      if is_true v then commands_meaning calls root setting cs values n else branches_meaning calls root setting bs others values n)

  -- the first case with a label that the number is among
  pub cases_meaning : Calls → Composition → Setting → Cases → (Values → ℕ → Outcome) → ℤ → Values → ℕ → Outcome
  cases_meaning calls root setting no_cases others i values left = others values left
  cases_meaning calls root setting (more_cases labels cs more) others i values left =
      if has_label labels i then commands_meaning calls root setting cs values left else cases_meaning calls root setting more others i values left

  -- those actions that are on, one after the other. RETURN ends the action that it stands in.
  pub actions_meaning : Calls → Composition → Setting → Actions → List Bool → Values → ℕ → Outcome
  actions_meaning calls root setting no_actions on values left = done values left
  actions_meaning calls root setting (more_actions cs more) on values left =
      then_do (if get_or on 0 false then ended (commands_meaning calls root setting cs values left) else done values left)
      (actions_meaning calls root setting more (drop 1 on))

  -- a body
  pub body_meaning : Calls → Composition → Setting → Body → Values → ℕ → Outcome
  body_meaning calls root setting (plain_body cs) values left = ended (commands_meaning calls root setting cs values left)
  body_meaning calls root setting (chart_body unit sketch tests actions) values left =
      chart_meaning calls root setting sketch tests (λ on others n. actions_meaning calls root setting actions on others n) values left
