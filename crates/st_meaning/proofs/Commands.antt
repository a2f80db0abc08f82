-- Statements keep the frame (3.3.2).
use Rattle.std.proofs.Common.{◌≡◌, ℕ, suc, ◌≤◌, ℤ, Bool, true, false, List, drop, get_or, IsTrue, sym, ◌∙◌, subst, if◌then◌else◌}
use Rattle.st_values.specs.Values.{in_range}
use Rattle.st_values.specs.declared.elem.Elem.{Elem}
use Rattle.st_values.specs.declared.elem.Elem.TheVariants as elems
use Rattle.st_values.specs.declared.value.Value.{Value}
use Rattle.st_types.specs.Compositions.{Composition}
use Rattle.st_leaves.specs.Paths.{Path}
use Rattle.st_leaves.specs.Selected.{selected_by}
use Rattle.st_operators.specs.Laws.{IsOf}
use Rattle.st_meaning.specs.Laws.{BodiesKeepTheFrame, CommandsKeepTheFrame, HasLeaf, StaysInFrame}
use Rattle.st_meaning.specs.Meaning.{Calls, Values, located, stored_at, value_of}
use Rattle.st_meaning.specs.Offsets.{offset_of}
use Rattle.st_meaning.specs.Operations.{Answer, gives}
use Rattle.st_meaning.specs.Sound.{AreSoundActions, AreSoundCalls, AreSoundBranches, AreSoundCases, AreSoundCommands, AreValuesOf, HasOneLeafEach, IsCount, IsSoundBody, IsSoundCommand, IsSoundTerm, term_type}
use Rattle.st_meaning.specs.Statements.{Outcome, Setting, done, exited, returned, faulted, actions_meaning, alike, body_meaning, branches_meaning, cases_meaning, command_meaning, commands_meaning, count_turns, ended, given, goes_on, has_label, is_true, repeat_turns, setting_from, while_turns}
use Rattle.st_meaning.specs.Terms.{Term, Parts, Command, nothing, assign, choice, cases, count_loop, while_loop, repeat_loop, invoke, enter, exit, finish, Commands, no_commands, more_commands, Branches, no_branches, more_branches, Cases, no_cases, more_cases, Actions, no_actions, more_actions, count_actions, Body, plain_body, chart_body}
use Rattle.st_meaning.specs.Wholes.{Functions}
use Rattle.st_meaning.proofs.ChartFrames.{chart_stays}
use Rattle.st_meaning.proofs.Frames.{AlwaysStays, either_stays, given_stays, nothing_done, stays_after, step_stays, store_keeps, then_stays}
use Rattle.st_meaning.proofs.Instances.{part_has_one}
use Rattle.st_meaning.proofs.Invocations.{enter_stays, invoke_stays}
use Rattle.st_meaning.proofs.Places.{places_have_leaves}
use Rattle.st_meaning.proofs.Ranges.{IsBehind, begins_behind, counter_in_range}
use Rattle.st_meaning.proofs.TermValues.{places_take_steps, term_value}
use Rattle.st_meaning.proofs.Turns.{count_stays, repeat_stays, while_stays}

-- the counter is stored as a value of the type of the first value
counter_is : (e : Elem) (a b : Value) (counter step : ℤ) → IsOf e a → IsOf e b → IsBehind a.bits counter step → goes_on counter b.bits step ≡ true → IsOf e (alike a counter)
counter_is e a b counter step is is' behind on =
    let last : IsTrue (in_range a.elem b.bits) = subst (λ t. IsTrue (in_range t b.bits)) (is'.of_type ∙ sym is.of_type) is'.in_range in
    record { in_range = counter_in_range a.elem a.bits b.bits counter step is.in_range last behind on; of_type = is.of_type }

module _ (functions : Functions) (calls : Calls) (known : AreSoundCalls functions calls) (root : Composition) (setting : Setting)
    (now : IsTrue (in_range elems.Time setting.now)) (one : HasOneLeafEach root) where
  abbrev forced : List Bool
  forced = setting.forced

  term_takes : (values : Values) → AreValuesOf root values → (t : Term) (left : ℕ) → IsSoundTerm functions root t → (v : Value) (n : ℕ)
      → value_of calls root values t left ≡ gives v n → n ≤ left
  term_takes values all t left sound v n h = (term_value functions calls known root values one all t left v n sound h).steps

  -- ---- assignments

  assign_stays : (line : ℕ) (ps : Parts) (t : Term) → IsSoundCommand functions root (assign line ps t)
      → AlwaysStays root forced (command_meaning calls root setting (assign line ps t))
  assign_stays line ps t sound values left all =
      let e = term_type root t in
      let found : Value → Path → ℕ → Outcome = (λ v path k. done (stored_at root forced values path v) k) in
      let valued : Value → ℕ → Outcome = (λ v m. given (located calls root values root ps m) (found v)) in
      step_stays root forced values line left (λ n. given (value_of calls root values t n) valued) all
      (λ n. given_stays root forced values n (value_of calls root values t n) valued all (term_takes values all t n sound.1)
      (λ v m h. given_stays root forced values m (located calls root values root ps m) (found v) all
      (λ path k g. places_take_steps functions calls root values e ps m path k known one all sound.0 g)
      (λ path k g. store_keeps root forced values e path v k one all (places_have_leaves functions calls root values e ps m path k sound.0 g)
      (term_value functions calls known root values one all t n v m sound.1 h).value)))

  -- ---- FOR

  -- the turns, from three values of one type
  turns_stay : (line : ℕ) (body : Values → ℕ → Outcome) → AlwaysStays root forced body → (e : Elem) (path : Path) → HasLeaf root e path → (a b c : Value) → IsOf e a → IsOf e b
      → (values : Values) (n : ℕ) → AreValuesOf root values
      → StaysInFrame root forced values n (count_turns (suc n) line (λ others i. stored_at root forced others path (alike a i)) b.bits c.bits body a.bits (stored_at root forced values path a) n)
  turns_stay line body stays e path leaf a b c is is' values n all =
      let store : Values → ℤ → Values = (λ others i. stored_at root forced others path (alike a i)) in
      let start = store_keeps root forced values e path a n one all leaf is in
      stays_after root forced values (stored_at root forced values path a) n n (count_turns (suc n) line store b.bits c.bits body a.bits (stored_at root forced values path a) n) start
      (count_stays root forced line body stays (suc n) store a.bits b.bits c.bits
      (λ counter behind on others left whole. store_keeps root forced others e path (alike a counter) left one whole leaf (counter_is e a b counter c.bits is is' behind on))
      a.bits (begins_behind a.bits c.bits) (stored_at root forced values path a) n start.all)

  count_loop_stays : (line : ℕ) (ps : Parts) (first last step : Term) (cs : Commands) → IsCount functions root ps first last step
      → AlwaysStays root forced (commands_meaning calls root setting cs)
      → AlwaysStays root forced (command_meaning calls root setting (count_loop line ps first last step cs))
  count_loop_stays line ps first last step cs sound stays values left all =
      let body = commands_meaning calls root setting cs in
      let e = term_type root first in
      let turns : Value → Value → Value → Path → ℕ → Outcome = (λ a b c path i.
      count_turns (suc i) line (λ others counter. stored_at root forced others path (alike a counter)) b.bits c.bits body a.bits (stored_at root forced values path a) i) in
      let from_step : Value → Value → Value → ℕ → Outcome = (λ a b c j. given (located calls root values root ps j) (turns a b c)) in
      let from_last : Value → Value → ℕ → Outcome = (λ a b k. given (value_of calls root values step k) (from_step a b)) in
      let from_first : Value → ℕ → Outcome = (λ a m. given (value_of calls root values last m) (from_last a)) in
      step_stays root forced values line left (λ n. given (value_of calls root values first n) from_first) all
      (λ n. given_stays root forced values n (value_of calls root values first n) from_first all (term_takes values all first n sound.first)
      (λ a m h. given_stays root forced values m (value_of calls root values last m) (from_last a) all (term_takes values all last m sound.last.sound)
      (λ b k g. given_stays root forced values k (value_of calls root values step k) (from_step a b) all (term_takes values all step k sound.step.sound)
      (λ c j l. given_stays root forced values j (located calls root values root ps j) (turns a b c) all
      (λ path i q. places_take_steps functions calls root values e ps j path i known one all sound.variable q)
      (λ path i q. turns_stay line body stays e path (places_have_leaves functions calls root values e ps j path i sound.variable q) a b c
      (term_value functions calls known root values one all first n a m sound.first h).value
      (subst (λ t. IsOf t b) sound.last.type (term_value functions calls known root values one all last m b k sound.last.sound g).value)
      values i all)))))

-- ---- all statements

ended_stays : (root : Composition) (marks : List Bool) (values : Values) (left : ℕ) (o : Outcome) → StaysInFrame root marks values left o → StaysInFrame root marks values left (ended o)
ended_stays root marks values left (done others n) h = h
ended_stays root marks values left (exited others n) h = h
ended_stays root marks values left (returned others n) h = h
ended_stays root marks values left (faulted f) h = tt

abbrev InTime : Setting → Type 0
InTime setting = IsTrue (in_range elems.Time setting.now)

module _ (functions : Functions) (calls : Calls) (known : AreSoundCalls functions calls) where
  -- the test of a loop
  test_takes : (root : Composition) → HasOneLeafEach root → (t : Term) → IsSoundTerm functions root t → (values : Values) (left : ℕ) → AreValuesOf root values
      → (v : Value) (n : ℕ) → value_of calls root values t left ≡ gives v n → n ≤ left
  test_takes root one t sound values left all v n h = (term_value functions calls known root values one all t left v n sound h).steps

  mutual
    command_stays : (root : Composition) (setting : Setting) → InTime setting → HasOneLeafEach root → (c : Command) → IsSoundCommand functions root c
        → AlwaysStays root setting.forced (command_meaning calls root setting c)
    command_stays root setting now one (nothing line) sound values left all =
        step_stays root setting.forced values line left (λ n. done values n) all (λ n. nothing_done root setting.forced values n all)
    command_stays root setting now one (assign line ps t) sound values left all = assign_stays functions calls known root setting now one line ps t sound values left all
    command_stays root setting now one (choice line bs others) sound values left all =
        step_stays root setting.forced values line left (branches_meaning calls root setting bs (commands_meaning calls root setting others) values) all
        (λ n. branches_stay root setting now one bs sound.0 (commands_meaning calls root setting others) (commands_stay root setting now one others sound.1) values n all)
    command_stays root setting now one (cases line t cs others) sound values left all =
        let to : ℤ → Values → ℕ → Outcome = cases_meaning calls root setting cs (commands_meaning calls root setting others) in
        step_stays root setting.forced values line left (λ n. given (value_of calls root values t n) (λ v m. to v.bits values m)) all
        (λ n. given_stays root setting.forced values n (value_of calls root values t n) (λ v m. to v.bits values m) all (test_takes root one t sound.0 values n all)
        (λ v m h. cases_stay root setting now one cs (term_type root t) sound.1 (commands_meaning calls root setting others) (commands_stay root setting now one others sound.2) v.bits values m all))
    command_stays root setting now one (count_loop line ps first last step cs) sound values left all =
        count_loop_stays functions calls known root setting now one line ps first last step cs sound.0 (commands_stay root setting now one cs sound.1) values left all
    command_stays root setting now one (while_loop line t cs) sound values left all =
        let body = commands_meaning calls root setting cs in
        let test : Values → ℕ → Answer Value = (λ others m. value_of calls root others t m) in
        step_stays root setting.forced values line left (λ n. while_turns (suc n) line test body values n) all
        (λ n. while_stays root setting.forced line body (commands_stay root setting now one cs sound.1) (suc n) test (test_takes root one t sound.0) values n all)
    command_stays root setting now one (repeat_loop line cs t) sound values left all =
        let body = commands_meaning calls root setting cs in
        let test : Values → ℕ → Answer Value = (λ others m. value_of calls root others t m) in
        step_stays root setting.forced values line left (λ n. repeat_turns (suc n) line test body values n) all
        (λ n. repeat_stays root setting.forced line body (commands_stay root setting now one cs sound.0) (suc n) test (test_takes root one t sound.1) values n all)
    command_stays root setting now one (invoke line name b inputs outputs) sound values left all =
        invoke_stays functions calls known root setting one now line name b inputs outputs sound values left all
    command_stays root setting now one (enter line name unit body inputs outputs) sound values left all =
        enter_stays functions calls known root setting one line name unit body inputs outputs sound.0 sound.2
        (body_stays (selected_by root name) (setting_from (offset_of root name) setting) now (part_has_one root name one) body sound.1) values left all
    command_stays root setting now one (exit line) sound values left all =
        step_stays root setting.forced values line left (λ n. exited values n) all (λ n. nothing_done root setting.forced values n all)
    command_stays root setting now one (finish line) sound values left all =
        step_stays root setting.forced values line left (λ n. returned values n) all (λ n. nothing_done root setting.forced values n all)

    pub commands_stay : (root : Composition) (setting : Setting) → InTime setting → HasOneLeafEach root → (cs : Commands) → AreSoundCommands functions root cs
        → AlwaysStays root setting.forced (commands_meaning calls root setting cs)
    commands_stay root setting now one no_commands sound values left all = nothing_done root setting.forced values left all
    commands_stay root setting now one (more_commands c cs) sound values left all =
        then_stays root setting.forced values left (command_meaning calls root setting c values left) (commands_meaning calls root setting cs)
        (command_stays root setting now one c sound.0 values left all) (commands_stay root setting now one cs sound.1)

    branches_stay : (root : Composition) (setting : Setting) → InTime setting → HasOneLeafEach root → (bs : Branches) → AreSoundBranches functions root bs
        → (others : Values → ℕ → Outcome) → AlwaysStays root setting.forced others → AlwaysStays root setting.forced (branches_meaning calls root setting bs others)
    branches_stay root setting now one no_branches sound others stays values left all = stays values left all
    branches_stay root setting now one (more_branches t cs bs) sound others stays values left all =
        let run = commands_meaning calls root setting cs in
        let more = branches_meaning calls root setting bs others in
        given_stays root setting.forced values left (value_of calls root values t left) (λ v n. if is_true v then run values n else more values n) all
        (test_takes root one t sound.0 values left all)
        (λ v n h. either_stays root setting.forced values n (is_true v) (run values n) (more values n)
        (λ e. commands_stay root setting now one cs sound.1 values n all) (branches_stay root setting now one bs sound.2 others stays values n all))

    cases_stay : (root : Composition) (setting : Setting) → InTime setting → HasOneLeafEach root → (cs : Cases) (e : Elem) → AreSoundCases functions root e cs
        → (others : Values → ℕ → Outcome) → AlwaysStays root setting.forced others → (i : ℤ) → AlwaysStays root setting.forced (cases_meaning calls root setting cs others i)
    cases_stay root setting now one no_cases e sound others stays i values left all = stays values left all
    cases_stay root setting now one (more_cases labels cs more) e sound others stays i values left all =
        either_stays root setting.forced values left (has_label labels i) (commands_meaning calls root setting cs values left) (cases_meaning calls root setting more others i values left)
        (λ h. commands_stay root setting now one cs sound.1 values left all) (cases_stay root setting now one more e sound.2 others stays i values left all)

    -- whichever way the statements of an action or a body end
    actions_stay : (root : Composition) (setting : Setting) → InTime setting → HasOneLeafEach root → (as' : Actions) → AreSoundActions functions root as' → (on : List Bool)
        → AlwaysStays root setting.forced (actions_meaning calls root setting as' on)
    actions_stay root setting now one no_actions sound on values left all = nothing_done root setting.forced values left all
    actions_stay root setting now one (more_actions cs more) sound on values left all =
        let o = ended (commands_meaning calls root setting cs values left) in
        then_stays root setting.forced values left (if get_or on 0 false then o else done values left) (actions_meaning calls root setting more (drop 1 on))
        (either_stays root setting.forced values left (get_or on 0 false) o (done values left)
        (λ e. ended_stays root setting.forced values left (commands_meaning calls root setting cs values left) (commands_stay root setting now one cs sound.0 values left all))
        (nothing_done root setting.forced values left all))
        (actions_stay root setting now one more sound.1 (drop 1 on))

    pub body_stays : (root : Composition) (setting : Setting) → InTime setting → HasOneLeafEach root → (body : Body) → IsSoundBody functions root body
        → AlwaysStays root setting.forced (body_meaning calls root setting body)
    body_stays root setting now one (plain_body cs) sound values left all =
        ended_stays root setting.forced values left (commands_meaning calls root setting cs values left) (commands_stay root setting now one cs sound values left all)
    body_stays root setting now one (chart_body unit sketch tests actions) sound values left all =
        chart_stays functions calls known root one sketch tests (count_actions actions) sound.0 setting now (actions_meaning calls root setting actions)
        (λ on. actions_stay root setting now one actions sound.1 on) values left all

pub bodies_keep_the_frame : BodiesKeepTheFrame
bodies_keep_the_frame functions calls root setting body values left known now one all sound = body_stays functions calls known root setting now one body sound values left all

pub commands_keep_the_frame : CommandsKeepTheFrame
commands_keep_the_frame functions calls root setting cs values left known now one all sound = commands_stay functions calls known root setting now one cs sound values left all
