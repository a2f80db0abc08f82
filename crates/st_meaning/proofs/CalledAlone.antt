-- What statements mean depends on nothing but what the functions give that they call (2.5.1, 3.3.1).
use Rattle.std.proofs.Common.{◌≡◌, ℕ, zero, suc, ◌<◌, ◌≤◌, nat_lt, ℤ, ◌+ℤ◌, Bool, true, false, if◌then◌else◌, List, ◌∷◌, drop, get_or, length, Option, Some, None, refl, ap, sym, ◌∙◌, arith, ltb-true}
use Rattle.st_values.specs.declared.value.Value.{Value}
use Rattle.st_tree.specs.declared.tree.position.Identifier.{Identifier}
use Rattle.st_types.specs.Compositions.{Composition}
use Rattle.st_types.specs.Names.{Declares, Named, unit_at}
use Rattle.st_types.specs.Names as names
use Rattle.st_leaves.specs.Paths.{field, index}
use Rattle.st_leaves.specs.Selected.{element_of, selected_by, subscripts_of}
use Rattle.st_operators.specs.Functions.{selected_of}
use Rattle.st_meaning.specs.CalledBy.{ActionsCall, BodiesDependOnTheirCalls, BodyCalls, BranchesCall, CallBelow, CalledFunctionsMatterAlone, CalledTest, CallsAreThoseOfTheirBodies, CasesCall, CommandCalls, CommandsCall, GiveAlike, MovesCall, PartsCall, TermCalls, TermsCall, TestsCall}
use Rattle.st_meaning.specs.Charts.{is_asked}
use Rattle.st_meaning.specs.Meaning.{Calls, Values, inputs_from, located, numbers_in, stored_at, value_at, value_of, values_of, when_within}
use Rattle.st_meaning.specs.Offsets.{chart_offset, offset_of}
use Rattle.st_meaning.specs.Operations.{Answer, gives, stops, answered_in, binary_value, then_with, unary_value, with_step}
use Rattle.st_meaning.specs.Statements.{Outcome, Setting, done, exited, returned, faulted, actions_meaning, after_step, after_turn, alike, block_done, body_meaning, branches_meaning, cases_meaning, chart_part, command_meaning, commands_meaning, condition_value, conditions_meaning, count_turns, ended, given, goes_on, has_label, instance_meaning, is_true, left_by, moves_meaning, repeat_turns, setting_from, then_do, times_done, while_turns}
use Rattle.st_meaning.specs.Terms.{Term, constant, stored, of_step, unary, binary, selection, call, Terms, no_terms, more_terms, Parts, whole, field_part, element_part, Command, nothing, assign, choice, cases, count_loop, while_loop, repeat_loop, invoke, enter, exit, finish, Moves, no_moves, more_moves, Commands, no_commands, more_commands, Branches, no_branches, more_branches, Cases, no_cases, more_cases, Tests, no_tests, more_tests, Actions, no_actions, more_actions, Body, plain_body, chart_body}
use Rattle.st_meaning.specs.Typing.{body_of}
use Rattle.st_meaning.specs.Units.{calls_in, calls_of, function_given, function_setting, members_begun, members_of_function, result_given, root_of, statements_of, unit_given, unit_whole}

-- ---- one after the other

then_alike : {A B : Type 0} (a : Answer A) (f g : A → ℕ → Answer B) → ((x : A) (n : ℕ) → f x n ≡ g x n) → then_with a f ≡ then_with a g
then_alike (gives x n) f g h = h x n
then_alike (stops s) f g h = refl

then_same : {A B : Type 0} (a b : Answer A) (f g : A → ℕ → Answer B) → a ≡ b → ((x : A) (n : ℕ) → f x n ≡ g x n) → then_with a f ≡ then_with b g
then_same a b f g e h = then_alike a f g h ∙ ap (λ c. then_with c g) e

stepped_same : {A : Type 0} (line left : ℕ) (f g : ℕ → Answer A) → ((n : ℕ) → f n ≡ g n) → with_step line left f ≡ with_step line left g
stepped_same line zero f g h = refl
stepped_same line (suc n) f g h = h n

given_alike : {A : Type 0} (a : Answer A) (f g : A → ℕ → Outcome) → ((x : A) (n : ℕ) → f x n ≡ g x n) → given a f ≡ given a g
given_alike (gives x n) f g h = h x n
given_alike (stops s) f g h = refl

given_same : {A : Type 0} (a b : Answer A) (f g : A → ℕ → Outcome) → a ≡ b → ((x : A) (n : ℕ) → f x n ≡ g x n) → given a f ≡ given b g
given_same a b f g e h = given_alike a f g h ∙ ap (λ c. given c g) e

step_same : (line left : ℕ) (f g : ℕ → Outcome) → ((n : ℕ) → f n ≡ g n) → after_step line left f ≡ after_step line left g
step_same line zero f g h = refl
step_same line (suc n) f g h = h n

-- the same of all values
abbrev Same : (Values → ℕ → Outcome) → (Values → ℕ → Outcome) → Type 0
Same f g = (values : Values) (n : ℕ) → f values n ≡ g values n

do_alike : (o : Outcome) (f g : Values → ℕ → Outcome) → Same f g → then_do o f ≡ then_do o g
do_alike (done values n) f g h = h values n
do_alike (exited values n) f g h = refl
do_alike (returned values n) f g h = refl
do_alike (faulted s) f g h = refl

do_same : (o p : Outcome) (f g : Values → ℕ → Outcome) → o ≡ p → Same f g → then_do o f ≡ then_do p g
do_same o p f g e h = do_alike o f g h ∙ ap (λ q. then_do q g) e

turn_alike : (o : Outcome) (f g : Values → ℕ → Outcome) → Same f g → after_turn o f ≡ after_turn o g
turn_alike (done values n) f g h = h values n
turn_alike (exited values n) f g h = refl
turn_alike (returned values n) f g h = refl
turn_alike (faulted s) f g h = refl

turn_same : (o p : Outcome) (f g : Values → ℕ → Outcome) → o ≡ p → Same f g → after_turn o f ≡ after_turn p g
turn_same o p f g e h = turn_alike o f g h ∙ ap (λ q. after_turn q g) e

if_same : (b : Bool) (o p q r : Outcome) → o ≡ p → q ≡ r → (if b then o else q) ≡ (if b then p else r)
if_same true o p q r h k = h
if_same false o p q r h k = k

-- ---- loops

module _ (line : ℕ) (body other : Values → ℕ → Outcome) (same : Same body other) where
  while_same : (k : ℕ) (test tried : Values → ℕ → Answer Value) → ((values : Values) (n : ℕ) → test values n ≡ tried values n)
      → Same (while_turns k line test body) (while_turns k line tried other)
  while_same zero test tried h values left = refl
  while_same (suc k) test tried h values left =
      step_same line left _ _
      (λ n. given_same (test values n) (tried values n) _ _ (h values n)
      (λ v m. if_same (is_true v) (after_turn (body values m) (while_turns k line test body)) (after_turn (other values m) (while_turns k line tried other)) (done values m) (done values m)
      (turn_same (body values m) (other values m) _ _ (same values m) (while_same k test tried h)) refl))

  repeat_same : (k : ℕ) (test tried : Values → ℕ → Answer Value) → ((values : Values) (n : ℕ) → test values n ≡ tried values n)
      → Same (repeat_turns k line test body) (repeat_turns k line tried other)
  repeat_same zero test tried h values left = refl
  repeat_same (suc k) test tried h values left =
      turn_same (body values left) (other values left) _ _ (same values left)
      (λ others m. step_same line m _ _
      (λ n. given_same (test others n) (tried others n) _ _ (h others n)
      (λ v i. if_same (is_true v) (done others i) (done others i) (repeat_turns k line test body others i) (repeat_turns k line tried other others i) refl (repeat_same k test tried h others i))))

  count_same : (k : ℕ) (store : Values → ℤ → Values) (last step counter : ℤ) → Same (count_turns k line store last step body counter) (count_turns k line store last step other counter)
  count_same zero store last step counter values left = refl
  count_same (suc k) store last step counter values left =
      step_same line left _ _
      (λ n. if_same (goes_on counter last step) (after_turn (body (store values counter) n) (count_turns k line store last step body (counter +ℤ step)))
      (after_turn (other (store values counter) n) (count_turns k line store last step other (counter +ℤ step))) (done values n) (done values n)
      (turn_same (body (store values counter) n) (other (store values counter) n) _ _ (same (store values counter) n) (count_same k store last step (counter +ℤ step))) refl)

module _ (test : CalledTest) (calls others : Calls) (same : GiveAlike test calls others) where
  -- ---- expressions and places

  mutual
    value_same : (root : Composition) (values : Values) (t : Term) → TermCalls test t → (left : ℕ) → value_of calls root values t left ≡ value_of others root values t left
    value_same root values (constant v) h left = refl
    value_same root values (stored ps) h left = ap (λ a. then_with a (λ path n. gives (value_at root values path) n)) (located_same root values root ps h left)
    value_same root values (of_step is_time name) h left = refl
    value_same root values (unary o a) h left = ap (λ x. then_with x (λ v n. gives (unary_value o v) n)) (value_same root values a h left)
    value_same root values (binary o line a b) h left =
        then_same (value_of calls root values a left) (value_of others root values a left) _ _ (value_same root values a h.0 left)
        (λ x n. ap (λ y. then_with y (λ v m. binary_value o line x v m)) (value_same root values b h.1 n))
    value_same root values (selection g a b) h left =
        then_same (value_of calls root values g left) (value_of others root values g left) _ _ (value_same root values g h.0 left)
        (λ x n. then_same (value_of calls root values a n) (value_of others root values a n) _ _ (value_same root values a h.1 n)
        (λ y m. ap (λ z. then_with z (λ v k. gives (selected_of x y v) k)) (value_same root values b h.2 m)))
    value_same root values (call line unit result ts sources) h left =
        stepped_same line left _ _
        (λ n. then_same (values_of calls root values ts n) (values_of others root values ts n) _ _ (values_same root values ts h.1 n)
        (λ xs m. ap (λ a. answered_in unit a) (same unit h.0 (inputs_from xs sources) m)))

    values_same : (root : Composition) (values : Values) (ts : Terms) → TermsCall test ts → (left : ℕ) → values_of calls root values ts left ≡ values_of others root values ts left
    values_same root values no_terms h left = refl
    values_same root values (more_terms t ts) h left =
        then_same (value_of calls root values t left) (value_of others root values t left) _ _ (value_same root values t h.0 left)
        (λ x n. ap (λ a. then_with a (λ xs m. gives (x ∷ xs) m)) (values_same root values ts h.1 n))

    located_same : (root : Composition) (values : Values) (c : Composition) (ps : Parts) → PartsCall test ps → (left : ℕ)
        → located calls root values c ps left ≡ located others root values c ps left
    located_same root values c whole h left = refl
    located_same root values c (field_part name ps) h left =
        ap (λ a. then_with a (λ path n. gives (field name ∷ path) n)) (located_same root values (selected_by c name) ps h left)
    located_same root values c (element_part line ts ps) h left =
        then_same (values_of calls root values ts left) (values_of others root values ts left) _ _ (values_same root values ts h.0 left)
        (λ xs n. ap (λ a. when_within line (subscripts_of c) (numbers_in xs) (then_with a (λ path m. gives (index (numbers_in xs) ∷ path) m)))
        (located_same root values (element_of c) ps h.1 n))

  -- ---- statements

  moves_same : (root : Composition) (setting : Setting) (ms : Moves) → MovesCall test ms → Same (moves_meaning calls root setting ms) (moves_meaning others root setting ms)
  moves_same root setting no_moves h values left = refl
  moves_same root setting (more_moves ps t more) h values left =
      given_same (value_of calls root values t left) (value_of others root values t left) _ _ (value_same root values t h.1 left)
      (λ v n. given_same (located calls root values root ps n) (located others root values root ps n) _ _ (located_same root values root ps h.0 n)
      (λ path m. moves_same root setting more h.2 (stored_at root setting.forced values path v) m))

  -- ---- charts

  condition_same : (root : Composition) (values : Values) (asked : Bool) (line : ℕ) (t : Term) → TermCalls test t → (left : ℕ)
      → condition_value calls root values asked line t left ≡ condition_value others root values asked line t left
  condition_same root values true line t h left = stepped_same line left _ _ (λ n. ap (λ a. then_with a (λ v m. gives (is_true v) m)) (value_same root values t h n))
  condition_same root values false line t h left = refl

  conditions_same : (root : Composition) (values : Values) (asked : ℕ → Bool) (number : ℕ) (ts : Tests) → TestsCall test ts → (left : ℕ)
      → conditions_meaning calls root values asked number ts left ≡ conditions_meaning others root values asked number ts left
  conditions_same root values asked number no_tests h left = refl
  conditions_same root values asked number (more_tests line t more) h left =
      then_same (condition_value calls root values (asked number) line t left) (condition_value others root values (asked number) line t left) _ _
      (condition_same root values (asked number) line t h.0 left)
      (λ b n. ap (λ a. then_with a (λ bs m. gives (b ∷ bs) m)) (conditions_same root values asked (suc number) more h.1 n))

  mutual
    command_same : (root : Composition) (setting : Setting) (c : Command) → CommandCalls test c → Same (command_meaning calls root setting c) (command_meaning others root setting c)
    command_same root setting (nothing line) h values left = refl
    command_same root setting (assign line ps t) h values left =
        step_same line left _ _
        (λ n. given_same (value_of calls root values t n) (value_of others root values t n) _ _ (value_same root values t h.1 n)
        (λ v m. ap (λ a. given a (λ path k. done (stored_at root setting.forced values path v) k)) (located_same root values root ps h.0 m)))
    command_same root setting (choice line bs cs) h values left =
        step_same line left _ _ (λ n. branches_same root setting bs h.0 (commands_meaning calls root setting cs) (commands_meaning others root setting cs) (commands_same root setting cs h.1) values n)
    command_same root setting (cases line t cs more) h values left =
        step_same line left _ _
        (λ n. given_same (value_of calls root values t n) (value_of others root values t n) _ _ (value_same root values t h.0 n)
        (λ v m. cases_same root setting cs h.1 (commands_meaning calls root setting more) (commands_meaning others root setting more) (commands_same root setting more h.2) v.bits values m))
    command_same root setting (count_loop line ps a b c cs) h values left =
        step_same line left _ _
        (λ n. given_same (value_of calls root values a n) (value_of others root values a n) _ _ (value_same root values a h.1 n)
        (λ x m. given_same (value_of calls root values b m) (value_of others root values b m) _ _ (value_same root values b h.2 m)
        (λ y k. given_same (value_of calls root values c k) (value_of others root values c k) _ _ (value_same root values c h.3 k)
        (λ z j. given_same (located calls root values root ps j) (located others root values root ps j) _ _ (located_same root values root ps h.0 j)
        (λ path i. count_same line (commands_meaning calls root setting cs) (commands_meaning others root setting cs) (commands_same root setting cs h.4) (suc i)
        (λ them counter. stored_at root setting.forced them path (alike x counter)) y.bits z.bits x.bits (stored_at root setting.forced values path x) i)))))
    command_same root setting (while_loop line t cs) h values left =
        step_same line left _ _
        (λ n. while_same line (commands_meaning calls root setting cs) (commands_meaning others root setting cs) (commands_same root setting cs h.1) (suc n)
        (λ them m. value_of calls root them t m) (λ them m. value_of others root them t m) (λ them m. value_same root them t h.0 m) values n)
    command_same root setting (repeat_loop line cs t) h values left =
        step_same line left _ _
        (λ n. repeat_same line (commands_meaning calls root setting cs) (commands_meaning others root setting cs) (commands_same root setting cs h.0) (suc n)
        (λ them m. value_of calls root them t m) (λ them m. value_of others root them t m) (λ them m. value_same root them t h.1 m) values n)
    command_same root setting (invoke line name b inputs outputs) h values left =
        step_same line left _ _
        (λ m. step_same line m _ _
        (λ n. do_same (moves_meaning calls root setting inputs values n) (moves_meaning others root setting inputs values n) _ _ (moves_same root setting inputs h.0 values n)
        (λ them k. moves_same root setting outputs h.1 (block_done setting b (offset_of root name) them) k)))
    command_same root setting (enter line name unit body inputs outputs) h values left =
        let run : Calls → Values → ℕ → Outcome = (λ c them k. instance_meaning root setting name unit (λ within part i. body_meaning c (selected_by root name) within body part i) them k) in
        step_same line left _ _
        (λ m. step_same line m _ _
        (λ n. do_same (moves_meaning calls root setting inputs values n) (moves_meaning others root setting inputs values n) _ _ (moves_same root setting inputs h.0 values n)
        (λ them k. do_same (run calls them k) (run others them k) _ _
        (ap (λ o. left_by unit (offset_of root name) them o) (body_same (selected_by root name) (setting_from (offset_of root name) setting) body h.1 _ k))
        (λ those j. moves_same root setting outputs h.2 those j))))
    command_same root setting (exit line) h values left = refl
    command_same root setting (finish line) h values left = refl

    commands_same : (root : Composition) (setting : Setting) (cs : Commands) → CommandsCall test cs → Same (commands_meaning calls root setting cs) (commands_meaning others root setting cs)
    commands_same root setting no_commands h values left = refl
    commands_same root setting (more_commands c cs) h values left =
        do_same (command_meaning calls root setting c values left) (command_meaning others root setting c values left) _ _ (command_same root setting c h.0 values left) (commands_same root setting cs h.1)

    branches_same : (root : Composition) (setting : Setting) (bs : Branches) → BranchesCall test bs → (f g : Values → ℕ → Outcome) → Same f g
        → Same (branches_meaning calls root setting bs f) (branches_meaning others root setting bs g)
    branches_same root setting no_branches h f g k values left = k values left
    branches_same root setting (more_branches t cs bs) h f g k values left =
        given_same (value_of calls root values t left) (value_of others root values t left) _ _ (value_same root values t h.0 left)
        (λ v n. if_same (is_true v) (commands_meaning calls root setting cs values n) (commands_meaning others root setting cs values n) (branches_meaning calls root setting bs f values n)
        (branches_meaning others root setting bs g values n) (commands_same root setting cs h.1 values n) (branches_same root setting bs h.2 f g k values n))

    cases_same : (root : Composition) (setting : Setting) (cs : Cases) → CasesCall test cs → (f g : Values → ℕ → Outcome) → Same f g → (i : ℤ)
        → Same (cases_meaning calls root setting cs f i) (cases_meaning others root setting cs g i)
    cases_same root setting no_cases h f g k i values left = k values left
    cases_same root setting (more_cases labels cs more) h f g k i values left =
        if_same (has_label labels i) (commands_meaning calls root setting cs values left) (commands_meaning others root setting cs values left) (cases_meaning calls root setting more f i values left)
        (cases_meaning others root setting more g i values left) (commands_same root setting cs h.0 values left) (cases_same root setting more h.1 f g k i values left)

    actions_same : (root : Composition) (setting : Setting) (as' : Actions) → ActionsCall test as' → (on : List Bool)
        → Same (actions_meaning calls root setting as' on) (actions_meaning others root setting as' on)
    actions_same root setting no_actions h on values left = refl
    actions_same root setting (more_actions cs more) h on values left =
        let run : Calls → Outcome = (λ c. if get_or on 0 false then ended (commands_meaning c root setting cs values left) else done values left) in
        do_same (run calls) (run others) _ _
        (if_same (get_or on 0 false) (ended (commands_meaning calls root setting cs values left)) (ended (commands_meaning others root setting cs values left)) (done values left) (done values left)
        (ap (λ o. ended o) (commands_same root setting cs h.0 values left)) refl)
        (actions_same root setting more h.1 (drop 1 on))

    body_same : (root : Composition) (setting : Setting) (body : Body) → BodyCalls test body → Same (body_meaning calls root setting body) (body_meaning others root setting body)
    body_same root setting (plain_body cs) h values left = ap (λ o. ended o) (commands_same root setting cs h values left)
    body_same root setting (chart_body unit sketch tests actions) h values left =
        let timed = times_done setting sketch (chart_offset root) values in
        let asked = is_asked sketch (chart_part root sketch timed) in
        given_same (conditions_meaning calls root timed asked 0 tests left) (conditions_meaning others root timed asked 0 tests left) _ _
        (conditions_same root timed asked 0 tests h.0 left)
        (λ conditions n. actions_same root setting actions h.1 _ _ n)

pub bodies_depend_on_their_calls : BodiesDependOnTheirCalls
bodies_depend_on_their_calls test calls others same root setting body h values left = body_same test calls others same root setting body h values left

pub called_functions_matter_alone : CalledFunctionsMatterAlone
called_functions_matter_alone test calls others same root setting cs h values left = commands_same test calls others same root setting cs h values left

-- ---- functions that call those of a lower rank

module _ (units : List Named) (rank : ℕ → ℕ) (below : CallBelow units rank) where
  abbrev lower : ℕ → CalledTest
  lower number n = nat_lt (rank n) (rank number)

  declared_same : (number : ℕ) (calls others : Calls) → GiveAlike (lower number) calls others → (name : Identifier) (d : Declares)
      → unit_at units number ≡ Some (record { name = name; declares = d }) → (inputs : Values) (left : ℕ)
      → function_given units calls (record { name = name; declares = d }) d inputs left ≡ function_given units others (record { name = name; declares = d }) d inputs left
  declared_same number calls others same name (names.function f) at inputs left =
      let u : Named = record { name = name; declares = names.function f } in
      ap (λ o. result_given (ended o))
      (commands_same (lower number) calls others same (root_of units u) function_setting (body_of (unit_whole units u) (statements_of u.declares)) (below number u f at refl)
      (members_begun (members_of_function units f) inputs) left)
  declared_same number calls others same name (names.type t) at inputs left = refl
  declared_same number calls others same name (names.block b) at inputs left = refl
  declared_same number calls others same name (names.program p) at inputs left = refl

  given_so : (number : ℕ) (calls others : Calls) → GiveAlike (lower number) calls others → (unit : Option Named) → unit_at units number ≡ unit → (inputs : Values) (left : ℕ)
      → unit_given units calls unit inputs left ≡ unit_given units others unit inputs left
  given_so number calls others same None at inputs left = refl
  given_so number calls others same (Some u) at inputs left = declared_same number calls others same u.name u.declares at inputs left

  -- one more unit changes nothing
  settled : (most number : ℕ) → rank number < most → (inputs : Values) (left : ℕ) → calls_in units (suc most) number inputs left ≡ calls_in units most number inputs left
  unfolding calls_in
  settled zero number few inputs left = absurd (omega (arith, few))
  settled (suc most) number few inputs left =
      given_so number (calls_in units (suc most)) (calls_in units most)
      (λ n less. settled most n (let h : rank n < rank number = ltb-true (rank n) (rank number) less in omega (arith, h, few)))
      (unit_at units number) refl inputs left

  bodies_give : (number : ℕ) → rank number ≤ length units → (inputs : Values) (left : ℕ)
      → calls_of units number inputs left ≡ unit_given units (calls_of units) (unit_at units number) inputs left
  unfolding calls_in
  bodies_give number few inputs left = sym (settled (suc (length units)) number (omega (arith, few)) inputs left)

pub calls_are_those_of_their_bodies : CallsAreThoseOfTheirBodies
calls_are_those_of_their_bodies units rank below number few inputs left = bodies_give units rank below number few inputs left
