-- The code of a body enters no instances but those that the body invokes, and is about no chart but its own.
use Rattle.std.proofs.Common.{ℕ, ◌+◌, Bool, true, false, if◌then◌else◌, pos, List, [], ◌∷◌, ◌++◌, length, Option, Some, None, IsTrue, refl, arith}
use Rattle.std.specs.List.{All}
use Rattle.std.proofs.lemmas.List.Elements.{All-cons}
use Rattle.st_values.specs.declared.elem.Elem.{Elem}
use Rattle.st_tree.specs.declared.tree.declaration.Subrange.{Subrange}
use Rattle.st_types.specs.Compositions.{Composition}
use Rattle.st_leaves.specs.Places.{count}
use Rattle.st_leaves.specs.Selected.{element_of, selected_by, subscripts_of}
use Rattle.st_meaning.specs.Offsets.{chart_offset}
use Rattle.st_meaning.specs.Sound.{is_fixed, term_type, types_in}
use Rattle.st_meaning.specs.Terms.{Source, written, left_out, Term, constant, stored, of_step, unary, binary, selection, call, Terms, no_terms, more_terms, how_many, Parts, whole, field_part, element_part, LabelRange, Command, nothing, assign, choice, cases, count_loop, while_loop, repeat_loop, invoke, enter, exit, finish, Moves, no_moves, more_moves, Commands, no_commands, more_commands, Branches, no_branches, more_branches, Cases, no_cases, more_cases, Tests, no_tests, more_tests, Actions, no_actions, more_actions, Body, plain_body, chart_body}
use Rattle.st_code.specs.Charts.{ChartTest, ChartsWhere, CodeIsOfItsChart, IsChartWhere}
use Rattle.st_code.specs.Code.{Line, actions_code, added, are_in_order, at, body_code, call_code, code_of, inputs_code, branch_code, branches_code, case_test, cases_code, command_code, commands_code, index_code, labels_code, moves_code, parts_code, plain, store_code, term_code, terms_code, tests_code, variables_code}
use Rattle.st_code.specs.Entrances.{CodeEntersWhatIsInvoked, EntersWhere, InstanceTest, InvokeWhere, IsInvokedWhere}
use Rattle.st_code.specs.Invocations.{ActionsInvoke, Asked, BodyInvokes, BranchesInvoke, CasesInvoke, CommandInvokes, Invoke}
use Rattle.st_code.specs.declared.instr.Instr.{Instr}
use Rattle.st_code.specs.declared.instr.Instr.TheVariants.{Push, Step, Drop, Enter, Times, Ask, Chart}

module _ (test : InstanceTest) (charts : ChartTest) where
  -- the instance that an instruction enters passes the one test, and the unit whose chart it is about the other
  abbrev Passes : Instr → Type 0
  Passes (Enter leaf unit) = IsTrue (test unit leaf)
  Passes (Times unit leaf) = IsTrue (charts unit)
  Passes (Ask unit leaf number) = IsTrue (charts unit)
  Passes (Chart unit leaf) = IsTrue (charts unit)
  Passes i = Unit {0}

  -- each line, one after the other
  abbrev Each : List Line → Type 0
  Each [] = Unit {0}
  Each (l ∷ ls) = Passes l.instr × Each ls

  enters_passing : (i : Instr) → Passes i → EntersWhere test i
  enters_passing (Enter leaf unit) h = h
  enters_passing _ h = tt

  charts_passing : (i : Instr) → Passes i → ChartsWhere charts i
  charts_passing (Times unit leaf) h = h
  charts_passing (Ask unit leaf number) h = h
  charts_passing (Chart unit leaf) h = h
  charts_passing _ h = tt

  each_line : (P : Instr → Type 0) → ((i : Instr) → Passes i → P i) → (ls : List Line) → Each ls → All (λ l. P l.instr) ls
  each_line P passing [] h = λ k d few. absurd (omega (arith, few))
  each_line P passing (l ∷ ls) h = All-cons (λ m. P m.instr) l ls (passing l.instr h.0) (each_line P passing ls h.1)

  both : (a b : List Line) → Each a → Each b → Each (a ++ b)
  both [] b h k = k
  both (l ∷ a) b h k = (h.0, both a b h.1 k)

  one_of : (b : Bool) (x y : List Line) → Each x → Each y → Each (if b then x else y)
  one_of true x y h k = h
  one_of false x y h k = k

  -- ---- terms and places enter nothing

  index_each : (line size : ℕ) (es : List Elem) (rs : List Subrange) → Each (index_code line size es rs)
  index_each line size [] [] = (tt, tt)
  index_each line size [] (r ∷ rs) = (tt, tt)
  index_each line size (e ∷ es) [] = (tt, tt)
  index_each line size (e ∷ es) (r ∷ []) = (tt, tt)
  index_each line size (e ∷ es) (r ∷ q ∷ rs) = both (index_code line size es (q ∷ rs)) _ (index_each line size es (q ∷ rs)) (tt, tt)

  inputs_each : (n j : ℕ) (sources : List Source) → Each (inputs_code n j sources)
  inputs_each n j [] = tt
  inputs_each n j (written place ∷ ss) = (tt, inputs_each n (1 + j) ss)
  inputs_each n j (left_out v ∷ ss) = (tt, inputs_each n (1 + j) ss)

  call_each : (unit n : ℕ) (sources : List Source) → Each (call_code unit n sources)
  call_each unit n sources = one_of (are_in_order n 0 sources) _ _ (tt, tt) (both (inputs_code n 0 sources) _ (inputs_each n 0 sources) (tt, tt))

  module _ (root : Composition) where
    mutual
      term_each : (t : Term) → Each (term_code root t)
      term_each (constant v) = (tt, tt)
      term_each (stored ps) = one_of (is_fixed ps) _ _ (tt, tt) (both (parts_code root false root ps) _ (parts_each ps false root) (tt, tt))
      term_each (of_step is_time name) = (tt, tt)
      term_each (unary o a) = both (term_code root a) _ (term_each a) (tt, tt)
      term_each (binary o line a b) = both (term_code root a) _ (term_each a) (both (term_code root b) _ (term_each b) (tt, tt))
      term_each (selection g a b) =
          both (term_code root g) _ (term_each g) (both (term_code root a) _ (term_each a) (both (term_code root b) _ (term_each b) (tt, tt)))
      term_each (call line unit result ts sources) = (tt, both (terms_code root ts) _ (terms_each ts) (call_each unit (how_many ts) sources))

      terms_each : (ts : Terms) → Each (terms_code root ts)
      terms_each no_terms = tt
      terms_each (more_terms t ts) = both (term_code root t) _ (term_each t) (terms_each ts)

      parts_each : (ps : Parts) (more : Bool) (c : Composition) → Each (parts_code root more c ps)
      parts_each whole more c = tt
      parts_each (field_part name ps) more c = parts_each ps more (selected_by c name)
      parts_each (element_part line ts ps) more c =
          let ct = terms_code root ts in
          let ci = index_code line (count (element_of c)) (types_in root ts) (subscripts_of c) in
          both (ct ++ (ci ++ added more)) _
          (both ct _ (terms_each ts) (both ci _ (index_each line (count (element_of c)) (types_in root ts) (subscripts_of c)) (one_of more _ _ (tt, tt) tt)))
          (parts_each ps true (element_of c))

    store_each : (e : Elem) (ps : Parts) → Each (store_code root e ps)
    store_each e ps = one_of (is_fixed ps) _ _ (tt, tt) (both (parts_code root false root ps) _ (parts_each ps false root) (tt, tt))

    move_each : (ps : Parts) (t : Term) → Each (term_code root t ++ store_code root (term_type root t) ps)
    move_each ps t = both (term_code root t) _ (term_each t) (store_each (term_type root t) ps)

    moves_each : (ms : Moves) → Each (moves_code root ms)
    moves_each no_moves = tt
    moves_each (more_moves ps t more) = both (term_code root t ++ store_code root (term_type root t) ps) _ (move_each ps t) (moves_each more)

    -- ---- commands

    labels_each : (e : Elem) (rs : List LabelRange) → Each (labels_code e rs)
    labels_each e [] = tt
    labels_each e (r ∷ rs) = (tt, (tt, (tt, labels_each e rs)))

    branch_each : (condition body rest : List Line) → Each condition → Each body → Each rest → Each (branch_code condition body rest)
    branch_each condition body rest h k more =
        both (condition ++ (plain _ ++ (body ++ plain _))) rest (both condition _ h (tt, both body _ k (tt, tt))) more

    mutual
      command_each : (c : Command) (out end : ℕ) → CommandInvokes (IsInvokedWhere root test) c → Each (command_code root c out end)
      command_each (nothing line) out end h = (tt, tt)
      command_each (assign line ps t) out end h = (tt, move_each ps t)
      command_each (choice line bs others) out end h = (tt, branches_each bs (commands_code root others out end) out end h.0 (commands_each others out end h.1))
      command_each (cases line t cs others) out end h = (
        tt,
        both (term_code root t) _ (term_each t)
            (cases_each (term_type root t) cs _ out end h.0 (tt, commands_each others out end h.1)),
      )
      command_each (count_loop line ps a b c cs) out end h =
          let values = both (term_code root a) _ (term_each a) (both (term_code root b) _ (term_each b) (term_each c)) in (
            tt,
            both (term_code root a ++ (term_code root b ++ term_code root c)) _ values
                (tt, (tt, (tt, both (commands_code root cs 1 (2 + end)) _ (commands_each cs 1 (2 + end) h) (tt, (tt, tt))))),
          )
      command_each (while_loop line t cs) out end h =
          (tt, (tt, both (term_code root t) _ (term_each t) (tt, both (commands_code root cs 1 (1 + end)) _ (commands_each cs 1 (1 + end) h) (tt, tt))))
      command_each (repeat_loop line cs t) out end h =
          (tt, (tt, both (term_code root t) _ (term_each t) (tt, both (commands_code root cs 1 (1 + end)) _ (commands_each cs 1 (1 + end) h) (tt, tt))))
      command_each (invoke line name b inputs outputs) out end h =
          (tt, (tt, both (moves_code root inputs) _ (moves_each inputs) (tt, moves_each outputs)))
      command_each (enter line name unit body inputs outputs) out end h =
          (tt, (tt, both (moves_code root inputs) _ (moves_each inputs) (h, moves_each outputs)))
      command_each (exit line) out end h = (tt, (tt, tt))
      command_each (finish line) out end h = (tt, (tt, tt))

      commands_each : (cs : Commands) (out end : ℕ) → Invoke (IsInvokedWhere root test) cs → Each (commands_code root cs out end)
      commands_each no_commands out end h = tt
      commands_each (more_commands c cs) out end h =
          let rest = commands_code root cs out end in
          both (command_code root c (length rest + out) (length rest + end)) rest (command_each c (length rest + out) (length rest + end) h.0) (commands_each cs out end h.1)

      branches_each : (bs : Branches) (others : List Line) (out end : ℕ) → BranchesInvoke (IsInvokedWhere root test) bs → Each others
          → Each (branches_code root bs others out end)
      branches_each no_branches others out end h k = k
      branches_each (more_branches t cs bs) others out end h k =
          let rest = branches_code root bs others out end in
          branch_each (term_code root t) (commands_code root cs (1 + length rest + out) (1 + length rest + end)) rest (term_each t)
          (commands_each cs (1 + length rest + out) (1 + length rest + end) h.0) (branches_each bs others out end h.1 k)

      cases_each : (e : Elem) (cs : Cases) (others : List Line) (out end : ℕ) → CasesInvoke (IsInvokedWhere root test) cs → Each others
          → Each (cases_code root e cs others out end)
      cases_each e no_cases others out end h k = k
      cases_each e (more_cases labels cs more) others out end h k =
          let rest = cases_code root e more others out end in
          branch_each (case_test e labels) (plain Drop ++ commands_code root cs (1 + length rest + out) (1 + length rest + end)) rest (tt, labels_each e labels)
          (tt, commands_each cs (1 + length rest + out) (1 + length rest + end) h.0) (cases_each e more others out end h.1 k)

    -- ---- charts

    module _ (unit : ℕ) (passes : IsTrue (charts unit)) (leaf : ℕ) where
      tests_each : (number : ℕ) (ts : Tests) → Each (tests_code root unit leaf number ts)
      tests_each number no_tests = tt
      tests_each number (more_tests line t more) =
          let ask = plain (Ask unit leaf number) in
          let body = at line Step ++ term_code root t in
          let none = plain (Push (pos 0)) in
          both (branch_code ask body none) (tests_code root unit leaf (1 + number) more) (branch_each ask body none (passes, tt) (tt, term_each t) (tt, tt)) (tests_each (1 + number) more)

    variables_each : (names : List (Option (List ℕ))) → Each (variables_code root names)
    variables_each [] = tt
    variables_each (None ∷ names) = variables_each names
    variables_each (Some name ∷ names) = (tt, variables_each names)

    actions_each : (as' : Actions) → ActionsInvoke (IsInvokedWhere root test) as' → Each (actions_code root as')
    actions_each no_actions h = tt
    actions_each (more_actions cs more) h = (tt, (tt, both (body_code root cs) _ (commands_each cs 0 0 h.0) (actions_each more h.1)))

    body_each : (body : Body) → InvokeWhere root test body → IsChartWhere charts body → Each (code_of root body)
    body_each (plain_body cs) h k = commands_each cs 0 0 h
    body_each (chart_body unit sketch tests actions) h k =
        let leaf = chart_offset root in (
          k,
          both (tests_code root unit leaf 0 tests) _ (tests_each unit k leaf 0 tests)
              (k, both (variables_code root sketch.variables) _ (variables_each sketch.variables) (actions_each actions h)),
        )

-- ---- entrances

any_chart : (body : Body) → IsChartWhere (λ unit. true) body
any_chart (plain_body cs) = tt
any_chart (chart_body unit _ _ _) = refl

pub code_enters_what_is_invoked : CodeEntersWhatIsInvoked
code_enters_what_is_invoked root test body h =
    each_line test (λ unit. true) (EntersWhere test) (enters_passing test (λ unit. true)) _ (body_each test (λ unit. true) root body h (any_chart body))

-- ---- charts

module _ (root : Composition) where
  abbrev AnyInstance : Asked
  AnyInstance = IsInvokedWhere root (λ unit leaf. true)

  mutual
    any_invoked : (c : Command) → CommandInvokes AnyInstance c
    any_invoked (nothing line) = tt
    any_invoked (assign line ps t) = tt
    any_invoked (choice line bs others) = (any_in_branches bs, any_in others)
    any_invoked (cases line t cs others) = (any_in_cases cs, any_in others)
    any_invoked (count_loop line ps a b c cs) = any_in cs
    any_invoked (while_loop line t cs) = any_in cs
    any_invoked (repeat_loop line cs t) = any_in cs
    any_invoked (invoke line name b inputs outputs) = tt
    any_invoked (enter line name unit body inputs outputs) = refl
    any_invoked (exit line) = tt
    any_invoked (finish line) = tt

    any_in : (cs : Commands) → Invoke AnyInstance cs
    any_in no_commands = tt
    any_in (more_commands c cs) = (any_invoked c, any_in cs)

    any_in_branches : (bs : Branches) → BranchesInvoke AnyInstance bs
    any_in_branches no_branches = tt
    any_in_branches (more_branches t cs bs) = (any_in cs, any_in_branches bs)

    any_in_cases : (cs : Cases) → CasesInvoke AnyInstance cs
    any_in_cases no_cases = tt
    any_in_cases (more_cases labels cs more) = (any_in cs, any_in_cases more)

  any_in_actions : (as' : Actions) → ActionsInvoke AnyInstance as'
  any_in_actions no_actions = tt
  any_in_actions (more_actions cs more) = (any_in cs, any_in_actions more)

  any_in_body : (body : Body) → BodyInvokes AnyInstance body
  any_in_body (plain_body cs) = any_in cs
  any_in_body (chart_body unit sketch tests actions) = any_in_actions actions

pub code_is_of_its_chart : CodeIsOfItsChart
code_is_of_its_chart root test body h =
    each_line (λ unit leaf. true) test (ChartsWhere test) (charts_passing (λ unit leaf. true) test) _ (body_each (λ unit leaf. true) test root body (any_in_body root body) h)
