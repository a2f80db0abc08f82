-- The code of a sound body calls nothing but functions, each with as many numbers as it has inputs.
use Rattle.std.proofs.Common.{◌≡◌, ℕ, suc, ◌+◌, Bool, true, false, if◌then◌else◌, pos, List, [], ◌∷◌, ◌++◌, length, Option, Some, None, IsTrue, refl, ap, sym, subst, arith}
use Rattle.std.specs.List.{All}
use Rattle.std.proofs.lemmas.List.Elements.{All-cons}
use Rattle.st_values.specs.declared.elem.Elem.{Elem}
use Rattle.st_tree.specs.declared.tree.declaration.Subrange.{Subrange}
use Rattle.st_types.specs.Compositions.{Composition}
use Rattle.st_leaves.specs.Places.{count}
use Rattle.st_leaves.specs.Selected.{element_of, selected_by, subscripts_of}
use Rattle.st_meaning.specs.Offsets.{chart_offset}
use Rattle.st_meaning.specs.Sound.{AreSoundActions, AreSoundBranches, AreSoundCases, AreSoundCommands, AreSoundMoves, AreSoundParts, AreSoundTerms, AreSoundTests, AreSourcesOf, IsCall, IsSoundBody, IsSoundCommand, IsSoundTerm, is_fixed, term_type, types_in}
use Rattle.st_meaning.specs.Terms.{Source, written, left_out, Term, constant, stored, of_step, unary, binary, selection, call, Terms, no_terms, more_terms, how_many, Parts, whole, field_part, element_part, LabelRange, Command, nothing, assign, choice, cases, count_loop, while_loop, repeat_loop, invoke, enter, exit, finish, Moves, no_moves, more_moves, Commands, no_commands, more_commands, Branches, no_branches, more_branches, Cases, no_cases, more_cases, Tests, no_tests, more_tests, Actions, no_actions, more_actions, Body, plain_body, chart_body}
use Rattle.st_meaning.specs.Wholes.{Functions, Input}
use Rattle.st_code.specs.Code.{Line, actions_code, added, are_in_order, at, body_code, call_code, code_of, inputs_code, branch_code, branches_code, case_test, cases_code, command_code, commands_code, index_code, labels_code, moves_code, parts_code, plain, store_code, term_code, terms_code, tests_code, variables_code}
use Rattle.st_code.specs.CalledFunctions.{CallsWhere, CodeCallsFunctions, FunctionTest, FunctionsPass}
use Rattle.st_code.specs.declared.instr.Instr.TheVariants.{Push, Step, Drop, Call, Ask}
use Rattle.st_code.proofs.Calls.{order_few}

-- as many values as inputs
as_many_sources : (types : List Elem) (is : List Input) (sources : List Source) → AreSourcesOf types is sources → length sources ≡ length is
as_many_sources types [] [] h = refl
as_many_sources types [] (s ∷ ss) h = elim h [ ]
as_many_sources types (i ∷ is) [] h = elim h [ ]
as_many_sources types (i ∷ is) (s ∷ ss) h = ap suc (as_many_sources types is ss h.1)

module _ (functions : Functions) (root : Composition) (test : FunctionTest) (pass : FunctionsPass functions test) where
  -- each line, one after the other
  abbrev Each : List Line → Type 0
  Each [] = Unit {0}
  Each (l ∷ ls) = CallsWhere test l.instr × Each ls

  each_line : (ls : List Line) → Each ls → All (λ l. CallsWhere test l.instr) ls
  each_line [] h = λ k d few. absurd (omega (arith, few))
  each_line (l ∷ ls) h = All-cons (λ m. CallsWhere test m.instr) l ls h.0 (each_line ls h.1)

  both : (a b : List Line) → Each a → Each b → Each (a ++ b)
  both [] b h k = k
  both (l ∷ a) b h k = (h.0, both a b h.1 k)

  one_of : (b : Bool) (x y : List Line) → Each x → Each y → Each (if b then x else y)
  one_of true x y h k = h
  one_of false x y h k = k

  -- ---- terms and places

  index_each : (line size : ℕ) (es : List Elem) (rs : List Subrange) → Each (index_code line size es rs)
  index_each line size [] [] = (tt, tt)
  index_each line size [] (r ∷ rs) = (tt, tt)
  index_each line size (e ∷ es) [] = (tt, tt)
  index_each line size (e ∷ es) (r ∷ []) = (tt, tt)
  index_each line size (e ∷ es) (r ∷ q ∷ rs) = both (index_code line size es (q ∷ rs)) _ (index_each line size es (q ∷ rs)) (tt, tt)

  inputs_each : (n j : ℕ) (sources : List Source) → Each (inputs_code n j sources)
  inputs_each n j [] = tt
  inputs_each n j (written place ∷ ss) = (tt, inputs_each n (1 + j) ss)
  inputs_each n j (left_out v ∷ ss) = (tt, inputs_each n (1 + j) ss)

  call_each : (unit n : ℕ) (result : Elem) (types : List Elem) (sources : List Source) → IsCall functions unit result types sources → Each (call_code unit n sources)
  call_each unit n result types sources is = by (are_in_order n 0 sources) refl where
    passes : IsTrue (test unit (length sources))
    passes = subst (λ m. IsTrue (test unit m)) (sym (as_many_sources types is.function.inputs sources is.inputs)) (pass unit is.function is.known)

    by : (b : Bool) → are_in_order n 0 sources ≡ b → Each (if b then plain (Call unit n 0) else (inputs_code n 0 sources ++ plain (Call unit (length sources) n)))
    by true q =
        let many = order_few n 0 sources q in
        let same : length sources ≡ n = omega (arith, many) in
        (subst (λ m. IsTrue (test unit m)) same passes, tt)
    by false q = both (inputs_code n 0 sources) _ (inputs_each n 0 sources) (passes, tt)

  mutual
    term_each : (t : Term) → IsSoundTerm functions root t → Each (term_code root t)
    term_each (constant v) sound = (tt, tt)
    term_each (stored ps) sound = one_of (is_fixed ps) _ _ (tt, tt) (both (parts_code root false root ps) _ (parts_each ps false root sound.1) (tt, tt))
    term_each (of_step is_time name) sound = (tt, tt)
    term_each (unary o a) sound = both (term_code root a) _ (term_each a sound.0) (tt, tt)
    term_each (binary o line a b) sound = both (term_code root a) _ (term_each a sound.0) (both (term_code root b) _ (term_each b sound.1) (tt, tt))
    term_each (selection g a b) sound =
        both (term_code root g) _ (term_each g sound.0) (both (term_code root a) _ (term_each a sound.1) (both (term_code root b) _ (term_each b sound.2) (tt, tt)))
    term_each (call line unit result ts sources) sound =
        (tt, both (terms_code root ts) _ (terms_each ts sound.0) (call_each unit (how_many ts) result (types_in root ts) sources sound.1))

    terms_each : (ts : Terms) → AreSoundTerms functions root ts → Each (terms_code root ts)
    terms_each no_terms sound = tt
    terms_each (more_terms t ts) sound = both (term_code root t) _ (term_each t sound.0) (terms_each ts sound.1)

    parts_each : (ps : Parts) (more : Bool) (c : Composition) → AreSoundParts functions root ps → Each (parts_code root more c ps)
    parts_each whole more c sound = tt
    parts_each (field_part name ps) more c sound = parts_each ps more (selected_by c name) sound
    parts_each (element_part line ts ps) more c sound =
        let ct = terms_code root ts in
        let ci = index_code line (count (element_of c)) (types_in root ts) (subscripts_of c) in
        both (ct ++ (ci ++ added more)) _
        (both ct _ (terms_each ts sound.0) (both ci _ (index_each line (count (element_of c)) (types_in root ts) (subscripts_of c)) (one_of more _ _ (tt, tt) tt)))
        (parts_each ps true (element_of c) sound.1)

  store_each : (e : Elem) (ps : Parts) → AreSoundParts functions root ps → Each (store_code root e ps)
  store_each e ps sound = one_of (is_fixed ps) _ _ (tt, tt) (both (parts_code root false root ps) _ (parts_each ps false root sound) (tt, tt))

  move_each : (ps : Parts) (t : Term) → AreSoundParts functions root ps → IsSoundTerm functions root t → Each (term_code root t ++ store_code root (term_type root t) ps)
  move_each ps t place sound = both (term_code root t) _ (term_each t sound) (store_each (term_type root t) ps place)

  moves_each : (ms : Moves) → AreSoundMoves functions root ms → Each (moves_code root ms)
  moves_each no_moves sound = tt
  moves_each (more_moves ps t more) sound = both (term_code root t ++ store_code root (term_type root t) ps) _ (move_each ps t sound.0.parts sound.1) (moves_each more sound.2)

  -- ---- commands

  labels_each : (e : Elem) (rs : List LabelRange) → Each (labels_code e rs)
  labels_each e [] = tt
  labels_each e (r ∷ rs) = (tt, (tt, (tt, labels_each e rs)))

  branch_each : (condition body rest : List Line) → Each condition → Each body → Each rest → Each (branch_code condition body rest)
  branch_each condition body rest h k more =
      both (condition ++ (plain _ ++ (body ++ plain _))) rest (both condition _ h (tt, both body _ k (tt, tt))) more

  mutual
    command_each : (c : Command) (out end : ℕ) → IsSoundCommand functions root c → Each (command_code root c out end)
    command_each (nothing line) out end h = (tt, tt)
    command_each (assign line ps t) out end h = (tt, move_each ps t h.0.parts h.1)
    command_each (choice line bs others) out end h = (tt, branches_each bs (commands_code root others out end) out end h.0 (commands_each others out end h.1))
    command_each (cases line t cs others) out end h = (
      tt,
      both (term_code root t) _ (term_each t h.0)
          (cases_each (term_type root t) cs _ out end h.1 (tt, commands_each others out end h.2)),
    )
    command_each (count_loop line ps a b c cs) out end h =
        let values = both (term_code root a) _ (term_each a h.0.first) (both (term_code root b) _ (term_each b h.0.last.sound) (term_each c h.0.step.sound)) in (
          tt,
          both (term_code root a ++ (term_code root b ++ term_code root c)) _ values
              (tt, (tt, (tt, both (commands_code root cs 1 (2 + end)) _ (commands_each cs 1 (2 + end) h.1) (tt, (tt, tt))))),
        )
    command_each (while_loop line t cs) out end h =
        (tt, (tt, both (term_code root t) _ (term_each t h.0) (tt, both (commands_code root cs 1 (1 + end)) _ (commands_each cs 1 (1 + end) h.1) (tt, tt))))
    command_each (repeat_loop line cs t) out end h =
        (tt, (tt, both (term_code root t) _ (term_each t h.1) (tt, both (commands_code root cs 1 (1 + end)) _ (commands_each cs 1 (1 + end) h.0) (tt, tt))))
    command_each (invoke line name b inputs outputs) out end h =
        (tt, (tt, both (moves_code root inputs) _ (moves_each inputs h.inputs) (tt, moves_each outputs h.outputs)))
    command_each (enter line name unit body inputs outputs) out end h =
        (tt, (tt, both (moves_code root inputs) _ (moves_each inputs h.0) (tt, moves_each outputs h.2)))
    command_each (exit line) out end h = (tt, (tt, tt))
    command_each (finish line) out end h = (tt, (tt, tt))

    commands_each : (cs : Commands) (out end : ℕ) → AreSoundCommands functions root cs → Each (commands_code root cs out end)
    commands_each no_commands out end h = tt
    commands_each (more_commands c cs) out end h =
        let rest = commands_code root cs out end in
        both (command_code root c (length rest + out) (length rest + end)) rest (command_each c (length rest + out) (length rest + end) h.0) (commands_each cs out end h.1)

    branches_each : (bs : Branches) (others : List Line) (out end : ℕ) → AreSoundBranches functions root bs → Each others
        → Each (branches_code root bs others out end)
    branches_each no_branches others out end h k = k
    branches_each (more_branches t cs bs) others out end h k =
        let rest = branches_code root bs others out end in
        branch_each (term_code root t) (commands_code root cs (1 + length rest + out) (1 + length rest + end)) rest (term_each t h.0)
        (commands_each cs (1 + length rest + out) (1 + length rest + end) h.1) (branches_each bs others out end h.2 k)

    cases_each : (e : Elem) (cs : Cases) (others : List Line) (out end : ℕ) → AreSoundCases functions root e cs → Each others
        → Each (cases_code root e cs others out end)
    cases_each e no_cases others out end h k = k
    cases_each e (more_cases labels cs more) others out end h k =
        let rest = cases_code root e more others out end in
        branch_each (case_test e labels) (plain Drop ++ commands_code root cs (1 + length rest + out) (1 + length rest + end)) rest (tt, labels_each e labels)
        (tt, commands_each cs (1 + length rest + out) (1 + length rest + end) h.1) (cases_each e more others out end h.2 k)

  -- ---- charts

  tests_each : (unit leaf number : ℕ) (ts : Tests) → AreSoundTests functions root ts → Each (tests_code root unit leaf number ts)
  tests_each unit leaf number no_tests h = tt
  tests_each unit leaf number (more_tests line t more) h =
      let ask = plain (Ask unit leaf number) in
      let body = at line Step ++ term_code root t in
      let none = plain (Push (pos 0)) in
      both (branch_code ask body none) (tests_code root unit leaf (1 + number) more) (branch_each ask body none (tt, tt) (tt, term_each t h.0.sound) (tt, tt)) (tests_each unit leaf (1 + number) more h.1)

  variables_each : (names : List (Option (List ℕ))) → Each (variables_code root names)
  variables_each [] = tt
  variables_each (None ∷ names) = variables_each names
  variables_each (Some name ∷ names) = (tt, variables_each names)

  actions_each : (as' : Actions) → AreSoundActions functions root as' → Each (actions_code root as')
  actions_each no_actions h = tt
  actions_each (more_actions cs more) h = (tt, (tt, both (body_code root cs) _ (commands_each cs 0 0 h.0) (actions_each more h.1)))

  body_each : (body : Body) → IsSoundBody functions root body → Each (code_of root body)
  body_each (plain_body cs) h = commands_each cs 0 0 h
  body_each (chart_body unit sketch tests actions) h =
      let leaf = chart_offset root in (
        tt,
        both (tests_code root unit leaf 0 tests) _ (tests_each unit leaf 0 tests h.0.conditions)
            (tt, both (variables_code root sketch.variables) _ (variables_each sketch.variables) (actions_each actions h.1)),
      )

pub code_calls_functions : CodeCallsFunctions
code_calls_functions functions root test body pass h = each_line functions root test pass _ (body_each functions root test pass body h)
