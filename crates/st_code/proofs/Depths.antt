-- Code is at least as long as the stack that it needs.
use Rattle.std.proofs.Common.{◌≡◌, ℕ, ◌+◌, ◌-◌, ◌*◌, ◌≤◌, Bool, true, false, if◌then◌else◌, pos, List, [], ◌∷◌, ◌++◌, length, Option, Some, None, refl, ap, suc, arith, length-append}
use Rattle.std.specs.Prelude.{max}
use Rattle.st_values.specs.declared.elem.Elem.{Elem}
use Rattle.st_values.specs.declared.elem.Elem.TheVariants as elems
use Rattle.st_tree.specs.declared.tree.declaration.Subrange.{Subrange}
use Rattle.st_types.specs.Compositions.{Composition}
use Rattle.st_tree.specs.Literals.{number_of}
use Rattle.st_leaves.specs.Places.{count, extent, extent_of}
use Rattle.st_leaves.specs.Selected.{element_of, selected_by, subscripts_of}
use Rattle.st_meaning.specs.Offsets.{chart_offset, offset_of}
use Rattle.st_meaning.specs.Sound.{is_fixed, term_type, types_in}
use Rattle.st_meaning.specs.Terms.{Source, written, left_out, Term, constant, stored, of_step, unary, binary, selection, call, Terms, no_terms, more_terms, how_many, Parts, whole, field_part, element_part, Command, nothing, assign, choice, cases, count_loop, while_loop, repeat_loop, invoke, enter, exit, finish, Moves, no_moves, more_moves, Commands, no_commands, more_commands, Branches, no_branches, more_branches, Cases, no_cases, more_cases, Tests, no_tests, more_tests, Actions, no_actions, more_actions, count_actions, Body, plain_body, chart_body}
use Rattle.st_code.specs.Code.{Line, actions_code, added, are_in_order, at, base_of, body_code, branch_code, branches_code, call_code, case_test, cases_code, code_of, command_code, commands_code, count_code, index_code, inputs_code, moves_code, parts_code, plain, repeat_code, store_code, term_code, terms_code, tests_code, variables_code, while_code}
use Rattle.st_code.specs.Correct.{DepthIsAtMostTheLength}
use Rattle.st_code.specs.Depth.{actions_depth, body_depth, branches_depth, call_depth, cases_depth, command_depth, commands_depth, count_variables, moves_depth, parts_depth, term_depth, terms_depth, tests_depth}
use Rattle.st_code.specs.declared.instr.Instr.TheVariants.{Push, Get, GetAt, Put, PutAt, IndexBelow, Apply, Combine, Select, Step, GoOn, SkipUnless, SkipIf, GoBack, Drop, Begin, Test, Next, Leave, Invoke, Enter, Call, Ask, Chart, Cut}

-- subscripts leave a distance
index_length : (line size : ℕ) (es : List Elem) (rs : List Subrange) → 1 ≤ length (index_code line size es rs)
index_length line size [] [] = omega arith
index_length line size [] (r ∷ rs) = omega arith
index_length line size (e ∷ es) [] = omega arith
index_length line size (e ∷ es) (r ∷ []) = omega arith
index_length line size (e ∷ es) (r ∷ q ∷ rs) =
    let code = index_code line size es (q ∷ rs) in
    let last = at line (IndexBelow e (extent_of r - 1) (extent (q ∷ rs) * size) (number_of r.lower)) in
    omega (arith, length-append code last)

-- a place that is found without subscripts needs no stack
fixed_depth : (ps : Parts) → is_fixed ps ≡ true → parts_depth ps ≡ 0
fixed_depth whole h = refl
fixed_depth (field_part name ps) h = fixed_depth ps h
fixed_depth (element_part line ts ps) h = absurd (cc)

-- a place, or what is got from it or stored there
placed_depth : (ps : Parts) (fixed : Bool) (access : List Line) (code last : List Line) → is_fixed ps ≡ fixed → length access ≡ 1 → length last ≡ 1
    → parts_depth ps ≤ 1 + length code
    → max 1 (parts_depth ps) ≤ length (if fixed then access else (code ++ last))
placed_depth ps true access code last e h g d = omega (arith, h, fixed_depth ps e)
placed_depth ps false access code last e h g d = omega (arith, g, d, length-append code last)

call_positive : (n : ℕ) (sources : List Source) → 1 ≤ call_depth n sources
call_positive n sources = by (are_in_order n 0 sources) where
  by : (b : Bool) → 1 ≤ (if b then 1 else (1 + n + length sources))
  by true = omega arith
  by false = omega arith

inputs_length : (n j : ℕ) (sources : List Source) → length (inputs_code n j sources) ≡ length sources
inputs_length n j [] = refl
inputs_length n j (written place ∷ ss) = ap suc (inputs_length n (1 + j) ss)
inputs_length n j (left_out v ∷ ss) = ap suc (inputs_length n (1 + j) ss)

-- behind as many lines as there are arguments, and a step
function_length : (unit n : ℕ) (sources : List Source) → call_depth n sources ≤ 1 + n + length (call_code unit n sources)
function_length unit n sources = by (are_in_order n 0 sources) where
  by : (b : Bool) → (if b then 1 else (1 + n + length sources)) ≤ 1 + n + length (if b then plain (Call unit n 0) else (inputs_code n 0 sources ++ plain (Call unit (length sources) n)))
  by true = omega arith
  by false = omega (arith, inputs_length n 0 sources, length-append (inputs_code n 0 sources) (plain (Call unit (length sources) n)))

-- the value of a term stands on the stack
depth_positive : (t : Term) → 1 ≤ term_depth t
depth_positive (constant v) = omega arith
depth_positive (stored ps) = omega arith
depth_positive (of_step is_time name) = omega arith
depth_positive (unary o a) = depth_positive a
depth_positive (binary o line a b) = omega (arith, depth_positive a)
depth_positive (selection g a b) = omega (arith, depth_positive g)
depth_positive (call line unit result ts sources) = omega (arith, call_positive (how_many ts) sources)

module _ (root : Composition) where
  mutual
    term_length : (t : Term) → term_depth t ≤ length (term_code root t)
    term_length (constant v) = omega arith
    term_length (stored ps) =
        placed_depth ps (is_fixed ps) (plain (Get (base_of root ps))) (parts_code root false root ps) (plain (GetAt (base_of root ps))) refl refl refl (parts_length ps false root)
    term_length (of_step is_time name) = omega arith
    term_length (unary o a) = omega (arith, term_length a, length-append (term_code root a) (plain (Apply o (term_type root a))))
    term_length (binary o line a b) =
        let ca = term_code root a in let cb = term_code root b in let last = at line (Combine o (term_type root a) (term_type root b)) in
        omega (arith, term_length a, term_length b, depth_positive a, length-append ca (cb ++ last), length-append cb last)
    term_length (selection g a b) =
        let cg = term_code root g in let ca = term_code root a in let cb = term_code root b in
        omega (arith, term_length g, term_length a, term_length b, depth_positive g, depth_positive a, length-append cg (ca ++ (cb ++ plain Select)), length-append ca (cb ++ plain Select), length-append cb (plain Select))
    term_length (call line unit result ts sources) =
        let ct = terms_code root ts in let cs = call_code unit (how_many ts) sources in
        omega (arith, terms_length ts, each_length ts, function_length unit (how_many ts) sources, length-append ct cs)

    -- each term has a line
    each_length : (ts : Terms) → how_many ts ≤ length (terms_code root ts)
    each_length no_terms = omega arith
    each_length (more_terms t ts) = omega (arith, term_length t, depth_positive t, each_length ts, length-append (term_code root t) (terms_code root ts))

    terms_length : (ts : Terms) → terms_depth ts ≤ length (terms_code root ts)
    terms_length no_terms = omega arith
    terms_length (more_terms t ts) = omega (arith, term_length t, depth_positive t, terms_length ts, length-append (term_code root t) (terms_code root ts))

    parts_length : (ps : Parts) (more : Bool) (c : Composition) → parts_depth ps ≤ 1 + length (parts_code root more c ps)
    parts_length whole more c = omega arith
    parts_length (field_part name ps) more c = parts_length ps more (selected_by c name)
    parts_length (element_part line ts ps) more c =
        let ct = terms_code root ts in let ci = index_code line (count (element_of c)) (types_in root ts) (subscripts_of c) in
        let rest = parts_code root true (element_of c) ps in
        omega (arith, terms_length ts, index_length line (count (element_of c)) (types_in root ts) (subscripts_of c), parts_length ps true (element_of c), length-append (ct ++ (ci ++ added more)) rest, length-append ct (ci ++ added more), length-append ci (added more))

  store_length : (e : Elem) (ps : Parts) → max 1 (parts_depth ps) ≤ length (store_code root e ps)
  store_length e ps = placed_depth ps (is_fixed ps) (plain (Put e (base_of root ps))) (parts_code root false root ps) (plain (PutAt e (base_of root ps))) refl refl refl (parts_length ps false root)

  -- a value, and a store of it
  move_length : (ps : Parts) (t : Term) → max (term_depth t) (1 + parts_depth ps) ≤ length (term_code root t ++ store_code root (term_type root t) ps)
  move_length ps t =
      let ct = term_code root t in let cs = store_code root (term_type root t) ps in
      omega (arith, term_length t, depth_positive t, store_length (term_type root t) ps, length-append ct cs)

  moves_length : (ms : Moves) → moves_depth ms ≤ length (moves_code root ms)
  moves_length no_moves = omega arith
  moves_length (more_moves ps t more) =
      omega (arith, move_length ps t, moves_length more, length-append (term_code root t ++ store_code root (term_type root t) ps) (moves_code root more))

  -- inputs, an invocation, and outputs
  call_length : (inputs outputs : Moves) (entry : List Line)
      → max (moves_depth inputs) (moves_depth outputs) ≤ length (moves_code root inputs ++ (entry ++ moves_code root outputs)) + 2
  call_length inputs outputs entry =
      let ci = moves_code root inputs in let co = moves_code root outputs in
      omega (arith, moves_length inputs, moves_length outputs, length-append ci (entry ++ co), length-append entry co)

  branch_length : (test body rest : List Line) → length (branch_code test body rest) ≡ length test + length body + length rest + 2
  branch_length test body rest =
      let jump = plain (GoOn (length rest)) in let tail = plain (SkipUnless (length body + 1)) ++ (body ++ jump) in
      omega (arith, length-append (test ++ tail) rest, length-append test tail, length-append body jump)

  while_length : (line : ℕ) (test body : List Line) → length (while_code line test body) ≡ length test + length body + 3
  while_length line test body =
      let back = at line (GoBack (length test + 1 + length body)) in let tail = plain (SkipUnless (length body + 1)) ++ (body ++ back) in
      omega (arith, length-append test tail, length-append body back)

  repeat_length : (line : ℕ) (body test : List Line) → length (repeat_code line body test) ≡ length test + length body + 3
  repeat_length line body test =
      let back = at line (GoBack (length test + 1 + length body)) in let tail = plain (SkipIf (length body + 1)) ++ (body ++ back) in
      omega (arith, length-append test tail, length-append body back)

  count_length : (line : ℕ) (e : Elem) (leaf : ℕ) (values body : List Line) → length (count_code line e leaf values body) ≡ length values + length body + 5
  count_length line e leaf values body =
      let last = at line (Next e leaf (length body)) ++ plain Leave in
      let tail = plain (Begin e leaf) ++ (at line Step ++ (plain (Test e leaf (length body + 1)) ++ (body ++ last))) in
      omega (arith, length-append values tail, length-append body last)

  mutual
    command_length : (c : Command) (out end : ℕ) → command_depth c ≤ length (command_code root c out end)
    command_length (nothing line) out end = omega arith
    command_length (assign line ps t) out end = omega (arith, move_length ps t)
    command_length (choice line bs others) out end =
        let co = commands_code root others out end in
        omega (arith, branches_length bs co out end, commands_length others out end)
    command_length (cases line t cs others) out end =
        let co = plain Drop ++ commands_code root others out end in let cc' = cases_code root (term_type root t) cs co out end in
        omega (arith, term_length t, cases_length (term_type root t) cs co out end, commands_length others out end, length-append (term_code root t) cc')
    command_length (count_loop line ps a b c cs) out end =
        let ca = term_code root a in let cb = term_code root b in let cv = term_code root c in
        omega (
          arith,
          term_length a,
          term_length b,
          term_length c,
          depth_positive a,
          depth_positive b,
          depth_positive c,
          commands_length cs 1 (2 + end),
          length-append ca (cb ++ cv),
          length-append cb cv,
          count_length line (term_type root a) (base_of root ps) (ca ++ (cb ++ cv)) (commands_code root cs 1 (2 + end)),
        )
    command_length (while_loop line t cs) out end =
        omega (arith, term_length t, commands_length cs 1 (1 + end), while_length line (term_code root t) (commands_code root cs 1 (1 + end)))
    command_length (repeat_loop line cs t) out end =
        omega (arith, term_length t, commands_length cs 1 (1 + end), repeat_length line (commands_code root cs 1 (1 + end)) (term_code root t))
    command_length (invoke line name b inputs outputs) out end =
        omega (arith, call_length inputs outputs (plain (Invoke b (offset_of root name))))
    command_length (enter line name unit body inputs outputs) out end =
        omega (arith, call_length inputs outputs (plain (Enter (offset_of root name) unit)))
    command_length (exit line) out end = omega arith
    command_length (finish line) out end = omega arith

    commands_length : (cs : Commands) (out end : ℕ) → commands_depth cs ≤ length (commands_code root cs out end)
    commands_length no_commands out end = omega arith
    commands_length (more_commands c cs) out end =
        let rest = commands_code root cs out end in let first = command_code root c (length rest + out) (length rest + end) in
        omega (arith, command_length c (length rest + out) (length rest + end), commands_length cs out end, length-append first rest)

    -- what comes after the branches is part of the code
    branches_length : (bs : Branches) (others : List Line) (out end : ℕ) → max (branches_depth bs) (length others) ≤ length (branches_code root bs others out end)
    branches_length no_branches others out end = omega arith
    branches_length (more_branches t cs bs) others out end =
        let rest = branches_code root bs others out end in
        omega (arith, term_length t, commands_length cs (1 + length rest + out) (1 + length rest + end), branches_length bs others out end, branch_length (term_code root t) (commands_code root cs (1 + length rest + out) (1 + length rest + end)) rest)

    cases_length : (e : Elem) (cs : Cases) (others : List Line) (out end : ℕ) → max (cases_depth cs) (length others) ≤ length (cases_code root e cs others out end)
    cases_length e no_cases others out end = omega arith
    cases_length e (more_cases labels cs more) others out end =
        let rest = cases_code root e more others out end in
        let body = commands_code root cs (1 + length rest + out) (1 + length rest + end) in
        omega (arith, commands_length cs (1 + length rest + out) (1 + length rest + end), cases_length e more others out end, branch_length (case_test e labels) (plain Drop ++ body) rest)

  -- ---- charts

  -- each condition has lines for a cell, and for the cells below it
  tests_length : (unit leaf number : ℕ) (ts : Tests) → tests_depth ts ≤ length (tests_code root unit leaf number ts)
  tests_length unit leaf number no_tests = omega arith
  tests_length unit leaf number (more_tests line t more) =
      let ask = plain (Ask unit leaf number) in let body = at line Step ++ term_code root t in let none = plain (Push (pos 0)) in
      let rest = tests_code root unit leaf (1 + number) more in
      omega (arith, term_length t, tests_length unit leaf (1 + number) more, branch_length ask body none, length-append (branch_code ask body none) rest)

  variables_length : (names : List (Option (List ℕ))) → count_variables names ≤ length (variables_code root names)
  variables_length [] = omega arith
  variables_length (None ∷ names) = variables_length names
  variables_length (Some name ∷ names) =
      let put = store_code root elems.Bool (field_part name whole) in
      omega (arith, variables_length names, length-append put (variables_code root names))

  -- each action has a line
  each_action : (as' : Actions) → count_actions as' ≤ length (actions_code root as')
  each_action no_actions = omega arith
  each_action (more_actions cs more) =
      let body = body_code root cs in
      let one = plain (Cut (1 + count_actions more)) ++ (plain (SkipUnless (length body)) ++ body) in
      omega (arith, each_action more, length-append one (actions_code root more))

  actions_length : (as' : Actions) → actions_depth as' ≤ length (actions_code root as')
  actions_length no_actions = omega arith
  actions_length (more_actions cs more) =
      let body = body_code root cs in
      let one = plain (Cut (1 + count_actions more)) ++ (plain (SkipUnless (length body)) ++ body) in
      omega (arith, each_action more, commands_length cs 0 0, actions_length more, length-append one (actions_code root more))

  body_length : (body : Body) → body_depth body ≤ length (code_of root body)
  body_length (plain_body cs) = commands_length cs 0 0
  body_length (chart_body unit sketch tests actions) =
      let leaf = chart_offset root in
      let ct = tests_code root unit leaf 0 tests in let cv = variables_code root sketch.variables in let ca = actions_code root actions in
      omega (
        arith,
        tests_length unit leaf 0 tests,
        variables_length sketch.variables,
        each_action actions,
        actions_length actions,
        length-append ct (plain (Chart unit leaf) ++ (cv ++ ca)),
        length-append cv ca,
      )

pub depth_is_at_most_the_length : DepthIsAtMostTheLength
depth_is_at_most_the_length root body = body_length root body
