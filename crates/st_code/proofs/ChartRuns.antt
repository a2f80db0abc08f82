-- The code of charts, and of bodies: it does as they mean.
use Rattle.std.proofs.Common.{◌≡◌, ℕ, zero, suc, ◌+◌, ◌-◌, ◌<◌, ◌≤◌, ◌&&◌, Bool, true, false, if◌then◌else◌, nat_le, ℤ, pos, List, [], ◌∷◌, ◌++◌, drop, length, map, get_or, reverse, take, Option, Some, None, refl, sym, ap, ◌∙◌, subst, arith, length-append}
use Rattle.std.specs.Prelude.{slice_get}
use Rattle.std.proofs.Math.Seq.{drop-append_seam, take-append_seam}
use Rattle.std.proofs.lemmas.Bool.{le-leb}
use Rattle.std.proofs.lemmas.List.{append-nil, length-map, length-reverse, map-append, reverse-append, reverse-reverse}
use Rattle.st_values.specs.declared.elem.Elem.TheVariants as elems
use Rattle.st_values.specs.declared.value.Value.{Value}
use Rattle.st_values.specs.Values.{truth}
use Rattle.st_leaves.specs.Paths.{field}
use Rattle.st_operators.specs.Laws.{IsOf}
use Rattle.st_meaning.specs.Charts.{actions_on, is_asked, names_on, names_stored, variables_on}
use Rattle.st_meaning.specs.Laws.{PlacesHaveLeaves, PlacesTakeSteps, StaysInFrame, TermsGiveValues}
use Rattle.st_meaning.specs.Meaning.{Values, stored_at, value_of}
use Rattle.st_meaning.specs.Offsets.{chart_offset}
use Rattle.st_meaning.specs.Operations.{Answer, gives, stops, then_with, with_step}
use Rattle.st_meaning.specs.Sketches.{Sketch, chart_types}
use Rattle.st_meaning.specs.Sound.{AreBoolVariables, AreSoundActions, AreSoundTests, AreValuesOf, HasChartLeaves, IsSoundBody, IsTermOf}
use Rattle.st_meaning.specs.Statements.{Outcome, done, exited, returned, faulted, actions_meaning, body_meaning, chart_done, chart_part, commands_meaning, condition_value, conditions_meaning, ended, given, is_nonzero, is_true, then_do, times_done}
use Rattle.st_meaning.specs.Terms.{Term, whole, field_part, Tests, no_tests, more_tests, count_tests, Actions, no_actions, more_actions, count_actions, Body, plain_body, chart_body, Commands}
use Rattle.st_meaning.proofs.ChartFrames.{chart_typed, done_keeps, names_keep, times_keep}
use Rattle.st_meaning.proofs.Commands.{commands_keep_the_frame}
use Rattle.st_meaning.proofs.Giving.{given_in, same_given}
use Rattle.st_code.specs.Code.{actions_code, at, body_code, branch_code, cell_of, code_of, plain, store_code, term_code, tests_code, variables_code}
use Rattle.st_code.specs.Correct.{CodeDoesAsCommandsMean, HasItsChart}
use Rattle.st_code.specs.Depth.{actions_depth, body_depth, count_variables, tests_depth}
use Rattle.st_code.specs.Invocations.{ActionsInvoke, BodyInvokes, IsInvokedAs}
use Rattle.st_code.specs.Machine.{State, charted, goes, has_chart, put, state, stuck, truth_of}
use Rattle.st_code.specs.declared.instr.Instr.TheVariants.{Push, Step, GoOn, SkipUnless, Times, Ask, Chart, Cut}
use Rattle.st_code.proofs.Calls.{turned_front}
use Rattle.st_code.proofs.Cells.{nonzero_cell}
use Rattle.st_code.proofs.Expressions.{term_runs}
use Rattle.st_code.proofs.Moves.{are_typed}
use Rattle.st_code.proofs.Runs.{Runs, fixed_put_run}
use Rattle.st_code.proofs.Statements.{body_ends, commands_run, past_end}
use Rattle.st_code.proofs.Steps.{Ends, HasAt, Leads, TermRuns, World, all_three, called, halt, has_all, has_back, has_front, if_below, if_true, leads_on, line_of, stays, step}

-- ---- lists

-- a BOOL as a cell
truth_cell : (b : Bool) → cell_of (truth b).bits ≡ truth_of b
truth_cell true = refl
truth_cell false = refl

truth_value : (b : Bool) → IsOf elems.Bool (truth b)
truth_value true = record { in_range = refl; of_type = refl }
truth_value false = record { in_range = refl; of_type = refl }

variables_count : (names : List (Option (List ℕ))) (on : List Bool) → length (variables_on names on) ≡ count_variables names
variables_count [] on = refl
variables_count (None ∷ names) on = variables_count names (drop 1 on)
variables_count (Some name ∷ names) on = let e = variables_count names (drop 1 on) in omega (arith, e)

pub map_reversed : (cells : List ℤ) → map is_nonzero (reverse cells) ≡ reverse (map is_nonzero cells)
map_reversed [] = refl
map_reversed (c ∷ cells) =
    ap (λ cs. map is_nonzero cs) (reverse-append (c ∷ []) cells) ∙ map-append is_nonzero (reverse cells) (c ∷ []) ∙ ap (λ bs. bs ++ (is_nonzero c ∷ [])) (map_reversed cells)
    ∙ sym (reverse-append (is_nonzero c ∷ []) (map is_nonzero cells))

-- conditions whose cells stand on the stack, the last one on top
top_conditions : (cells : List ℤ) (bs : List Bool) (count : ℕ) → map is_nonzero cells ≡ bs → length cells ≡ count → reverse (map is_nonzero (take count (reverse cells ++ []))) ≡ bs
top_conditions cells bs count h e =
    ap (λ n. reverse (map is_nonzero (take n (reverse cells ++ [])))) (sym (length-reverse cells ∙ e))
    ∙ ap (λ cs. reverse (map is_nonzero cs)) (take-append_seam (reverse cells) []) ∙ ap (λ cs. reverse cs) (map_reversed cells) ∙ reverse-reverse (map is_nonzero cells) ∙ h

-- so many of the lowest cells
lowest : (cells rest : List ℤ) (count : ℕ) → length rest ≡ count → drop (length (cells ++ rest) - count) (cells ++ rest) ≡ rest
lowest cells rest count e =
    let n : length (cells ++ rest) - count ≡ length cells = omega (arith, length-append cells rest, e) in
    ap (λ m. drop m (cells ++ rest)) n ∙ drop-append_seam cells rest

module _ (w : World) where
  abbrev calls_alike : Commands → Values → ℕ → Outcome
  calls_alike cs = commands_meaning (called w) w.root w.env.setting cs

  -- ---- conditions

  -- what the code of a condition does: it leaves a cell that says whether the condition is TRUE, or ends at the fault
  abbrev TestGoes : State → ℕ → List ℤ → Values → ℕ → Answer Bool → Type 0
  TestGoes s pc stack values left (gives b n) = (cell : ℤ) × (is_nonzero cell ≡ b) × (n ≤ left) × Leads w s (state pc (cell ∷ stack) values n)
  TestGoes s pc stack values left (stops f) = Ends w (faulted f) s

  -- and of several: their cells in their order
  abbrev TestsGo : State → ℕ → List ℤ → Values → ℕ → Answer (List Bool) → Type 0
  TestsGo s pc stack values left (gives bs n) = (cells : List ℤ) × (map is_nonzero cells ≡ bs) × (n ≤ left) × Leads w s (state pc (reverse cells ++ stack) values n)
  TestsGo s pc stack values left (stops f) = Ends w (faulted f) s

  -- what follows the term
  tested : (t : Term) (s : State) (pc pc' : ℕ) (stack : List ℤ) (values : Values) (left : ℕ) (a : Answer Value) → TermRuns w s pc elems.Bool stack values left a
      → slice_get w.code pc ≡ Some (line_of 0 (GoOn 1)) → pc + 1 + 1 ≡ pc' → TestGoes s pc' stack values left (then_with a (λ v m. gives (is_true v) m))
  tested t s pc pc' stack values left (stops f) r h e = r
  tested t s pc pc' stack values left (gives v n) r h e = (
    cell_of v.bits,
    nonzero_cell elems.Bool v r.0.value,
    r.0.steps,
    leads_on w s (state pc (cell_of v.bits ∷ stack) values n) _ r.1 (step w (GoOn 1) 0 pc (cell_of v.bits ∷ stack) values n _ h (ap (λ p. goes (state p (cell_of v.bits ∷ stack) values n)) e)),
  )

  test_after : (s t : State) (pc : ℕ) (stack : List ℤ) (values : Values) (left less : ℕ) (a : Answer Bool) → Leads w s t → less ≤ left → TestGoes t pc stack values less a
      → TestGoes s pc stack values left a
  test_after s t pc stack values left less (gives b n) l le r = (r.0, r.1, omega (arith, r.2, le), leads_on w s t _ l r.3)
  test_after s t pc stack values left less (stops f) l le r = l.by (faulted f) r

  stepped_test : (line pc pc' : ℕ) (stack : List ℤ) (values : Values) (left : ℕ) (go : ℕ → Answer Bool) → slice_get w.code pc ≡ Some (line_of line Step)
      → ((n : ℕ) → TestGoes (state (pc + 1) stack values n) pc' stack values n (go n)) → TestGoes (state pc stack values left) pc' stack values left (with_step line left go)
  stepped_test line pc pc' stack values zero go h r = halt w Step line pc stack values zero _ h refl
  stepped_test line pc pc' stack values (suc n) go h r =
      test_after (state pc stack values (suc n)) (state (pc + 1) stack values n) pc' stack values (suc n) n (go n) (step w Step line pc stack values (suc n) _ h refl) (omega arith) (r n)

  module _ (unit : ℕ) (sketch : Sketch) (is : w.env.charts unit ≡ sketch) (leaves : HasChartLeaves w.root sketch) where
    abbrev leaf : ℕ
    leaf = chart_offset w.root

    there : (values : Values) → AreValuesOf w.root values → has_chart values sketch leaf ≡ true
    there values ok = are_typed (chart_types sketch) (chart_part w.root sketch values) (chart_typed w.root sketch leaves w.env.setting w.moment values ok)

    abbrev asked : Values → ℕ → Bool
    asked values = is_asked sketch (chart_part w.root sketch values)

    -- whether it is asked is put on the stack
    ask_run : (number pc : ℕ) (stack : List ℤ) (values : Values) (left : ℕ) → slice_get w.code pc ≡ Some (line_of 0 (Ask unit leaf number)) → length stack < w.room
        → AreValuesOf w.root values → Leads w (state pc stack values left) (state (pc + 1) (truth_of (asked values number) ∷ stack) values left)
    ask_run number pc stack values left h room ok =
        let puts_so : Sketch → ℤ = (λ sk. truth_of (is_asked sk (chart_part w.root sk values) number)) in
        step w (Ask unit leaf number) 0 pc stack values left _ h
        (ap (λ sk. if has_chart values sk leaf then put w.room pc (puts_so sk) stack values left else stuck) is
        ∙ if_true (has_chart values sketch leaf) (put w.room pc (puts_so sketch) stack values left) stuck (there values ok)
        ∙ if_below (length stack) w.room (goes (state (pc + 1) (puts_so sketch ∷ stack) values left)) stuck room)

    -- where it is, the condition follows
    chosen_run : (b : Bool) (line pc pc' : ℕ) (t : Term) (stack : List ℤ) (values : Values) (left : ℕ) → IsTermOf w.functions w.root elems.Bool t
        → slice_get w.code pc ≡ Some (line_of 0 (SkipUnless (length (at line Step ++ term_code w.root t) + 1)))
        → HasAt w.code (pc + 1) (at line Step ++ term_code w.root t)
        → slice_get w.code (pc + 1 + length (at line Step ++ term_code w.root t)) ≡ Some (line_of 0 (GoOn 1))
        → slice_get w.code (pc + 1 + (length (at line Step ++ term_code w.root t) + 1)) ≡ Some (line_of 0 (Push (pos 0)))
        → pc + 1 + (length (at line Step ++ term_code w.root t) + 1) + 1 ≡ pc' → length stack + tests_depth (more_tests line t no_tests) ≤ w.room → AreValuesOf w.root values
        → TestGoes (state pc (truth_of b ∷ stack) values left) pc' stack values left (condition_value (called w) w.root values b line t left)
    chosen_run true line pc pc' t stack values left sound at_skip at_step at_jump at_none e room ok =
        let ct = term_code w.root t in
        let q = pc + 1 + 1 + length ct in
        let here : pc + 1 + length (at line Step ++ ct) ≡ q = omega arith in
        let jump = subst (λ p. slice_get w.code p ≡ Some (line_of 0 (GoOn 1))) here at_jump in
        let past : q + 1 + 1 ≡ pc' = omega (arith, e) in
        test_after (state pc (truth_of true ∷ stack) values left) (state (pc + 1) stack values left) pc' stack values left left (condition_value (called w) w.root values true line t left)
        (step w (SkipUnless _) 0 pc (truth_of true ∷ stack) values left _ at_skip refl) (omega arith)
        (stepped_test line (pc + 1) pc' stack values left (λ n. then_with (value_of (called w) w.root values t n) (λ v m. gives (is_true v) m)) at_step.0
        (λ n. tested t (state (pc + 1 + 1) stack values n) q pc' stack values n (value_of (called w) w.root values t n)
        (subst (λ d. TermRuns w (state (pc + 1 + 1) stack values n) q d stack values n (value_of (called w) w.root values t n)) sound.type
        (term_runs w t (pc + 1 + 1) stack at_step.1 sound.sound (omega (arith, room)) values n ok)) jump past))
    chosen_run false line pc pc' t stack values left sound at_skip at_step at_jump at_none e room ok =
        let q = pc + 1 + (length (at line Step ++ term_code w.root t) + 1) in (
          pos 0,
          refl,
          omega arith,
          leads_on w (state pc (truth_of false ∷ stack) values left) (state q stack values left) _ (step w (SkipUnless _) 0 pc (truth_of false ∷ stack) values left _ at_skip refl)
              (step w (Push (pos 0)) 0 q stack values left _ at_none
              (if_below (length stack) w.room (goes (state (q + 1) (pos 0 ∷ stack) values left)) stuck (omega (arith, room)) ∙ ap (λ p. goes (state p (pos 0 ∷ stack) values left)) e)),
        )

    test_run : (line number pc : ℕ) (t : Term) (stack : List ℤ) (values : Values) (left : ℕ)
        → HasAt w.code pc (branch_code (plain (Ask unit leaf number)) (at line Step ++ term_code w.root t) (plain (Push (pos 0)))) → IsTermOf w.functions w.root elems.Bool t
        → length stack + tests_depth (more_tests line t no_tests) ≤ w.room → AreValuesOf w.root values
        → TestGoes (state pc stack values left) (pc + length (branch_code (plain (Ask unit leaf number)) (at line Step ++ term_code w.root t) (plain (Push (pos 0))))) stack values left
        (condition_value (called w) w.root values (asked values number) line t left)
    test_run line number pc t stack values left has sound room ok =
        let body = at line Step ++ term_code w.root t in
        let jump = plain (GoOn 1) in
        let none = plain (Push (pos 0)) in
        let head = plain (Ask unit leaf number) ++ (plain (SkipUnless (length body + 1)) ++ (body ++ jump)) in
        let at_head = has_front w.code pc head none has in
        let at_body = at_head.1.1 in
        let q = pc + 1 + 1 in
        let lh : pc + length head ≡ q + (length body + 1) = omega (arith, length-append body jump) in
        let at_none = subst (λ p. HasAt w.code p none) lh (has_back w.code pc head none has) in
        let finish : q + (length body + 1) + 1 ≡ pc + length (head ++ none) = omega (arith, length-append head none, length-append body jump) in
        test_after (state pc stack values left) (state (pc + 1) (truth_of (asked values number) ∷ stack) values left) _ stack values left left
        (condition_value (called w) w.root values (asked values number) line t left)
        (ask_run number pc stack values left at_head.0 (omega (arith, room)) ok) (omega arith)
        (chosen_run (asked values number) line (pc + 1) _ t stack values left sound at_head.1.0 (has_front w.code q body jump at_body) (has_back w.code q body jump at_body).0 at_none.0 finish room ok)

    -- one condition after the other
    rest_go : (s : State) (pc : ℕ) (cell : ℤ) (b : Bool) (stack : List ℤ) (values : Values) (left less : ℕ) (a : Answer (List Bool)) → is_nonzero cell ≡ b → less ≤ left
        → Leads w s (state pc (cell ∷ stack) values less) → (pc' : ℕ) → TestsGo (state pc (cell ∷ stack) values less) pc' (cell ∷ stack) values less a
        → TestsGo s pc' stack values left (then_with a (λ bs m. gives (b ∷ bs) m))
    rest_go s pc cell b stack values left less (stops f) e le l pc' r = l.by (faulted f) r
    rest_go s pc cell b stack values left less (gives bs m) e le l pc' r = (
      cell ∷ r.0,
      ap (λ c. c ∷ map is_nonzero r.0) e ∙ ap (λ cs. b ∷ cs) r.1,
      omega (arith, r.2, le),
      subst (λ cells. Leads w s (state pc' cells values m)) (sym (turned_front cell r.0 stack)) (leads_on w s (state pc (cell ∷ stack) values less) _ l r.3),
    )

    more_go : (s : State) (pc pc' : ℕ) (stack : List ℤ) (values : Values) (left : ℕ) (a : Answer Bool) (rest : ℕ → Answer (List Bool)) → TestGoes s pc stack values left a
        → ((cell : ℤ) (n : ℕ) → TestsGo (state pc (cell ∷ stack) values n) pc' (cell ∷ stack) values n (rest n))
        → TestsGo s pc' stack values left (then_with a (λ b n. then_with (rest n) (λ bs m. gives (b ∷ bs) m)))
    more_go s pc pc' stack values left (stops f) rest r rr = r
    more_go s pc pc' stack values left (gives b n) rest r rr = rest_go s pc r.0 b stack values left n (rest n) r.1 r.2 r.3 pc' (rr r.0 n)

    tests_run : (ts : Tests) (number pc : ℕ) (stack : List ℤ) → HasAt w.code pc (tests_code w.root unit leaf number ts) → AreSoundTests w.functions w.root ts
        → length stack + tests_depth ts ≤ w.room → (values : Values) (left : ℕ) → AreValuesOf w.root values
        → TestsGo (state pc stack values left) (pc + length (tests_code w.root unit leaf number ts)) stack values left
        (conditions_meaning (called w) w.root values (asked values) number ts left)
    tests_run no_tests number pc stack has sound room values left ok =
        let e : pc ≡ pc + 0 = omega arith in ([], refl, omega arith, stays w _ _ (ap (λ p. state p stack values left) e))
    tests_run (more_tests line t more) number pc stack has sound room values left ok =
        let one = branch_code (plain (Ask unit leaf number)) (at line Step ++ term_code w.root t) (plain (Push (pos 0))) in
        let rest = tests_code w.root unit leaf (suc number) more in
        let next : tests_code w.root unit leaf (1 + number) more ≡ rest = ap (λ n. tests_code w.root unit leaf n more) (let q : 1 + number ≡ suc number = omega arith in q) in
        let has' = subst (λ c. HasAt w.code pc (one ++ c)) next has in
        let len : pc + length one + length rest ≡ pc + length (one ++ tests_code w.root unit leaf (1 + number) more) = omega (arith, length-append one (tests_code w.root unit leaf (1 + number) more), ap (λ c. length c) next) in
        subst (λ p. TestsGo (state pc stack values left) p stack values left (conditions_meaning (called w) w.root values (asked values) number (more_tests line t more) left)) len
        (more_go (state pc stack values left) (pc + length one) (pc + length one + length rest) stack values left (condition_value (called w) w.root values (asked values number) line t left)
        (λ n. conditions_meaning (called w) w.root values (asked values) (suc number) more n)
        (test_run line number pc t stack values left (has_front w.code pc one rest has') sound.0 (omega (arith, room)) ok)
        (λ cell n. tests_run more (suc number) (pc + length one) (cell ∷ stack) (has_back w.code pc one rest has') sound.1 (omega (arith, room)) values n ok))

    -- ---- times, and what follows of the conditions

    times_run : (pc : ℕ) (stack : List ℤ) (values : Values) (left : ℕ) → slice_get w.code pc ≡ Some (line_of 0 (Times unit leaf)) → AreValuesOf w.root values
        → Leads w (state pc stack values left) (state (pc + 1) stack (times_done w.env.setting sketch leaf values) left)
    times_run pc stack values left h ok =
        step w (Times unit leaf) 0 pc stack values left _ h
        (ap (λ sk. if has_chart values sk leaf then goes (state (pc + 1) stack (times_done w.env.setting sk leaf values) left) else stuck) is
        ∙ if_true (has_chart values sketch leaf) (goes (state (pc + 1) stack (times_done w.env.setting sketch leaf values) left)) stuck (there values ok))

    -- which names are on, as cells
    abbrev named : List Bool → List ℤ
    named on = map truth_of (variables_on sketch.variables on) ++ (map truth_of (actions_on sketch on) ++ [])

    named_length : (on : List Bool) → length (named on) ≡ count_variables sketch.variables + length sketch.actions
    named_length on = omega (
      arith,
      length-append (map truth_of (variables_on sketch.variables on)) (map truth_of (actions_on sketch on) ++ []),
      length-append (map truth_of (actions_on sketch on)) [],
      length-map (variables_on sketch.variables on) truth_of,
      variables_count sketch.variables on,
      length-map (actions_on sketch on) truth_of,
      length-map sketch.actions (λ n. get_or on n false),
    )

    charted_run : (pc : ℕ) (cells : List ℤ) (bs : List Bool) (values : Values) (left : ℕ) → slice_get w.code pc ≡ Some (line_of 0 (Chart unit leaf)) → AreValuesOf w.root values
        → map is_nonzero cells ≡ bs → length sketch.passages ≡ length cells → count_variables sketch.variables + length sketch.actions ≤ w.room
        → Leads w (state pc (reverse cells ++ []) values left)
        (state (pc + 1) (named (names_on sketch bs w.env.setting.now (chart_part w.root sketch values))) (chart_done w.env.setting sketch leaf bs values) left)
    charted_run pc cells bs values left h ok e many room =
        let stack = reverse cells ++ [] in
        let count = length sketch.passages in
        let conditions = reverse (map is_nonzero (take count stack)) in
        let same : conditions ≡ bs = top_conditions cells bs count e (sym many) in
        let on : List Bool → List Bool = (λ cs. names_on sketch cs w.env.setting.now (chart_part w.root sketch values)) in
        let below : drop count stack ≡ [] = ap (λ n. drop n stack) (many ∙ sym (length-reverse cells)) ∙ drop-append_seam (reverse cells) [] in
        let tall : length stack ≡ length cells = omega (arith, length-append (reverse cells) [], length-reverse cells) in
        let enough : nat_le count (length stack) ≡ true = le-leb count (length stack) (omega (arith, many, tall)) in
        let fits : nat_le (length (named (on conditions))) w.room ≡ true = le-leb (length (named (on conditions))) w.room (omega (arith, named_length (on conditions), room)) in
        let made : List ℤ → List Bool → State = (λ rest cs.
        state (pc + 1) (map truth_of (variables_on sketch.variables (on cs)) ++ (map truth_of (actions_on sketch (on cs)) ++ rest)) (chart_done w.env.setting sketch leaf cs values) left) in
        let size : List ℤ → ℕ = (λ rest. length (map truth_of (variables_on sketch.variables (on conditions)) ++ (map truth_of (actions_on sketch (on conditions)) ++ rest))) in
        step w (Chart unit leaf) 0 pc stack values left _ h
        (ap (λ sk. charted w.env.setting sk w.room leaf pc stack values left) is
        ∙ ap (λ rest. if has_chart values sketch leaf && nat_le count (length stack) && nat_le (size rest) w.room then goes (made rest conditions) else stuck) below
        ∙ if_true (has_chart values sketch leaf && nat_le count (length stack) && nat_le (size []) w.room) (goes (made [] conditions)) stuck
        (all_three (has_chart values sketch leaf) (nat_le count (length stack)) (nat_le (size []) w.room) (there values ok) enough fits)
        ∙ ap (λ cs. goes (made [] cs)) same)

  -- ---- names

  variables_run : (names : List (Option (List ℕ))) → AreBoolVariables w.root names → (on : List Bool) (pc : ℕ) (rest : List ℤ) → HasAt w.code pc (variables_code w.root names)
      → (values : Values) (left : ℕ) → AreValuesOf w.root values
      → Leads w (state pc (map truth_of (variables_on names on) ++ rest) values left)
      (state (pc + length (variables_code w.root names)) rest (names_stored w.root w.env.setting.forced names on values) left)
  variables_run [] bools on pc rest has values left ok = let e : pc ≡ pc + 0 = omega arith in stays w _ _ (ap (λ p. state p rest values left) e)
  variables_run (None ∷ names) bools on pc rest has values left ok = variables_run names bools (drop 1 on) pc rest has values left ok
  variables_run (Some name ∷ names) bools on pc rest has values left ok =
      let ps = field_part name whole in
      let b = get_or on 0 false in
      let under = map truth_of (variables_on names (drop 1 on)) ++ rest in
      let others = stored_at w.root w.env.setting.forced values (field name ∷ []) (truth b) in
      let one = fixed_put_run w ps elems.Bool (truth b) pc 0 0 under values left ok (truth_value b) (record { type = bools.0; parts = tt }) refl has.0 in
      let cell : cell_of (truth b).bits ∷ under ≡ truth_of b ∷ under = ap (λ c. c ∷ under) (truth_cell b) in
      let first = subst (λ cells. Leads w (state pc cells values left) (state (pc + 1) under others left)) cell one.2 in
      let code = variables_code w.root names in
      let len : pc + 1 + length code ≡ pc + length (store_code w.root elems.Bool ps ++ code) = omega arith in
      leads_on w _ (state (pc + 1) under others left) _ first
      (subst (λ p. Leads w (state (pc + 1) under others left) (state p rest (names_stored w.root w.env.setting.forced names (drop 1 on) others) left)) len
      (variables_run names bools.1 (drop 1 on) (pc + 1) rest has.1 others left one.1))

  -- ---- actions

  -- what statements leave, whichever way they end
  abbrev Leaves : Outcome → Type 0
  Leaves (done values n) = AreValuesOf w.root values
  Leaves (exited values n) = AreValuesOf w.root values
  Leaves (returned values n) = AreValuesOf w.root values
  Leaves (faulted f) = Unit {0}

  in_frame : (values : Values) (left : ℕ) (o : Outcome) → StaysInFrame w.root w.env.setting.forced values left o → Leaves o
  in_frame values left (done others n) h = h.all
  in_frame values left (exited others n) h = h.all
  in_frame values left (returned others n) h = h.all
  in_frame values left (faulted f) h = tt

  -- the further actions run above what an action left
  action_ends : (s : State) (pc : ℕ) (stack : List ℤ) (left : ℕ) (o : Outcome) (go : Values → ℕ → Outcome) → Runs w s pc 0 0 stack left o → Leaves o
      → ((cells : List ℤ) (values : Values) (n : ℕ) → AreValuesOf w.root values → Ends w (go values n) (state pc (cells ++ stack) values n))
      → Ends w (then_do (ended o) go) s
  action_ends s pc stack left (done values n) go r all more = r.2.by (go values n) (more [] values n all)
  action_ends s pc stack left (exited values n) go r all more =
      let e : pc + 0 ≡ pc = omega arith in r.2.by (go values n) (subst (λ p. Ends w (go values n) (state p stack values n)) (sym e) (more [] values n all))
  action_ends s pc stack left (returned values n) go r all more =
      let e : pc + 0 ≡ pc = omega arith in r.1.by (go values n) (subst (λ p. Ends w (go values n) (state p (r.0 ++ stack) values n)) (sym e) (more r.0 values n all))
  action_ends s pc stack left (faulted f) go r all more = r

  chosen_ends : (b : Bool) (pc pc' : ℕ) (stack : List ℤ) (values : Values) (left n : ℕ) (o : Outcome) (go : Values → ℕ → Outcome) → slice_get w.code pc ≡ Some (line_of 0 (SkipUnless n))
      → pc + 1 + n ≡ pc' → AreValuesOf w.root values → Ends w (then_do (ended o) go) (state (pc + 1) stack values left) → Ends w (go values left) (state pc' stack values left)
      → Ends w (then_do (if b then ended o else done values left) go) (state pc (truth_of b ∷ stack) values left)
  chosen_ends true pc pc' stack values left n o go h e ok there here =
      (step w (SkipUnless n) 0 pc (truth_of true ∷ stack) values left _ h refl).by (then_do (ended o) go) there
  chosen_ends false pc pc' stack values left n o go h e ok there here =
      (step w (SkipUnless n) 0 pc (truth_of false ∷ stack) values left _ h refl).by (go values left)
      (subst (λ p. Ends w (go values left) (state p stack values left)) (sym e) here)

  actions_end : (as' : Actions) (on : List Bool) (pc : ℕ) (cells : List ℤ) → HasAt w.code pc (actions_code w.root as') → pc + length (actions_code w.root as') ≡ length w.code
      → AreSoundActions w.functions w.root as' → ActionsInvoke (IsInvokedAs (called w) w.root w.env.bodies) as' → length on ≡ count_actions as' → actions_depth as' ≤ w.room
      → (values : Values) (left : ℕ) → AreValuesOf w.root values
      → Ends w (actions_meaning (called w) w.root w.env.setting as' on values left) (state pc (cells ++ map truth_of on) values left)
  actions_end no_actions on pc cells has end' sound calls many room values left ok = past_end w pc (cells ++ map truth_of on) values left (omega (arith, end'))
  actions_end (more_actions cs more) [] pc cells has end' sound calls many room values left ok = absurd (omega (arith, many))
  actions_end (more_actions cs more) (b ∷ on) pc cells has end' sound calls many room values left ok =
      let body = body_code w.root cs in
      let rest = actions_code w.root more in
      let count = 1 + count_actions more in
      let one = plain (Cut count) ++ (plain (SkipUnless (length body)) ++ body) in
      let at_one = has_front w.code pc one rest has in
      let under = map truth_of on in
      let all = cells ++ (truth_of b ∷ under) in
      let q = pc + 1 + 1 + length body in
      let past : pc + length one ≡ q = omega arith in
      let at_rest = subst (λ p. HasAt w.code p rest) past (has_back w.code pc one rest has) in
      let flags : length under ≡ count_actions more = omega (arith, length-map on truth_of, many) in
      let low : length (truth_of b ∷ under) ≡ count = omega (arith, flags) in
      let few : nat_le count (length all) ≡ true = le-leb count (length all) (omega (arith, length-append cells (truth_of b ∷ under), low)) in
      let last : q + length rest ≡ length w.code = omega (arith, end', length-append one rest) in
      let go : Values → ℕ → Outcome = actions_meaning (called w) w.root w.env.setting more on in
      let o = calls_alike cs values left in
      let further : (extra : List ℤ) (others : Values) (n : ℕ) → AreValuesOf w.root others → Ends w (go others n) (state q (extra ++ under) others n) =
      (λ extra others n fine. actions_end more on q extra at_rest last sound.1 calls.1 (omega (arith, many)) (omega (arith, room)) others n fine) in
      (step w (Cut count) 0 pc all values left (state (pc + 1) (truth_of b ∷ under) values left) at_one.0
      (if_true (nat_le count (length all)) (goes (state (pc + 1) (drop (length all - count) all) values left)) stuck few
      ∙ ap (λ rest'. goes (state (pc + 1) rest' values left)) (lowest cells (truth_of b ∷ under) count low))).by _
      (chosen_ends b (pc + 1) q under values left (length body) o go at_one.1.0 refl ok
      (action_ends (state (pc + 1 + 1) under values left) q under left o go
      (commands_run w cs (pc + 1 + 1) 0 0 under at_one.1.1 sound.0 calls.0 (omega (arith, room, flags)) values left ok)
      (in_frame values left o (commands_keep_the_frame w.functions (called w) w.root w.env.setting cs values left w.known w.moment w.apart ok sound.0)) further)
      (further [] values left ok))

  -- ---- bodies

  given_ends : (s : State) (pc : ℕ) (values : Values) (left : ℕ) (a : Answer (List Bool)) (go : List Bool → ℕ → Outcome) → TestsGo s pc [] values left a
      → ((cells : List ℤ) (bs : List Bool) (n : ℕ) → map is_nonzero cells ≡ bs → a ≡ gives bs n → Ends w (go bs n) (state pc (reverse cells ++ []) values n)) → Ends w (given a go) s
  given_ends s pc values left (stops f) go r h = r
  given_ends s pc values left (gives bs n) go r h = r.3.by (go bs n) (h r.0 bs n r.1 refl)

  -- as many conditions as transitions
  conditions_count : (values : Values) (asked : ℕ → Bool) (number : ℕ) (ts : Tests) (left : ℕ) (bs : List Bool) (n : ℕ)
      → conditions_meaning (called w) w.root values asked number ts left ≡ gives bs n → length bs ≡ count_tests ts
  conditions_count values asked number no_tests left bs n h = ap (λ cs. length cs) (sym (same_given [] bs left n h))
  conditions_count values asked number (more_tests line t more) left bs n h =
      let x = given_in (condition_value (called w) w.root values (asked number) line t left)
      (λ b m. then_with (conditions_meaning (called w) w.root values asked (suc number) more m) (λ cs i. gives (b ∷ cs) i)) bs n h in
      let xs = given_in (conditions_meaning (called w) w.root values asked (suc number) more x.left) (λ cs i. gives (x.value ∷ cs) i) bs n x.then' in
      let rest = conditions_count values asked (suc number) more x.left xs.value xs.left xs.first in
      let same = ap (λ cs. length cs) (same_given (x.value ∷ xs.value) bs xs.left n xs.then') in
      omega (arith, rest, same)

  body_runs : (body : Body) → code_of w.root body ≡ w.code → IsSoundBody w.functions w.root body → HasItsChart w.env.charts body
      → BodyInvokes (IsInvokedAs (called w) w.root w.env.bodies) body → body_depth body ≤ w.room → (values : Values) (left : ℕ) → AreValuesOf w.root values
      → Ends w (body_meaning (called w) w.root w.env.setting body values left) (state 0 [] values left)
  body_runs (plain_body cs) is sound charts calls room values left ok =
      let n : 0 + length (body_code w.root cs) ≡ length w.code = let e : length (body_code w.root cs) ≡ length w.code = ap (λ c. length c) is in omega (arith, e) in
      body_ends w (0 + length (body_code w.root cs)) (calls_alike cs values left) (state 0 [] values left) left n
      (commands_run w cs 0 0 0 [] (subst (λ c. HasAt c 0 (body_code w.root cs)) is (has_all (body_code w.root cs) [])) sound calls (omega (arith, room)) values left ok)
  body_runs (chart_body unit sketch tests actions) is sound charts calls room values left ok =
      let leaf = chart_offset w.root in
      let setting = w.env.setting in
      let chart = sound.0 in
      let ct = tests_code w.root unit leaf 0 tests in
      let cv = variables_code w.root sketch.variables in
      let ca = actions_code w.root actions in
      let tail = plain (Chart unit leaf) ++ (cv ++ ca) in
      let all = plain (Times unit leaf) ++ (ct ++ tail) in
      let has : HasAt w.code 0 all = subst (λ c. HasAt c 0 all) is (has_all all []) in
      let many : length all ≡ length w.code = ap (λ c. length c) is in
      let p = 0 + 1 in
      let q = p + length ct in
      let at_tail = has_back w.code p ct tail has.1 in
      let r = q + 1 + length cv in
      let at_actions = has_back w.code (q + 1) cv ca at_tail.1 in
      let last : r + length ca ≡ length w.code = omega (arith, many, length-append ct tail, length-append cv ca) in
      let timed = times_done setting sketch leaf values in
      let fine = (times_keep w.root sketch chart.leaves setting w.moment values ok left).all in
      (times_run unit sketch charts chart.leaves 0 [] values left has.0 ok).by _
      (given_ends (state p [] timed left) q timed left _ _
      (tests_run unit sketch charts chart.leaves tests 0 p [] (has_front w.code p ct tail has.1) chart.conditions (omega (arith, room)) timed left fine)
      (λ cells bs n e h.
      let on = names_on sketch bs setting.now (chart_part w.root sketch timed) in
      let moved = chart_done setting sketch leaf bs timed in
      let good = (done_keeps w.root sketch chart.leaves setting w.moment bs timed fine n).all in
      let stored = names_stored w.root setting.forced sketch.variables on moved in
      let well = (names_keep w.functions (called w) w.known w.root w.apart setting.forced sketch.variables chart.variables on moved good n).all in
      let tall : length sketch.passages ≡ length cells = chart.as_many_tests ∙ sym (conditions_count timed _ 0 tests left bs n h) ∙ sym (ap (λ cs. length cs) e) ∙ length-map cells is_nonzero in
      let flags = map truth_of (actions_on sketch on) in
      let ends' : Ends w (actions_meaning (called w) w.root setting actions (actions_on sketch on) stored n) (state r ([] ++ map truth_of (actions_on sketch on)) stored n) =
      actions_end actions (actions_on sketch on) r [] at_actions last sound.1 calls (length-map sketch.actions (λ m. get_or on m false) ∙ chart.as_many_actions) (omega (arith, room)) stored n well in
      (charted_run unit sketch charts chart.leaves q cells bs timed n at_tail.0 fine e tall (omega (arith, room, chart.as_many_actions))).by _
      ((variables_run sketch.variables chart.variables on (q + 1) (flags ++ []) (has_front w.code (q + 1) cv ca at_tail.1) moved n good).by _
      (subst (λ cs. Ends w (actions_meaning (called w) w.root setting actions (actions_on sketch on) stored n) (state r cs stored n)) (sym (append-nil flags)) ends'))))

-- by what st_meaning has of the values of terms and the leaves of places
pub does_as_commands_mean : TermsGiveValues → PlacesHaveLeaves → PlacesTakeSteps → CodeDoesAsCommandsMean
does_as_commands_mean terms places takes functions root body room small apart sound deep =
    record {
      same = λ env values left moment known have_types charts calls ok.
          let w : World = record {
            env = env;
            moment = moment;
            room = room;
            code = code_of root body;
            root = root;
            small = small;
            apart = apart;
            functions = functions;
            known = known;
            have_types = have_types;
            terms = terms;
            places = places;
            takes = takes;
          } in
          body_runs w body refl sound charts calls deep values left ok;
    }
