-- The code of loops.
use Rattle.std.proofs.Common.{◌≡◌, ℕ, zero, suc, ◌+◌, ◌-◌, ◌<◌, ◌≤◌, Bool, true, false, if◌then◌else◌, ℤ, List, ◌∷◌, ◌++◌, length, Some, refl, ap, arith, length-append}
use Rattle.std.specs.Prelude.{slice_get}
use Rattle.st_values.specs.declared.elem.Elem.{Elem}
use Rattle.st_values.specs.declared.value.Value.{Value}
use Rattle.st_meaning.specs.Meaning.{Values}
use Rattle.st_meaning.specs.Operations.{Answer}
use Rattle.st_meaning.specs.Sound.{AreValuesOf}
use Rattle.st_meaning.specs.Statements.{Outcome, done, exited, returned, faulted, after_step, after_turn, given, is_nonzero, is_true, repeat_turns, while_turns}
use Rattle.st_code.specs.Code.{Line, at, cell_of, plain, repeat_code, while_code}
use Rattle.st_code.specs.Machine.{State, goes, state}
use Rattle.st_code.specs.declared.instr.Instr.TheVariants.{GoOn, GoBack, SkipIf, SkipUnless}
use Rattle.st_code.proofs.Cells.{nonzero_cell}
use Rattle.st_code.proofs.Runs.{Runs, given_run, led_at, runs_after, runs_at, skip_run, step_run}
use Rattle.st_code.proofs.Steps.{HasAt, TermRuns, World, halt, has_back, has_front, line_of, stays, step}

module _ (w : World) where
  -- what follows a turn, behind whose body one more instruction stands
  turn_run : (s : State) (pc pc' out last : ℕ) (stack : List ℤ) (left : ℕ) (o : Outcome) (go : Values → ℕ → Outcome) → pc + 1 ≡ pc'
      → Runs w s pc 1 (1 + last) stack left o
      → ((values : Values) (n : ℕ) → n ≤ left → AreValuesOf w.root values → Runs w (state pc stack values n) pc' out last stack n (go values n))
      → Runs w s pc' out last stack left (after_turn o go)
  turn_run s pc pc' out last stack left (done values n) go e ra rb = runs_after w s (state pc stack values n) pc' out last stack left n (go values n) ra.2 ra.0 (rb values n ra.0 ra.1)
  turn_run s pc pc' out last stack left (exited values n) go e ra rb = (ra.0, ra.1, led_at w s (pc + 1) pc' stack values n e ra.2)
  turn_run s pc pc' out last stack left (returned values n) go e ra rb = (ra.0, led_at w s (pc + (1 + last)) (pc' + last) (ra.0 ++ stack) values n (omega arith) ra.1)
  turn_run s pc pc' out last stack left (faulted f) go e ra rb = ra

  -- a jump back, which counts a step
  back_run : (line pc distance home pc' out last : ℕ) (stack : List ℤ) (values : Values) (left : ℕ) (go : ℕ → Outcome)
      → slice_get w.code pc ≡ Some (line_of line (GoBack distance)) → pc - distance ≡ home
      → ((n : ℕ) → left ≡ suc n → Runs w (state home stack values n) pc' out last stack n (go n))
      → Runs w (state pc stack values left) pc' out last stack left (after_step line left go)
  back_run line pc distance home pc' out last stack values zero go h e r = halt w (GoBack distance) line pc stack values zero _ h refl
  back_run line pc distance home pc' out last stack values (suc n) go h e r =
      runs_after w (state pc stack values (suc n)) (state home stack values n) pc' out last stack (suc n) n (go n)
      (step w (GoBack distance) line pc stack values (suc n) _ h (ap (λ p. goes (state p stack values n)) e)) (omega arith) (r n refl)

  -- ---- WHILE

  -- a test and the turn behind it
  abbrev while_tested : ℕ → ℕ → (Values → ℕ → Answer Value) → (Values → ℕ → Outcome) → Values → ℕ → Outcome
  while_tested k line test body values n = given (test values n) (λ v m. if is_true v then after_turn (body values m) (while_turns k line test body) else done values m)

  abbrev while_rest : ℕ → List Line → List Line → List Line
  while_rest line ct cb = plain (SkipUnless (length cb + 1)) ++ (cb ++ at line (GoBack (length ct + 1 + length cb)))

  while_turn : (line pc out last : ℕ) (e : Elem) (ct cb : List Line) (test : Values → ℕ → Answer Value) (body : Values → ℕ → Outcome) (stack : List ℤ)
      → HasAt w.code pc (ct ++ while_rest line ct cb)
      → ((values : Values) (n : ℕ) → AreValuesOf w.root values → TermRuns w (state pc stack values n) (pc + length ct) e stack values n (test values n))
      → ((values : Values) (n : ℕ) → AreValuesOf w.root values → Runs w (state (pc + length ct + 1) stack values n) (pc + length ct + 1 + length cb) 1 (1 + last) stack n (body values n))
      → (k : ℕ) (values : Values) (n : ℕ) → AreValuesOf w.root values → n < k → Runs w (state pc stack values n)
      (pc + length (ct ++ while_rest line ct cb)) out last stack n (while_tested k line test body values n)
  while_turn line pc out last e ct cb test body stack has rt rb zero values n ok lt = absurd (omega (arith, lt))
  while_turn line pc out last e ct cb test body stack has rt rb (suc k) values n ok lt =
      let q = pc + length ct in
      let back = GoBack (length ct + 1 + length cb) in
      let tail = while_rest line ct cb in
      let at_tail = has_back w.code pc ct tail has in
      let at_back = (has_back w.code (q + 1) cb (at line back) at_tail.1).0 in
      let past : q + 1 + length cb + 1 ≡ pc + length (ct ++ tail) = omega (arith, length-append ct tail, length-append cb (at line back)) in
      let skip : q + 1 + (length cb + 1) ≡ pc + length (ct ++ tail) = omega (arith, length-append ct tail, length-append cb (at line back)) in
      let home : q + 1 + length cb - (length ct + 1 + length cb) ≡ pc = omega arith in
      given_run w (state pc stack values n) q _ out last e stack stack values n (test values n) (λ v i. if is_true v then after_turn (body values i) (while_turns (suc k) line test body) else done values i) (rt values n ok)
      (λ v i of less_than. skip_run w (cell_of v.bits) (is_true v) q (length cb + 1) _ out last stack stack values i (after_turn (body values i) (while_turns (suc k) line test body)) (done values i) (nonzero_cell e v of) at_tail.0
      (turn_run _ (q + 1 + length cb) _ out last stack i (body values i) (while_turns (suc k) line test body) past (rb values i ok)
      (λ others j down fine. back_run line (q + 1 + length cb) (length ct + 1 + length cb) pc _ out last stack others j (while_tested k line test body others) at_back home
      (λ m less. while_turn line pc out last e ct cb test body stack has rt rb k others m fine (omega (arith, less, down, lt, less_than)))))
      (omega arith, ok, stays w _ _ (ap (λ p. state p stack values i) skip)))

  pub while_run : (line pc out last : ℕ) (e : Elem) (ct cb : List Line) (test : Values → ℕ → Answer Value) (body : Values → ℕ → Outcome) (stack : List ℤ)
      → HasAt w.code pc (while_code line ct cb)
      → ((p : ℕ) → HasAt w.code p ct → (values : Values) (n : ℕ) → AreValuesOf w.root values → TermRuns w (state p stack values n) (p + length ct) e stack values n (test values n))
      → ((p : ℕ) → HasAt w.code p cb → (values : Values) (n : ℕ) → AreValuesOf w.root values → Runs w (state p stack values n) (p + length cb) 1 (1 + last) stack n (body values n))
      → (values : Values) (left : ℕ) → AreValuesOf w.root values → Runs w (state pc stack values left)
      (pc + length (while_code line ct cb)) out last stack left (while_turns (suc left) line test body values left)
  while_run line pc out last e ct cb test body stack has rt rb values left ok =
      let tail = while_rest line ct cb in
      let q = pc + 1 + length ct in
      let at_tail = has_back w.code (pc + 1) ct tail has.1 in
      let len : pc + 1 + length (ct ++ tail) ≡ pc + length (while_code line ct cb) = omega arith in
      step_run w line pc _ out last stack stack values left (while_tested left line test body values) has.0
      (λ n less. runs_at w (state (pc + 1) stack values n) _ _ out last stack n (while_tested left line test body values n) len
      (while_turn line (pc + 1) out last e ct cb test body stack has.1
      (λ others m fine. rt (pc + 1) (has_front w.code (pc + 1) ct tail has.1) others m fine)
      (λ others m fine. rb (q + 1) (has_front w.code (q + 1) cb (at line (GoBack (length ct + 1 + length cb))) at_tail.1) others m fine)
      left values n ok (omega (arith, less))))

  -- ---- REPEAT

  skip_if_run : (cell : ℤ) (b : Bool) (pc n pc' out last : ℕ) (stack : List ℤ) (values : Values) (left : ℕ) (there here : Outcome) → is_nonzero cell ≡ b
      → slice_get w.code pc ≡ Some (line_of 0 (SkipIf n))
      → Runs w (state (pc + 1 + n) stack values left) pc' out last stack left there → Runs w (state (pc + 1) stack values left) pc' out last stack left here
      → Runs w (state pc (cell ∷ stack) values left) pc' out last stack left (if b then there else here)
  skip_if_run cell true pc n pc' out last stack values left there here e h rt rh =
      runs_after w _ (state (pc + 1 + n) stack values left) pc' out last stack left left there (step w (SkipIf n) 0 pc (cell ∷ stack) values left _ h (ap (λ b. goes (state (if b then pc + 1 + n else (pc + 1)) stack values left)) e)) (omega arith) rt
  skip_if_run cell false pc n pc' out last stack values left there here e h rt rh =
      runs_after w _ (state (pc + 1) stack values left) pc' out last stack left left here (step w (SkipIf n) 0 pc (cell ∷ stack) values left _ h (ap (λ b. goes (state (if b then pc + 1 + n else (pc + 1)) stack values left)) e)) (omega arith) rh

  abbrev repeat_rest : ℕ → List Line → List Line → List Line
  repeat_rest line ct cb = plain (SkipIf (length cb + 1)) ++ (cb ++ at line (GoBack (length ct + 1 + length cb)))

  repeat_turn : (line pc out last : ℕ) (e : Elem) (ct cb : List Line) (test : Values → ℕ → Answer Value) (body : Values → ℕ → Outcome) (stack : List ℤ)
      → HasAt w.code pc (ct ++ repeat_rest line ct cb)
      → ((values : Values) (n : ℕ) → AreValuesOf w.root values → TermRuns w (state pc stack values n) (pc + length ct) e stack values n (test values n))
      → ((values : Values) (n : ℕ) → AreValuesOf w.root values → Runs w (state (pc + length ct + 1) stack values n) (pc + length ct + 1 + length cb) 1 (1 + last) stack n (body values n))
      → (k : ℕ) (values : Values) (n : ℕ) → AreValuesOf w.root values → n < k → Runs w (state (pc + length ct + 1) stack values n)
      (pc + length (ct ++ repeat_rest line ct cb)) out last stack n (repeat_turns k line test body values n)
  repeat_turn line pc out last e ct cb test body stack has rt rb zero values n ok lt = absurd (omega (arith, lt))
  repeat_turn line pc out last e ct cb test body stack has rt rb (suc k) values n ok lt =
      let q = pc + length ct in
      let back = GoBack (length ct + 1 + length cb) in
      let tail = repeat_rest line ct cb in
      let at_tail = has_back w.code pc ct tail has in
      let at_back = (has_back w.code (q + 1) cb (at line back) at_tail.1).0 in
      let past : q + 1 + length cb + 1 ≡ pc + length (ct ++ tail) = omega (arith, length-append ct tail, length-append cb (at line back)) in
      let skip : q + 1 + (length cb + 1) ≡ pc + length (ct ++ tail) = omega (arith, length-append ct tail, length-append cb (at line back)) in
      let home : q + 1 + length cb - (length ct + 1 + length cb) ≡ pc = omega arith in
      turn_run (state (q + 1) stack values n) (q + 1 + length cb) _ out last stack n (body values n)
      (λ others m. after_step line m (λ j. given (test others j) (λ v i. if is_true v then done others i else repeat_turns k line test body others i))) past (rb values n ok)
      (λ others m down fine. back_run line (q + 1 + length cb) (length ct + 1 + length cb) pc _ out last stack others m (λ j. given (test others j) (λ v i. if is_true v then done others i else repeat_turns k line test body others i)) at_back home
      (λ j less. given_run w (state pc stack others j) q _ out last e stack stack others j (test others j) (λ v i. if is_true v then done others i else repeat_turns k line test body others i) (rt others j fine)
      (λ v i of less_than. skip_if_run (cell_of v.bits) (is_true v) q (length cb + 1) _ out last stack others i (done others i) (repeat_turns k line test body others i) (nonzero_cell e v of) at_tail.0
      (omega arith, fine, stays w _ _ (ap (λ p. state p stack others i) skip))
      (repeat_turn line pc out last e ct cb test body stack has rt rb k others i fine (omega (arith, less, down, lt, less_than))))))

  pub repeat_run : (line pc out last : ℕ) (e : Elem) (ct cb : List Line) (test : Values → ℕ → Answer Value) (body : Values → ℕ → Outcome) (stack : List ℤ)
      → HasAt w.code pc (repeat_code line cb ct)
      → ((p : ℕ) → HasAt w.code p ct → (values : Values) (n : ℕ) → AreValuesOf w.root values → TermRuns w (state p stack values n) (p + length ct) e stack values n (test values n))
      → ((p : ℕ) → HasAt w.code p cb → (values : Values) (n : ℕ) → AreValuesOf w.root values → Runs w (state p stack values n) (p + length cb) 1 (1 + last) stack n (body values n))
      → (values : Values) (left : ℕ) → AreValuesOf w.root values → Runs w (state pc stack values left)
      (pc + length (repeat_code line cb ct)) out last stack left (repeat_turns (suc left) line test body values left)
  repeat_run line pc out last e ct cb test body stack has rt rb values left ok =
      let tail = repeat_rest line ct cb in
      let q = pc + 1 + length ct in
      let at_tail = has_back w.code (pc + 1) ct tail has.1 in
      let begun : pc + 1 + (length ct + 1) ≡ q + 1 = omega arith in
      let len : pc + 1 + length (ct ++ tail) ≡ pc + length (repeat_code line cb ct) = omega arith in
      runs_after w (state pc stack values left) (state (q + 1) stack values left) _ out last stack left left (repeat_turns (suc left) line test body values left)
      (step w (GoOn (length ct + 1)) 0 pc stack values left _ has.0 (ap (λ p. goes (state p stack values left)) begun)) (omega arith)
      (runs_at w (state (q + 1) stack values left) _ _ out last stack left (repeat_turns (suc left) line test body values left) len
      (repeat_turn line (pc + 1) out last e ct cb test body stack has.1
      (λ others m fine. rt (pc + 1) (has_front w.code (pc + 1) ct tail has.1) others m fine)
      (λ others m fine. rb (q + 1) (has_front w.code (q + 1) cb (at line (GoBack (length ct + 1 + length cb))) at_tail.1) others m fine)
      (suc left) values left ok (omega arith)))
