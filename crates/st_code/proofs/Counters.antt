-- The code of FOR.
use Rattle.std.proofs.Common.{◌≡◌, ℕ, zero, suc, ◌+◌, ◌-◌, ◌<◌, ◌≤◌, Bool, true, false, if◌then◌else◌, ℤ, List, [], ◌∷◌, ◌++◌, length, Some, IsTrue, refl, sym, ap, ◌∙◌, subst, append_assoc, arith, length-append}
use Rattle.std.specs.Prelude.{◌+ℤ◌, slice_get}
use Rattle.st_values.specs.Values.{in_range}
use Rattle.st_values.specs.declared.elem.Elem.{Elem}
use Rattle.st_values.specs.declared.value.Value.{Value}
use Rattle.st_leaves.specs.Paths.{Path}
use Rattle.st_operators.specs.Laws.{IsOf}
use Rattle.st_meaning.specs.Meaning.{Values, stored_at}
use Rattle.st_meaning.specs.Sound.{AreValuesOf}
use Rattle.st_meaning.specs.Statements.{Outcome, done, exited, returned, faulted, after_step, after_turn, alike, count_turns, goes_on}
use Rattle.st_code.specs.Code.{Line, at, cell_of, plain}
use Rattle.st_code.specs.Machine.{After, State, act, are_cells_of, counted, goes, is_cell_of, number_in, puts, state, stuck, tested, turned}
use Rattle.st_code.specs.declared.instr.Instr.TheVariants.{Step, Begin, Test, Next, Leave}
use Rattle.st_code.proofs.Cells.{is_cell, is_cell_of_value, next_ranged, number_back, number_of_value}
use Rattle.st_code.proofs.Runs.{Runs, led_at, runs_after, runs_at, step_run}
use Rattle.st_code.proofs.Steps.{HasAt, IsLeaf, Leads, World, all_three, halt, has_back, has_front, if_true, leads_on, line_of, puts_value, step, store_keeps}

-- what stands behind the values of a loop
abbrev pub rest_code : ℕ → Elem → ℕ → List Line → List Line
rest_code line e leaf cb = plain (Begin e leaf) ++ (at line Step ++ (plain (Test e leaf (length cb + 1)) ++ (cb ++ (at line (Next e leaf (length cb)) ++ plain Leave))))

-- the first value, the last one and the step, and the leaf of the variable
pub record Counting (w : World) : Type 0 where
  pub e : Elem
  pub leaf : ℕ
  pub path : Path
  pub first : Value
  pub limit : Value
  pub apart : Value
  pub of_first : IsOf e first
  pub of_limit : IsOf e limit
  pub of_apart : IsOf e apart
  pub known : IsLeaf w e path leaf

module _ (w : World) (c : Counting w) where
  -- the cells of the loop, where the counter is this number
  abbrev pub held : ℤ → List ℤ → List ℤ
  held i stack = cell_of c.apart.bits ∷ cell_of c.limit.bits ∷ cell_of i ∷ stack

  abbrev pub store : Values → ℤ → Values
  store values i = stored_at w.root w.env.setting.forced values c.path (alike c.first i)

  abbrev IsCounter : ℤ → Type 0
  IsCounter i = IsTrue (in_range c.e i)

  counter_of : (i : ℤ) → IsCounter i → IsOf c.e (alike c.first i)
  counter_of i h = record { in_range = subst (λ f. IsTrue (in_range f i)) (sym c.of_first.of_type) h; of_type = c.of_first.of_type }

  number_ranged : (v : Value) → IsOf c.e v → IsCounter v.bits
  number_ranged v of = subst (λ f. IsTrue (in_range f v.bits)) of.of_type of.in_range

  cells_are : (i : ℤ) → IsCounter i → are_cells_of c.e (cell_of c.apart.bits) (cell_of c.limit.bits) (cell_of i) ≡ true
  cells_are i h =
      all_three (is_cell_of c.e (cell_of c.apart.bits)) (is_cell_of c.e (cell_of c.limit.bits)) (is_cell_of c.e (cell_of i))
      (is_cell_of_value c.e c.apart c.of_apart) (is_cell_of_value c.e c.limit c.of_limit) (is_cell c.e i h)

  -- the counter is stored
  stores : (i : ℤ) (pc : ℕ) (stack : List ℤ) (values : Values) (left : ℕ) → AreValuesOf w.root values → IsCounter i
      → puts w.env.setting.forced c.e (cell_of i) c.leaf pc (held i stack) values left ≡ goes (state pc (held i stack) (store values i) left)
  stores i pc stack values left ok h = puts_value w c.e (alike c.first i) c.path c.leaf pc (held i stack) values left ok (counter_of i h) c.known

  stored_fits : (i : ℤ) (values : Values) → AreValuesOf w.root values → IsCounter i → AreValuesOf w.root (store values i)
  stored_fits i values ok h = store_keeps w c.e (alike c.first i) c.path c.leaf values ok (counter_of i h) c.known

  -- ---- the test

  -- what it does, by the numbers of the cells
  abbrev test_by : ℕ → ℤ → ℕ → List ℤ → Values → ℕ → ℤ → ℤ → ℤ → After
  test_by distance i pc stack values left counter limit apart =
      if goes_on counter limit apart
      then puts w.env.setting.forced c.e (cell_of i) c.leaf (pc + 1) (held i stack) values left
      else goes (state (pc + 1 + distance) (held i stack) values left)

  test_is : (distance : ℕ) (i : ℤ) (pc : ℕ) (stack : List ℤ) (values : Values) (left line : ℕ) → IsCounter i
      → act w.env w.room (Test c.e c.leaf distance) line pc (held i stack) values left ≡ test_by distance i pc stack values left i c.limit.bits c.apart.bits
  test_is distance i pc stack values left line h =
      if_true (are_cells_of c.e (cell_of c.apart.bits) (cell_of c.limit.bits) (cell_of i))
      (tested w.env.setting.forced c.e c.leaf distance (cell_of c.apart.bits) (cell_of c.limit.bits) (cell_of i) pc stack values left) stuck (cells_are i h)
      ∙ ap (λ n. test_by distance i pc stack values left n (number_in c.e (cell_of c.limit.bits)) (number_in c.e (cell_of c.apart.bits))) (number_back c.e i h)
      ∙ ap (λ n. test_by distance i pc stack values left i n (number_in c.e (cell_of c.apart.bits))) (number_of_value c.e c.limit c.of_limit)
      ∙ ap (λ n. test_by distance i pc stack values left i c.limit.bits n) (number_of_value c.e c.apart c.of_apart)

  test_run : (b : Bool) (distance : ℕ) (i : ℤ) (pc pc' out last line : ℕ) (stack : List ℤ) (values : Values) (left : ℕ) (there : Outcome)
      → goes_on i c.limit.bits c.apart.bits ≡ b → AreValuesOf w.root values → IsCounter i
      → slice_get w.code pc ≡ Some (line_of line (Test c.e c.leaf distance)) → slice_get w.code (pc + 1 + distance) ≡ Some (line_of 0 Leave) → pc + 1 + distance + 1 ≡ pc'
      → Runs w (state (pc + 1) (held i stack) (store values i) left) pc' out last stack left there
      → Runs w (state pc (held i stack) values left) pc' out last stack left (if b then there else done values left)
  test_run true distance i pc pc' out last line stack values left there e ok h at_test at_leave len r =
      runs_after w (state pc (held i stack) values left) (state (pc + 1) (held i stack) (store values i) left) pc' out last stack left left there
      (step w (Test c.e c.leaf distance) line pc (held i stack) values left _ at_test
      (test_is distance i pc stack values left line h
      ∙ ap (λ t. if t then puts w.env.setting.forced c.e (cell_of i) c.leaf (pc + 1) (held i stack) values left
      else goes (state (pc + 1 + distance) (held i stack) values left)) e
      ∙ stores i (pc + 1) stack values left ok h)) (omega arith) r
  test_run false distance i pc pc' out last line stack values left there e ok h at_test at_leave len r = (
    omega arith,
    ok,
    leads_on w (state pc (held i stack) values left) (state (pc + 1 + distance) (held i stack) values left) _
        (step w (Test c.e c.leaf distance) line pc (held i stack) values left _ at_test
        (test_is distance i pc stack values left line h
        ∙ ap (λ t. if t then puts w.env.setting.forced c.e (cell_of i) c.leaf (pc + 1) (held i stack) values left
        else goes (state (pc + 1 + distance) (held i stack) values left)) e))
        (led_at w _ (pc + 1 + distance + 1) pc' stack values left len (step w Leave 0 (pc + 1 + distance) (held i stack) values left _ at_leave refl)),
  )

  -- ---- the next number

  abbrev next_by : ℕ → ℤ → ℕ → List ℤ → Values → ℕ → ℤ → ℤ → ℤ → After
  next_by distance i pc stack values left counter limit apart =
      if goes_on (counter +ℤ apart) limit apart
      then puts w.env.setting.forced c.e (cell_of (counter +ℤ apart)) c.leaf (pc - distance) (held (counter +ℤ apart) stack) values left
      else goes (state (pc + 1) (held i stack) values left)

  next_is : (distance : ℕ) (i : ℤ) (pc : ℕ) (stack : List ℤ) (values : Values) (left line : ℕ) → IsCounter i
      → act w.env w.room (Next c.e c.leaf distance) line pc (held i stack) values left
      ≡ counted line left (λ n. next_by distance i pc stack values n i c.limit.bits c.apart.bits)
  next_is distance i pc stack values left line h =
      if_true (are_cells_of c.e (cell_of c.apart.bits) (cell_of c.limit.bits) (cell_of i))
      (counted line left (turned w.env.setting.forced c.e c.leaf distance (number_in c.e (cell_of i) +ℤ number_in c.e (cell_of c.apart.bits))
      (cell_of c.apart.bits) (cell_of c.limit.bits) (cell_of i) pc stack values)) stuck (cells_are i h)
      ∙ ap (λ x. counted line left (λ n. next_by distance i pc stack values n x (number_in c.e (cell_of c.limit.bits)) (number_in c.e (cell_of c.apart.bits)))) (number_back c.e i h)
      ∙ ap (λ x. counted line left (λ n. next_by distance i pc stack values n i x (number_in c.e (cell_of c.apart.bits)))) (number_of_value c.e c.limit c.of_limit)
      ∙ ap (λ x. counted line left (λ n. next_by distance i pc stack values n i c.limit.bits x)) (number_of_value c.e c.apart c.of_apart)

  next_counter : (i : ℤ) → IsCounter i → goes_on (i +ℤ c.apart.bits) c.limit.bits c.apart.bits ≡ true → IsCounter (i +ℤ c.apart.bits)
  next_counter i h e = next_ranged c.e i c.limit.bits c.apart.bits h (number_ranged c.limit c.of_limit) e

  -- after a counted step
  next_test : (b : Bool) (distance : ℕ) (i : ℤ) (pc home pc' out last line : ℕ) (stack : List ℤ) (values : Values) (n : ℕ) (there : Outcome)
      → goes_on (i +ℤ c.apart.bits) c.limit.bits c.apart.bits ≡ b → AreValuesOf w.root values → IsCounter i
      → slice_get w.code pc ≡ Some (line_of line (Next c.e c.leaf distance)) → slice_get w.code (pc + 1) ≡ Some (line_of 0 Leave) → pc - distance ≡ home
      → pc + 1 + 1 ≡ pc'
      → (IsCounter (i +ℤ c.apart.bits) → Runs w (state home (held (i +ℤ c.apart.bits) stack) (store values (i +ℤ c.apart.bits)) n) pc' out last stack n there)
      → Runs w (state pc (held i stack) values (suc n)) pc' out last stack (suc n) (if b then there else done values n)
  next_test true distance i pc home pc' out last line stack values n there e ok h at_next at_leave back len r =
      let next = i +ℤ c.apart.bits in
      let ranged = next_counter i h e in
      runs_after w (state pc (held i stack) values (suc n)) (state home (held next stack) (store values next) n) pc' out last stack (suc n) n there
      (step w (Next c.e c.leaf distance) line pc (held i stack) values (suc n) _ at_next
      (next_is distance i pc stack values (suc n) line h
      ∙ ap (λ t. if t then puts w.env.setting.forced c.e (cell_of next) c.leaf (pc - distance) (held next stack) values n
      else goes (state (pc + 1) (held i stack) values n)) e
      ∙ ap (λ p. puts w.env.setting.forced c.e (cell_of next) c.leaf p (held next stack) values n) back
      ∙ stores next home stack values n ok ranged)) (omega arith) (r ranged)
  next_test false distance i pc home pc' out last line stack values n there e ok h at_next at_leave back len r =
      let next = i +ℤ c.apart.bits in (
        omega arith,
        ok,
        leads_on w (state pc (held i stack) values (suc n)) (state (pc + 1) (held i stack) values n) _
            (step w (Next c.e c.leaf distance) line pc (held i stack) values (suc n) _ at_next
            (next_is distance i pc stack values (suc n) line h
            ∙ ap (λ t. if t then puts w.env.setting.forced c.e (cell_of next) c.leaf (pc - distance) (held next stack) values n
            else goes (state (pc + 1) (held i stack) values n)) e))
            (led_at w _ (pc + 1 + 1) pc' stack values n len (step w Leave 0 (pc + 1) (held i stack) values n _ at_leave refl)),
      )

  next_run : (distance : ℕ) (i : ℤ) (pc home pc' out last line : ℕ) (stack : List ℤ) (values : Values) (left : ℕ) (there : ℕ → Outcome) → AreValuesOf w.root values
      → IsCounter i
      → slice_get w.code pc ≡ Some (line_of line (Next c.e c.leaf distance)) → slice_get w.code (pc + 1) ≡ Some (line_of 0 Leave) → pc - distance ≡ home
      → pc + 1 + 1 ≡ pc'
      → ((n : ℕ) → left ≡ suc n → IsCounter (i +ℤ c.apart.bits) → Runs w (state home (held (i +ℤ c.apart.bits) stack) (store values (i +ℤ c.apart.bits)) n) pc' out last stack n (there n))
      → Runs w (state pc (held i stack) values left) pc' out last stack left (after_step line left (λ n. if goes_on (i +ℤ c.apart.bits) c.limit.bits c.apart.bits then there n else done values n))
  next_run distance i pc home pc' out last line stack values zero there ok h at_next at_leave back len r =
      halt w (Next c.e c.leaf distance) line pc (held i stack) values zero _ at_next (next_is distance i pc stack values zero line h)
  next_run distance i pc home pc' out last line stack values (suc n) there ok h at_next at_leave back len r =
      next_test (goes_on (i +ℤ c.apart.bits) c.limit.bits c.apart.bits) distance i pc home pc' out last line stack values n (there n) refl ok h at_next at_leave back len (r n refl)

  -- ---- turns

  -- what follows a turn: EXIT goes to where the cells are taken away
  turn_run : (s : State) (i : ℤ) (pc out last : ℕ) (stack : List ℤ) (left : ℕ) (o : Outcome) (go : Values → ℕ → Outcome)
      → slice_get w.code (pc + 1) ≡ Some (line_of 0 Leave) → Runs w s pc 1 (2 + last) (held i stack) left o
      → ((values : Values) (n : ℕ) → n ≤ left → AreValuesOf w.root values → Runs w (state pc (held i stack) values n) (pc + 2) out last stack n (go values n))
      → Runs w s (pc + 2) out last stack left (after_turn o go)
  turn_run s i pc out last stack left (done values n) go h ra rb = runs_after w s (state pc (held i stack) values n) (pc + 2) out last stack left n (go values n) ra.2 ra.0 (rb values n ra.0 ra.1)
  turn_run s i pc out last stack left (exited values n) go h ra rb =
      (ra.0, ra.1, leads_on w s (state (pc + 1) (held i stack) values n) _ ra.2 (led_at w _ (pc + 1 + 1) (pc + 2) stack values n (omega arith) (step w Leave 0 (pc + 1) (held i stack) values n _ h refl)))
  turn_run s i pc out last stack left (returned values n) go h ra rb = (
    ra.0 ++ held i [],
    subst (λ cells. Leads w s (state (pc + 2 + last) cells values n)) (sym (append_assoc ra.0 (held i []) stack))
        (led_at w s (pc + (2 + last)) (pc + 2 + last) (ra.0 ++ held i stack) values n (omega arith) ra.1),
  )
  turn_run s i pc out last stack left (faulted f) go h ra rb = ra

  -- from the body on, to which the next number comes back
  turns_run : (line pc out last : ℕ) (cb : List Line) (body : Values → ℕ → Outcome) (stack : List ℤ)
      → slice_get w.code (pc + length cb) ≡ Some (line_of line (Next c.e c.leaf (length cb))) → slice_get w.code (pc + length cb + 1) ≡ Some (line_of 0 Leave)
      → ((i : ℤ) (values : Values) (n : ℕ) → AreValuesOf w.root values → Runs w (state pc (held i stack) values n) (pc + length cb) 1 (2 + last) (held i stack) n (body values n))
      → (k : ℕ) (i : ℤ) (values : Values) (n : ℕ) → IsCounter i → AreValuesOf w.root values → n < k
      → Runs w (state pc (held i stack) values n)
      (pc + length cb + 2) out last stack n (after_turn (body values n) (count_turns k line store c.limit.bits c.apart.bits body (i +ℤ c.apart.bits)))
  turns_run line pc out last cb body stack at_next at_leave rb zero i values n h ok lt = absurd (omega (arith, lt))
  turns_run line pc out last cb body stack at_next at_leave rb (suc k) i values n h ok lt =
      let q = pc + length cb in
      let next = i +ℤ c.apart.bits in
      let home : q - length cb ≡ pc = omega arith in
      let len : q + 1 + 1 ≡ q + 2 = omega arith in
      turn_run (state pc (held i stack) values n) i q out last stack n (body values n) (count_turns (suc k) line store c.limit.bits c.apart.bits body next) at_leave (rb i values n ok)
      (λ others j down fine. next_run (length cb) i q pc (q + 2) out last line stack others j
      (λ m. after_turn (body (store others next) m) (count_turns k line store c.limit.bits c.apart.bits body (next +ℤ c.apart.bits))) fine h at_next at_leave home len
      (λ m less ranged. turns_run line pc out last cb body stack at_next at_leave rb k next (store others next) m ranged (stored_fits next others fine ranged) (omega (arith, less, down, lt))))

  -- from where the three values stand on the stack
  pub count_run : (line pc out last : ℕ) (cb : List Line) (body : Values → ℕ → Outcome) (stack : List ℤ) → HasAt w.code pc (rest_code line c.e c.leaf cb)
      → ((p : ℕ) → HasAt w.code p cb → (i : ℤ) (values : Values) (n : ℕ) → AreValuesOf w.root values → Runs w (state p (held i stack) values n) (p + length cb) 1 (2 + last) (held i stack) n (body values n))
      → (values : Values) (left : ℕ) → AreValuesOf w.root values
      → Runs w (state pc (held c.first.bits stack) values left) (pc + length (rest_code line c.e c.leaf cb)) out last stack left
      (count_turns (suc left) line store c.limit.bits c.apart.bits body c.first.bits (stored_at w.root w.env.setting.forced values c.path c.first) left)
  count_run line pc out last cb body stack has rb values left ok =
      let i = c.first.bits in
      let h = number_ranged c.first c.of_first in
      let others = store values i in
      let fits = stored_fits i values ok h in
      let end' = at line (Next c.e c.leaf (length cb)) ++ plain Leave in
      let q = pc + 1 + 1 + 1 + length cb in
      let at_end = has_back w.code (pc + 1 + 1 + 1) cb end' has.1.1.1 in
      let at_leave : slice_get w.code (pc + 1 + 1 + 1 + (length cb + 1)) ≡ Some (line_of 0 Leave) = subst (λ p. slice_get w.code p ≡ Some (line_of 0 Leave)) (omega arith) at_end.1.0 in
      let len : q + 2 ≡ pc + length (rest_code line c.e c.leaf cb) = omega (arith, length-append cb end') in
      let past : pc + 1 + 1 + 1 + (length cb + 1) + 1 ≡ q + 2 = omega arith in
      let turns : ℕ → Outcome = λ n. after_turn (body (store others i) n) (count_turns left line store c.limit.bits c.apart.bits body (i +ℤ c.apart.bits)) in
      runs_at w (state pc (held i stack) values left) (q + 2) _ out last stack left (count_turns (suc left) line store c.limit.bits c.apart.bits body i others left) len
      (runs_after w (state pc (held i stack) values left) (state (pc + 1) (held i stack) others left) (q + 2) out last stack left left (count_turns (suc left) line store c.limit.bits c.apart.bits body i others left)
      (step w (Begin c.e c.leaf) 0 pc (held i stack) values left _ has.0 (stores i (pc + 1) stack values left ok h)) (omega arith)
      (step_run w line (pc + 1) (q + 2) out last (held i stack) stack others left (λ n. if goes_on i c.limit.bits c.apart.bits then turns n else done others n) has.1.0
      (λ n less. test_run (goes_on i c.limit.bits c.apart.bits) (length cb + 1) i (pc + 1 + 1) (q + 2) out last 0 stack others n (turns n) refl fits h has.1.1.0 at_leave past
      (turns_run line (pc + 1 + 1 + 1) out last cb body stack at_end.0 at_end.1.0 (rb (pc + 1 + 1 + 1) (has_front w.code (pc + 1 + 1 + 1) cb end' has.1.1.1)) left i (store others i) n h (stored_fits i others fits h) (omega (arith, less))))))
