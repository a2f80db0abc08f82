-- Loops keep the frame (3.3.2.4).
use Rattle.std.proofs.Common.{◌≡◌, ℕ, zero, suc, ◌≤◌, ℤ, ◌+ℤ◌, Bool, true, List, if◌then◌else◌}
use Rattle.st_values.specs.declared.value.Value.{Value}
use Rattle.st_types.specs.Compositions.{Composition}
use Rattle.st_meaning.specs.Laws.{KeepsFrame}
use Rattle.st_meaning.specs.Meaning.{Values}
use Rattle.st_meaning.specs.Operations.{Answer, gives}
use Rattle.st_meaning.specs.Sound.{AreValuesOf}
use Rattle.st_meaning.specs.Statements.{Outcome, done, after_step, after_turn, count_turns, given, goes_on, is_true, repeat_turns, while_turns}
use Rattle.st_meaning.proofs.Frames.{AlwaysStays, either_stays, given_stays, nothing_done, stays_after, step_stays, turn_stays}
use Rattle.st_meaning.proofs.Ranges.{IsBehind, stays_behind}

module _ (root : Composition) (forced : List Bool) (line : ℕ) (body : Values → ℕ → Outcome) (stays : AlwaysStays root forced body) where
  -- a test leaves no more steps
  abbrev pub TestTakesSteps : (Values → ℕ → Answer Value) → Type 0
  TestTakesSteps test = (values : Values) (left : ℕ) → AreValuesOf root values → (v : Value) (n : ℕ) → test values left ≡ gives v n → n ≤ left

  pub while_stays : (k : ℕ) (test : Values → ℕ → Answer Value) → TestTakesSteps test → AlwaysStays root forced (while_turns k line test body)
  while_stays zero test takes values left all = tt
  while_stays (suc k) test takes values left all =
      let go : Value → ℕ → Outcome = (λ v m. if is_true v then after_turn (body values m) (while_turns k line test body) else done values m) in
      step_stays root forced values line left (λ n. given (test values n) go) all
      (λ n. given_stays root forced values n (test values n) go all (takes values n all)
      (λ v m e. either_stays root forced values m (is_true v) (after_turn (body values m) (while_turns k line test body)) (done values m)
      (λ t. turn_stays root forced values m (body values m) (while_turns k line test body) (stays values m all) (while_stays k test takes))
      (nothing_done root forced values m all)))

  pub repeat_stays : (k : ℕ) (test : Values → ℕ → Answer Value) → TestTakesSteps test → AlwaysStays root forced (repeat_turns k line test body)
  repeat_stays zero test takes values left all = tt
  repeat_stays (suc k) test takes values left all =
      let go : Values → Value → ℕ → Outcome = (λ others v i. if is_true v then done others i else repeat_turns k line test body others i) in
      turn_stays root forced values left (body values left) (λ others m. after_step line m (λ n. given (test others n) (go others)))
      (stays values left all)
      (λ others m whole. step_stays root forced others line m (λ n. given (test others n) (go others)) whole
      (λ n. given_stays root forced others n (test others n) (go others) whole (takes others n whole)
      (λ v i e. either_stays root forced others i (is_true v) (done others i) (repeat_turns k line test body others i) (λ t. nothing_done root forced others i whole)
      (repeat_stays k test takes others i whole))))

  pub count_stays : (k : ℕ) (store : Values → ℤ → Values) (first last step : ℤ)
      → ((counter : ℤ) → IsBehind first counter step → goes_on counter last step ≡ true → (values : Values) (left : ℕ) → AreValuesOf root values
      → KeepsFrame root forced values left (store values counter) left)
      → (counter : ℤ) → IsBehind first counter step → AlwaysStays root forced (count_turns k line store last step body counter)
  count_stays zero store first last step stores counter behind values left all = tt
  count_stays (suc k) store first last step stores counter behind values left all =
      let next = count_turns k line store last step body (counter +ℤ step) in
      step_stays root forced values line left (λ n. if goes_on counter last step then after_turn (body (store values counter) n) next else done values n) all
      (λ n. either_stays root forced values n (goes_on counter last step) (after_turn (body (store values counter) n) next) (done values n)
      (λ on.
      let kept = stores counter behind on values n all in
      stays_after root forced values (store values counter) n n (after_turn (body (store values counter) n) next) kept
      (turn_stays root forced (store values counter) n (body (store values counter) n) next (stays (store values counter) n kept.all)
      (count_stays k store first last step stores (counter +ℤ step) (stays_behind first counter step behind))))
      (nothing_done root forced values n all))
