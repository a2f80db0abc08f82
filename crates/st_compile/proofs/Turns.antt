-- More turns of a loop than there are steps left change nothing.
use Rattle.std.proofs.Common.{◌≡◌, ℕ, zero, suc, ◌<◌, ◌≤◌, ◌⊎◌, inl, inr, ℤ, ◌+ℤ◌, Bool, true, false, List, IsTrue, if◌then◌else◌, refl, ap, sym, ◌∙◌, subst, arith}
use Rattle.std.proofs.lemmas.Bool.{cases_lt}
use Rattle.st_values.specs.Values.{in_range}
use Rattle.st_values.specs.declared.elem.Elem.{Elem}
use Rattle.st_values.specs.declared.value.Value.{Value}
use Rattle.st_types.specs.Compositions.{Composition}
use Rattle.st_operators.specs.Laws.{IsOf}
use Rattle.st_meaning.specs.Laws.{KeepsFrame, StaysInFrame}
use Rattle.st_meaning.specs.Meaning.{Values}
use Rattle.st_meaning.specs.Operations.{Answer, gives, stops}
use Rattle.st_meaning.specs.Sound.{AreValuesOf}
use Rattle.st_meaning.specs.Statements.{Outcome, done, exited, returned, faulted, after_step, after_turn, alike, count_turns, given, goes_on, is_true, repeat_turns, while_turns}
use Rattle.st_meaning.proofs.Commands.{commands_keep_the_frame}
use Rattle.st_meaning.proofs.Frames.{AlwaysStays, store_keeps}
use Rattle.st_meaning.proofs.Ranges.{IsBehind, begins_behind, counter_in_range, stays_behind}
use Rattle.st_meaning.proofs.TermValues.{terms_give_values}
use Rattle.st_compile.specs.Bounds.{MoreCountTurnsChangeNothing, MoreRepeatTurnsChangeNothing, MoreWhileTurnsChangeNothing, counter_stored, test_of, turn_of}

-- what one more doesn't change from some number on is the same for any greater number
settles : (f : ℕ → Outcome) (least most : ℕ) → ((k : ℕ) → least ≤ k → f (suc k) ≡ f k) → least ≤ most → f most ≡ f least
settles f least zero same few = ap f (let is : 0 ≡ least = omega (arith, few) in is)
settles f least (suc most) same few = by (cases_lt least (suc most)) (settles f least most same) where
  by : (least < suc most) ⊎ (suc most ≤ least) → (least ≤ most → f most ≡ f least) → f (suc most) ≡ f least
  by (inl less) fewer = same most (omega (arith, less)) ∙ fewer (omega (arith, less))
  by (inr more) fewer = ap f (let is : suc most ≡ least = omega (arith, few, more) in is)

either_same : (b : Bool) (o p q : Outcome) → (b ≡ true → o ≡ p) → (if b then o else q) ≡ (if b then p else q)
either_same true o p q same = same refl
either_same false o p q same = refl

other_same : (b : Bool) (o p q : Outcome) → p ≡ q → (if b then o else p) ≡ (if b then o else q)
other_same true o p q same = refl
other_same false o p q same = same

given_same : {A : Type 0} (answer : Answer A) (f g : A → ℕ → Outcome) → ((x : A) (n : ℕ) → answer ≡ gives x n → f x n ≡ g x n) → given answer f ≡ given answer g
given_same (gives x n) f g same = same x n refl
given_same (stops s) f g same = refl

module _ (root : Composition) (forced : List Bool) (line : ℕ) (body : Values → ℕ → Outcome) (stays : AlwaysStays root forced body) where
  abbrev TakesSteps : (Values → ℕ → Answer Value) → Type 0
  TakesSteps test = (values : Values) (left : ℕ) → AreValuesOf root values → (v : Value) (n : ℕ) → test values left ≡ gives v n → n ≤ left

  turn_same : (values : Values) (left : ℕ) (o : Outcome) (f g : Values → ℕ → Outcome) → StaysInFrame root forced values left o
      → ((others : Values) (n : ℕ) → AreValuesOf root others → n ≤ left → f others n ≡ g others n) → after_turn o f ≡ after_turn o g
  turn_same values left (done others n) f g kept same = same others n kept.all kept.steps
  turn_same values left (exited others n) f g kept same = refl
  turn_same values left (returned others n) f g kept same = refl
  turn_same values left (faulted s) f g kept same = refl

  -- ---- one more turn

  while_same : (test : Values → ℕ → Answer Value) → TakesSteps test → (k : ℕ) (values : Values) (left : ℕ) → AreValuesOf root values → left < k
      → while_turns (suc k) line test body values left ≡ while_turns k line test body values left
  while_same test takes zero values left all few = absurd (omega (arith, few))
  while_same test takes (suc k) values zero all few = refl
  while_same test takes (suc k) values (suc n) all few =
      given_same (test values n) _ _
      (λ v m is. either_same (is_true v) (after_turn (body values m) (while_turns (suc k) line test body)) (after_turn (body values m) (while_turns k line test body)) (done values m)
      (λ on. turn_same values m (body values m) (while_turns (suc k) line test body) (while_turns k line test body) (stays values m all)
      (λ others i whole less. while_same test takes k others i whole (let fewer : m ≤ n = takes values n all v m is in omega (arith, few, fewer, less)))))

  repeat_same : (test : Values → ℕ → Answer Value) → TakesSteps test → (k : ℕ) (values : Values) (left : ℕ) → AreValuesOf root values → left < k
      → repeat_turns (suc k) line test body values left ≡ repeat_turns k line test body values left
  repeat_same test takes zero values left all few = absurd (omega (arith, few))
  repeat_same test takes (suc k) values left all few =
      turn_same values left (body values left) _ _ (stays values left all)
      (λ others m whole less. stepped others m whole less (λ i whole fewer. repeat_same test takes k others i whole fewer)) where
        stepped : (others : Values) (m : ℕ) → AreValuesOf root others → m ≤ left
            → ((i : ℕ) → AreValuesOf root others → i < k → repeat_turns (suc k) line test body others i ≡ repeat_turns k line test body others i)
            → after_step line m (λ n. given (test others n) (λ v i. if is_true v then done others i else repeat_turns (suc k) line test body others i))
            ≡ after_step line m (λ n. given (test others n) (λ v i. if is_true v then done others i else repeat_turns k line test body others i))
        stepped others zero whole less same = refl
        stepped others (suc n) whole less same =
            given_same (test others n) _ _
            (λ v i is. other_same (is_true v) (done others i) (repeat_turns (suc k) line test body others i) (repeat_turns k line test body others i)
            (same i whole (let fewer : i ≤ n = takes others n whole v i is in omega (arith, few, fewer, less))))

  abbrev Stores : (Values → ℤ → Values) → (first last step : ℤ) → Type 0
  Stores store first last step = (counter : ℤ) → IsBehind first counter step → goes_on counter last step ≡ true → (values : Values) (left : ℕ) → AreValuesOf root values
      → KeepsFrame root forced values left (store values counter) left

  count_same : (store : Values → ℤ → Values) (first last step : ℤ) → Stores store first last step → (k : ℕ) (counter : ℤ) → IsBehind first counter step → (values : Values) (left : ℕ)
      → AreValuesOf root values → left < k
      → count_turns (suc k) line store last step body counter values left ≡ count_turns k line store last step body counter values left
  count_same store first last step stores zero counter behind values left all few = absurd (omega (arith, few))
  count_same store first last step stores (suc k) counter behind values zero all few = refl
  count_same store first last step stores (suc k) counter behind values (suc n) all few =
      let more = count_turns (suc k) line store last step body (counter +ℤ step) in
      let fewer = count_turns k line store last step body (counter +ℤ step) in
      either_same (goes_on counter last step) (after_turn (body (store values counter) n) more) (after_turn (body (store values counter) n) fewer) (done values n)
      (λ on.
      let kept = stores counter behind on values n all in
      turn_same (store values counter) n (body (store values counter) n) more fewer (stays (store values counter) n kept.all)
      (λ others i whole less. count_same store first last step stores k (counter +ℤ step) (stays_behind first counter step behind) others i whole (omega (arith, few, less))))

-- ---- any more

pub more_while_turns : MoreWhileTurnsChangeNothing
more_while_turns functions calls root setting values line t cs left most runs term commands few =
    let body = turn_of calls root setting cs in
    let test = test_of calls root t in
    settles (λ k. while_turns k line test body values left) (suc left) most
    (λ k less. while_same root setting.forced line body (λ others n all. commands_keep_the_frame functions calls root setting cs others n runs.sound runs.moment runs.one all commands)
    test (λ others n all v m is. (terms_give_values functions calls root others t n v m runs.sound runs.one all term is).steps) k values left runs.all (omega (arith, less)))
    (omega (arith, few))

pub more_repeat_turns : MoreRepeatTurnsChangeNothing
more_repeat_turns functions calls root setting values line t cs left most runs term commands few =
    let body = turn_of calls root setting cs in
    let test = test_of calls root t in
    settles (λ k. repeat_turns k line test body values left) (suc left) most
    (λ k less. repeat_same root setting.forced line body (λ others n all. commands_keep_the_frame functions calls root setting cs others n runs.sound runs.moment runs.one all commands)
    test (λ others n all v m is. (terms_give_values functions calls root others t n v m runs.sound runs.one all term is).steps) k values left runs.all (omega (arith, less)))
    (omega (arith, few))

-- the counter is stored as a value of the type of the first value
counter_is : (e : Elem) (first last : Value) (counter step : ℤ) → IsOf e first → IsOf e last → IsBehind first.bits counter step → goes_on counter last.bits step ≡ true
    → IsOf e (alike first counter)
counter_is e first last counter step is is' behind on =
    let high : IsTrue (in_range first.elem last.bits) = subst (λ t. IsTrue (in_range t last.bits)) (is'.of_type ∙ sym is.of_type) is'.in_range in
    record { in_range = counter_in_range first.elem first.bits last.bits counter step is.in_range high behind on; of_type = is.of_type }

pub more_count_turns : MoreCountTurnsChangeNothing
more_count_turns functions calls root setting values line cs e path first last step left most runs commands leaf is is' few =
    let body = turn_of calls root setting cs in
    let store = counter_stored setting root path first in
    settles (λ k. count_turns k line store last.bits step.bits body first.bits values left) (suc left) most
    (λ k less. count_same root setting.forced line body (λ others n all. commands_keep_the_frame functions calls root setting cs others n runs.sound runs.moment runs.one all commands)
    store first.bits last.bits step.bits
    (λ counter behind on others n all. store_keeps root setting.forced others e path (alike first counter) n runs.one all leaf (counter_is e first last counter step.bits is is' behind on))
    k first.bits (begins_behind first.bits step.bits) values left runs.all (omega (arith, less)))
    (omega (arith, few))
