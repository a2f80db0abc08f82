-- An invocation has one outcome, which is the one that is worked out.
use Rattle.std.proofs.Common.{◌≡◌, ℕ, zero, suc, ◌<◌, ℤ, Bool, true, false, ◌&&◌, List, length, get_or, refl, ap, ◌∙◌, arith}
use Rattle.std.proofs.lemmas.List.FromFn.{fill_by_all}
use Rattle.st_charts.specs.Charts.{active_in, asked, cleared_of, is_entered, is_left, is_on, moved, no_step, remembered, step_between, step_in, stored_after, timed}
use Rattle.st_charts.specs.Laws.{InvocationsHaveOneOutcome, TimesAreSetOnce}
use Rattle.st_charts.specs.Outcomes.{Outcome, invoked}
use Rattle.st_charts.specs.Passages.{Passage, Set, marked, members, passage, some_below}
use Rattle.st_charts.specs.declared.step.StepCell.{StepCell}
use Rattle.st_charts.proofs.ClearedLaws.{cleared_are_determined}
use Rattle.st_charts.proofs.StepLemmas.{on_like, stored_like}

some_agree : (count : ℕ) (p q : Set) → ((n : ℕ) → n < count → p n ≡ q n) → some_below count p ≡ some_below count q
some_agree zero p q same = refl
some_agree (suc c) p q same =
    let first : p c ≡ q c = same c (omega arith) in
    let more : some_below c p ≡ some_below c q = some_agree c p q (λ n lt. same n (omega arith)) in
    cc

-- The steps behind cleared transitions depend on no more than which are.
between_like : (ts : List Passage) (cleared other : Set) (begun : Bool) (now : ℤ) (steps : ℕ → StepCell) → ((t : ℕ) → t < length ts → cleared t ≡ other t)
    → (s : ℕ) → step_between ts cleared begun now steps s ≡ step_between ts other begun now steps s
between_like ts cleared other begun now steps same s =
    ap (λ b. moved b (is_entered ts cleared s) now (timed begun now (steps s)))
    (some_agree (length ts) (λ t. cleared t && members (passage ts t).before s) (λ t. other t && members (passage ts t).before s)
    (λ t lt. ap (λ b. b && members (passage ts t).before s) (same t lt)))
    ∙ ap (λ b. moved (is_left ts other s) b now (timed begun now (steps s)))
    (some_agree (length ts) (λ t. cleared t && members (passage ts t).after s) (λ t. other t && members (passage ts t).after s)
    (λ t lt. ap (λ b. b && members (passage ts t).after s) (same t lt)))

same_outcome : (o p : Outcome) → o.cleared ≡ p.cleared → o.steps ≡ p.steps → o.flags ≡ p.flags → o.on ≡ p.on → o ≡ p
same_outcome o p cleared steps flags on = λ i. record { cleared = cleared i; steps = steps i; flags = flags i; on = on i }

pub invocations_have_one_outcome : InvocationsHaveOneOutcome
invocations_have_one_outcome ts order links begun cells flags conditions now o by is =
    let cleared : Set = cleared_of ts (active_in cells) (asked begun (marked conditions)) in
    let same : (t : ℕ) → t < length ts → marked o.cleared t ≡ cleared_of ts (active_in cells) (asked begun (marked conditions)) t =
    (cleared_are_determined ts order (active_in cells) (asked begun (marked conditions)) by).1 (marked o.cleared) is.clearing in
    let between : (s : ℕ) → step_between ts (marked o.cleared) begun now (step_in cells) s ≡ step_between ts cleared begun now (step_in cells) s =
    between_like ts (marked o.cleared) cleared begun now (step_in cells) same in
    same_outcome o (invoked ts links begun cells flags conditions now)
    (fill_by_all cleared o.cleared (length ts) false is.cleared_count same)
    (fill_by_all (λ s. remembered (step_between ts cleared begun now (step_in cells) s)) o.steps (length cells) no_step is.steps_count
    (λ s lt. is.stepping s lt ∙ ap remembered (between s)))
    (fill_by_all (stored_after links (step_between ts cleared begun now (step_in cells)) (marked flags)) o.flags (length flags) false is.flags_count
    (λ n lt. is.storing n lt
    ∙ stored_like links (step_between ts (marked o.cleared) begun now (step_in cells)) (step_between ts cleared begun now (step_in cells)) (marked flags) n (λ k d in'. between (get_or links k d).step)))
    (fill_by_all (is_on links (step_between ts cleared begun now (step_in cells)) (marked flags)) o.on (length flags) false is.on_count
    (λ n lt. is.showing n lt
    ∙ on_like links (step_between ts (marked o.cleared) begun now (step_in cells)) (step_between ts cleared begun now (step_in cells)) (marked flags) n (λ k d in'. between (get_or links k d).step)))

-- ---- times

pub times_are_set_once : TimesAreSetOnce
times_are_set_once begun now step = go begun step.active step.pulsed step.elapsed step.since where
  go : (b a p : Bool) (e s : ℤ)
      → (timed b now (timed b now (record { active = a; elapsed = e; since = s; pulsed = p })) ≡ timed b now (record { active = a; elapsed = e; since = s; pulsed = p }))
      × ((timed b now (record { active = a; elapsed = e; since = s; pulsed = p })).active ≡ a)
  go true true p e s = (refl, refl)
  go false true p e s = (refl, refl)
  go b false p e s = (refl, refl)
