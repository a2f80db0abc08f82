-- What becomes of a step, in an engineer's words.
use Rattle.std.proofs.Common.{◌≡◌, ℕ, ◌<◌, ℤ, Bool, true, false, ◌&&◌, ◌||◌, not, length, refl, ap, sym, ◌∙◌, subst, inl, inr}
use Rattle.std.proofs.lemmas.Bool.{and_from, and_parts, cases_Bool, false≢true, or_right}
use Rattle.st_charts.specs.Charts.{is_entered, is_left, moved, timed}
use Rattle.st_charts.specs.Laws.{FollowersAreNew, IsNew, OthersStay, PredecessorsAreLeft, Stays}
use Rattle.st_charts.specs.Passages.{Set, members, passage, some_below}
use Rattle.st_charts.specs.declared.step.StepCell.{StepCell}
use Rattle.st_charts.proofs.TestLemmas.{below_some, some_below_at}

-- none of the cleared transitions has this step
none_has : (count : ℕ) (cleared set : Set) → ((t : ℕ) → t < count → cleared t ≡ true → set t ≡ true → ⊥) → some_below count (λ t. cleared t && set t) ≡ false
none_has count cleared set none = elim (cases_Bool (some_below count (λ t. cleared t && set t))) as (λ _. some_below count (λ t. cleared t && set t) ≡ false) [
  | inr is_not ↦ is_not
  | inl is_so ↦
      let found = below_some count (λ t. cleared t && set t) is_so in
      let parts = and_parts (cleared found.0) (set found.0) found.2 in
      absurd (none found.0 found.1 parts.0 parts.1)
]

stays : (begun : Bool) (now : ℤ) (step : StepCell) → Stays begun now step (moved false false now (timed begun now step))
stays begun now step = go begun step.active step.pulsed step.elapsed step.since where
  go : (b a p : Bool) (e s : ℤ)
      → Stays b now (record { active = a; elapsed = e; since = s; pulsed = p }) (moved false false now (timed b now (record { active = a; elapsed = e; since = s; pulsed = p })))
  go true true true e s = record { active = refl; pulsed = refl; since = λ b. refl; elapsed = λ b a. refl }
  go true true false e s = record { active = refl; pulsed = refl; since = λ b. refl; elapsed = λ b a. refl }
  go true false true e s = record { active = refl; pulsed = refl; since = λ b. refl; elapsed = λ b a. absurd (false≢true a) }
  go true false false e s = record { active = refl; pulsed = refl; since = λ b. refl; elapsed = λ b a. absurd (false≢true a) }
  go false true true e s = record { active = refl; pulsed = refl; since = λ b. absurd (false≢true b); elapsed = λ b a. absurd (false≢true b) }
  go false true false e s = record { active = refl; pulsed = refl; since = λ b. absurd (false≢true b); elapsed = λ b a. absurd (false≢true b) }
  go false false true e s = record { active = refl; pulsed = refl; since = λ b. absurd (false≢true b); elapsed = λ b a. absurd (false≢true b) }
  go false false false e s = record { active = refl; pulsed = refl; since = λ b. absurd (false≢true b); elapsed = λ b a. absurd (false≢true b) }

pub others_stay : OthersStay
others_stay ts cleared begun now steps s none =
    let l : is_left ts cleared s ≡ false = none_has (length ts) cleared (λ t. members (passage ts t).before s) (λ t lt is of. (none t lt is).0 of) in
    let e : is_entered ts cleared s ≡ false = none_has (length ts) cleared (λ t. members (passage ts t).after s) (λ t lt is of. (none t lt is).1 of) in
    subst (λ b. Stays begun now (steps s) (moved b (is_entered ts cleared s) now (timed begun now (steps s)))) (sym l)
    (subst (λ b. Stays begun now (steps s) (moved false b now (timed begun now (steps s)))) (sym e) (stays begun now (steps s)))

is_new : (l : Bool) (now : ℤ) (step : StepCell) → IsNew now (moved l true now step)
is_new l now step = record { active = or_right (step.active && not l) true refl; elapsed = refl; since = refl }

pub followers_are_new : FollowersAreNew
followers_are_new ts cleared begun now steps s t lt is of =
    let e : is_entered ts cleared s ≡ true =
    some_below_at (length ts) (λ u. cleared u && members (passage ts u).after s) t lt (and_from (cleared t) (members (passage ts t).after s) is of) in
    subst (λ b. IsNew now (moved (is_left ts cleared s) b now (timed begun now (steps s)))) (sym e) (is_new (is_left ts cleared s) now (timed begun now (steps s)))

and_never : (b : Bool) → (b && false) ≡ false
and_never true = refl
and_never false = refl

pub predecessors_are_left : PredecessorsAreLeft
predecessors_are_left ts cleared begun now steps s t lt is of =
    let l : is_left ts cleared s ≡ true =
    some_below_at (length ts) (λ u. cleared u && members (passage ts u).before s) t lt (and_from (cleared t) (members (passage ts t).before s) is of) in (
      ap (λ b. (timed begun now (steps s)).pulsed && not b) l ∙ and_never (timed begun now (steps s)).pulsed,
      ap (λ b. ((timed begun now (steps s)).active && not b) || is_entered ts cleared s) l
          ∙ ap (λ b. b || is_entered ts cleared s) (and_never (timed begun now (steps s)).active),
    )
