-- The steps of a chart behind each part of an invocation.
use Rattle.std.specs.List.{All}
use Rattle.std.proofs.Common.{◌≡◌, ℕ, zero, suc, ◌<◌, ℤ, Bool, true, false, ◌&&◌, ◌||◌, not, cond, eqb, List, [], ◌∷◌, length, get_or, map, refl, ap, sym, ◌∙◌, arith}
use Rattle.std.proofs.lemmas.List.{get_or-map, length-map}
use Rattle.st_charts.specs.Charts.{AreCleared, active_in, asked, is_enabled, is_entered, is_forestalled, is_left, is_named, is_on, moved, no_step, remembered, resets, shows, step_between, step_in, stored_after, stores, timed}
use Rattle.st_charts.specs.Passages.{Passage, Set, passage}
use Rattle.st_charts.specs.Stages.{Changes, entered, left}
use Rattle.st_charts.specs.declared.step.StepCell.{StepCell}
use Rattle.st_charts.specs.declared.table.Link.{Link}
use Rattle.st_charts.proofs.TestLemmas.{all_agree, any_agree}

-- ---- times

timed_active : (begun : Bool) (now : ℤ) (step : StepCell) → (timed begun now step).active ≡ step.active
timed_active begun now step = go begun step.active step.pulsed step.elapsed step.since where
  go : (b a p : Bool) (e s : ℤ) → (timed b now (record { active = a; elapsed = e; since = s; pulsed = p })).active ≡ a
  go true true p e s = refl
  go false true p e s = refl
  go b false p e s = refl

-- The times of steps don't change which of them are active.
pub active_timed : (begun : Bool) (now : ℤ) (cells : List StepCell) (s : ℕ) → active_in (map (timed begun now) cells) s ≡ active_in cells s
active_timed begun now [] s = refl
active_timed begun now (step ∷ cells) zero = timed_active begun now step
active_timed begun now (step ∷ cells) (suc s) = active_timed begun now cells s

-- ---- transitions

-- the cleared transitions, where their premises are known in other words
pub cleared_like : (ts : List Passage) (active active' holds holds' cleared : Set) → ((s : ℕ) → active s ≡ active' s)
    → ((t : ℕ) → t < length ts → holds t ≡ holds' t) → AreCleared ts active holds cleared → AreCleared ts active' holds' cleared
cleared_like ts active active' holds holds' cleared steps conditions given t lt =
    given t lt
    ∙ ap (λ b. b && (is_enabled ts active t && not (is_forestalled ts cleared t))) (conditions t lt)
    ∙ ap (λ b. holds' t && (b && not (is_forestalled ts cleared t)))
    (all_agree active active' (passage ts t).before (λ k d in'. steps (get_or (passage ts t).before k d)))

-- ---- steps

leave_enter : (l e : Bool) (now : ℤ) (step : StepCell) → cond e (entered now (cond l (left step) step)) (cond l (left step) step) ≡ moved l e now step
leave_enter l e now step = go l e step.active step.pulsed step.elapsed step.since where
  go : (l e a p : Bool) (elapsed since : ℤ)
      → cond e (entered now (cond l (left (record { active = a; elapsed = elapsed; since = since; pulsed = p })) (record { active = a; elapsed = elapsed; since = since; pulsed = p })))
      (cond l (left (record { active = a; elapsed = elapsed; since = since; pulsed = p })) (record { active = a; elapsed = elapsed; since = since; pulsed = p }))
      ≡ moved l e now (record { active = a; elapsed = elapsed; since = since; pulsed = p })
  go true true true true d s = refl
  go true true true false d s = refl
  go true true false true d s = refl
  go true true false false d s = refl
  go true false true true d s = refl
  go true false true false d s = refl
  go true false false true d s = refl
  go true false false false d s = refl
  go false true true true d s = refl
  go false true true false d s = refl
  go false true false true d s = refl
  go false true false false d s = refl
  go false false true true d s = refl
  go false false true false d s = refl
  go false false false true d s = refl
  go false false false false d s = refl

-- the steps as the names see them
pub steps_between : (ts : List Passage) (cleared : Set) (begun : Bool) (now : ℤ) (old times behind between : List StepCell)
    → times ≡ map (timed begun now) old → length behind ≡ length times → Changes left (is_left ts cleared) times behind
    → Changes (entered now) (is_entered ts cleared) behind between
    → (s : ℕ) → s < length old → step_in between s ≡ step_between ts cleared begun now (step_in old) s
steps_between ts cleared begun now old times behind between timing long leaving entering s lt =
    let in_times : s < length times = omega (arith, lt, ap length timing, length-map old (timed begun now)) in
    entering s no_step (omega arith)
    ∙ ap (λ step. cond (is_entered ts cleared s) (entered now step) step) (leaving s no_step in_times)
    ∙ leave_enter (is_left ts cleared s) (is_entered ts cleared s) now (step_in times s)
    ∙ ap (moved (is_left ts cleared s) (is_entered ts cleared s) now)
    (ap (λ cells. step_in cells s) timing ∙ get_or-map (timed begun now) old s no_step no_step lt)

-- and as the next invocation finds them
pub steps_after : (old between new : List StepCell) (f : ℕ → StepCell) → length between ≡ length old → new ≡ map remembered between
    → ((s : ℕ) → s < length old → step_in between s ≡ f s) → (s : ℕ) → s < length old → step_in new s ≡ remembered (f s)
steps_after old between new f long is each s lt =
    ap (λ cells. step_in cells s) is ∙ get_or-map remembered between s no_step no_step (omega arith) ∙ ap remembered (each s lt)

-- ---- names

named_like : (links : List Link) (f g : ℕ → StepCell) (does : Link → StepCell → Bool) (n : ℕ) → All (λ link. f link.step ≡ g link.step) links
    → is_named links f does n ≡ is_named links g does n
named_like links f g does n same =
    any_agree (λ link. eqb link.name n && ((f link.step).active && does link (f link.step))) (λ link. eqb link.name n && ((g link.step).active && does link (g link.step))) links
    (λ k d lt. ap (λ step. eqb (get_or links k d).name n && (step.active && does (get_or links k d) step)) (same k d lt))

pub stored_like : (links : List Link) (f g : ℕ → StepCell) (stored : Set) (n : ℕ) → All (λ link. f link.step ≡ g link.step) links
    → stored_after links f stored n ≡ stored_after links g stored n
stored_like links f g stored n same =
    ap (λ b. not b && (is_named links f stores n || stored n)) (named_like links f g resets n same)
    ∙ ap (λ b. not (is_named links g resets n) && (b || stored n)) (named_like links f g stores n same)

pub on_like : (links : List Link) (f g : ℕ → StepCell) (stored : Set) (n : ℕ) → All (λ link. f link.step ≡ g link.step) links
    → is_on links f stored n ≡ is_on links g stored n
on_like links f g stored n same =
    ap (λ b. not b && (stored_after links f stored n || is_named links f shows n)) (named_like links f g resets n same)
    ∙ ap (λ b. not (is_named links g resets n) && (b || is_named links f shows n)) (stored_like links f g stored n same)
    ∙ ap (λ b. not (is_named links g resets n) && (stored_after links g stored n || b)) (named_like links f g shows n same)

-- ---- conditions

-- None is asked where the chart begins,
pub asked_at_first : (begun : Bool) (holds : Set) (t : ℕ) → begun ≡ false → {b : Bool} → b ≡ false → b ≡ asked begun holds t
asked_at_first begun holds t first is = is ∙ ap (λ b. b && holds t) (sym first)

-- and all are where it has begun.
pub asked_as_begun : (begun : Bool) (holds : Set) (t : ℕ) → begun ≡ true → holds t ≡ asked begun holds t
asked_as_begun begun holds t later = ap (λ b. b && holds t) (sym later)
