-- Where the leaves of steps begin.
use Rattle.std.proofs.Common.{◌≡◌, ℕ, zero, suc, ◌+◌, ◌<◌, Bool, false, List, [], ◌∷◌, ◌++◌, length, take, get_or, refl, ap, sym, ◌∙◌, arith, append-nil, length-append}
use Rattle.std.proofs.lemmas.List.{take_more}
use Rattle.st_leaves.specs.Charts.{step_types}
use Rattle.st_meaning.specs.Sketches.{steps_types}
use Rattle.st_meaning.specs.Counts.{places_from}
use Rattle.st_meaning.specs.Views.{flags_place, step_place}

types_append : (pulses : List Bool) (p : Bool) → length (steps_types (pulses ++ p ∷ [])) ≡ length (steps_types pulses) + length (step_types p)
types_append [] p = ap length (append-nil (step_types p)) ∙ omega arith
types_append (q ∷ pulses) p =
    let whole = length-append (step_types q) (steps_types (pulses ++ p ∷ [])) in
    let rest = length-append (step_types q) (steps_types pulses) in
    let more = types_append pulses p in omega (arith, whole, rest, more)

places_append : (n : ℕ) (pulses : List Bool) (p : Bool) → places_from n (pulses ++ p ∷ []) ≡ places_from n pulses ++ (n + length (steps_types pulses)) ∷ []
places_append n [] p = ap (λ m. m ∷ []) (omega arith)
places_append n (q ∷ pulses) p =
    ap (λ ns. n ∷ ns)
    (places_append (n + length (step_types q)) pulses p
    ∙ ap (λ m. places_from (n + length (step_types q)) pulses ++ m ∷ []) (let both = length-append (step_types q) (steps_types pulses) in omega (arith, both)))

-- ---- one step more

pub places_more : (pulses : List Bool) (i : ℕ) (place : ℕ) (now new : List ℕ) → i < length pulses → place ≡ flags_place (take i pulses) → now ≡ places_from 1 (take i pulses)
    → new ≡ now ++ place ∷ [] → new ≡ places_from 1 (take (i + 1) pulses)
places_more pulses i place now new within is so_far added =
    added ∙ ap (λ ns. ns ++ place ∷ []) so_far ∙ ap (λ m. places_from 1 (take i pulses) ++ m ∷ []) is ∙ sym (places_append 1 (take i pulses) (get_or pulses i false))
    ∙ ap (places_from 1) (sym (take_more pulses i false within))

pub next_place : (pulses : List Bool) (i : ℕ) (d : Bool) (place size : ℕ) → i < length pulses → place ≡ flags_place (take i pulses) → size ≡ length (step_types (get_or pulses i d))
    → place + size ≡ flags_place (take (i + 1) pulses)
next_place pulses i d place size within is sized =
    let more = types_append (take i pulses) (get_or pulses i d) in
    let whole : length (steps_types (take (i + 1) pulses)) ≡ length (steps_types (take i pulses ++ get_or pulses i d ∷ [])) = ap (λ ps. length (steps_types ps)) (take_more pulses i d within) in
    omega (arith, more, whole, is, sized)

-- ---- the place of a step

pub places_count : (n : ℕ) (pulses : List Bool) → length (places_from n pulses) ≡ length pulses
places_count n [] = refl
places_count n (p ∷ pulses) = ap suc (places_count (n + length (step_types p)) pulses)

place_from : (n : ℕ) (pulses : List Bool) (i d : ℕ) → i < length pulses → get_or (places_from n pulses) i d ≡ n + length (steps_types (take i pulses))
place_from n [] i d lt = absurd (omega (arith, lt))
place_from n (p ∷ pulses) zero d lt = omega arith
place_from n (p ∷ pulses) (suc i) d lt =
    place_from (n + length (step_types p)) pulses i d (omega (arith, lt)) ∙ (let both = length-append (step_types p) (steps_types (take i pulses)) in omega (arith, both))

pub place_at : (pulses : List Bool) (places : List ℕ) (i d : ℕ) → places ≡ places_from 1 pulses → i < length pulses → get_or places i d ≡ step_place pulses i
place_at pulses places i d are lt = ap (λ ns. get_or ns i d) are ∙ place_from 1 pulses i d lt
