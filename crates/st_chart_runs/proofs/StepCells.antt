-- Steps, one after the other, and the values of their leaves.
use Rattle.std.proofs.Common.{◌≡◌, ℕ, zero, suc, ◌+◌, ◌<◌, ◌≤◌, Bool, true, false, List, [], ◌∷◌, ◌++◌, length, get_or, set, take, drop, refl, sym, ap, subst, ◌∙◌, arith, append_assoc, take-suc-set}
use Rattle.std.proofs.Math.Seq.{take-append_seam}
use Rattle.std.proofs.lemmas.List.{length-append, length-take-le}
use Rattle.std.specs.List.{AllZip}
use Rattle.st_values.specs.declared.elem.Elem.{Elem}
use Rattle.st_values.specs.Values.{IsOfType}
use Rattle.st_chart_runs.specs.Parts.{AreFirst}
use Rattle.st_charts.specs.declared.step.StepCell.{StepCell}
use Rattle.st_meaning.specs.Charts.{cell_in, cells_in, step_values, steps_values}
use Rattle.st_meaning.specs.Meaning.{Values}
use Rattle.st_leaves.specs.Charts.{step_types}
use Rattle.st_meaning.specs.Sketches.{steps_types}

-- what stands in a list from a place on
pub first_of : {A : Type 0} (xs : List A) (i : ℕ) (d : A) → i < length xs → drop i xs ≡ get_or xs i d ∷ drop (i + 1) xs
first_of [] i d h = absurd (omega (arith, h))
first_of (x ∷ xs) zero d h = refl
first_of (x ∷ xs) (suc i) d h =
    let on : suc i + 1 ≡ suc (i + 1) = omega arith in
    subst (λ k. drop i xs ≡ get_or xs i d ∷ drop k (x ∷ xs)) (sym on) (first_of xs i d (omega (arith, h)))

-- the first step, and the others
pub record FirstStep (p : Bool) (ts : List Elem) (cells : Values) : Type 0 where
  pub own : AllZip IsOfType (step_types p) (take (length (step_types p)) cells)
  pub others : AreFirst ts (drop (length (step_types p)) cells)
  pub same : cell_in p (take (length (step_types p)) cells) ≡ cell_in p cells
  pub many : length (step_types p) ≤ length cells

pub first_step : (p : Bool) (ts : List Elem) (cells : Values) → AreFirst (step_types p ++ ts) cells → FirstStep p ts cells
first_step true ts [] h = absurd h
first_step true ts (a ∷ []) h = absurd h.1
first_step true ts (a ∷ b ∷ []) h = absurd h.1.1
first_step true ts (a ∷ b ∷ c ∷ []) h = absurd h.1.1.1
first_step true ts (a ∷ b ∷ c ∷ d ∷ cells) h = record { own = (h.0, (h.1.0, (h.1.1.0, (h.1.1.1.0, tt)))); others = h.1.1.1.1; same = refl; many = omega arith }
first_step false ts [] h = absurd h
first_step false ts (a ∷ []) h = absurd h.1
first_step false ts (a ∷ b ∷ []) h = absurd h.1.1
first_step false ts (a ∷ b ∷ c ∷ cells) h = record { own = (h.0, (h.1.0, (h.1.1.0, tt))); others = h.1.1.1; same = refl; many = omega arith }

-- the first of those from a place on
pub step_there : (pulses : List Bool) (i : ℕ) (d : Bool) (cells : Values) → i < length pulses → AreFirst (steps_types (drop i pulses)) cells
    → FirstStep (get_or pulses i d) (steps_types (drop (i + 1) pulses)) cells
step_there pulses i d cells h typed =
    first_step (get_or pulses i d) (steps_types (drop (i + 1) pulses)) cells (subst (λ ps. AreFirst (steps_types ps) cells) (first_of pulses i d h) typed)

one_more : {A : Type 0} (xs : List A) (i : ℕ) (x : A) (rest : List A) → i < length xs → take (i + 1) (set xs i x) ++ rest ≡ take i xs ++ x ∷ rest
one_more xs i x rest h =
    let on : i + 1 ≡ suc i = omega arith in
    ap (λ k. take k (set xs i x) ++ rest) on ∙ ap (λ ys. ys ++ rest) (take-suc-set xs i x h) ∙ append_assoc (take i xs) (x ∷ []) rest

-- it is read
pub step_read : (pulses : List Bool) (i : ℕ) (d : Bool) (cells : Values) (steps all : List StepCell) (c : StepCell) → i < length pulses → length steps ≡ length pulses
    → AreFirst (steps_types (drop i pulses)) cells → take i steps ++ cells_in (drop i pulses) cells ≡ all
    → c ≡ cell_in (get_or pulses i d) (take (length (step_types (get_or pulses i d))) cells)
    → take (i + 1) (set steps i c) ++ cells_in (drop (i + 1) pulses) (drop (length (step_types (get_or pulses i d))) cells) ≡ all
step_read pulses i d cells steps all c h same typed so_far is =
    let p = get_or pulses i d in
    let rest = cells_in (drop (i + 1) pulses) (drop (length (step_types p)) cells) in
    one_more steps i c rest (omega (arith, h, same))
    ∙ ap (λ (x : StepCell). take i steps ++ x ∷ rest) (is ∙ (step_there pulses i d cells h typed).same)
    ∙ ap (λ (ps : List Bool). take i steps ++ cells_in ps cells) (sym (first_of pulses i d h))
    ∙ so_far

-- ---- back to values

many_there : (pulses : List Bool) (i : ℕ) (d : Bool) → i < length pulses
    → length (steps_types (drop i pulses)) ≡ length (step_types (get_or pulses i d)) + length (steps_types (drop (i + 1) pulses))
many_there pulses i d h =
    ap (λ (ps : List Bool). length (steps_types ps)) (first_of pulses i d h) ∙ length-append (step_types (get_or pulses i d)) (steps_types (drop (i + 1) pulses))

-- behind it stand the leaves of the others
pub leaves_left : (pulses : List Bool) (i : ℕ) (d : Bool) (place next n k : ℕ) → i < length pulses → next ≡ place + length (step_types (get_or pulses i d))
    → place + length (steps_types (drop i pulses)) ≡ n → k ≡ n → next + length (steps_types (drop (i + 1) pulses)) ≡ k
leaves_left pulses i d place next n k h on so_far same = omega (arith, many_there pulses i d h, on, so_far, same)

front_of : (place w : ℕ) (cells part rest : Values) → length part ≡ w → place ≤ length cells → take (place + w) (take place cells ++ (part ++ rest)) ≡ take place cells ++ part
front_of place w cells part rest many fits =
    let long : place + w ≡ length (take place cells ++ part) = omega (arith, many, length-append (take place cells) part, length-take-le place cells fits) in
    ap (λ k. take k (take place cells ++ (part ++ rest))) long ∙ ap (take (length (take place cells ++ part))) (sym (append_assoc (take place cells) part rest))
    ∙ take-append_seam (take place cells ++ part) rest

-- the leaves of a step that is written stand behind those before it
pub step_written : (pulses : List Bool) (i : ℕ) (d : Bool) (steps : List StepCell) (e : StepCell) (cells new all : Values) (place : ℕ) → i < length pulses → i < length steps
    → place + length (steps_types (drop i pulses)) ≡ length cells
    → take place cells ++ steps_values (drop i pulses) (drop i steps) ≡ all
    → new ≡ take place cells ++ (step_values (get_or pulses i d) (get_or steps i e) ++ drop (place + length (step_types (get_or pulses i d))) cells)
    → take (place + length (step_types (get_or pulses i d))) new ++ steps_values (drop (i + 1) pulses) (drop (i + 1) steps) ≡ all
step_written pulses i d steps e cells new all place h k fits so_far is =
    let p = get_or pulses i d in
    let s = get_or steps i e in
    let part = step_values p s in
    let rest = steps_values (drop (i + 1) pulses) (drop (i + 1) steps) in
    let front : take (place + length (step_types p)) new ≡ take place cells ++ part = ap (take (place + length (step_types p))) is ∙ front_of place (length (step_types p)) cells part (drop (place + length (step_types p)) cells) (many p s) (omega (arith, fits, many_there pulses i d h)) in
    ap (λ (vs : Values). vs ++ rest) front ∙ append_assoc (take place cells) part rest
    ∙ ap (λ (vs : Values). take place cells ++ vs) (sym (both (first_of pulses i d h) (first_of steps i e k))) ∙ so_far
  where
    many : (p : Bool) (s : StepCell) → length (step_values p s) ≡ length (step_types p)
    many true s = refl
    many false s = refl

    both : {ps : List Bool} {ss : List StepCell} {p : Bool} {qs : List Bool} {s : StepCell} {ts : List StepCell} → ps ≡ p ∷ qs → ss ≡ s ∷ ts
        → steps_values ps ss ≡ step_values p s ++ steps_values qs ts
    both a b = rw (a, b) refl
