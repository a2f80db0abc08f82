-- Names that are put on the stack, the last one first.
use Rattle.std.proofs.Common.{◌≡◌, ℕ, zero, suc, ◌+◌, ◌-◌, ◌<◌, ◌≤◌, Bool, true, false, ℤ, List, [], ◌∷◌, ◌++◌, length, get_or, map, drop, sym, ap, ◌∙◌, arith}
use Rattle.std.proofs.lemmas.List.{length-append, length-map}
use Rattle.st_code.specs.Machine.{truth_of}
use Rattle.st_machine.specs.Charts.{on_among}
use Rattle.st_chart_runs.proofs.StepCells.{first_of}

-- for the actions with these names
abbrev pub action_cells : List Bool → List ℕ → List ℤ
action_cells on ns = map truth_of (map (λ n. get_or on n false) ns)

pub many_actions : (on : List Bool) (ns : List ℕ) → length (action_cells on ns) ≡ length ns
many_actions on ns = length-map (map (λ n. get_or on n false) ns) truth_of ∙ length-map ns (λ n. get_or on n false)

-- for the names that are variables
abbrev pub name_cells : (variables on : List Bool) → List ℤ
name_cells vs on = map truth_of (on_among vs on)

pub many_names : (vs on : List Bool) → length (name_cells vs on) ≡ length (on_among vs on)
many_names vs on = length-map (on_among vs on) truth_of

among_more : (v : Bool) (vs on : List Bool) → length (on_among vs (drop 1 on)) ≤ length (on_among (v ∷ vs) on)
among_more true vs on = omega arith
among_more false vs on = omega arith

among_less : (vs on : List Bool) (i : ℕ) → length vs ≡ length on → length (on_among (drop i vs) (drop i on)) ≤ length (on_among vs on)
among_less vs on zero same = omega arith
among_less [] on (suc i) same = omega arith
among_less (v ∷ vs) [] (suc i) same = absurd (omega (arith, same))
among_less (v ∷ vs) (o ∷ on) (suc i) same = let rest = among_less vs on i (omega (arith, same)) in omega (arith, rest, among_more v vs (o ∷ on))

-- where those behind a place are put
module _ (vs on : List Bool) (stack start : List ℤ) (place : ℕ) (d : Bool) (h : 0 < place) (k : place ≤ length vs) (same : length vs ≡ length on)
    (is : stack ≡ name_cells (drop place vs) (drop place on) ++ start) where
  before : place - 1 + 1 ≡ place
  before = omega (arith, h)

  one_before : (v : Bool) → get_or vs (place - 1) d ≡ v
      → on_among (drop (place - 1) vs) (drop (place - 1) on) ≡ on_among (v ∷ drop place vs) (get_or on (place - 1) false ∷ drop place on)
  one_before v here =
      ap (λ (ws : List Bool). on_among ws (drop (place - 1) on)) (first_of vs (place - 1) d (omega (arith, h, k)))
      ∙ ap (λ (os : List Bool). on_among (get_or vs (place - 1) d ∷ drop (place - 1 + 1) vs) os) (first_of on (place - 1) false (omega (arith, h, k, same)))
      ∙ ap (λ n. on_among (get_or vs (place - 1) d ∷ drop n vs) (get_or on (place - 1) false ∷ drop n on)) before
      ∙ ap (λ (w : Bool). on_among (w ∷ drop place vs) (get_or on (place - 1) false ∷ drop place on)) here

  -- there is room for the one before them, if it is a variable
  pub name_room : (room its : ℕ) → get_or vs (place - 1) d ≡ true → length (on_among vs on) + length start ≤ room → its ≡ room → length stack < its
  name_room room its here fits roomy =
      omega (
        arith,
        fits,
        roomy,
        ap (λ (bs : List Bool). length bs) (one_before true here),
        among_less vs on (place - 1) same,
        ap length is,
        length-append (name_cells (drop place vs) (drop place on)) start,
        many_names (drop place vs) (drop place on),
      )

  -- and if it is none, all are put from there on
  pub name_passed : get_or vs (place - 1) d ≡ false → stack ≡ name_cells (drop (place - 1) vs) (drop (place - 1) on) ++ start
  name_passed here = is ∙ ap (λ (bs : List Bool). map truth_of bs ++ start) (sym (one_before false here))
