-- Flags of names, one after the other.
use Rattle.std.proofs.Common.{◌≡◌, ℕ, zero, suc, ◌+◌, ◌<◌, Bool, false, List, [], ◌∷◌, length, get_or, map, set, take, sym, ap, subst, ◌∙◌, arith}
use Rattle.std.specs.List.{All}
use Rattle.std.proofs.lemmas.List.{get_or_default}
use Rattle.st_values.specs.declared.value.Value.{Value}
use Rattle.st_values.specs.Values.{truth}
use Rattle.st_meaning.specs.Charts.{flags_values}
use Rattle.st_meaning.specs.Meaning.{Values}

-- one more is written
pub flag_written : (stored : List ℕ) (flags : List Bool) (cells : Values) (i d : ℕ) (e : Bool) (t : Value) → i < length stored → length cells ≡ length stored
    → All (λ n. n < length flags) stored → take i cells ≡ take i (flags_values stored flags) → t ≡ truth (get_or flags (get_or stored i d) e)
    → take (i + 1) (set cells i t) ≡ take (i + 1) (flags_values stored flags)
flag_written [] flags cells i d e t h same all so_far is = absurd (omega (arith, h))
flag_written (n ∷ stored) flags [] i d e t h same all so_far is = absurd (omega (arith, same))
flag_written (n ∷ stored) flags (v ∷ cells) zero d e t h same all so_far is =
    ap (λ (w : Value). w ∷ []) (is ∙ ap truth (get_or_default flags n e false (all 0 d h)))
flag_written (n ∷ stored) flags (v ∷ cells) (suc i) d e t h same all so_far is =
    let on : suc i + 1 ≡ suc (i + 1) = omega arith in
    let first : v ≡ truth (get_or flags n false) = cc in
    let others : take i cells ≡ take i (flags_values stored flags) = cc in
    let more = flag_written stored flags cells i d e t (omega (arith, h)) (omega (arith, same)) (λ k c l. all (suc k) c (omega (arith, l))) others is in
    subst (λ k. take k (v ∷ set cells i t) ≡ take k (truth (get_or flags n false) ∷ flags_values stored flags)) (sym on)
    (ap (λ (w : Value). w ∷ take (i + 1) (set cells i t)) first ∙ ap (λ (ws : Values). truth (get_or flags n false) ∷ ws) more)

-- the same of any list that is mapped
pub mapped_more : {A B : Type 0} (f : A → B) (xs : List A) (ys : List B) (i : ℕ) (d : A) (y : B) → i < length xs → length ys ≡ length xs → take i ys ≡ take i (map f xs)
    → y ≡ f (get_or xs i d) → take (i + 1) (set ys i y) ≡ take (i + 1) (map f xs)
mapped_more f [] ys i d y h same so_far is = absurd (omega (arith, h))
mapped_more f (x ∷ xs) [] i d y h same so_far is = absurd (omega (arith, same))
mapped_more f (x ∷ xs) (z ∷ ys) zero d y h same so_far is = ap (λ w. w ∷ []) is
mapped_more f (x ∷ xs) (z ∷ ys) (suc i) d y h same so_far is =
    let on : suc i + 1 ≡ suc (i + 1) = omega arith in
    let first : z ≡ f x = cc in
    let others : take i ys ≡ take i (map f xs) = cc in
    let more = mapped_more f xs ys i d y (omega (arith, h)) (omega (arith, same)) others is in
    subst (λ k. take k (z ∷ set ys i y) ≡ take k (f x ∷ map f xs)) (sym on) (ap (λ w. w ∷ take (i + 1) (set ys i y)) first ∙ ap (λ ws. f x ∷ ws) more)
