-- Online changes force only open leaves.
use Rattle.std.proofs.Common.{ℕ, zero, suc, ◌≡◌, ◌+◌, ◌<◌, Bool, true, false, ◌==◌, List, [], ◌∷◌, length, Option, Some, None, refl, sym, ◌∙◌, ap, subst, arith, zero-add}
use Rattle.std.specs.List.{All}
use Rattle.std.proofs.lemmas.Bool.{eqb-true}
use Rattle.std.proofs.lemmas.List.Elements.{All-cons, All-nil}
use Rattle.std.proofs.lemmas.List.Folds.{Any-from_list_any}
use Rattle.st_tree.specs.declared.leaf.Leaf.{Leaf}
use Rattle.st_memory.specs.Laws.{CarriedForcesAreOpen, ReturnedForcesAreOpen, SavedForcesAreOpen}
use Rattle.st_layout.specs.Layout.{IsOpenAt}
use Rattle.st_memory.specs.Memory.{forced_at}
use Rattle.st_memory.specs.Moves.{moved, moved_force, saved, saved_forced, unmoved}
use Rattle.st_layout.specs.Pairs.{number_at}
use Rattle.st_memory.proofs.Moving.{length-moved_forced, moved_force_at}
use Rattle.st_layout.proofs.Paired.{pair_of_source, pair_of_target}
use Rattle.st_memory.proofs.GivenBack.{force_back, length-unmoved_forced, unmoved_force_at}

-- a leaf that is forced stands in the list
pub forced_within : (forced : List Bool) (i : ℕ) → forced_at forced i ≡ true → i < length forced
forced_within [] i is = cc
forced_within (on ∷ forced) zero is = omega arith
forced_within (on ∷ forced) (suc i) is = let within = forced_within forced i is in omega (arith, within)

pub carried_forces_are_open : CarriedForcesAreOpen
carried_forces_are_open old new pairs content pairing before j is =
    let within : j < length new = omega (arith, forced_within (moved new pairs content).forced j is, length-moved_forced new pairs content, pairing.sources) in
    by (number_at pairs.sources j) refl (sym (moved_force_at new pairs content pairing.sources j within) ∙ is)
  where
    by : (source : Option ℕ) → number_at pairs.sources j ≡ source → moved_force content.forced source ≡ true → IsOpenAt new j
    by None source forced = cc
    by (Some i) source forced = sym (pair_of_source old new pairs pairing i j source).open_alike ∙ before i forced

-- the numbers of forced leaves, from i on
saved_are_open : (old : List Leaf) (i : ℕ) (targets : List (Option ℕ)) (forced : List Bool) → ((k : ℕ) → forced_at forced k ≡ true → IsOpenAt old (i + k)) → All (IsOpenAt old) (saved_forced i targets forced)
saved_are_open old i [] forced before = All-nil (IsOpenAt old)
saved_are_open old i (target ∷ targets) [] before = All-nil (IsOpenAt old)
saved_are_open old i (Some j ∷ targets) (on ∷ forced) before =
    saved_are_open old (suc i) targets forced (λ k is. let same : i + suc k ≡ suc i + k = omega arith in rw same at (before (suc k) is))
saved_are_open old i (None ∷ targets) (false ∷ forced) before =
    saved_are_open old (suc i) targets forced (λ k is. let same : i + suc k ≡ suc i + k = omega arith in rw same at (before (suc k) is))
saved_are_open old i (None ∷ targets) (true ∷ forced) before =
    let same : i + 0 ≡ i = omega arith in
    All-cons (IsOpenAt old) i (saved_forced (suc i) targets forced) (rw same at (before 0 refl))
    (saved_are_open old (suc i) targets forced (λ k is. let same : i + suc k ≡ suc i + k = omega arith in rw same at (before (suc k) is)))

pub saved_forces_are_open : SavedForcesAreOpen
unfolding saved
saved_forces_are_open old pairs content before = saved_are_open old 0 pairs.targets content.forced (λ k is. let same : 0 + k ≡ k = zero-add k in rw same (before k is))

pub returned_forces_are_open : ReturnedForcesAreOpen
unfolding unmoved
returned_forces_are_open old new pairs content dropped pairing before numbers i is =
    let within : i < length pairs.targets = omega (arith, forced_within (unmoved old pairs content dropped).forced i is, length-unmoved_forced content.forced 0 pairs.targets dropped.forced) in
    by (number_at pairs.targets i) refl
    (sym (unmoved_force_at content.forced 0 i pairs.targets dropped.forced false within ∙ ap (λ (n : ℕ). force_back content.forced dropped.forced n (number_at pairs.targets i)) (zero-add i)) ∙ is)
  where
    by : (target : Option ℕ) → number_at pairs.targets i ≡ target → force_back content.forced dropped.forced i target ≡ true → IsOpenAt old i
    by (Some j) target forced = (pair_of_target old new pairs pairing i j target).open_alike ∙ before j forced
    by None target forced =
        let (k, number, below, at, same) = Any-from_list_any (λ number. number == i) dropped.forced forced in
        subst (IsOpenAt old) (at ∙ eqb-true number i same) (numbers k number below)
