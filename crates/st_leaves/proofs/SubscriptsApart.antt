-- The lists of subscripts of an array's elements are pairwise different.
use Rattle.std.proofs.Common.{◌≡◌, ℕ, zero, suc, ℤ, pos, negsuc, true, false, List, [], ◌∷◌, ◌++◌, map, refl, ap, arith, subst, int_lt}
use Rattle.std.specs.List.{AllByRecursion as Each, flat_map}
use Rattle.std.specs.Ordering.{int_eq}
use Rattle.std.proofs.lemmas.Bool.{and_left, and_right, ltb-true, lt-ltb}
use Rattle.st_leaves.specs.Subscripts.{next, numbers}
use Rattle.st_tree.specs.declared.tree.declaration.Subrange.{Subrange}
use Rattle.st_leaves.specs.Leaves.{numbers_in}
use Rattle.st_leaves.specs.LeavesIn.{subscript_lists}
use Rattle.st_leaves.specs.Paths.{are_same_numbers}
use Rattle.st_leaves.proofs.Groups.{grouped, groups_apart}
use Rattle.st_leaves.proofs.Pairs.{Pairwise, each_any, each_map, each_weaker, pairwise_map}

-- ---- the numbers of a range ascend

up : (i : ℤ) → int_lt i (next i) ≡ true
up (pos n) = lt-ltb _ _ (omega arith)
up (negsuc zero) = refl
up (negsuc (suc n)) = lt-ltb _ _ (omega arith)

further : (i j : ℤ) → int_lt i j ≡ true → int_lt i (next j) ≡ true
further (pos n) (pos m) below = lt-ltb _ _ (omega (arith, ltb-true _ _ below))
further (pos n) (negsuc m) below = absurd (cc below)
further (negsuc n) (pos m) below = refl
further (negsuc n) (negsuc zero) below = refl
further (negsuc n) (negsuc (suc m)) below = lt-ltb _ _ (omega (arith, ltb-true _ _ below))

all_above : (i : ℤ) (n : ℕ) (from : ℤ) → int_lt i from ≡ true → Each (λ j. int_lt i j ≡ true) (numbers n from)
all_above i zero from below = tt
all_above i (suc n) from below = (below, all_above i n (next from) (further i from below))

apart : (i j : ℤ) → int_lt i j ≡ true → int_eq i j ≡ false
apart i j below = rw below refl

numbers_apart : (n : ℕ) (from : ℤ) → Pairwise (λ i j. int_eq i j ≡ false) (numbers n from)
numbers_apart zero from = tt
numbers_apart (suc n) from = (each_weaker (λ j. int_lt from j ≡ true) (λ j. int_eq from j ≡ false) (numbers n (next from)) (apart from) (all_above from n (next from) (up from)), numbers_apart n (next from))

-- ---- lists of them

in_groups : (lists : List (List ℤ)) (is : List ℤ) → grouped (map (λ (i : ℤ). (i, lists)) is) ≡ flat_map (λ i. map (λ js. i ∷ js) lists) is
in_groups lists [] = refl
in_groups lists (i ∷ is) = ap (λ more. map (λ js. i ∷ js) lists ++ more) (in_groups lists is)

pub subscripts_apart : (ranges : List Subrange) → Pairwise (λ a b. are_same_numbers a b ≡ false) (subscript_lists ranges)
subscripts_apart [] = (tt, tt)
subscripts_apart (r ∷ rs) =
    subst (Pairwise (λ a b. are_same_numbers a b ≡ false)) (in_groups (subscript_lists rs) (numbers_in r))
    (groups_apart (λ i j. int_eq i j ≡ false) (λ a b. are_same_numbers a b ≡ false) (λ i j is js e. and_left (int_eq i j) (are_same_numbers is js) e)
    (λ i is js e. and_right (int_eq i i) (are_same_numbers is js) e) (map (λ (i : ℤ). (i, subscript_lists rs)) (numbers_in r))
    (pairwise_map (λ (g h : ℤ × List (List ℤ)). int_eq g.0 h.0 ≡ false) (λ (i : ℤ). (i, subscript_lists rs)) (numbers_in r) (numbers_apart _ _))
    (each_map (λ (g : ℤ × List (List ℤ)). Pairwise (λ a b. are_same_numbers a b ≡ false) g.1) (λ (i : ℤ). (i, subscript_lists rs)) (numbers_in r) (each_any _ (numbers_in r) (λ i. subscripts_apart rs))))
