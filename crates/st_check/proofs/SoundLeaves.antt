-- The leaves of a program that isn't too large are sound.
use Rattle.std.proofs.Common.{◌≡◌, ◌≤◌, ℕ, suc, ◌+◌, false, ◌||◌, nat_lt, List, [], ◌∷◌, ◌++◌, map, length, refl, ap, sym, ◌∙◌, subst, arith, All}
use Rattle.std.specs.Char.{to_ascii_uppercase}
use Rattle.std.specs.List.{AllByRecursion as Each}
use Rattle.std.proofs.Math.Nat.{le-max_left, le-max_right}
use Rattle.std.proofs.lemmas.Bool.{ltb-false}
use Rattle.std.proofs.lemmas.List.{length-append, length-map}
use Rattle.std.proofs.lemmas.List.Elements.{All-from_recursion, recursion_from_All}
use Rattle.st_values.specs.Values.{IsValue}
use Rattle.st_values.specs.Words.{raised}
use Rattle.st_tree.specs.declared.leaf.Leaf.{Leaf}
use Rattle.st_leaves.specs.Sizes.{longest_path, total_bytes}
use Rattle.st_types.specs.Compositions.{composition_of}
use Rattle.st_types.specs.Names.{Named}
use Rattle.st_leaves.specs.Compositions.{counted}
use Rattle.st_leaves.specs.Distinct.{HasDistinctNames, HasShortSubscripts}
use Rattle.st_leaves.specs.Leaves.{leaves_of}
use Rattle.st_leaves.specs.LeavesIn.{LeafIn, leaves_of_whole}
use Rattle.st_leaves.specs.Limits.{has_long_path, is_too_large, sizes_of}
use Rattle.st_leaves.specs.Paths.{HasWords, path_text}
use Rattle.st_leaves.specs.Programs.{leaf_at, leaves_from, program_leaves}
use Rattle.st_leaves.specs.Sound.{IsSound, IsValueOf}
use Rattle.st_leaves.proofs.Begins.{begin_with_values}
use Rattle.st_leaves.proofs.Composed.{leaves_are_those_of_the_composition}
use Rattle.st_leaves.proofs.PathsApart.{paths_apart}
use Rattle.st_check.proofs.Apart.{neither}

-- ---- of leaves that are counted

-- no path is too long behind a name of so many bytes
all_short : (name : ℕ) (ls : List LeafIn) → name + longest_path (sizes_of (map counted ls)) ≤ 255 → Each (λ l. name + length (path_text l.path) ≤ 255) ls
all_short name [] h = tt
all_short name (l ∷ ls) h =
    let first = le-max_left (length (path_text l.path)) (longest_path (sizes_of (map counted ls))) in
    let others = le-max_right (length (path_text l.path)) (longest_path (sizes_of (map counted ls))) in
    (omega (arith, h, first), all_short name ls (omega (arith, h, others)))

short_behind : (name : ℕ) (ls : List LeafIn) → has_long_path name (sizes_of (map counted ls)) ≡ false → Each (λ l. name + length (path_text l.path) ≤ 255) ls
short_behind name [] h = tt
short_behind name (l ∷ ls) h = all_short name (l ∷ ls) (ltb-false 255 (name + longest_path (sizes_of (map counted (l ∷ ls)))) h)

-- ---- of the leaves that are made of them

module _ (main : List ℕ) where
  each_made : (P : Leaf → Type 0) (Q : LeafIn → Type 0) → ((n : ℕ) (l : LeafIn) → Q l → P (leaf_at main n l)) → (n : ℕ) (ls : List LeafIn) → Each Q ls → Each P (leaves_from main n ls)
  each_made P Q made n [] all = tt
  each_made P Q made n (l ∷ ls) all = (made n l all.0, each_made P Q made (suc n) ls all.1)

  as_many : (n : ℕ) (ls : List LeafIn) → length (leaves_from main n ls) ≡ length ls
  as_many n [] = refl
  as_many n (l ∷ ls) = ap suc (as_many (suc n) ls)

  any_leaf : (ls : List LeafIn) → Each (λ l. Unit {0}) ls
  any_leaf [] = tt
  any_leaf (l ∷ ls) = (tt, any_leaf ls)

  path_length : (n : ℕ) (l : LeafIn) → length (leaf_at main n l).path ≡ length main + length (path_text l.path)
  path_length n l = length-map (main ++ path_text l.path) to_ascii_uppercase ∙ length-append main (path_text l.path)

  module _ (ls : List LeafIn) where
    are_shown : All (λ leaf. leaf.path ≡ raised leaf.shown) (leaves_from main 0 ls)
    are_shown =
        All-from_recursion (λ leaf. leaf.path ≡ raised leaf.shown) (leaves_from main 0 ls)
        (each_made (λ leaf. leaf.path ≡ raised leaf.shown) (λ l. Unit {0}) (λ n l h. refl) 0 ls (any_leaf ls))

    begin_so : All (λ l. IsValue l.initial) ls → All (λ leaf. IsValueOf leaf leaf.initial) (leaves_from main 0 ls)
    begin_so values =
        All-from_recursion (λ leaf. IsValueOf leaf leaf.initial) (leaves_from main 0 ls)
        (each_made (λ leaf. IsValueOf leaf leaf.initial) (λ l. IsValue l.initial) (λ n l h. record { elem = refl; in_range = h }) 0 ls (recursion_from_All (λ l. IsValue l.initial) ls values))

    module _ (small : is_too_large (length main) (map counted ls) ≡ false) where
      are_few : length (leaves_from main 0 ls) ≤ 65536
      are_few =
          let count = neither (nat_lt 65536 (length (map counted ls))) (nat_lt 524288 (total_bytes (sizes_of (map counted ls))))
          (neither (nat_lt 65536 (length (map counted ls)) || nat_lt 524288 (total_bytes (sizes_of (map counted ls)))) (has_long_path (length main) (sizes_of (map counted ls))) small).0 in
          let most = ltb-false 65536 (length (map counted ls)) count.0 in
          subst (λ n. n ≤ 65536) (length-map ls counted ∙ sym (as_many 0 ls)) most

      are_short : All (λ leaf. length leaf.path ≤ 255) (leaves_from main 0 ls)
      are_short =
          let paths = (neither (nat_lt 65536 (length (map counted ls)) || nat_lt 524288 (total_bytes (sizes_of (map counted ls)))) (has_long_path (length main) (sizes_of (map counted ls))) small).1 in
          All-from_recursion (λ leaf. length leaf.path ≤ 255) (leaves_from main 0 ls)
          (each_made (λ leaf. length leaf.path ≤ 255) (λ l. length main + length (path_text l.path) ≤ 255) (λ n l h. subst (λ k. k ≤ 255) (sym (path_length n l)) h) 0 ls
          (short_behind (length main) ls paths))

-- the leaves of a program that isn't too large
pub sound_leaves : (units : List Named) (program : Named) → HasDistinctNames (composition_of units program.declares)
    → All (λ l. HasWords l.path) (leaves_of_whole (composition_of units program.declares))
    → All (λ l. HasShortSubscripts l.path) (leaves_of_whole (composition_of units program.declares)) → is_too_large (length program.name.spelling) (leaves_of units program.declares) ≡ false
    → IsSound (program_leaves units program)
unfolding program_leaves
sound_leaves units program names words shorts small =
    let ls : List LeafIn = leaves_of_whole (composition_of units program.declares) in
    let main : List ℕ = program.name.spelling in
    let few_enough : is_too_large (length main) (map counted ls) ≡ false = subst (λ leaves. is_too_large (length main) leaves ≡ false) (leaves_are_those_of_the_composition units program.declares) small in
    record {
      distinct = paths_apart units program names words shorts;
      shown = are_shown main ls;
      short = are_short main ls few_enough;
      few = are_few main ls few_enough;
      initial = begin_so main ls (begin_with_values units program.declares);
    }
