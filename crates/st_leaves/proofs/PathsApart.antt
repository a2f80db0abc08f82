-- No two leaves of a program have the same path.
use Rattle.std.proofs.Common.{◌≢◌, ℕ, suc, List, [], ◌∷◌, ◌++◌, sym, ◌∙◌}
use Rattle.std.specs.Char.{to_ascii_uppercase}
use Rattle.std.specs.List.{AllByRecursion as Each}
use Rattle.std.proofs.lemmas.Bool.{both_ways}
use Rattle.std.proofs.lemmas.List.{append_cancel_left, map-append}
use Rattle.std.proofs.lemmas.List.Elements.{recursion_from_All}
use Rattle.st_tree.specs.declared.leaf.Leaf.{Leaf}
use Rattle.st_types.specs.Compositions.{composition_of}
use Rattle.st_values.specs.Words.{raised}
use Rattle.st_leaves.specs.Distinct.{HasShortSubscripts, PathsAreDistinct}
use Rattle.st_leaves.specs.LeavesIn.{LeafIn, leaves_of_whole}
use Rattle.st_leaves.specs.Paths.{HasWords, Path, is_same_path, path_text}
use Rattle.st_leaves.specs.Programs.{leaf_at, leaves_from, program_leaves}
use Rattle.st_leaves.proofs.Differences.{Differ}
use Rattle.st_leaves.proofs.Pairs.{Pairwise, all_pairs}
use Rattle.st_leaves.proofs.WaysApart.{ways_differ}
use Rattle.st_leaves.proofs.WaysTold.{texts_are_ways}

-- different ways from one program
apart : (main : List ℕ) (p q : Path) → HasWords p → HasWords q → HasShortSubscripts p → HasShortSubscripts q → Differ p q → raised (main ++ path_text p) ≢ raised (main ++ path_text q)
apart main p q words_p words_q short_p short_q differ e =
    both_ways (is_same_path p q) differ
    (texts_are_ways p q words_p words_q short_p short_q
    (append_cancel_left (raised main) (raised (path_text p)) (raised (path_text q))
    (sym (map-append to_ascii_uppercase main (path_text p)) ∙ e ∙ map-append to_ascii_uppercase main (path_text q))))

module _ (main : List ℕ) where
  apart_from : (l : LeafIn) (i n : ℕ) (leaves : List LeafIn) → HasWords l.path → HasShortSubscripts l.path → Each (λ other. HasWords other.path) leaves → Each (λ other. HasShortSubscripts other.path) leaves
      → Each (λ other. Differ l.path other.path) leaves → Each (λ (other : Leaf). (leaf_at main i l).path ≢ other.path) (leaves_from main n leaves)
  apart_from l i n [] word short words shorts differ = tt
  apart_from l i n (other ∷ leaves) word short words shorts differ =
      (apart main l.path other.path word words.0 short shorts.0 differ.0, apart_from l i (suc n) leaves word short words.1 shorts.1 differ.1)

  all_apart : (n : ℕ) (leaves : List LeafIn) → Each (λ l. HasWords l.path) leaves → Each (λ l. HasShortSubscripts l.path) leaves → Pairwise (λ l other. Differ l.path other.path) leaves
      → Pairwise (λ (leaf other : Leaf). leaf.path ≢ other.path) (leaves_from main n leaves)
  all_apart n [] words shorts differ = tt
  all_apart n (l ∷ leaves) words shorts differ = (apart_from l n (suc n) leaves words.0 shorts.0 words.1 shorts.1 differ.0, all_apart (suc n) leaves words.1 shorts.1 differ.1)

pub paths_apart : PathsAreDistinct
unfolding program_leaves
paths_apart units program names words shorts =
    let whole : List LeafIn = leaves_of_whole (composition_of units program.declares) in
    all_pairs (λ (leaf other : Leaf). leaf.path ≢ other.path) (leaves_from program.name.spelling 0 whole)
    (all_apart program.name.spelling 0 whole (recursion_from_All (λ l. HasWords l.path) whole words) (recursion_from_All (λ l. HasShortSubscripts l.path) whole shorts)
    (ways_differ (composition_of units program.declares) names))
