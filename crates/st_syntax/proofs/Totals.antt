-- Totals of lists.
use Rattle.std.proofs.Common.{ℕ, ◌≤◌, ◌^◌, List, [], ◌∷◌, map, arith}
use Rattle.std.specs.List.{All}
use Rattle.std.proofs.lemmas.List.Elements.{All-nil, All-cons}
use Rattle.st_tree.specs.declared.tree.unit.Unit.{Unit as Section}
use Rattle.st_syntax.specs.Lengths.{IsShort, total, unit_length}

each_shorter_number : (ns : List ℕ) (n : ℕ) → total ns ≤ n → All (λ m. m ≤ n) ns
each_shorter_number [] n h = All-nil (λ m. m ≤ n)
each_shorter_number (m ∷ ns) n h = All-cons (λ k. k ≤ n) m ns (omega (arith, h)) (each_shorter_number ns n (omega (arith, h)))

-- where all items together aren't longer, no item is
pub each_shorter : {X : Type 0} (f : X → ℕ) (xs : List X) (n : ℕ) → total (map f xs) ≤ n → All (λ x. f x ≤ n) xs
each_shorter f [] n h = All-nil (λ x. f x ≤ n)
each_shorter f (x ∷ xs) n h = All-cons (λ y. f y ≤ n) x xs (omega (arith, h)) (each_shorter f xs n (omega (arith, h)))

-- none of them is more than their sum
pub none_more : (lengths : List ℕ) → All (λ n. n ≤ total lengths) lengths
none_more lengths = each_shorter_number lengths (total lengths) (omega arith)

pub short_units : (text : List Section) → IsShort text → All (λ unit. unit_length unit ≤ 2 ^ 20) text
unfolding IsShort
short_units text h = each_shorter unit_length text (2 ^ 20) h
