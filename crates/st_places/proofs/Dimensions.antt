-- The dimensions of an array, found from the last one.
use Rattle.std.proofs.Common.{◌≡◌, ℕ, zero, suc, ◌*◌, ◌<◌, ◌≤◌, List, [], ◌∷◌, ◌++◌, drop, get_or, length, ap, sym, ◌∙◌, subst, arith, reverse}
use Rattle.std.specs.Prelude.{min}
use Rattle.std.proofs.Math.Seq.{drop-cons}
use Rattle.std.proofs.Math.Nat.{mul_assoc}
use Rattle.std.proofs.lemmas.List.{drop_all, reverse-append}
use Rattle.st_tree.specs.declared.tree.declaration.Subrange.{Subrange}
use Rattle.st_leaves.specs.Places.{extent, extent_of}
use Rattle.st_places.specs.Dimensions.{AreLimited, IsLimited}
use Rattle.st_places.specs.declared.node.Dimension.{Dimension}

-- those of the subscripts from this one on, the last one first, and how many leaves they choose from
pub record AreBehind (element : ℕ) (ranges : List Subrange) (left : ℕ) (items : List Dimension) (count : ℕ) : Type 0 where
  pub within : left ≤ length ranges
  pub most : count ≤ 1000000
  pub limited : (size : ℕ) → element ≡ min size 1000000 → AreLimited size (drop left ranges) (reverse items)
  pub counted : (size : ℕ) → element ≡ min size 1000000 → count ≡ min (extent (drop left ranges) * size) 1000000

pub behind_none : (element : ℕ) (ranges : List Subrange) → element ≤ 1000000 → AreBehind element ranges (length ranges) [] element
behind_none element ranges most = record {
  within = omega arith;
  most = most;
  limited = λ size is. subst (λ rs. AreLimited size rs []) (sym (drop_all (length ranges) ranges (omega arith))) tt;
  counted = λ size is. subst (λ rs. element ≡ min (extent rs * size) 1000000) (sym (drop_all (length ranges) ranges (omega arith))) (omega (arith, is));
}

-- one more
pub behind_more : (element : ℕ) (ranges : List Subrange) (left more : ℕ) (items : List Dimension) (count next : ℕ) (r default : Subrange) (d : Dimension)
    → AreBehind element ranges more items count → more ≡ suc left → r ≡ get_or ranges left default → next ≤ 1000000
    → ((size : ℕ) (rs : List Subrange) → count ≡ min (extent rs * size) 1000000 → IsLimited size r rs d)
    → ((n : ℕ) → count ≡ min n 1000000 → next ≡ min (extent_of r * n) 1000000)
    → AreBehind element ranges left (items ++ d ∷ []) next
behind_more element ranges left more items count next r default d behind one at most limited product =
    let below : left < length ranges = omega (arith, one, behind.within) in
    let rest : drop more ranges ≡ drop (suc left) ranges = ap (λ n. drop n ranges) one in
    let cut : drop left ranges ≡ r ∷ drop more ranges =
    drop-cons ranges left default below ∙ ap (λ (x : Subrange). x ∷ drop (suc left) ranges) (sym at) ∙ ap (λ (xs : List Subrange). r ∷ xs) (sym rest) in
    record {
      within = omega (arith, below);
      most = most;
      limited = λ size is.
          subst (λ rs. AreLimited size rs (reverse (items ++ d ∷ []))) (sym cut)
          (subst (AreLimited size (r ∷ drop more ranges)) (sym (reverse-append items (d ∷ []))) (limited size (drop more ranges) (behind.counted size is), behind.limited size is));
      counted = λ size is.
          subst (λ rs. next ≡ min (extent rs * size) 1000000) (sym cut)
          (product (extent (drop more ranges) * size) (behind.counted size is) ∙ ap (λ n. min n 1000000) (sym (mul_assoc (extent_of r) (extent (drop more ranges)) size)));
    }

pub behind_all : (element : ℕ) (ranges : List Subrange) (left : ℕ) (items : List Dimension) (count : ℕ) → AreBehind element ranges left items count → left ≤ 0 → AreBehind element ranges 0 items count
behind_all element ranges zero items count behind none = behind
behind_all element ranges (suc left) items count behind none = absurd (omega (arith, none))
