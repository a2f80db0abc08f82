-- How many elements the subscripts of an array select, as far as a number of 128 bits goes.
use Rattle.std.proofs.Common.{◌≡◌, ℕ, ◌+◌, ◌*◌, ◌^◌, ◌<◌, ◌≤◌, ℤ, pos, negsuc, ◌-ℤ◌, true, false, ltb, List, [], ◌∷◌, Option, Some, None, length, get_or, drop, refl, ap, sym, ◌∙◌, arith}
use Rattle.std.proofs.Math.Nat.{le-mul_of_pos_right, mul_assoc}
use Rattle.std.proofs.lemmas.Bool.Decides.{nat_tests}
use Rattle.std.proofs.lemmas.List.{drop_more}
use Rattle.st_tree.specs.declared.tree.declaration.Subrange.{Subrange}
use Rattle.st_check_units.specs.Counted.{counted}
use Rattle.st_check_units.specs.Subscripts.{array_size, bound_of, count_between, count_to, product, subrange_size}

-- ---- each subscript has a value

one_to : (z : ℤ) (n : ℕ) → count_to z ≡ Some n → 1 ≤ n
one_to (pos m) n h = let e : m + 1 ≡ n = cc in omega arith
one_to (negsuc m) n h = absurd (cc)

one_between : (l u : Option ℤ) (n : ℕ) → count_between l u ≡ Some n → 1 ≤ n
one_between None u n h = absurd (cc)
one_between (Some l) None n h = absurd (cc)
one_between (Some l) (Some u) n h = one_to (u -ℤ l) n h

one_value : (r : Subrange) (n : ℕ) → subrange_size r ≡ Some n → 1 ≤ n
one_value r n h = one_between (bound_of r.lower) (bound_of r.upper) n h

-- ---- products

product_above : (m n : Option ℕ) (k : ℕ) → ((i : ℕ) → m ≡ Some i → 1 ≤ i) → ((i : ℕ) → n ≡ Some i → 1 ≤ i) → product m n ≡ Some k → 1 ≤ k
product_above None n k a b h = absurd (cc)
product_above (Some i) None k a b h = absurd (cc)
product_above (Some i) (Some j) k a b h =
    let e : i * j ≡ k = cc in
    let one_i : 1 ≤ i = a i refl in
    let one_j : 1 ≤ j = b j refl in
    let least : i ≤ i * j = le-mul_of_pos_right i one_j in
    omega arith

-- an array has an element
one_element : (rs : List Subrange) (n : ℕ) → array_size rs ≡ Some n → 1 ≤ n
one_element [] n h = let e : 1 ≡ n = cc in omega arith
one_element (r ∷ rs) n h = product_above (subrange_size r) (array_size rs) n (one_value r) (one_element rs) h

product_assoc : (m n : ℕ) (o : Option ℕ) → product (Some m) (product (Some n) o) ≡ product (Some (m * n)) o
product_assoc m n None = refl
product_assoc m n (Some k) = ap Some (sym (mul_assoc m n k))

product_one : (m : ℕ) → product (Some m) (Some 1) ≡ Some m
product_one m = ap Some (omega arith)

-- ---- numbers that are counted

counted_small : (n : ℕ) → n < 2 ^ 128 → counted (Some n) ≡ Some n
counted_small n lt = let e : ltb n (2 ^ 128) ≡ true = grind (arith, nat_tests) in rw e refl

counted_large : (n : ℕ) → 2 ^ 128 ≤ n → counted (Some n) ≡ None
counted_large n le = let e : ltb n (2 ^ 128) ≡ false = grind (arith, nat_tests) in rw e refl

counted_product : (m : ℕ) (o : Option ℕ) → ((i : ℕ) → o ≡ Some i → 1 ≤ i) → 2 ^ 128 ≤ m → counted (product (Some m) o) ≡ None
counted_product m None one le = refl
counted_product m (Some k) one le =
    let one_k : 1 ≤ k = one k refl in
    let least : m ≤ m * k = le-mul_of_pos_right m one_k in
    counted_large (m * k) (omega arith)

module _ (ranges : List Subrange) (i : ℕ) (d : Subrange) (lt : i < length ranges) (size n : ℕ) (has : Some n ≡ subrange_size (get_or ranges i d)) where
  one_more : product (Some size) (array_size (drop i ranges)) ≡ product (Some (size * n)) (array_size (drop (i + 1) ranges))
  one_more =
      ap (λ rs. product (Some size) (array_size rs)) (drop_more ranges i d lt) ∙ ap (λ o. product (Some size) (product o (array_size (drop (i + 1) ranges)))) (sym has)
      ∙ product_assoc size n (array_size (drop (i + 1) ranges))

  -- after a subscript more
  pub size_turn : (size2 : ℕ) (r : Option ℕ) → size2 ≡ size * n → counted (product (Some size) (array_size (drop i ranges))) ≡ r → counted (product (Some size2) (array_size (drop (i + 1) ranges))) ≡ r
  size_turn size2 r e h = ap (λ m. counted (product (Some m) (array_size (drop (i + 1) ranges)))) e ∙ sym (ap counted one_more) ∙ h

  -- the product is too large
  pub size_lost : (r : Option ℕ) → (size * n < 2 ^ 128 → ⊥) → counted (product (Some size) (array_size (drop i ranges))) ≡ r → None ≡ r
  size_lost r above h =
      let le : 2 ^ 128 ≤ size * n = omega arith in
      sym (counted_product (size * n) (array_size (drop (i + 1) ranges)) (one_element (drop (i + 1) ranges)) le) ∙ sym (ap counted one_more) ∙ h

-- behind the last subscript
pub size_done : (ranges : List Subrange) (i size : ℕ) (r : Option ℕ) → drop i ranges ≡ [] → size < 2 ^ 128 → counted (product (Some size) (array_size (drop i ranges))) ≡ r → Some size ≡ r
size_done ranges i size r none lt h =
    sym (counted_small size lt) ∙ sym (ap counted (product_one size)) ∙ sym (ap (λ rs. counted (product (Some size) (array_size rs))) none) ∙ h
