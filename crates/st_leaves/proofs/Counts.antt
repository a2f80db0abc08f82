-- Counts of lists that are put together.
use Rattle.std.proofs.Common.{◌≡◌, ℕ, suc, ◌+◌, ◌*◌, ◌<◌, List, [], ◌∷◌, ◌++◌, map, length, refl, ap, sym, ◌∙◌, arith, length-append}
use Rattle.std.specs.Prelude.{max, min}
use Rattle.std.proofs.Math.Nat.{mul_comm, suc-mul}
use Rattle.st_leaves.specs.Sizes.{AreChoices, IsSize, LeafSize, below, copies, largest, longest_path, pairs, total_bytes}
use Rattle.st_leaves.specs.declared.limited.Choices.{Choices}
use Rattle.st_leaves.specs.declared.limited.Size.{Size}
use Rattle.st_leaves.proofs.Products.{capped}

-- ---- two lists

bytes_append : (xs ys : List LeafSize) → total_bytes (xs ++ ys) ≡ total_bytes xs + total_bytes ys
bytes_append [] ys = omega arith
bytes_append (x ∷ xs) ys = omega (arith, bytes_append xs ys)

longest_append : (xs ys : List LeafSize) → longest_path (xs ++ ys) ≡ max (longest_path xs) (longest_path ys)
longest_append [] ys = omega arith
longest_append (x ∷ xs) ys = omega (arith, longest_append xs ys)

pub beside : (a b c : Size) (xs ys : List LeafSize) → c.leaves ≡ min (a.leaves + b.leaves) 1000000 → c.bytes ≡ min (a.bytes + b.bytes) 1000000 → c.longest ≡ max a.longest b.longest
    → IsSize a xs → IsSize b ys → IsSize c (xs ++ ys)
beside a b c xs ys l m n s t = record {
  leaves = omega (arith, l, s.leaves, t.leaves, length-append xs ys);
  bytes = omega (arith, m, s.bytes, t.bytes, bytes_append xs ys);
  longest = omega (arith, n, s.longest, t.longest, longest_append xs ys);
}

-- ---- below a part

below_length : (n : ℕ) (xs : List LeafSize) → length (below n xs) ≡ length xs
below_length n [] = refl
below_length n (x ∷ xs) = ap suc (below_length n xs)

below_bytes : (n : ℕ) (xs : List LeafSize) → total_bytes (below n xs) ≡ total_bytes xs
below_bytes n [] = refl
below_bytes n (x ∷ xs) = ap (λ m. x.bytes + m) (below_bytes n xs)

below_longest : (n : ℕ) (x : LeafSize) (xs : List LeafSize) → longest_path (below n (x ∷ xs)) ≡ n + longest_path (x ∷ xs)
below_longest n x [] = omega arith
below_longest n x (y ∷ ys) = omega (arith, below_longest n y ys)

pub below_some : (a : Size) (n : ℕ) (xs : List LeafSize) → 0 < a.leaves → IsSize a xs → longest_path (below n xs) ≡ n + longest_path xs
below_some a n [] some s = absurd (omega (arith, some, s.leaves))
below_some a n (x ∷ xs) some s = below_longest n x xs

pub below_all : (a c : Size) (n : ℕ) (xs : List LeafSize) → c.leaves ≡ a.leaves → c.bytes ≡ a.bytes → c.longest ≡ min (longest_path (below n xs)) 1000000 → IsSize a xs → IsSize c (below n xs)
below_all a c n xs l m o s = record {
  leaves = omega (arith, l, s.leaves, below_length n xs);
  bytes = omega (arith, m, s.bytes, below_bytes n xs);
  longest = o;
}

-- ---- copies below some parts

copies_length : (texts : List ℕ) (xs : List LeafSize) → length (copies texts xs) ≡ length texts * length xs
copies_length [] xs = omega arith
copies_length (n ∷ ns) xs = omega (arith, length-append (below n xs) (copies ns xs), below_length n xs, copies_length ns xs, suc-mul (length ns) (length xs))

copies_bytes : (texts : List ℕ) (xs : List LeafSize) → total_bytes (copies texts xs) ≡ length texts * total_bytes xs
copies_bytes [] xs = omega arith
copies_bytes (n ∷ ns) xs = omega (arith, bytes_append (below n xs) (copies ns xs), below_bytes n xs, copies_bytes ns xs, suc-mul (length ns) (total_bytes xs))

copies_longest : (n : ℕ) (ns : List ℕ) (x : LeafSize) (xs : List LeafSize) → longest_path (copies (n ∷ ns) (x ∷ xs)) ≡ largest (n ∷ ns) + longest_path (x ∷ xs)
copies_longest n [] x xs = omega (arith, longest_append (below n (x ∷ xs)) [], below_longest n x xs)
copies_longest n (m ∷ ms) x xs = omega (arith, longest_append (below n (x ∷ xs)) (copies (m ∷ ms) (x ∷ xs)), below_longest n x xs, copies_longest m ms x xs)

copies_of_none : (texts : List ℕ) → copies texts [] ≡ []
copies_of_none [] = refl
copies_of_none (n ∷ ns) = copies_of_none ns

product : (n k x y : ℕ) → n ≡ min y 1000000 → k ≡ min x 1000000 → min (k * n) 1000000 ≡ min (x * y) 1000000
product n k x y e f = ap (λ m. min (k * m) 1000000) e ∙ ap (λ m. min (m * min y 1000000) 1000000) f ∙ capped 1000000 x y (omega arith)

pub copied : (a c : Size) (k : Choices) (texts : List ℕ) (xs : List LeafSize) → c.leaves ≡ min (a.leaves * k.count) 1000000 → c.bytes ≡ min (a.bytes * k.count) 1000000
    → c.longest ≡ min (longest_path (copies texts xs)) 1000000 → AreChoices k texts → IsSize a xs → IsSize c (copies texts xs)
copied a c k texts xs l m n t s = record {
  leaves = l ∙ product k.count a.leaves (length xs) (length texts) t.count s.leaves ∙ ap (λ j. min j 1000000) (mul_comm (length xs) (length texts) ∙ sym (copies_length texts xs));
  bytes = m ∙ product k.count a.bytes (total_bytes xs) (length texts) t.count s.bytes ∙ ap (λ j. min j 1000000) (mul_comm (total_bytes xs) (length texts) ∙ sym (copies_bytes texts xs));
  longest = n;
}

-- below the longest of the parts there are the longest paths
pub copied_some : (a : Size) (k : Choices) (n : ℕ) (texts : List ℕ) (xs : List LeafSize) → 0 < k.count → AreChoices k texts → IsSize a xs
    → n ≡ min (longest_path (below k.longest xs)) 1000000 → n ≡ min (longest_path (copies texts xs)) 1000000
copied_some a k n [] xs some t s is = absurd (omega (arith, some, t.count))
copied_some a k n (m ∷ ms) [] some t s is = is ∙ ap (λ ls. min (longest_path ls) 1000000) (sym (copies_of_none (m ∷ ms)))
copied_some a k n (m ∷ ms) (x ∷ xs) some t s is = omega (arith, is, t.longest, below_longest k.longest x xs, copies_longest m ms x xs)

-- ---- texts before texts

maps_length : (n : ℕ) (ms : List ℕ) → length (map (λ m. n + m) ms) ≡ length ms
maps_length n [] = refl
maps_length n (m ∷ ms) = ap suc (maps_length n ms)

pairs_length : (texts more : List ℕ) → length (pairs texts more) ≡ length texts * length more
pairs_length [] more = omega arith
pairs_length (n ∷ ns) more = omega (arith, length-append (map (λ m. n + m) more) (pairs ns more), maps_length n more, pairs_length ns more, suc-mul (length ns) (length more))

largest_append : (xs ys : List ℕ) → largest (xs ++ ys) ≡ max (largest xs) (largest ys)
largest_append [] ys = omega arith
largest_append (x ∷ xs) ys = omega (arith, largest_append xs ys)

maps_largest : (n m : ℕ) (ms : List ℕ) → largest (map (λ k. n + k) (m ∷ ms)) ≡ n + largest (m ∷ ms)
maps_largest n m [] = omega arith
maps_largest n m (k ∷ ks) = omega (arith, maps_largest n k ks)

pairs_largest : (n : ℕ) (ns : List ℕ) (m : ℕ) (ms : List ℕ) → largest (pairs (n ∷ ns) (m ∷ ms)) ≡ largest (n ∷ ns) + largest (m ∷ ms)
pairs_largest n [] m ms = omega (arith, largest_append (map (λ k. n + k) (m ∷ ms)) [], maps_largest n m ms)
pairs_largest n (k ∷ ks) m ms = omega (arith, largest_append (map (λ j. n + j) (m ∷ ms)) (pairs (k ∷ ks) (m ∷ ms)), maps_largest n m ms, pairs_largest k ks m ms)

pairs_of_none : (texts : List ℕ) → pairs texts [] ≡ []
pairs_of_none [] = refl
pairs_of_none (n ∷ ns) = pairs_of_none ns

pairs_count : (a b : Choices) (count : ℕ) (texts more : List ℕ) → count ≡ min (a.count * b.count) 1000000 → AreChoices a texts → AreChoices b more → count ≡ min (length (pairs texts more)) 1000000
pairs_count a b count texts more is s t = is ∙ product b.count a.count (length texts) (length more) t.count s.count ∙ ap (λ j. min j 1000000) (sym (pairs_length texts more))

none_largest : (xs : List ℕ) → length xs ≡ 0 → largest xs ≡ 0
none_largest [] none = refl
none_largest (x ∷ xs) none = absurd (omega (arith, none))

pub paired_none : (a b c : Choices) (texts more : List ℕ) → c.count ≡ min (a.count * b.count) 1000000 → c.count ≡ 0 → c.longest ≡ 0 → AreChoices a texts → AreChoices b more → AreChoices c (pairs texts more)
paired_none a b c texts more is none l s t =
    let count : c.count ≡ min (length (pairs texts more)) 1000000 = pairs_count a b c.count texts more is s t in record {
      count = count;
      longest = l ∙ sym (ap (λ n. min n 1000000) (none_largest (pairs texts more) (omega (arith, count, none))));
    }

some_largest : (texts more : List ℕ) → 0 < length (pairs texts more) → largest (pairs texts more) ≡ largest texts + largest more
some_largest [] more some = absurd (omega (arith, some))
some_largest (n ∷ ns) [] some = absurd (omega (arith, some, ap length (pairs_of_none (n ∷ ns))))
some_largest (n ∷ ns) (m ∷ ms) some = pairs_largest n ns m ms

pub paired_some : (a b c : Choices) (texts more : List ℕ) → c.count ≡ min (a.count * b.count) 1000000 → 0 < c.count → c.longest ≡ min (a.longest + b.longest) 1000000 → AreChoices a texts → AreChoices b more → AreChoices c (pairs texts more)
paired_some a b c texts more is some l s t =
    let count : c.count ≡ min (length (pairs texts more)) 1000000 = pairs_count a b c.count texts more is s t in record {
      count = count;
      longest = omega (arith, l, s.longest, t.longest, some_largest texts more (omega (arith, count, some)));
    }
