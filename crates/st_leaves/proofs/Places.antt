-- Where a leaf stands.
use Rattle.std.proofs.Common.{◌≡◌, ℕ, zero, suc, ◌+◌, ◌*◌, ◌<◌, ℤ, pos, negsuc, Bool, true, false, ◌&&◌, List, [], ◌∷◌, ◌++◌, codes, drop, length, map, Option, Some, None, refl, ap, sym, ◌∙◌, subst, arith}
use Rattle.std.specs.List.{HoldsAt, flat_map, list_any}
use Rattle.std.specs.Ordering.{int_eq}
use Rattle.std.specs.Prelude.{◌+ℤ◌}
use Rattle.std.proofs.Math.Nat.{add-mul, mul_assoc, suc-mul}
use Rattle.std.proofs.lemmas.Bool.Decides.{Decides-int_eq}
use Rattle.std.proofs.lemmas.Int.{ints}
use Rattle.std.proofs.lemmas.List.{length-map}
use Rattle.st_leaves.specs.Subscripts.{next, numbers}
use Rattle.st_tree.specs.declared.tree.constant.Constant.{Constant}
use Rattle.st_tree.specs.declared.tree.declaration.Subrange.{Subrange}
use Rattle.st_tree.specs.declared.tree.unit.ChartElement.{ChartElement}
use Rattle.st_tree.specs.declared.tree.unit.Step.{Step}
use Rattle.st_types.specs.Compositions.{Composition, composed, Members}
use Rattle.st_types.specs.Names.{steps_in}
use Rattle.st_types.specs.Standard.{Pin, pins_of, block_name, kept_by}
use Rattle.st_types.specs.declared.standard.StandardBlock.{StandardBlock}
use Rattle.st_values.specs.Words.{is_word}
use Rattle.st_values.proofs.SameWords.{is_word_comm}
use Rattle.st_leaves.specs.Charts.{is_pulse, stored_by}
use Rattle.st_tree.specs.Literals.{number_of}
use Rattle.st_leaves.specs.Leaves.{numbers_in}
use Rattle.st_values.specs.Values.{truth}
use Rattle.st_leaves.specs.LeavesIn.{LeafIn, all_steps_in, begun, block_leaves, chart_in, elements_in, first_written, kept_leaf, leaves_in, leaves_of_whole, member_names, members_in, one, pin_leaf, starting, state_in, step_in, stored_in, subscript_lists, within}
use Rattle.st_leaves.specs.Paths.{Path, Selector, are_same_numbers, field, index, is_same_path, is_same_selector, kept}
use Rattle.st_leaves.specs.Places.{IsDistance, no_more, above, IsMember, here, later, IsPart, first, behind, IsPin, IsStep, LeadsTo, end, element, into, pin, flag, time, PlacesAreNumbers, count, counts, extent, extent_of, step_count}
use Rattle.st_leaves.proofs.Numbers.{element_length, length_is_count, length_is_counts, length_within, step_length, subscripts_length, whole_paths}

-- ---- the item of a number passes a test

data IsAt {A : Type 0} (p : A → Bool) : List A → ℕ → Type 0 where
  now : {x : A} {xs : List A} → p x ≡ true → IsAt p (x ∷ xs) 0
  after : {x : A} {xs : List A} {n : ℕ} → IsAt p xs n → IsAt p (x ∷ xs) (suc n)

at_number : {A : Type 0} (p : A → Bool) (xs : List A) (n m : ℕ) → n ≡ m → IsAt p xs n → IsAt p xs m
at_number p xs n m e h = subst (λ k. IsAt p xs k) e h

at_below : {A : Type 0} (p : A → Bool) (xs : List A) (n : ℕ) → IsAt p xs n → n < length xs
at_below p xs n (now e) = omega arith
at_below p xs n (after {xs = ys} {n = m} h) = omega (arith, at_below p ys m h)

holds_at : {A : Type 0} (p : A → Bool) (xs : List A) (n : ℕ) → IsAt p xs n → HoldsAt (λ x. p x ≡ true) xs n
holds_at p xs n (now e) d = e
holds_at p xs n (after {xs = ys} {n = m} h) d = holds_at p ys m h d

at_left : {A : Type 0} (p : A → Bool) (xs ys : List A) (n : ℕ) → IsAt p xs n → IsAt p (xs ++ ys) n
at_left p xs ys n (now e) = now e
at_left p xs ys n (after {xs = zs} {n = m} h) = after (at_left p zs ys m h)

at_right : {A : Type 0} (p : A → Bool) (xs ys : List A) (n : ℕ) → IsAt p ys n → IsAt p (xs ++ ys) (length xs + n)
at_right p [] ys n h = let e : n ≡ 0 + n = omega arith in at_number p ys n (0 + n) e h
at_right p (x ∷ xs) ys n h =
    let e : suc (length xs + n) ≡ length (x ∷ xs) + n = omega arith in
    at_number p (x ∷ (xs ++ ys)) (suc (length xs + n)) (length (x ∷ xs) + n) e (after (at_right p xs ys n h))

-- behind so many others
at_behind : {A : Type 0} (p : A → Bool) (xs ys : List A) (k n : ℕ) → length xs ≡ k → IsAt p ys n → IsAt p (xs ++ ys) (k + n)
at_behind p xs ys k n e h = at_number p (xs ++ ys) (length xs + n) (k + n) (ap (λ m. m + n) e) (at_right p xs ys n h)

at_map : {A B : Type 0} (f : A → B) (p : B → Bool) (q : A → Bool) → ((x : A) → q x ≡ true → p (f x) ≡ true) → (xs : List A) (n : ℕ) → IsAt q xs n → IsAt p (map f xs) n
at_map f p q t xs n (now {x = x} e) = now (t x e)
at_map f p q t xs n (after {xs = ys} {n = m} h) = after (at_map f p q t ys m h)

at_unmapped : {A B : Type 0} (f : A → B) (p : B → Bool) (xs : List A) (n : ℕ) → IsAt p (map f xs) n → IsAt (λ x. p (f x)) xs n
at_unmapped f p [] n h = elim h [ ]
at_unmapped f p (x ∷ xs) n (now e) = now e
at_unmapped f p (x ∷ xs) n (after {n = m} h) = after (at_unmapped f p xs m h)

both_true : (a b : Bool) → a ≡ true → b ≡ true → (a && b) ≡ true
both_true true b e h = h
both_true false b e h = e

-- ---- paths

abbrev leaf_test : Path → LeafIn → Bool
leaf_test p l = is_same_path p l.path

at_within : (s t : Selector) (name : List ℕ) (p : Path) (ls : List LeafIn) (k : ℕ) → is_same_selector s t ≡ true → IsAt (leaf_test p) ls k → IsAt (leaf_test (s ∷ p)) (within t name ls) k
at_within s t name p ls k same h =
    at_map (λ l. record { path = t ∷ l.path; spine = name ∷ l.spine; initial = l.initial; use' = l.use' }) (leaf_test (s ∷ p)) (leaf_test p)
    (λ l e. both_true (is_same_selector s t) (is_same_path p l.path) same e) ls k h

is_word_of : (a b : List ℕ) → is_word b a ≡ true → is_word a b ≡ true
is_word_of a b e = is_word_comm a b ∙ e

-- ---- elements

next_number : (z : ℤ) → next z ≡ z +ℤ pos 1
next_number (pos n) = omega (arith, ints)
next_number (negsuc zero) = refl
next_number (negsuc (suc n)) = omega (arith, ints)

numbers_at : (n k : ℕ) (i low : ℤ) → k < n → i ≡ low +ℤ pos k → IsAt (int_eq i) (numbers n low) k
numbers_at zero k i low h e = absurd (omega (arith, h))
numbers_at (suc n) zero i low h e = let same : i ≡ low = omega (arith, ints, e) in now ((Decides-int_eq i low).1 same)
numbers_at (suc n) (suc k) i low h e = after (numbers_at n k i (next low) (omega (arith, h)) (omega (arith, ints, e, next_number low)))

lists_at : (i : ℤ) (is numbers' : List ℤ) (lists : List (List ℤ)) (j k : ℕ) → IsAt (int_eq i) numbers' j → IsAt (are_same_numbers is) lists k
    → IsAt (are_same_numbers (i ∷ is)) (flat_map (λ n. map (λ ns. n ∷ ns) lists) numbers') (j * length lists + k)
lists_at i is numbers' lists j k (now {x = n} {xs = ns} e) h =
    let z : k ≡ 0 * length lists + k = omega arith in
    at_number (are_same_numbers (i ∷ is)) (flat_map (λ m. map (λ ms. m ∷ ms) lists) (n ∷ ns)) k (0 * length lists + k) z
    (at_left (are_same_numbers (i ∷ is)) (map (λ ms. n ∷ ms) lists) (flat_map (λ m. map (λ ms. m ∷ ms) lists) ns) k
    (at_map (λ ms. n ∷ ms) (are_same_numbers (i ∷ is)) (are_same_numbers is) (λ ms same. both_true (int_eq i n) (are_same_numbers is ms) e same) lists k h))
lists_at i is numbers' lists j k (after {x = n} {xs = ns} {n = m} g) h =
    let z : length lists + (m * length lists + k) ≡ suc m * length lists + k = omega (arith, suc-mul m (length lists)) in
    at_number (are_same_numbers (i ∷ is)) (flat_map (λ m. map (λ ms. m ∷ ms) lists) (n ∷ ns)) (length lists + (m * length lists + k)) (suc m * length lists + k) z
    (at_behind (are_same_numbers (i ∷ is)) (map (λ ms. n ∷ ms) lists) (flat_map (λ m. map (λ ms. m ∷ ms) lists) ns) (length lists) (m * length lists + k)
    (length-map lists (λ ms. n ∷ ms)) (lists_at i is ns lists m k g h))

-- the number of an element, of which its distance is a multiple
record Element (size : ℕ) (ranges : List Subrange) (is : List ℤ) (d : ℕ) : Type 0 where
  number : ℕ
  stands : IsAt (are_same_numbers is) (subscript_lists ranges) number
  far : d ≡ number * size

stride_is : (a e size n d m : ℕ) → d ≡ n * size → m ≡ e → a * (e * size) + d ≡ (a * m + n) * size
stride_is a e size n d m far same =
    ap (λ k. a * (e * size) + k) far ∙ ap (λ k. k + n * size) (sym (mul_assoc a e size)) ∙ sym (add-mul (a * e) n size) ∙ ap (λ k. (a * k + n) * size) (sym same)

element_at : (size : ℕ) (ranges : List Subrange) (is : List ℤ) (d : ℕ) → IsDistance size ranges is d → Element size ranges is d
element_at size ranges is d no_more = record { number = 0; stands = now refl; far = omega arith }
element_at size ranges is d (above {r = r} {rs = rs} {i = i} {is = js} {far = a} {d = b} lt e h) =
    let more = element_at size rs js b h in record {
      number = a * length (subscript_lists rs) + more.number;
      stands = lists_at i js (numbers_in r) (subscript_lists rs) a more.number (numbers_at (extent_of r) a i (number_of r.lower) lt e) more.stands;
      far = stride_is a (extent rs) size more.number b (length (subscript_lists rs)) more.far (subscripts_length rs);
    }

at_starting : (first' : Option Constant) (p : Path) (ls : List LeafIn) (k : ℕ) → IsAt (leaf_test p) ls k → IsAt (leaf_test p) (starting first' ls) k
at_starting None p ls k h = h
at_starting (Some c) p [] k h = elim h [ ]
at_starting (Some c) p (l ∷ ls) k (now e) = now e
at_starting (Some c) p (l ∷ ls) k (after {n = m} h) = after (at_starting (Some c) p ls m h)

elements_at : (is : List ℤ) (lists : List (List ℤ)) (firsts : List (Option Constant)) (p : Path) (ls : List LeafIn) (j k : ℕ) → IsAt (are_same_numbers is) lists j → IsAt (leaf_test p) ls k
    → IsAt (leaf_test (index is ∷ p)) (elements_in lists firsts ls) (j * length ls + k)
elements_at is lists firsts p ls j k (now {x = ns} {xs = others} e) h =
    let z : k ≡ 0 * length ls + k = omega arith in
    at_number (leaf_test (index is ∷ p)) (elements_in (ns ∷ others) firsts ls) k (0 * length ls + k) z
    (at_left (leaf_test (index is ∷ p)) (within (index ns) (codes "array") (starting (first_written firsts) ls)) (elements_in others (drop 1 firsts) ls) k
    (at_within (index is) (index ns) (codes "array") p (starting (first_written firsts) ls) k e (at_starting (first_written firsts) p ls k h)))
elements_at is lists firsts p ls j k (after {x = ns} {xs = others} {n = m} g) h =
    let z : length ls + (m * length ls + k) ≡ suc m * length ls + k = omega (arith, suc-mul m (length ls)) in
    at_number (leaf_test (index is ∷ p)) (elements_in (ns ∷ others) firsts ls) (length ls + (m * length ls + k)) (suc m * length ls + k) z
    (at_behind (leaf_test (index is ∷ p)) (within (index ns) (codes "array") (starting (first_written firsts) ls)) (elements_in others (drop 1 firsts) ls) (length ls) (m * length ls + k)
    (element_length ns (first_written firsts) ls) (elements_at is others (drop 1 firsts) p ls m k g h))

-- ---- members

member_at : (whole name : List ℕ) (p : Path) (ms : Members) (d : ℕ) (c : Composition) (k : ℕ) → IsMember name ms d c → IsAt (leaf_test p) (leaves_in c) k
    → IsAt (leaf_test (field name ∷ p)) (members_in whole ms) (d + k)
member_at whole name p ms d c k (here {other = other} {ms = more} e) h =
    let z : k ≡ 0 + k = omega arith in
    at_number (leaf_test (field name ∷ p)) (within (field other) whole (leaves_in c) ++ members_in whole more) k (0 + k) z
    (at_left (leaf_test (field name ∷ p)) (within (field other) whole (leaves_in c)) (members_in whole more) k
    (at_within (field name) (field other) whole p (leaves_in c) k (is_word_of name other e) h))
member_at whole name p ms d c k (later {other = other} {c = b} {ms = more} {k = n} e g) h =
    let z : count b + (n + k) ≡ count b + n + k = omega arith in
    at_number (leaf_test (field name ∷ p)) (within (field other) whole (leaves_in b) ++ members_in whole more) (count b + (n + k)) (count b + n + k) z
    (at_behind (leaf_test (field name ∷ p)) (within (field other) whole (leaves_in b)) (members_in whole more) (count b) (n + k)
    (length_within (field other) whole (leaves_in b) ∙ length_is_count b) (member_at whole name p more n c k g h))

-- ---- inputs and outputs

pins_at : (whole name : List ℕ) (pins : List Pin) (k : ℕ) → IsPart (λ p. p.name) (λ p. 1) name pins k → IsAt (leaf_test (field name ∷ [])) (flat_map (pin_leaf whole) pins) k
pins_at whole name pins k (first {x = p} e) = now (both_true (is_word name p.name) true (is_word_of name p.name e) refl)
pins_at whole name pins k (behind {xs = ps} {k = n} e h) =
    let z : suc n ≡ 1 + n = omega arith in at_number (leaf_test (field name ∷ [])) (flat_map (pin_leaf whole) pins) (suc n) (1 + n) z (after (pins_at whole name ps n h))

pin_at : (name : List ℕ) (b : StandardBlock) (k : ℕ) → IsPin name b k → IsAt (leaf_test (field name ∷ [])) (block_leaves b) k
pin_at name b k h =
    at_left (leaf_test (field name ∷ [])) (flat_map (pin_leaf (block_name b)) (pins_of b)) (flat_map (kept_leaf (block_name b)) (kept_by b)) k (pins_at (block_name b) name (pins_of b) k h)

-- ---- steps

-- at the same place of each step
abbrev InEachStep : Path → ℕ → Type 0
InEachStep p j = (back : ℕ) (is_initial has_pulse : Bool) → IsAt (leaf_test p) (state_in back is_initial has_pulse) j

flag_in : (x : List ℕ) → is_word (codes "X") x ≡ true → InEachStep (field x ∷ []) 0
flag_in x e back is_initial has_pulse = now (both_true (is_word x (codes "X")) true (is_word_of x (codes "X") e) refl)

time_in : (t : List ℕ) → is_word (codes "T") t ≡ true → InEachStep (field t ∷ []) 1
time_in t e back is_initial has_pulse = after (now (both_true (is_word t (codes "T")) true (is_word_of t (codes "T") e) refl))

steps_at : (whole name : List ℕ) (p : Path) (j : ℕ) → InEachStep p j → (back : ℕ) (steps : List Step) (k : ℕ) → IsPart (λ s. s.name.spelling) step_count name steps k
    → IsAt (leaf_test (field name ∷ p)) (all_steps_in whole back steps) (k + j)
steps_at whole name p j each back steps k (first {x = s} {xs = more} e) =
    let z : j ≡ 0 + j = omega arith in
    at_number (leaf_test (field name ∷ p)) (all_steps_in whole back (s ∷ more)) j (0 + j) z
    (at_left (leaf_test (field name ∷ p)) (step_in whole back s) (all_steps_in whole (back + length (step_in whole back s)) more) j
    (at_within (field name) (field s.name.spelling) whole p (state_in back s.is_initial (list_any is_pulse s.associations)) j (is_word_of name s.name.spelling e)
    (each back s.is_initial (list_any is_pulse s.associations))))
steps_at whole name p j each back steps k (behind {x = s} {xs = more} {k = n} e h) =
    let z : step_count s + (n + j) ≡ step_count s + n + j = omega arith in
    at_number (leaf_test (field name ∷ p)) (all_steps_in whole back (s ∷ more)) (step_count s + (n + j)) (step_count s + n + j) z
    (at_behind (leaf_test (field name ∷ p)) (step_in whole back s) (all_steps_in whole (back + length (step_in whole back s)) more) (step_count s) (n + j) (step_length whole back s)
    (steps_at whole name p j each (back + length (step_in whole back s)) more n h))

some_part : {A : Type 0} (name_of : A → List ℕ) (count_of : A → ℕ) (name : List ℕ) (xs : List A) (k : ℕ) → IsPart name_of count_of name xs k → 0 < length xs
some_part name_of count_of name xs k (first e) = omega arith
some_part name_of count_of name xs k (behind e h) = omega arith

chart_at : (whole name : List ℕ) (p : Path) (j : ℕ) → InEachStep p j → (stored : List (List ℕ)) (chart : List ChartElement) (k : ℕ) → IsStep name chart k
    → IsAt (leaf_test (field name ∷ p)) (chart_in whole stored chart) (1 + (k + j))
chart_at whole name p j each stored [] k h = absurd (omega (arith, some_part (λ s. s.name.spelling) step_count name [] k h))
chart_at whole name p j each stored (e ∷ es) k h =
    at_behind (leaf_test (field name ∷ p)) (one (kept (codes "CHART")) whole (truth false) begun) (all_steps_in whole 1 steps ++ flat_map (stored_in whole) stored) 1 (k + j) refl
    (at_left (leaf_test (field name ∷ p)) (all_steps_in whole 1 steps) (flat_map (stored_in whole) stored) (k + j) (steps_at whole name p j each 1 steps k h)) where
      steps : List Step
      steps = flat_map steps_in (e ∷ es)

step_at : (whole name : List ℕ) (p : Path) (j : ℕ) → InEachStep p j → (ms : Members) (chart : List ChartElement) (k : ℕ) → IsStep name chart k
    → IsAt (leaf_test (field name ∷ p)) (leaves_in (composed whole ms chart)) (counts ms + (1 + (k + j)))
step_at whole name p j each ms chart k h =
    let stored = stored_by (member_names ms) chart in
    at_behind (leaf_test (field name ∷ p)) (members_in whole ms) (chart_in whole stored chart) (counts ms) (1 + (k + j)) (length_is_counts whole ms) (chart_at whole name p j each stored chart k h)

-- ---- what variables consist of

is_at : (c : Composition) (p : Path) (k : ℕ) → LeadsTo c p k → IsAt (leaf_test p) (leaves_in c) k
is_at c p k end = now refl
is_at c p k (element {ranges = ranges} {firsts = firsts} {c = e} {is = is} {path = q} {d = d} {k = j} far h) =
    let w = element_at (count e) ranges is d far in
    let n : w.number * length (leaves_in e) + j ≡ d + j = ap (λ m. w.number * m + j) (length_is_count e) ∙ ap (λ m. m + j) (sym w.far) in
    at_number (leaf_test (index is ∷ q)) (elements_in (subscript_lists ranges) firsts (leaves_in e)) (w.number * length (leaves_in e) + j) (d + j) n
    (elements_at is (subscript_lists ranges) firsts q (leaves_in e) w.number j w.stands (is_at e q j h))
is_at c p k (into {whole = whole} {name = name} {ms = ms} {chart = chart} {c = b} {path = q} {d = d} {k = j} g h) =
    at_left (leaf_test (field name ∷ q)) (members_in whole ms) (chart_in whole (stored_by (member_names ms) chart) chart) (d + j) (member_at whole name q ms d b j g (is_at b q j h))
is_at c p k (pin {b = b} {name = name} {k = j} h) = pin_at name b j h
is_at c p k (flag {whole = whole} {name = name} {x = x} {ms = ms} {chart = chart} {k = j} h e) =
    let z : counts ms + (1 + (j + 0)) ≡ counts ms + (1 + j) = omega arith in
    at_number (leaf_test (field name ∷ field x ∷ [])) (leaves_in (composed whole ms chart)) (counts ms + (1 + (j + 0))) (counts ms + (1 + j)) z
    (step_at whole name (field x ∷ []) 0 (flag_in x e) ms chart j h)
is_at c p k (time {whole = whole} {name = name} {t = t} {ms = ms} {chart = chart} {k = j} h e) = step_at whole name (field t ∷ []) 1 (time_in t e) ms chart j h

-- in a whole program too
in_whole : (c : Composition) (p : Path) (k : ℕ) → IsAt (leaf_test p) (leaves_in c) k → IsAt (leaf_test p) (leaves_of_whole c) k
in_whole c p k h =
    at_unmapped (λ l. l.path) (is_same_path p) (leaves_of_whole c) k
    (subst (λ ps. IsAt (is_same_path p) ps k) (sym (whole_paths c)) (at_map (λ l. l.path) (is_same_path p) (leaf_test p) (λ l e. e) (leaves_in c) k h))

pub places_are_numbers : PlacesAreNumbers
places_are_numbers c p k h =
    let place = is_at c p k h in (
      subst (λ n. k < n) (length_is_count c) (at_below (leaf_test p) (leaves_in c) k place),
      (holds_at (leaf_test p) (leaves_in c) k place, holds_at (leaf_test p) (leaves_of_whole c) k (in_whole c p k place)),
    )
