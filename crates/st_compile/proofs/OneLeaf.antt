-- Where names are distinct, each place is that of one leaf.
use Rattle.std.proofs.Common.{◌≡◌, ℕ, ◌+◌, ℤ, Bool, true, false, cond, not, nat_lt, ◌<◌, List, [], ◌∷◌, ◌<◌, map, length, get_or, slice_index_or, Option, Some, None, refl, ap, sym, ◌∙◌, subst, arith}
use Rattle.std.specs.Ordering.{int_eq}
use Rattle.std.specs.List.{AllPairs, position, position_or_len}
use Rattle.std.proofs.lemmas.Bool.{and_parts}
use Rattle.std.proofs.lemmas.Bool.Decides.{Decides-int_eq}
use Rattle.st_types.specs.Compositions.{Composition}
use Rattle.st_types.specs.Names.{Named}
use Rattle.st_leaves.specs.LeavesIn.{LeafIn, leaves_in, leaves_of_whole}
use Rattle.st_leaves.specs.Paths.{Path, Selector, field, kept, index, are_same_numbers, is_same_path, is_same_selector}
use Rattle.std.proofs.lemmas.List.{length-map}
use Rattle.std.proofs.lemmas.List.Quantifiers.{position-Some}
use Rattle.st_leaves.proofs.Numbers.{leaves_are_counted, whole_paths}
use Rattle.st_leaves.proofs.Places.{places_are_numbers}
use Rattle.st_layout.proofs.Paths.{position-None}
use Rattle.st_layout.proofs.Fronts.{Decides-is_word}
use Rattle.st_values.specs.Words.{is_word}
use Rattle.st_leaves.proofs.WaysApart.{ways_are_distinct}
use Rattle.st_meaning.specs.Units.{root_of}
use Rattle.st_places.specs.Laws.{IsSoundUnit}
use Rattle.st_meaning.specs.Sound.{HasOneLeafEach, no_leaf}

-- ---- two paths that are the same as a third are the same

word_between : (a b c : List ℕ) → is_word a b ≡ true → is_word a c ≡ true → is_word b c ≡ true
word_between a b c e f = (Decides-is_word b c).1 (sym ((Decides-is_word a b).0 e) ∙ (Decides-is_word a c).0 f)

same_numbers : (is js : List ℤ) → are_same_numbers is js ≡ true → is ≡ js
same_numbers [] [] e = refl
same_numbers [] (j ∷ js) e = absurd cc
same_numbers (i ∷ is) [] e = absurd cc
same_numbers (i ∷ is) (j ∷ js) e =
    let parts = and_parts (int_eq i j) (are_same_numbers is js) e in
    let here = (Decides-int_eq i j).0 parts.0 in
    let rest = same_numbers is js parts.1 in
    cc

numbers_between : (a b c : List ℤ) → are_same_numbers a b ≡ true → are_same_numbers a c ≡ true → are_same_numbers b c ≡ true
numbers_between a b c e f = subst (λ x. are_same_numbers x c ≡ true) (same_numbers a b e) f

selector_between : (s t u : Selector) → is_same_selector s t ≡ true → is_same_selector s u ≡ true → is_same_selector t u ≡ true
selector_between (field a) (field b) (field c) e f = word_between a b c e f
selector_between (kept a) (kept b) (kept c) e f = word_between a b c e f
selector_between (index a) (index b) (index c) e f = numbers_between a b c e f
selector_between (field a) (field b) (kept c) e f = absurd cc
selector_between (field a) (field b) (index c) e f = absurd cc
selector_between (field a) (kept b) u e f = absurd cc
selector_between (field a) (index b) u e f = absurd cc
selector_between (kept a) (field b) u e f = absurd cc
selector_between (kept a) (kept b) (field c) e f = absurd cc
selector_between (kept a) (kept b) (index c) e f = absurd cc
selector_between (kept a) (index b) u e f = absurd cc
selector_between (index a) (field b) u e f = absurd cc
selector_between (index a) (kept b) u e f = absurd cc
selector_between (index a) (index b) (field c) e f = absurd cc
selector_between (index a) (index b) (kept c) e f = absurd cc

path_between : (p q r : Path) → is_same_path p q ≡ true → is_same_path p r ≡ true → is_same_path q r ≡ true
path_between [] [] [] e f = refl
path_between [] [] (u ∷ r) e f = absurd cc
path_between [] (t ∷ q) r e f = absurd cc
path_between (s ∷ p) [] r e f = absurd cc
path_between (s ∷ p) (t ∷ q) [] e f = absurd cc
path_between (s ∷ p) (t ∷ q) (u ∷ r) e f =
    let first = and_parts (is_same_selector s t) (is_same_path p q) e in
    let second = and_parts (is_same_selector s u) (is_same_path p r) f in
    let here = selector_between s t u first.0 second.0 in
    let rest = path_between p q r first.1 second.1 in
    cc

-- ---- the first leaf with a path

abbrev has_path : Path → LeafIn → Bool
has_path path l = is_same_path path l.path

-- ---- of leaves no two of which have the same path

abbrev pub ArePathsApart : List LeafIn → Type 0
ArePathsApart ls = AllPairs (λ l other. is_same_path l.path other.path ≡ false) ls

twice : (ls : List LeafIn) → ArePathsApart ls → (path : Path) (i n : ℕ) (d : LeafIn) → i < n → n < length ls
    → has_path path (slice_index_or ls i d) ≡ true → has_path path (slice_index_or ls n d) ≡ true → ⊥
twice ls apart path i n d before below first second =
    let same = path_between path (slice_index_or ls i d).path (slice_index_or ls n d).path first second in
    let other = apart i n d before below in
    absurd cc

first_with : (ls : List LeafIn) → ArePathsApart ls → (path : Path) (n : ℕ) (o : Option ℕ) → n < length ls → has_path path (get_or ls n no_leaf) ≡ true
    → position (has_path path) ls ≡ o → o ≡ Some n
first_with ls apart path n None below passes none =
    let fails = position-None (has_path path) ls n no_leaf none below in
    absurd cc
first_with ls apart path n (Some i) below passes found =
    let at = position-Some (has_path path) ls i no_leaf found in
    let not_before : i < n → ⊥ = λ before. twice ls apart path i n no_leaf before below at.1 passes in
    let not_behind : n < i → ⊥ = λ behind. absurd (let fails = at.2 n behind in cc) in
    ap Some (omega (arith, not_before, not_behind))

-- which of the leaves has a path is told by their paths
prefix_by_path : (path : Path) (ls : List LeafIn) → position_or_len (has_path path) ls ≡ position_or_len (is_same_path path) (map (λ l. l.path) ls)
prefix_by_path path [] = refl
prefix_by_path path (l ∷ ls) = ap (λ k. cond (not (is_same_path path l.path)) (1 + k) 0) (prefix_by_path path ls)

position_by_path : (path : Path) (ls : List LeafIn) → position (has_path path) ls ≡ position (is_same_path path) (map (λ l. l.path) ls)
position_by_path path ls =
    let place = prefix_by_path path ls in
    let number = length-map ls (λ l. l.path) in
    ap (λ k. cond (nat_lt k (length ls)) (Some k) None) place
    ∙ ap (λ m. cond (nat_lt (position_or_len (is_same_path path) (map (λ l. l.path) ls)) m) (Some (position_or_len (is_same_path path) (map (λ l. l.path) ls))) None) (sym number)

pub apart_has_one : (c : Composition) → ArePathsApart (leaves_of_whole c) → HasOneLeafEach c
apart_has_one c apart path n leads =
    let place = places_are_numbers c path n leads in
    let within : n < length (leaves_of_whole c) = subst (λ k. n < k) (sym (leaves_are_counted c).1) place.0 in
    position_by_path path (leaves_in c) ∙ ap (position (is_same_path path)) (sym (whole_paths c)) ∙ sym (position_by_path path (leaves_of_whole c))
    ∙ first_with (leaves_of_whole c) apart path n (position (has_path path) (leaves_of_whole c)) within (place.1.1 no_leaf) refl

-- ---- of the leaves of a unit

pub one_leaf_each : (units : List Named) (u : Named) → IsSoundUnit units u → HasOneLeafEach (root_of units u)
one_leaf_each units u sound = apart_has_one (root_of units u) (ways_are_distinct (root_of units u) sound.distinct)
