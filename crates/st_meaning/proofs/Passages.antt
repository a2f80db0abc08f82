-- The transitions of a chart, with the numbers of their steps.
use Rattle.std.proofs.Common.{◌≡◌, ℕ, suc, ◌+◌, ◌<◌, Bool, Option, Some, None, List, [], ◌∷◌, ◌++◌, length, map, take, get_or, refl, ap, sym, subst, ◌∙◌, arith}
use Rattle.std.specs.List.{All, position}
use Rattle.std.proofs.lemmas.List.Elements.{All-cons, All-map, All-nil}
use Rattle.st_values.specs.Words.{is_word}
use Rattle.st_values.proofs.SameWords.{is_word_comm}
use Rattle.st_types.specs.Tables.{first_of}
use Rattle.st_tree.specs.declared.tree.position.Identifier.{Identifier}
use Rattle.st_tree.specs.declared.tree.unit.Transition.{Transition as Tree}
use Rattle.st_charts.specs.Passages.{Passage, passage_of, passages_of}
use Rattle.st_charts.specs.declared.table.Transition.{Transition}
use Rattle.st_meaning.specs.Sketched.{number_listed, numbers_among, passage_in}
use Rattle.st_meaning.proofs.Lists.{each_flat, flat_one, flat_same, found_below}

-- ---- the number of a name

-- as a table of names finds it
position_by : {A : Type 0} (p q : A → Bool) → ((x : A) → p x ≡ q x) → (xs : List A) → position p xs ≡ position q xs
position_by p q same xs = grind (arith, same)

pub found_so : (names : List (List ℕ)) (name : List ℕ) → first_of names name ≡ position (is_word name) names
found_so names name = position_by (λ n. is_word n name) (is_word name) (λ n. is_word_comm n name) names

-- ---- the numbers of names

pub number_more : (names : List (List ℕ)) (identifiers : List Identifier) (k : ℕ) (i : Identifier) (name : List ℕ) (n : ℕ) (now new : List ℕ) → k < length identifiers → i ≡ get_or identifiers k i → name ≡ i.spelling
    → first_of names name ≡ Some n → now ≡ numbers_among names (take k identifiers) → new ≡ now ++ n ∷ [] → new ≡ numbers_among names (take (k + 1) identifiers)
number_more names identifiers k i name n now new within at named found so_far added =
    added ∙ ap (λ ns. ns ++ n ∷ []) so_far
    ∙ sym (flat_one (λ j. number_listed (position (is_word j.spelling) names)) identifiers k i n within at
    (ap number_listed (ap (λ w. position (is_word w) names) (sym named) ∙ sym (found_so names name) ∙ found)))

pub number_none : (names : List (List ℕ)) (identifiers : List Identifier) (k : ℕ) (i : Identifier) (name now : List ℕ) → k < length identifiers → i ≡ get_or identifiers k i → name ≡ i.spelling
    → first_of names name ≡ None → now ≡ numbers_among names (take k identifiers) → now ≡ numbers_among names (take (k + 1) identifiers)
number_none names identifiers k i name now within at named found so_far =
    so_far
    ∙ sym (flat_same (λ j. number_listed (position (is_word j.spelling) names)) identifiers k i within at
    (ap number_listed (ap (λ w. position (is_word w) names) (sym named) ∙ sym (found_so names name) ∙ found)))

-- ---- each is the number of one of the names

listed_below : (p : List ℕ → Bool) (names : List (List ℕ)) → All (λ n. n < length names) (number_listed (position p names))
listed_below p names = by (position p names) (found_below p names)
  where
    by : (o : Option ℕ) → ((i : ℕ) → o ≡ Some i → i < length names) → All (λ n. n < length names) (number_listed o)
    by None h = All-nil (λ n. n < length names)
    by (Some i) h = All-cons (λ n. n < length names) i [] (h i refl) (All-nil (λ n. n < length names))

numbers_below : (names : List (List ℕ)) (identifiers : List Identifier) → All (λ n. n < length names) (numbers_among names identifiers)
numbers_below names identifiers =
    each_flat (λ n. n < length names) (λ (i : Identifier). number_listed (position (is_word i.spelling) names)) (λ i. listed_below (is_word i.spelling) names) identifiers

of_mapped : {X Y : Type 0} (P : Y → Type 0) (f : X → Y) (xs : List X) → All P (map f xs) → All (λ x. P (f x)) xs
of_mapped P f [] h = All-nil (λ x. P (f x))
of_mapped P f (x ∷ xs) h = All-cons (λ y. P (f y)) x xs (h 0 (f x) (omega arith)) (of_mapped P f xs (λ k d lt. h (suc k) d (omega (arith, lt))))

pub before_within : (names : List (List ℕ)) (made : List Transition) (ts : List Tree) (count : ℕ) → count ≡ length names → passages_of made ≡ map (passage_in names) ts
    → All (λ t. All (λ s. s < count) t.before.items) made
before_within names made ts count counted are =
    of_mapped (λ (t : Passage). All (λ s. s < count) t.before) passage_of made
    (subst (All (λ (t : Passage). All (λ s. s < count) t.before)) (sym are)
    (All-map (λ (t : Passage). All (λ s. s < count) t.before) (passage_in names) ts (λ k d lt. subst (λ n. All (λ s. s < n) (numbers_among names (get_or ts k d).from)) (sym counted) (numbers_below names (get_or ts k d).from))))

pub after_within : (names : List (List ℕ)) (made : List Transition) (ts : List Tree) (count : ℕ) → count ≡ length names → passages_of made ≡ map (passage_in names) ts
    → All (λ t. All (λ s. s < count) t.after.items) made
after_within names made ts count counted are =
    of_mapped (λ (t : Passage). All (λ s. s < count) t.after) passage_of made
    (subst (All (λ (t : Passage). All (λ s. s < count) t.after)) (sym are)
    (All-map (λ (t : Passage). All (λ s. s < count) t.after) (passage_in names) ts (λ k d lt. subst (λ n. All (λ s. s < n) (numbers_among names (get_or ts k d).to)) (sym counted) (numbers_below names (get_or ts k d).to))))
