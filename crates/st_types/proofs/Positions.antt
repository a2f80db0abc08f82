-- The first of a name in a list.
use Rattle.std.proofs.Common.{◌≡◌, ℕ, ◌+◌, ◌<◌, ◌≤◌, Bool, true, false, cond, not, ltb, eqb, List, [], ◌∷◌, ◌++◌, length, Option, Some, None, IfSome, position, refl, sym, ◌∙◌, ap, arith}
use Rattle.std.specs.List.{position_or_len}
use Rattle.std.specs.Option.{unwrap_or}
use Rattle.std.specs.Str.{bytes_eq, str_to_ascii_lowercase}
use Rattle.std.proofs.lemmas.Bool.Decides.{nat_tests}
use Rattle.std.proofs.lemmas.Grind.{common_steps}
use Rattle.std.proofs.lemmas.List.Folds.{position_or_len_push}
use Rattle.std.proofs.lemmas.List.Quantifiers.{position-Some}
use Rattle.std.proofs.lemmas.List.Sums.{prefix_len-le-length}
use Rattle.std.proofs.lemmas.Slice.Eq.{bytes_eq-Decides}
use Rattle.indexmap.specs.IndexMap.{IndexMap, get}
use Rattle.st_values.specs.Words.{is_word}
use Rattle.st_types.specs.Tables.{HasFirsts, first_of, is_same}

-- the first of two, where it is there
abbrev or_else : {X : Type 0} → Option X → Option X → Option X
or_else None other = other
or_else (Some x) other = Some x

or_else-None : {X : Type 0} (first : Option X) → or_else first None ≡ first
or_else-None None = refl
or_else-None (Some x) = refl

-- the first place after one element more
module _ {X : Type 0} (test : X → Bool) (xs : List X) (y : X) where
  within : position_or_len test xs ≤ length xs
  within = prefix_len-le-length (λ x. not (test x)) xs

  past : ltb (position_or_len test xs) (length xs) ≡ false → position_or_len test (xs ++ y ∷ []) ≡ length xs + cond (test y) 0 1
  past e =
      let last : position_or_len test xs ≡ length xs = grind (arith, nat_tests, within) in
      let is_last : eqb (position_or_len test xs) (length xs) ≡ true = grind (arith, nat_tests) in
      position_or_len_push test xs y ∙ ap (λ (b : Bool). cond b (length xs + cond (test y) 0 1) (position_or_len test xs)) is_last

  early : ltb (position_or_len test xs) (length xs) ≡ true → position_or_len test (xs ++ y ∷ []) ≡ position_or_len test xs
  early e =
      let not_last : eqb (position_or_len test xs) (length xs) ≡ false = grind (arith, nat_tests) in
      position_or_len_push test xs y ∙ ap (λ (b : Bool). cond b (length xs + cond (test y) 0 1) (position_or_len test xs)) not_last

  pub position-push : position test (xs ++ y ∷ []) ≡ or_else (position test xs) (cond (test y) (Some (length xs)) None)
  position-push = by (ltb (position_or_len test xs) (length xs)) refl (test y) refl
    where
      by : (found : Bool) → ltb (position_or_len test xs) (length xs) ≡ found → (passes : Bool) → test y ≡ passes
          → position test (xs ++ y ∷ []) ≡ or_else (cond found (Some (position_or_len test xs)) None) (cond passes (Some (length xs)) None)
      by true e passes h =
          let lt : ltb (position_or_len test xs) (length (xs ++ y ∷ [])) ≡ true = grind (arith, nat_tests, common_steps) in
          rw (early e, lt) refl
      by false e true h =
          let i : position_or_len test (xs ++ y ∷ []) ≡ length xs = past e ∙ rw h (omega arith) in
          let lt : ltb (length xs) (length (xs ++ y ∷ [])) ≡ true = grind (arith, nat_tests, common_steps) in
          rw (i, lt) refl
      by false e false h =
          let i : position_or_len test (xs ++ y ∷ []) ≡ length xs + 1 = past e ∙ rw h (omega arith) in
          let lt : ltb (length xs + 1) (length (xs ++ y ∷ [])) ≡ false = grind (arith, nat_tests, common_steps) in
          rw (i, lt) refl

-- the number of a name is below the number of names
pub first-within : (names : List (List ℕ)) (name : List ℕ) (found : Option ℕ) → found ≡ first_of names name → IfSome found (λ i. i < length names)
first-within names name None e = tt
first-within names name (Some i) e = (position-Some (λ n. is_word n name) names i [] (sym e)).0

-- whichever comes first
flipped : (a b : List ℕ) → is_same a b ≡ is_same b a
flipped a b = by (is_same a b) refl (is_same b a) refl
  where
    forth : (x y : List ℕ) → is_same x y ≡ true → is_same y x ≡ true
    forth x y h =
        (bytes_eq-Decides (str_to_ascii_lowercase y) (str_to_ascii_lowercase x)).1 (sym ((bytes_eq-Decides (str_to_ascii_lowercase x) (str_to_ascii_lowercase y)).0 h))

    by : (s : Bool) → is_same a b ≡ s → (t : Bool) → is_same b a ≡ t → s ≡ t
    by true e true h = refl
    by false e false h = refl
    by true e false h = let k = forth a b e in cc
    by false e true h = let k = forth b a h in cc

-- the same spelling has the same first
same_first : (names : List (List ℕ)) (a b : List ℕ) → is_same a b ≡ true → first_of names a ≡ first_of names b
same_first names a b h =
    ap (λ (low : List ℕ). position (λ n. bytes_eq low (str_to_ascii_lowercase n)) names) ((bytes_eq-Decides (str_to_ascii_lowercase a) (str_to_ascii_lowercase b)).0 h)

module _ {S : Type 0} (names : List (List ℕ)) (name : List ℕ) (old : IndexMap (List ℕ) ℕ S) (firsts : HasFirsts old names) where
  -- after a name is put into the map, with the number that it has there, or else the next
  pub firsts-entered : (new : IndexMap (List ℕ) ℕ S) (v : ℕ) → v ≡ unwrap_or (get is_same old name) (length names)
      → ((q : List ℕ) → get is_same new q ≡ cond (is_same name q) (Some v) (get is_same old q)) → HasFirsts new (names ++ name ∷ [])
  firsts-entered new v is put q =
      put q ∙ (ap (λ (b : Bool). cond b (Some v) (get is_same old q)) (flipped name q) ∙ (by (is_same q name) refl ∙ sym (position-push (λ n. is_word n q) names name)))
    where
      first : (found : Option ℕ) → Some (unwrap_or found (length names)) ≡ or_else found (Some (length names))
      first None = refl
      first (Some i) = refl

      by : (s : Bool) → is_same q name ≡ s → cond s (Some v) (get is_same old q) ≡ or_else (first_of names q) (cond s (Some (length names)) None)
      by true h =
          ap Some is ∙ (first (get is_same old name) ∙ ap (λ (o : Option ℕ). or_else o (Some (length names))) (firsts name ∙ sym (same_first names q name h)))
      by false h = firsts q ∙ sym (or_else-None (first_of names q))
