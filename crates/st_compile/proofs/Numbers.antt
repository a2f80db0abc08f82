-- Names of a chart as numbers: a name that is listed has one, and only one.
use Rattle.std.proofs.Common.{◌≡◌, ℕ, suc, ◌+◌, Bool, true, false, ◌||◌, not, cond, nat_lt, List, [], ◌∷◌, ◌++◌, length, map, Option, Some, None, is_some, refl, sym, ap, ◌∙◌, subst, arith}
use Rattle.std.specs.List.{All, AllByRecursion as Each, list_any, position, position_or_len}
use Rattle.std.proofs.lemmas.List.Elements.{All-head, All-tail}
use Rattle.st_values.specs.Words.{is_word}
use Rattle.st_tree.specs.declared.tree.position.Identifier.{Identifier}
use Rattle.st_tree.specs.declared.tree.unit.Action.{Action}
use Rattle.st_types.proofs.Passing.{passes_within, some_position}
use Rattle.st_meaning.specs.Sketched.{number_among, number_listed, numbers_among}
use Rattle.st_compile.specs.Charts.{AreNumbered, AreOptional, listed_then, no_number, no_optional, numbered_then, spellings, unlisted_then}

-- ---- the first that passes

abbrev pub IsListed : List (List ℕ) → List ℕ → Type 0
IsListed listed name = list_any (is_word name) listed ≡ true

pub found : {A : Type 0} (p : A → Bool) (xs : List A) → list_any p xs ≡ true → position p xs ≡ Some (position_or_len p xs)
found p xs h = ap (λ b. cond b (Some (position_or_len p xs)) None) (passes_within p xs ∙ h)

missing : {A : Type 0} (p : A → Bool) (xs : List A) → list_any p xs ≡ false → position p xs ≡ None
missing p xs h = ap (λ b. cond b (Some (position_or_len p xs)) None) (passes_within p xs ∙ h)

pub found_number : {A : Type 0} (p : A → Bool) (xs : List A) (n : ℕ) → position p xs ≡ Some n → position_or_len p xs ≡ n
found_number p xs n h = by (nat_lt (position_or_len p xs) (length xs)) h where
  by : (b : Bool) → cond b (Some (position_or_len p xs)) None ≡ Some n → position_or_len p xs ≡ n
  by true h = cc
  by false h = absurd (cc)

none_passes : {A : Type 0} (p : A → Bool) (xs : List A) → list_any p xs ≡ false → position_or_len p xs ≡ length xs
none_passes p [] h = refl
none_passes p (x ∷ xs) h = by (p x) h (none_passes p xs) where
  by : (b : Bool) → (b || list_any p xs) ≡ false → (list_any p xs ≡ false → position_or_len p xs ≡ length xs) → cond (not b) (1 + position_or_len p xs) 0 ≡ suc (length xs)
  by true h rest = absurd (cc)
  by false h rest = omega (arith, rest h)

missing_number : {A : Type 0} (p : A → Bool) (xs : List A) → position p xs ≡ None → position_or_len p xs ≡ length xs
missing_number p xs h = none_passes p xs (sym (some_position p xs) ∙ ap is_some h)

-- ---- names that are listed have numbers

pub are_numbered : (listed names : List (List ℕ)) → All (IsListed listed) names → AreNumbered listed names (map (number_among listed) names)
are_numbered listed [] h = no_number
are_numbered listed (name ∷ names) h =
    numbered_then (found (is_word name) listed (All-head (IsListed listed) name names h)) (are_numbered listed names (All-tail (IsListed listed) name names h))

pub identifiers_numbered : (listed : List (List ℕ)) (ns : List Identifier) → Each (λ n. IsListed listed n.spelling) ns → AreNumbered listed (spellings ns) (numbers_among listed ns)
identifiers_numbered listed [] h = no_number
identifiers_numbered listed (n ∷ ns) h =
    let at = found (is_word n.spelling) listed h.0 in
    subst (AreNumbered listed (n.spelling ∷ spellings ns)) (sym (ap (λ (o : Option ℕ). number_listed o ++ numbers_among listed ns) at)) (numbered_then at (identifiers_numbered listed ns h.1))

pub actions_numbered : (listed : List (List ℕ)) (as' : List Action) → AreOptional listed as' (map (λ a. number_among listed a.name.spelling) as')
actions_numbered listed [] = no_optional
actions_numbered listed (a ∷ as') = by (list_any (is_word a.name.spelling) listed) refl (actions_numbered listed as') where
  numbers : List ℕ
  numbers = map (λ (b : Action). number_among listed b.name.spelling) as'

  by : (b : Bool) → list_any (is_word a.name.spelling) listed ≡ b → AreOptional listed as' (map (λ b. number_among listed b.name.spelling) as')
      → AreOptional listed (a ∷ as') (number_among listed a.name.spelling ∷ map (λ b. number_among listed b.name.spelling) as')
  by true h rest = listed_then (found (is_word a.name.spelling) listed h) rest
  by false h rest =
      subst (λ (n : ℕ). AreOptional listed (a ∷ as') (n ∷ numbers)) (sym (none_passes (is_word a.name.spelling) listed h)) (unlisted_then (missing (is_word a.name.spelling) listed h) rest)

-- ---- and no others

pub numbered_one : (listed names : List (List ℕ)) (ns : List ℕ) → AreNumbered listed names ns → map (number_among listed) names ≡ ns
numbered_one listed names ns no_number = refl
numbered_one listed names ns (numbered_then {name = name} {names = more} {n = n} {ns = others} at rest) =
    ap (λ (k : ℕ). k ∷ map (number_among listed) more) (found_number (is_word name) listed n at) ∙ ap (λ (ks : List ℕ). n ∷ ks) (numbered_one listed more others rest)

pub identifiers_one : (listed : List (List ℕ)) (is : List Identifier) (ns : List ℕ) → AreNumbered listed (spellings is) ns → numbers_among listed is ≡ ns
identifiers_one listed [] ns no_number = refl
identifiers_one listed (i ∷ is) ns (numbered_then {n = n} {ns = others} at rest) =
    ap (λ (o : Option ℕ). number_listed o ++ numbers_among listed is) at ∙ ap (λ (ks : List ℕ). n ∷ ks) (identifiers_one listed is others rest)

pub optional_one : (listed : List (List ℕ)) (as' : List Action) (ns : List ℕ) → AreOptional listed as' ns → map (λ a. number_among listed a.name.spelling) as' ≡ ns
optional_one listed as' ns no_optional = refl
optional_one listed as' ns (listed_then {a = a} {as' = more} {n = n} {ns = others} at rest) =
    ap (λ (k : ℕ). k ∷ map (λ (b : Action). number_among listed b.name.spelling) more) (found_number (is_word a.name.spelling) listed n at) ∙ ap (λ (ks : List ℕ). n ∷ ks) (optional_one listed more others rest)
optional_one listed as' ns (unlisted_then {a = a} {as' = more} {ns = others} at rest) =
    ap (λ (k : ℕ). k ∷ map (λ (b : Action). number_among listed b.name.spelling) more) (missing_number (is_word a.name.spelling) listed at) ∙ ap (λ (ks : List ℕ). length listed ∷ ks) (optional_one listed more others rest)
