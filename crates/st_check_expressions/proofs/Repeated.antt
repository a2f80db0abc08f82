-- Names that stand twice, found in a table of those before.
use Rattle.std.proofs.Common.{◌≡◌, ℕ, List, [], ◌∷◌, ◌++◌, Bool, true, false, ◌||◌, refl, ap, ◌∙◌}
use Rattle.std.specs.List.{list_any}
use Rattle.std.specs.Option.{is_some}
use Rattle.std.proofs.lemmas.List.Folds.{list_any-append}
use Rattle.st_types.specs.Tables.{first_of}
use Rattle.st_types.proofs.Passing.{some_position}
use Rattle.st_values.specs.Words.{is_word}
use Rattle.st_values.proofs.SameWords.{is_word_comm}
use Rattle.st_tree.specs.declared.tree.position.Identifier.{Identifier}
use Rattle.st_types.specs.Names.{is_among}
use Rattle.st_check_expressions.specs.Calls.{is_repeated}

-- one of these was seen, or stands twice
abbrev pub repeats : List (List ℕ) → List Identifier → Bool
repeats seen [] = false
repeats seen (n ∷ ns) = is_some (first_of seen n.spelling) || repeats (seen ++ n.spelling ∷ []) ns

-- ---- what was seen

-- one of these was seen
abbrev any_seen : List (List ℕ) → List Identifier → Bool
any_seen seen ns = list_any (λ n. list_any (λ s. is_word s n.spelling) seen) ns

or_any : {A : Type 0} (p q : A → Bool) (xs : List A) → list_any (λ x. p x || q x) xs ≡ (list_any p xs || list_any q xs)
or_any p q [] = refl
or_any p q (x ∷ xs) = ap (λ b. p x || q x || b) (or_any p q xs) ∙ shuffle (p x) (q x) (list_any p xs) (list_any q xs)
  where
    shuffle : (a b c d : Bool) → (a || b || (c || d)) ≡ ((a || c) || (b || d))
    shuffle true b c d = refl
    shuffle false true true d = refl
    shuffle false true false d = refl
    shuffle false false c d = refl

or_false : (b : Bool) → (b || false) ≡ b
or_false true = refl
or_false false = refl

-- one more was seen
seen_more : (seen : List (List ℕ)) (word : List ℕ) (ns : List Identifier) → any_seen (seen ++ word ∷ []) ns ≡ (any_seen seen ns || is_among word ns)
seen_more seen word ns = ap (λ (p : Identifier → Bool). list_any p ns) (λ i n. by n i) ∙ or_any (λ n. list_any (λ s. is_word s n.spelling) seen) (λ n. is_word n.spelling word) ns
  where
    by : (n : Identifier) → list_any (λ s. is_word s n.spelling) (seen ++ word ∷ []) ≡ (list_any (λ s. is_word s n.spelling) seen || is_word n.spelling word)
    by n =
        list_any-append (λ s. is_word s n.spelling) seen (word ∷ [])
        ∙ ap (λ b. list_any (λ s. is_word s n.spelling) seen || b) (or_false (is_word word n.spelling) ∙ is_word_comm word n.spelling)

or_parts : (a b c d : Bool) → (a || (b || c || d)) ≡ ((a || b) || (c || d))
or_parts true b c d = refl
or_parts false true c d = refl
or_parts false false c d = refl

repeats_is : (seen : List (List ℕ)) (ns : List Identifier) → repeats seen ns ≡ (any_seen seen ns || is_repeated ns)
repeats_is seen [] = refl
repeats_is seen (n ∷ ns) =
    ap (λ b. b || repeats (seen ++ n.spelling ∷ []) ns) (some_position (λ s. is_word s n.spelling) seen)
    ∙ ap (λ b. list_any (λ s. is_word s n.spelling) seen || b) (repeats_is (seen ++ n.spelling ∷ []) ns ∙ ap (λ b. b || is_repeated ns) (seen_more seen n.spelling ns))
    ∙ or_parts (list_any (λ s. is_word s n.spelling) seen) (any_seen seen ns) (is_among n.spelling ns) (is_repeated ns)

none_seen : (ns : List Identifier) → any_seen [] ns ≡ false
none_seen [] = refl
none_seen (n ∷ ns) = none_seen ns

-- ---- the loop

-- before the first
pub repeats_none : (ns : List Identifier) → repeats [] ns ≡ is_repeated ns
repeats_none ns = repeats_is [] ns ∙ ap (λ b. b || is_repeated ns) (none_seen ns)
