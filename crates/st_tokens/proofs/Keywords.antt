-- The table of reserved words, and its rows by first letters.
use Rattle.std.proofs.Common.{◌≡◌, ℕ, List, [], ◌∷◌, refl, sym, ap, ◌∙◌, subst, map, Bool, true, false, arith}
use Rattle.std.proofs.lemmas.Bool.Decides.{nat_tests}
use Rattle.std.specs.Char.{to_ascii_lowercase}
use Rattle.std.specs.List.{filter, find, list_all, list_any, drop-map, take-map}
use Rattle.std.specs.Prelude.{◌==◌, ◌&&◌, ◌-◌, None, Some, codes, drop, option_map, slice_get, slice_range, take}
use Rattle.std.specs.Str.{bytes_eq}
use Rattle.st_values.specs.Types.{name_of}
use Rattle.st_values.specs.Words.{is_word}
use Rattle.st_values.specs.declared.elem.TheConstants.Elem.{ALL}
use Rattle.st_tokens.specs.declared.keyword.Keyword.{Keyword}
use Rattle.st_tokens.specs.Words.{begins_as, elem_of, elems_with, keyword_in, keyword_of, keywords_with, spellings}
use Rattle.st_tokens.proofs.Cases.{both, by_test, is_equal, not_both}

-- what is found in a table, and what is found in the list of its keywords and texts
pub found_in : {R : Type 0} (rows : List R) (key : R → Keyword) (text : R → List ℕ) (w : List ℕ)
    → option_map key (find (λ row. is_word (text row) w) rows) ≡ keyword_in (map (λ row. (key row, text row)) rows) w
found_in [] key text w = refl
found_in (row ∷ rows) key text w = by_test (is_word (text row) w) (λ t. rw t refl) (λ t. rw t (found_in rows key text w))

-- two numbers differ, whichever comes first
differ : (a b : ℕ) → (a == b) ≡ false → (b == a) ≡ false
differ a b h = grind (arith, nat_tests)

-- a text that begins with another letter is another word
other_letter : (b : ℕ) (bs text : List ℕ) → begins_as (to_ascii_lowercase b) text ≡ false → is_word text (b ∷ bs) ≡ false
other_letter b bs [] h = refl
other_letter b bs (c ∷ cs) h = ap (λ (t : Bool). t && bytes_eq (map to_ascii_lowercase bs) (map to_ascii_lowercase cs))
    (differ (to_ascii_lowercase c) (to_ascii_lowercase b) h)

-- what begins with another letter can be left out where a word is looked for
without_others : {R : Type 0} (rows : List R) (text : R → List ℕ) (b : ℕ) (bs : List ℕ)
    → find (λ row. is_word (text row) (b ∷ bs)) (filter (λ row. begins_as (to_ascii_lowercase b) (text row)) rows)
    ≡ find (λ row. is_word (text row) (b ∷ bs)) rows
without_others [] text b bs = refl
without_others (row ∷ rows) text b bs = by_test (begins_as (to_ascii_lowercase b) (text row))
    (λ t. rw t (by_test (is_word (text row) (b ∷ bs)) (λ u. rw u refl) (λ u. rw u (without_others rows text b bs))))
    (λ t. rw (t, other_letter b bs (text row) t) (without_others rows text b bs))

-- what is looked for in the whole table
keyword_of_spellings : (w : List ℕ) → keyword_of w ≡ keyword_in spellings w
unfolding keyword_of spellings
keyword_of_spellings w = refl

of_spellings : (letter : ℕ) (w : List ℕ) → keyword_in (keywords_with letter) w ≡ keyword_in (filter (λ row. begins_as letter row.1) spellings) w
unfolding keywords_with
of_spellings letter w = refl

-- the texts of some rows that follow one another
pub part_of_texts : {R T : Type 0} (text : R → T) (rows part : List R) (a b : ℕ) → part ≡ slice_range rows a b → map text part ≡ slice_range (map text rows) a b
part_of_texts text rows part a b h = ap (map text) h ∙ sym (ap (take (b - a)) (drop-map text a rows) ∙ take-map text (b - a) (drop a rows))

-- the reserved word is found among those that begin as the word does
pub keyword_by_letter : (w : List ℕ) (b : ℕ) → Some b ≡ slice_get w 0 → keyword_in (keywords_with (to_ascii_lowercase b)) w ≡ keyword_of w
keyword_by_letter [] b h = absurd (cc)
keyword_by_letter (x ∷ xs) b h = let same : b ≡ x = cc in subst (λ y. keyword_in (keywords_with (to_ascii_lowercase y)) (x ∷ xs) ≡ keyword_of (x ∷ xs)) (sym same)
    (of_spellings (to_ascii_lowercase x) (x ∷ xs) ∙ ap (option_map (λ (row : Keyword × List ℕ). row.0))
    (without_others spellings (λ (row : Keyword × List ℕ). row.1) x xs) ∙ sym (keyword_of_spellings (x ∷ xs)))

-- so is the type
elem_at : (x : ℕ) (xs : List ℕ) → find (λ elem. is_word (name_of elem) (x ∷ xs)) (elems_with (to_ascii_lowercase x)) ≡ elem_of (x ∷ xs)
unfolding elem_of elems_with
elem_at x xs = without_others ALL name_of x xs

-- that is what is found
pub elem_by_letter : (w : List ℕ) (b : ℕ) → Some b ≡ slice_get w 0 → find (λ elem. is_word (name_of elem) w) (elems_with (to_ascii_lowercase b)) ≡ elem_of w
elem_by_letter [] b h = absurd (cc)
elem_by_letter (x ∷ xs) b h = let same : b ≡ x = cc in subst (λ y. find (λ elem. is_word (name_of elem) (x ∷ xs)) (elems_with (to_ascii_lowercase y)) ≡ elem_of (x ∷ xs)) (sym same)
    (elem_at x xs)

-- what has no first letter is no reserved word
pub empty_no_keyword : (w : List ℕ) → None ≡ slice_get w 0 → keyword_of w ≡ None
unfolding keyword_of
empty_no_keyword [] h = refl
empty_no_keyword (x ∷ xs) h = absurd (cc)

-- and no type
pub empty_no_elem : (w : List ℕ) → None ≡ slice_get w 0 → elem_of w ≡ None
unfolding elem_of
empty_no_elem [] h = refl
empty_no_elem (x ∷ xs) h = absurd (cc)

-- whether a text is empty, or its first letter passes in lower case
abbrev passes : (ℕ → Bool) → List ℕ → Bool
passes p [] = true
passes p (b ∷ bs) = p (to_ascii_lowercase b)

-- a letter that fails begins no text whose first letter passes
fails : (p : ℕ → Bool) (letter : ℕ) (text : List ℕ) → passes p text ≡ true → p letter ≡ false → begins_as letter text ≡ false
fails p letter [] t f = refl
fails p letter (b ∷ bs) t f = by_test (to_ascii_lowercase b == letter)
    (λ same. not_both (subst (λ c. p c ≡ true) (is_equal (to_ascii_lowercase b) letter same) t) f) (λ other. other)

-- so no row begins with it
none_begins : {R : Type 0} (p : ℕ → Bool) (letter : ℕ) (rows : List R) (text : R → List ℕ)
    → list_all (λ row. passes p (text row)) rows ≡ true → p letter ≡ false → filter (λ row. begins_as letter (text row)) rows ≡ []
none_begins p letter [] text t f = refl
none_begins p letter (row ∷ rows) text t f =
    let parts = both (passes p (text row)) (list_all (λ row. passes p (text row)) rows) t in
    rw (fails p letter (text row) parts.0 f) (none_begins p letter rows text parts.1 f)

-- a letter with which a reserved word begins
abbrev pub is_initial : ℕ → Bool
is_initial letter = list_any (λ initial. letter == initial) (codes "abcdefimnoprstuvwx")

spellings_pass : list_all (λ (row : Keyword × List ℕ). passes is_initial row.1) spellings ≡ true
unfolding spellings
spellings_pass = refl

-- with other letters none does
pub no_keyword_with : (letter : ℕ) → is_initial letter ≡ false → keywords_with letter ≡ []
unfolding keywords_with
no_keyword_with letter f = none_begins is_initial letter spellings (λ (row : Keyword × List ℕ). row.1) spellings_pass f
