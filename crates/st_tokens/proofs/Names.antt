-- Words, reserved words and names of types.
use Rattle.std.proofs.Common.{◌≡◌, ℕ, ◌+◌, ◌≤◌, List, [], ◌∷◌, ◌++◌, refl, sym, ap, ◌∙◌, Bool, true, false, arith, subst, map, nat_lt}
use Rattle.std.specs.Prelude.{Option, Some, None, ◌==◌, ◌&&◌, not, codes, ◌⊎◌, option_map}
use Rattle.std.specs.Char.{to_ascii_lowercase, is_ascii_digit}
use Rattle.std.specs.List.{find, list_all}
use Rattle.std.specs.Str.{bytes_eq}
use Rattle.std.proofs.lemmas.Bool.Decides.{nat_tests}
use Rattle.std.proofs.lemmas.Slice.Eq.{bytes_eq-Decides}
use Rattle.std.proofs.Common.{inl, inr}
use Rattle.st_values.specs.declared.elem.Elem.{Elem}
use Rattle.st_values.specs.declared.elem.TheConstants.Elem.{ALL}
use Rattle.st_values.specs.declared.elem.Elem.TheVariants as elems
use Rattle.st_values.specs.Words.{is_word, is_word_byte, AreWordBytes}
use Rattle.st_values.specs.Types.{name_of}
use Rattle.st_tokens.specs.declared.keyword.Keyword.{Keyword}
use Rattle.st_tokens.specs.declared.keyword.Keyword.TheVariants as keywords
use Rattle.st_tokens.specs.declared.keyword.TheConstants.{KEYWORDS}
use Rattle.st_tokens.specs.Characters.{begins_word}
use Rattle.st_tokens.specs.Scanning.{is_clean_after, is_clean}
use Rattle.st_tokens.specs.Words.{spelling_of, keyword_in, keyword_of, elem_of, IsSame, IsWord, IsReserved, IsUnclean}
use Rattle.st_tokens.proofs.Cases.{by_test, both, is_equal}

-- only an upper-case letter changes
lower_is : (b : ℕ) → (to_ascii_lowercase b ≡ b) ⊎ ((65 ≤ b) × (b ≤ 90) × (to_ascii_lowercase b ≡ b + 32))
lower_is b = by_test (nat_lt b 65) (λ t. inl (rw t refl)) (λ t. by_test (nat_lt b 91)
    (λ u. inr (grind (arith, nat_tests), grind (arith, nat_tests), rw (t, u) refl)) (λ u. inl (rw (t, u) refl)))

-- case changes no byte of a word into another
pub lower_word_byte : (b : ℕ) → is_word_byte (to_ascii_lowercase b) ≡ is_word_byte b
lower_word_byte b = at (lower_is b) where
  at : (to_ascii_lowercase b ≡ b) ⊎ ((65 ≤ b) × (b ≤ 90) × (to_ascii_lowercase b ≡ b + 32)) → is_word_byte (to_ascii_lowercase b) ≡ is_word_byte b
  at (inl e) = ap is_word_byte e
  at (inr w) = let low = w.0 in let high = w.1 in let t : is_word_byte b ≡ true = grind (arith, nat_tests) in let u : is_word_byte (b + 32) ≡ true = grind (arith, nat_tests) in
      ap is_word_byte w.2 ∙ u ∙ sym t

-- nor a byte that begins one
pub lower_begins : (b : ℕ) → begins_word (to_ascii_lowercase b) ≡ begins_word b
lower_begins b = at (lower_is b) where
  at : (to_ascii_lowercase b ≡ b) ⊎ ((65 ≤ b) × (b ≤ 90) × (to_ascii_lowercase b ≡ b + 32)) → begins_word (to_ascii_lowercase b) ≡ begins_word b
  at (inl e) = ap begins_word e
  at (inr w) = let low = w.0 in let high = w.1 in let t : begins_word b ≡ true = grind (arith, nat_tests) in let u : begins_word (b + 32) ≡ true = grind (arith, nat_tests) in
      ap begins_word w.2 ∙ u ∙ sym t

-- nor a `_`
pub lower_line : (b : ℕ) → (to_ascii_lowercase b == 95) ≡ (b == 95)
lower_line b = at (lower_is b) where
  at : (to_ascii_lowercase b ≡ b) ⊎ ((65 ≤ b) × (b ≤ 90) × (to_ascii_lowercase b ≡ b + 32)) → (to_ascii_lowercase b == 95) ≡ (b == 95)
  at (inl e) = ap (λ (n : ℕ). n == 95) e
  at (inr w) = let low = w.0 in let high = w.1 in let t : (b == 95) ≡ false = grind (arith, nat_tests) in let u : (b + 32 == 95) ≡ false = grind (arith, nat_tests) in
      ap (λ (n : ℕ). n == 95) w.2 ∙ u ∙ sym t

-- `IsWord` without unclean ones, as a test
abbrev pub is_name : List ℕ → Bool
is_name [] = false
is_name (b ∷ bs) = begins_word b && (list_all is_word_byte bs && is_clean (b ∷ bs))

-- the table has each reserved word, which is a clean word
pub keyword_facts : (x : Keyword) → (keyword_of (spelling_of x) ≡ Some x) × (is_name (map to_ascii_lowercase (spelling_of x)) ≡ true)
unfolding keyword_of
keyword_facts keywords.Action = (refl, refl)
keyword_facts _ = (refl, refl)

-- the table has each type, whose name is a clean word that no reserved word is
pub elem_facts : (x : Elem) → (elem_of (name_of x) ≡ Some x) × (keyword_of (name_of x) ≡ None) × (is_name (map to_ascii_lowercase (name_of x)) ≡ true)
unfolding keyword_of elem_of
elem_facts elems.Bool = (refl, refl, refl)
elem_facts _ = (refl, refl, refl)

-- what is found passes
find_some : {X : Type 0} (p : X → Bool) (xs : List X) (x : X) → find p xs ≡ Some x → p x ≡ true
find_some p [] x h = absurd (cc)
find_some p (y ∷ ys) x h = by_test (p y)
    (λ t. let h' : ◌≡◌ {A = Option _} (Some y) (Some x) = rw t at h in let e : y ≡ x = cc in subst (λ z. p z ≡ true) e t)
    (λ t. find_some p ys x (rw t at h))

-- only the word without regard to case counts
keyword_same : (a b : List ℕ) → IsSame a b → keyword_of a ≡ keyword_of b
unfolding keyword_of
keyword_same a b e = ap (λ lower. option_map (λ (row : Keyword × List ℕ). row.0) (find (λ (row : Keyword × List ℕ). bytes_eq lower (map to_ascii_lowercase row.1)) (map (λ row. (row.0, row.1.now)) KEYWORDS))) e

-- the same of types
elem_same : (a b : List ℕ) → IsSame a b → elem_of a ≡ elem_of b
unfolding elem_of
elem_same a b e = ap (λ lower. find (λ elem. bytes_eq lower (map to_ascii_lowercase (name_of elem))) ALL) e

-- `T` is no type
pub short_no_elem : (w : List ℕ) → IsSame w (codes "T") → elem_of w ≡ None
unfolding elem_of
short_no_elem w h = elem_same w (codes "T") h ∙ refl

-- a reserved word ignoring case is found
pub keyword_found : (w : List ℕ) (x : Keyword) → IsSame w (spelling_of x) → keyword_of w ≡ Some x
keyword_found w x e = keyword_same w (spelling_of x) e ∙ (keyword_facts x).0

-- where each row has the text of its keyword, what is found is written so
found_row : (rows : List (Keyword × List ℕ)) (w : List ℕ) (x : Keyword)
    → map (λ row. row.1) rows ≡ map (λ row. spelling_of row.0) rows → keyword_in rows w ≡ Some x → is_word (spelling_of x) w ≡ true
found_row [] w x e h = absurd (cc)
found_row (row ∷ rows) w x e h =
    let head : row.1 ≡ spelling_of row.0 = cc in
    let tail : map (λ r. r.1) rows ≡ map (λ r. spelling_of r.0) rows = cc in
    by_test (is_word row.1 w)
    (λ t. let h' : ◌≡◌ {A = Option Keyword} (Some row.0) (Some x) = rw t at h in let same : row.0 ≡ x = cc in
    subst (λ z. is_word (spelling_of z) w ≡ true) same (subst (λ zs. is_word zs w ≡ true) head t))
    (λ t. found_row rows w x tail (rw t at h))

-- what is found is that reserved word
pub keyword_is : (w : List ℕ) (x : Keyword) → keyword_of w ≡ Some x → IsSame w (spelling_of x)
unfolding keyword_of
keyword_is w x h = (bytes_eq-Decides (map to_ascii_lowercase w) (map to_ascii_lowercase (spelling_of x))).0
    (found_row (map (λ row. (row.0, row.1.now)) KEYWORDS) w x refl h)

-- the name of a type ignoring case is found
pub elem_found : (w : List ℕ) (x : Elem) → IsSame w (name_of x) → elem_of w ≡ Some x
elem_found w x e = elem_same w (name_of x) e ∙ (elem_facts x).0

-- the name of a type is no other reserved word
pub elem_no_keyword : (w : List ℕ) (x : Elem) → IsSame w (name_of x) → keyword_of w ≡ None
elem_no_keyword w x e = keyword_same w (name_of x) e ∙ (elem_facts x).1

-- what is found is that type
pub elem_is : (w : List ℕ) (x : Elem) → elem_of w ≡ Some x → IsSame w (name_of x)
unfolding elem_of
elem_is w x h = (bytes_eq-Decides (map to_ascii_lowercase w) (map to_ascii_lowercase (name_of x))).0
    (find_some (λ elem. is_word (name_of elem) w) ALL x h)

-- what isn't reserved is neither
pub not_keyword : (w : List ℕ) → (IsReserved w → ⊥) → keyword_of w ≡ None
not_keyword w n = at (keyword_of w) refl where
  at : (o : Option Keyword) → keyword_of w ≡ o → o ≡ None
  at None e = refl
  at (Some x) e = absurd (n (inl (x, keyword_is w x e)))

-- what is not reserved is no type
pub not_elem : (w : List ℕ) → (IsReserved w → ⊥) → elem_of w ≡ None
not_elem w n = at (elem_of w) refl where
  at : (o : Option Elem) → elem_of w ≡ o → o ≡ None
  at None e = refl
  at (Some x) e = absurd (n (inr (x, elem_is w x e)))

-- what neither table has is not reserved
pub not_reserved : (w : List ℕ) → keyword_of w ≡ None → elem_of w ≡ None → IsReserved w → ⊥
not_reserved w k e (inl r) = let h = keyword_found w r.0 r.1 in cc
not_reserved w k e (inr r) = let h = elem_found w r.0 r.1 in cc

-- case changes no bytes of a word into others
all_lower : (w : List ℕ) → list_all is_word_byte (map to_ascii_lowercase w) ≡ list_all is_word_byte w
all_lower [] = refl
all_lower (b ∷ bs) = ap (λ (x : Bool). x && list_all is_word_byte (map to_ascii_lowercase bs)) (lower_word_byte b) ∙ ap (λ (x : Bool). is_word_byte b && x) (all_lower bs)

-- case makes no word clean
clean_lower : (underscore : Bool) (w : List ℕ) → is_clean_after underscore (map to_ascii_lowercase w) ≡ is_clean_after underscore w
clean_lower underscore [] = refl
clean_lower underscore (b ∷ bs) =
    ap (λ (x : Bool). not (underscore && x) && is_clean_after x (map to_ascii_lowercase bs)) (lower_line b)
    ∙ ap (λ (x : Bool). not (underscore && b == 95) && x) (clean_lower (b == 95) bs)

-- case makes no name
name_lower : (w : List ℕ) → is_name (map to_ascii_lowercase w) ≡ is_name w
name_lower [] = refl
name_lower (b ∷ bs) =
    ap (λ (x : Bool). x && (list_all is_word_byte (map to_ascii_lowercase bs) && is_clean (map to_ascii_lowercase (b ∷ bs)))) (lower_begins b)
    ∙ ap (λ (x : Bool). begins_word b && (x && is_clean (map to_ascii_lowercase (b ∷ bs)))) (all_lower bs)
    ∙ ap (λ (x : Bool). begins_word b && (list_all is_word_byte bs && x)) (clean_lower false (b ∷ bs))

-- a reserved word ignoring case is a name
pub keyword_name : (w : List ℕ) (x : Keyword) → IsSame w (spelling_of x) → is_name w ≡ true
keyword_name w x e = sym (name_lower w) ∙ ap is_name e ∙ (keyword_facts x).1

-- the name of a type ignoring case is a name
pub elem_name : (w : List ℕ) (x : Elem) → IsSame w (name_of x) → is_name w ≡ true
elem_name w x e = sym (name_lower w) ∙ ap is_name e ∙ (elem_facts x).2

-- a name of another spelling, as `T`
pub same_name : (w name : List ℕ) → IsSame w name → is_name (map to_ascii_lowercase name) ≡ true → is_name w ≡ true
same_name w name e h = sym (name_lower w) ∙ ap is_name e ∙ h

-- a test of all bytes that passed
all_words : (w : List ℕ) → list_all is_word_byte w ≡ true → AreWordBytes w
all_words [] h = tt
all_words (b ∷ bs) h = let p = both (is_word_byte b) (list_all is_word_byte bs) h in (p.0, all_words bs p.1)

-- a name is a word
pub name_word : (w : List ℕ) → is_name w ≡ true → IsWord w
name_word [] h = absurd (cc)
name_word (b ∷ bs) h =
    let p = both (begins_word b) (list_all is_word_byte bs && is_clean (b ∷ bs)) h in
    let q = both (list_all is_word_byte bs) (is_clean (b ∷ bs)) p.1 in (p.0, all_words bs q.0)

-- a name is clean
pub name_clean : (w : List ℕ) → is_name w ≡ true → is_clean w ≡ true
name_clean [] h = absurd (cc)
name_clean (b ∷ bs) h =
    let p = both (begins_word b) (list_all is_word_byte bs && is_clean (b ∷ bs)) h in
    (both (list_all is_word_byte bs) (is_clean (b ∷ bs)) p.1).1

-- what begins a word is a byte of one
pub begins_word_byte : (b : ℕ) → begins_word b ≡ true → is_word_byte b ≡ true
begins_word_byte b h = grind (arith, nat_tests)

-- no digit begins a word
pub begins_no_digit : (b : ℕ) → begins_word b ≡ true → is_ascii_digit b ≡ false
begins_no_digit b h = grind (arith, nat_tests)

-- a word has bytes of a word alone
pub word_words : (w : List ℕ) → IsWord w → AreWordBytes w
word_words [] h = absurd h
word_words (b ∷ bs) h = (begins_word_byte b h.0, h.1)

-- ---- clean words

-- a byte before changes nothing
unclean_more : (b : ℕ) (bs : List ℕ) → IsUnclean bs → IsUnclean (b ∷ bs)
unclean_more b bs (inl w) = inl (b ∷ w.0, w.1, ap (λ (zs : List ℕ). b ∷ zs) w.2)
unclean_more b bs (inr w) = inr (b ∷ w.0, ap (λ (zs : List ℕ). b ∷ zs) w.1)

-- nothing more, or a '_', comes
abbrev LineNext : List ℕ → Type 0
LineNext [] = Unit {0}
LineNext (b ∷ bs) = b ≡ 95

-- a `_` before a `_` or at the end
unclean_line : (bs : List ℕ) → LineNext bs → IsUnclean (95 ∷ bs)
unclean_line [] h = inr ([], refl)
unclean_line (b ∷ bs) h = inl ([], bs, ap (λ (x : ℕ). 95 ∷ x ∷ bs) h)

-- what fails the test is unclean
unclean_after : (underscore : Bool) (w : List ℕ) → is_clean_after underscore w ≡ false → ((underscore ≡ true) × LineNext w) ⊎ IsUnclean w
unclean_after true [] h = inl (refl, tt)
unclean_after false [] h = absurd (cc)
unclean_after underscore (b ∷ bs) h = by_test (b == 95)
    (λ t. by_flag (λ g. unclean_after true bs g) underscore t (rw t at h))
    (λ t. by_rest (unclean_after false bs (by_false underscore (rw t at h)))) where
      by_false : (flag : Bool) → (not (flag && false) && is_clean_after false bs) ≡ false → is_clean_after false bs ≡ false
      by_false true g = g
      by_false false g = g

      by_rest : ((false ≡ true) × LineNext bs) ⊎ IsUnclean bs → ((underscore ≡ true) × LineNext (b ∷ bs)) ⊎ IsUnclean (b ∷ bs)
      by_rest (inl v) = let e = v.0 in absurd (cc)
      by_rest (inr u) = inr (unclean_more b bs u)

      by_line : b ≡ 95 → ((true ≡ true) × LineNext bs) ⊎ IsUnclean bs → IsUnclean (b ∷ bs)
      by_line e (inl v) = subst (λ x. IsUnclean (x ∷ bs)) (sym e) (unclean_line bs v.1)
      by_line e (inr u) = unclean_more b bs u

      by_flag : (is_clean_after true bs ≡ false → ((true ≡ true) × LineNext bs) ⊎ IsUnclean bs) → (flag : Bool) → (b == 95) ≡ true → (not (flag && true) && is_clean_after true bs) ≡ false → ((flag ≡ true) × LineNext (b ∷ bs)) ⊎ IsUnclean (b ∷ bs)
      by_flag ih true t g = inl (refl, is_equal b 95 t)
      by_flag ih false t g = inr (by_line (is_equal b 95 t) (ih g))

-- what fails the test is unclean
pub unclean : (w : List ℕ) → is_clean w ≡ false → IsUnclean w
unclean w h = at (unclean_after false w h) where
  at : ((false ≡ true) × LineNext w) ⊎ IsUnclean w → IsUnclean w
  at (inl v) = let e = v.0 in absurd (cc)
  at (inr u) = u

-- the second part of the test
second : (flag t : Bool) (rest : Bool) → (not (flag && t) && rest) ≡ true → rest ≡ true
second flag t rest h = (both (not (flag && t)) rest h).1

-- what passes has no two `_` in a row
not_double : (underscore : Bool) (prefix back : List ℕ) → is_clean_after underscore (prefix ++ 95 ∷ 95 ∷ back) ≡ true → ⊥
not_double true [] back h = cc
not_double false [] back h = cc
not_double underscore (x ∷ prefix) back h = not_double (x == 95) prefix back (second underscore (x == 95) _ h)

-- what passes has no `_` at its end
not_last : (underscore : Bool) (prefix : List ℕ) → is_clean_after underscore (prefix ++ 95 ∷ []) ≡ true → ⊥
not_last true [] h = cc
not_last false [] h = cc
not_last underscore (x ∷ prefix) h = not_last (x == 95) prefix (second underscore (x == 95) _ h)

-- what passes is not unclean
pub not_unclean : (w : List ℕ) → is_clean w ≡ true → IsUnclean w → ⊥
not_unclean w h (inl u) = not_double false u.0 u.1 (subst (λ zs. is_clean zs ≡ true) u.2 h)
not_unclean w h (inr u) = not_last false u.0 (subst (λ zs. is_clean zs ≡ true) u.1 h)

-- what is not unclean passes
pub clean : (w : List ℕ) → (IsUnclean w → ⊥) → is_clean w ≡ true
clean w n = by_test (is_clean w) (λ t. t) (λ t. absurd (n (unclean w t)))
