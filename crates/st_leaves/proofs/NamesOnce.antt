-- Names, each once, and those of them that a chart stores.
use Rattle.std.proofs.Common.{◌≡◌, ℕ, ◌+◌, ◌<◌, take, get_or, List, [], ◌∷◌, ◌++◌, map, Bool, true, false, ◌||◌, ◌&&◌, not, cond, length, refl, ap, sym, ◌∙◌, arith, append-nil, append_assoc}
use Rattle.std.specs.Borrow.{Bor}
use Rattle.std.specs.List.{filter, list_any, position}
use Rattle.std.specs.Option.{is_some}
use Rattle.std.specs.Str.{bytes_eq, str_to_ascii_lowercase}
use Rattle.std.proofs.lemmas.Bool.{not-true}
use Rattle.std.proofs.lemmas.List.{map-append, take_more}
use Rattle.std.proofs.lemmas.List.Elements.{filter-append, filter_agree}
use Rattle.std.proofs.lemmas.Slice.Eq.{bytes_eq-Decides}
use Rattle.st_values.specs.Words.{is_word}
use Rattle.st_values.proofs.SameWords.{is_word_comm}
use Rattle.st_types.specs.Tables.{first_of}
use Rattle.st_types.proofs.Passing.{some_position}
use Rattle.st_tree.specs.declared.tree.unit.Association.{Association}
use Rattle.st_types.proofs.Cases.{by_test}
use Rattle.st_leaves.specs.Charts.{associated_names, each_once, is_stored, is_stored_by, set_names, spelled, stored_names}
use Rattle.st_leaves.proofs.Pairs.{Pairwise, each_passes, each_weaker, pairwise_filter}

-- ---- the same word

pub lowered : (a b : List ℕ) → is_word a b ≡ true → str_to_ascii_lowercase a ≡ str_to_ascii_lowercase b
lowered a b same = sym ((bytes_eq-Decides (str_to_ascii_lowercase b) (str_to_ascii_lowercase a)).0 same)

pub itself : (a : List ℕ) → is_word a a ≡ true
itself a = (bytes_eq-Decides (str_to_ascii_lowercase a) (str_to_ascii_lowercase a)).1 refl

-- what is the same as one of two such words is the same as the other
pub alike : (a b c : List ℕ) → is_word a b ≡ true → is_word a c ≡ is_word b c
alike a b c same = ap (bytes_eq (str_to_ascii_lowercase c)) (lowered a b same)

-- ---- names, each once

-- a name is found among those that aren't another one
any_left : (name other : List ℕ) → is_word name other ≡ false → (names : List (List ℕ)) → list_any (is_word name) (filter (λ n. not (is_word other n)) names) ≡ list_any (is_word name) names
any_left name other apart [] = refl
any_left name other apart (n ∷ names) =
    by_test (is_word other n)
    (λ t.
    let differs : is_word name n ≡ false = is_word_comm name n ∙ sym (alike other n name t) ∙ is_word_comm other name ∙ apart in
    ap (λ b. list_any (is_word name) (cond (not b) (n ∷ rest) rest)) t ∙ any_left name other apart names ∙ ap (λ b. b || list_any (is_word name) names) (sym differs))
    (λ t. ap (λ b. list_any (is_word name) (cond (not b) (n ∷ rest) rest)) t ∙ ap (λ b. is_word name n || b) (any_left name other apart names)) where
      rest : List (List ℕ)
      rest = filter (λ m. not (is_word other m)) names

-- each of them is there
pub any_once : (name : List ℕ) (names : List (List ℕ)) → list_any (is_word name) (each_once names) ≡ list_any (is_word name) names
any_once name [] = refl
any_once name (n ∷ names) =
    by_test (is_word name n)
    (λ t. ap (λ b. b || list_any (is_word name) (filter (λ m. not (is_word n m)) (each_once names))) t ∙ ap (λ b. b || list_any (is_word name) names) (sym t))
    (λ t. ap (λ b. is_word name n || b) (any_left name n t (each_once names) ∙ any_once name names))

-- one name more
once_more : (names : List (List ℕ)) (name : List ℕ) → each_once (names ++ name ∷ []) ≡ each_once names ++ cond (list_any (is_word name) names) [] (name ∷ [])
once_more [] name = refl
once_more (n ∷ names) name =
    ap (λ ns. n ∷ filter other ns) (once_more names name)
    ∙ ap (λ ns. n ∷ ns) (filter-append other (each_once names) (cond (list_any (is_word name) names) [] (name ∷ [])))
    ∙ ap (λ ns. n ∷ filter other (each_once names) ++ ns) (last (list_any (is_word name) names)) where
      other : List ℕ → Bool
      other m = not (is_word n m)

      last : (b : Bool) → filter other (cond b [] (name ∷ [])) ≡ cond (is_word name n || b) [] (name ∷ [])
      last true = by (is_word name n) where
        by : (c : Bool) → [] ≡ cond (c || true) [] (name ∷ [])
        by true = refl
        by false = refl
      last false = ap (λ c. cond (not c) (name ∷ []) []) (is_word_comm n name) ∙ by (is_word name n) where
        by : (c : Bool) → cond (not c) (name ∷ []) [] ≡ cond (c || false) [] (name ∷ [])
        by true = refl
        by false = refl

-- no two of them are the same
once_apart : (names : List (List ℕ)) → Pairwise (λ a b. is_word a b ≡ false) (each_once names)
once_apart [] = tt
once_apart (n ∷ names) = (
  each_weaker (λ m. not (is_word n m) ≡ true) (λ m. is_word n m ≡ false) (filter (λ m. not (is_word n m)) (each_once names)) (λ m h. not-true (is_word n m) h)
      (each_passes (λ m. not (is_word n m)) (each_once names)),
  pairwise_filter (λ a b. is_word a b ≡ false) (λ m. not (is_word n m)) (each_once names) (once_apart names),
)

-- ---- the names of associations

-- of one association more
associated_more : (before : List Association) (a : Association)
    → associated_names (before ++ a ∷ []) ≡ associated_names before ++ cond (list_any (is_word a.name.spelling) (associated_names before)) [] (a.name.spelling ∷ [])
associated_more before a =
    let names = map (λ (b : Association). b.name.spelling) before in
    ap each_once (map-append (λ (b : Association). b.name.spelling) before (a ∷ [])) ∙ once_more names a.name.spelling
    ∙ ap (λ b. each_once names ++ cond b [] (a.name.spelling ∷ [])) (sym (any_once a.name.spelling names))

-- whose name is there
pub is_there : (before : List Association) (a : Association) (names : List (List ℕ)) (name : List ℕ) → names ≡ associated_names before → name ≡ a.name.spelling → is_some (position (is_word name) names) ≡ true
    → names ≡ associated_names (before ++ a ∷ [])
is_there before a names name are named there =
    let any : list_any (is_word a.name.spelling) (associated_names before) ≡ true =
    sym (ap (λ n. list_any (is_word n) names) named ∙ ap (list_any (is_word a.name.spelling)) are) ∙ sym (some_position (is_word name) names) ∙ there in
    are ∙ sym (append-nil (associated_names before)) ∙ ap (λ b. associated_names before ++ cond b [] (a.name.spelling ∷ [])) (sym any) ∙ sym (associated_more before a)

-- whose name is new
pub is_new : (before : List Association) (a : Association) (names new : List (List ℕ)) (name : List ℕ) → names ≡ associated_names before → name ≡ a.name.spelling → is_some (position (is_word name) names) ≡ false
    → new ≡ names ++ name ∷ [] → new ≡ associated_names (before ++ a ∷ [])
is_new before a names new name are named none added =
    let any : list_any (is_word a.name.spelling) (associated_names before) ≡ false =
    sym (ap (λ n. list_any (is_word n) names) named ∙ ap (list_any (is_word a.name.spelling)) are) ∙ sym (some_position (is_word name) names) ∙ none in
    added ∙ ap (λ ns. ns ++ name ∷ []) are ∙ ap (λ n. associated_names before ++ n ∷ []) named
    ∙ ap (λ b. associated_names before ++ cond b [] (a.name.spelling ∷ [])) (sym any) ∙ sym (associated_more before a)

-- of one association more, in a list
pub associations_more : (before associations : List Association) (i : ℕ) (a : Association) (new : List (List ℕ)) → i < length associations → a ≡ get_or associations i a
    → new ≡ associated_names ((before ++ take i associations) ++ a ∷ []) → new ≡ associated_names (before ++ take (i + 1) associations)
associations_more before associations i a new within at is =
    is ∙ ap associated_names (append_assoc before (take i associations) (a ∷ []))
    ∙ ap (λ as'. associated_names (before ++ as')) (ap (λ x. take i associations ++ x ∷ []) at ∙ sym (take_more associations i a within))

-- ---- words, one after the other

pub spelled_more : (words : List (Bor (List ℕ))) (i : ℕ) (word : Bor (List ℕ)) → i < length words → word ≡ get_or words i word → spelled (take (i + 1) words) ≡ spelled (take i words) ++ word.now ∷ []
spelled_more words i word within at =
    ap spelled (take_more words i word within ∙ ap (λ w. take i words ++ w ∷ []) (sym at)) ∙ map-append (λ (w : Bor (List ℕ)). w.now) (take i words) (word ∷ [])

module _ (p : List ℕ → Bool) (words : List (Bor (List ℕ))) (i : ℕ) (word : Bor (List ℕ)) (within : i < length words) (at : word ≡ get_or words i word) where
  one_more : filter p (spelled (take (i + 1) words)) ≡ filter p (spelled (take i words)) ++ cond (p word.now) (word.now ∷ []) []
  one_more = ap (filter p) (spelled_more words i word within at) ∙ filter-append p (spelled (take i words)) (word.now ∷ [])

  -- that passes
  pub kept_more : (among new : List (Bor (List ℕ))) → spelled among ≡ filter p (spelled (take i words)) → p word.now ≡ true → new ≡ among ++ word ∷ [] → spelled new ≡ filter p (spelled (take (i + 1) words))
  kept_more among new so_far passes added =
      ap spelled added ∙ map-append (λ (w : Bor (List ℕ)). w.now) among (word ∷ []) ∙ ap (λ ns. ns ++ word.now ∷ []) so_far
      ∙ ap (λ b. filter p (spelled (take i words)) ++ cond b (word.now ∷ []) []) (sym passes) ∙ sym one_more

  -- that doesn't
  pub left_out : (among : List (Bor (List ℕ))) → spelled among ≡ filter p (spelled (take i words)) → p word.now ≡ false → spelled among ≡ filter p (spelled (take (i + 1) words))
  left_out among so_far fails =
      so_far ∙ sym (append-nil (filter p (spelled (take i words)))) ∙ ap (λ b. filter p (spelled (take i words)) ++ cond b (word.now ∷ []) []) (sym fails) ∙ sym one_more

-- ---- the names that a chart stores

-- a table finds a name where one of its names is the same
pub found : (names : List (List ℕ)) (name : List ℕ) → is_some (first_of names name) ≡ list_any (is_word name) names
found names name = some_position (λ n. is_word n name) names ∙ any_word names where
  any_word : (ns : List (List ℕ)) → list_any (λ n. is_word n name) ns ≡ list_any (is_word name) ns
  any_word [] = refl
  any_word (n ∷ ns) = ap (λ b. b || list_any (λ m. is_word m name) ns) (is_word_comm n name) ∙ ap (λ b. is_word name n || b) (any_word ns)

-- a name is one of those that are set where some association has it with S
set_or : (name : List ℕ) (associations : List Association) → list_any (is_word name) (set_names associations) ≡ is_stored_by associations name
set_or name [] = refl
set_or name (a ∷ more) = by (is_stored a) (set_or name more) where
  by : (b : Bool) → list_any (is_word name) (set_names more) ≡ is_stored_by more name
      → list_any (is_word name) (map (λ c. c.name.spelling) (cond b (a ∷ filter is_stored more) (filter is_stored more))) ≡ ((b && is_word name a.name.spelling) || is_stored_by more name)
  by true others = ap (λ c. is_word name a.name.spelling || c) others
  by false others = others

-- those of the associated names that are set
pub stored_are : (associations : List Association) (set names : List (List ℕ)) → set ≡ set_names associations → names ≡ associated_names associations
    → filter (λ name. list_any (is_word name) set) names ≡ stored_names associations
stored_are associations set names set_is names_are =
    ap (λ ns. filter (λ name. list_any (is_word name) set) ns) names_are ∙ ap (λ ns. filter (λ name. list_any (is_word name) ns) (associated_names associations)) set_is
    ∙ filter_agree (λ name. list_any (is_word name) (set_names associations)) (is_stored_by associations) (λ name. set_or name associations) (associated_names associations)

filter_none : (names : List (List ℕ)) → filter (λ name. list_any (is_word name) []) names ≡ []
filter_none [] = refl
filter_none (n ∷ names) = filter_none names

-- without any that is set none is stored
pub none_stored : (associations : List Association) (set : List (List ℕ)) → set ≡ set_names associations → length set ≡ 0 → [] ≡ stored_names associations
none_stored associations [] set_is none = sym (filter_none (associated_names associations)) ∙ stored_are associations [] (associated_names associations) set_is refl
none_stored associations (n ∷ set) set_is none = absurd (omega (arith, none))

-- no two of them are the same
pub stored_apart : (associations : List Association) → Pairwise (λ a b. is_word a b ≡ false) (stored_names associations)
stored_apart associations =
    pairwise_filter (λ a b. is_word a b ≡ false) (is_stored_by associations) (associated_names associations) (once_apart (map (λ (a : Association). a.name.spelling) associations))
