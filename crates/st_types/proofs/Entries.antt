-- Standard names.
use Rattle.std.proofs.Common.{◌≡◌, ℕ, ◌+◌, ◌<◌, length, get_or, drop, true, false, List, [], ◌∷◌, ◌++◌, Option, Some, None, is_some, codes, refl, sym, ◌∙◌, ap, map}
use Rattle.std.proofs.lemmas.List.{drop_more}
use Rattle.std.specs.List.{find, flat_map}
use Rattle.std.specs.Option.{option_map, option_map_or}
use Rattle.st_values.specs.Types.{is_same, name_of}
use Rattle.st_values.specs.Words.{is_word}
use Rattle.st_values.specs.declared.elem.Elem.{Elem}
use Rattle.st_types.specs.Parts.{is_target, rest_after}
use Rattle.st_types.specs.Standard.{Entry, conversion, conversions, entry, entry_named, listed, standard_of}
use Rattle.st_types.specs.declared.standard.Standard.{Standard}
use Rattle.st_types.specs.declared.standard.Standard.TheVariants as standards
use Rattle.st_types.proofs.Cases.{by_test}
use Rattle.st_types.proofs.Prefixes.{is_word-append}

-- what is found in a table of rows
pub found_in : {R : Type 0} (rows : List R) (standard : R → Standard) (text : R → List ℕ) (name : List ℕ)
    → option_map standard (find (λ row. is_word (text row) name) rows) ≡ entry_named (map (λ row. entry (text row) (standard row)) rows) name
found_in [] standard text name = refl
found_in (row ∷ rows) standard text name = by_test (is_word (text row) name) (λ t. rw t refl) (λ t. rw t (found_in rows standard text name))

-- ---- one list of entries after another

-- a name that is among the first
pub entry_named-here : (es fs : List Entry) (name : List ℕ) → is_some (entry_named es name) ≡ true → entry_named (es ++ fs) name ≡ entry_named es name
entry_named-here [] fs name some = cc
entry_named-here (e ∷ es) fs name some = by_test (is_word e.name name) (λ t. rw t refl) (λ t. rw t (entry_named-here es fs name (rw t at some)))

-- and one that isn't
pub entry_named-there : (es fs : List Entry) (name : List ℕ) → is_some (entry_named es name) ≡ false → entry_named (es ++ fs) name ≡ entry_named fs name
entry_named-there [] fs name none = refl
entry_named-there (e ∷ es) fs name none = by_test (is_word e.name name) (λ t. let h = rw t at none in cc) (λ t. rw t (entry_named-there es fs name (rw t at none)))

-- ---- conversions

abbrev begin : Elem → List ℕ
begin from = name_of from ++ codes "_TO_"

-- what stands after `X_TO_` is the name of the type to which X converts
pub found_from : (from : Elem) (types : List Elem) (name rest : List ℕ) → rest_after (begin from) name ≡ Some rest → option_map (standards.Conversion from) (find (is_target from rest) types) ≡ entry_named (flat_map (conversion from) types) name
found_from from [] name rest is = refl
found_from from (x ∷ xs) name rest is =
    let same : is_word (begin from ++ name_of x) name ≡ is_word (name_of x) rest = is_word-append (begin from) (name_of x) name ∙ ap (λ r. option_map_or (is_word (name_of x)) r false) is in
    by_test (is_same from x)
    (λ t. rw t (found_from from xs name rest is))
    (λ t. by_test (is_word (name_of x) rest) (λ u. rw (t, same, u) refl) (λ u. rw (t, same, u) (found_from from xs name rest is)))

-- no name of a conversion of X begins otherwise
pub not_found_from : (from : Elem) (types : List Elem) (name : List ℕ) → rest_after (begin from) name ≡ None → None ≡ entry_named (flat_map (conversion from) types) name
not_found_from from [] name is = refl
not_found_from from (x ∷ xs) name is =
    let same : is_word (begin from ++ name_of x) name ≡ false = is_word-append (begin from) (name_of x) name ∙ ap (λ r. option_map_or (is_word (name_of x)) r false) is in
    by_test (is_same from x) (λ t. rw t (not_found_from from xs name is)) (λ t. rw (t, same) (not_found_from from xs name is))

-- ---- the types from which a name may convert, in turn

module _ (f : Elem → List Entry) (types : List Elem) (name : List ℕ) (i : ℕ) (d : Elem) (below : i < length types) where
  pub found_here : is_some (entry_named (f (get_or types i d)) name) ≡ true → entry_named (flat_map f (drop i types)) name ≡ entry_named (f (get_or types i d)) name
  found_here some = rw (drop_more types i d below) (entry_named-here (f (get_or types i d)) (flat_map f (drop (i + 1) types)) name some)

  pub found_later : is_some (entry_named (f (get_or types i d)) name) ≡ false → entry_named (flat_map f (drop i types)) name ≡ entry_named (flat_map f (drop (i + 1) types)) name
  found_later none = rw (drop_more types i d below) (entry_named-there (f (get_or types i d)) (flat_map f (drop (i + 1) types)) name none)

-- ---- all names

pub standard_of-listed : (name : List ℕ) (found : Option Standard) (standard : Standard) → found ≡ entry_named listed name → found ≡ Some standard → Some standard ≡ standard_of name
unfolding standard_of
standard_of-listed name found standard among is =
    let here : entry_named (listed ++ conversions) name ≡ entry_named listed name = entry_named-here listed conversions name (ap is_some (sym among ∙ is)) in
    sym is ∙ (among ∙ sym here)

pub standard_of-conversion : (name : List ℕ) (found : Option Standard) → found ≡ entry_named listed name → found ≡ None → entry_named conversions name ≡ standard_of name
unfolding standard_of
standard_of-conversion name found among is = sym (entry_named-there listed conversions name (ap is_some (sym among ∙ is)))
