-- The inputs and outputs of standard function blocks by their names.
use Rattle.std.proofs.Common.{◌≡◌, ℕ, suc, ◌+◌, ◌<◌, Bool, if◌then◌else◌, List, [], ◌∷◌, length, map, Option, Some, None, position, refl, ap, sym, ◌∙◌, subst, arith}
use Rattle.std.specs.List.{slice_get}
use Rattle.std.specs.Option.{option_map}
use Rattle.std.proofs.lemmas.Option.{same_Some}
use Rattle.st_types.proofs.Cases.{by_test}
use Rattle.st_types.specs.Compositions.{elementary}
use Rattle.st_types.specs.Initials.{zero_of}
use Rattle.st_types.specs.Pins.{seen}
use Rattle.st_types.specs.Standard.{Pin, pin_named}
use Rattle.st_types.specs.declared.pin.Pin.{Pin as Row}
use Rattle.st_values.specs.Words.{is_word}
use Rattle.st_leaves.specs.Selected.{pin_selected}
use Rattle.st_meaning.specs.Offsets.{pin_offset}
use Rattle.st_places.proofs.Lookups.{position-here, position-next}

abbrev pub has_name : List ℕ → Row → Bool
has_name name row = is_word row.name.now name

-- the pin of a number has the name, and so many stand before it
abbrev pub IsPinAt : List Row → List ℕ → Option Pin → ℕ → Option ℕ → Type 0
IsPinAt rows name found offset None = found ≡ None
IsPinAt rows name found offset (Some k) = (offset ≡ k) × ((r : Row) → slice_get rows k ≡ Some r → found ≡ Some (seen r))

next_pin : (row : Row) (rows : List Row) (name : List ℕ) (found : Option Pin) (offset : ℕ) (k : Option ℕ) → IsPinAt rows name found offset k
    → IsPinAt (row ∷ rows) name found (1 + offset) (option_map suc k)
next_pin row rows name found offset None is = is
next_pin row rows name found offset (Some k) is = (omega (arith, is.0), is.1)

pub pin_at : (rows : List Row) (name : List ℕ) → IsPinAt rows name (pin_named (map seen rows) name) (pin_offset (map seen rows) name) (position (has_name name) rows)
pin_at [] name = refl
pin_at (row ∷ rows) name =
    by_test (is_word row.name.now name)
    (λ t.
    subst (IsPinAt (row ∷ rows) name (pin_named (map seen (row ∷ rows)) name) (pin_offset (map seen (row ∷ rows)) name)) (sym (position-here (has_name name) row rows t))
    (subst (λ b. IsPinAt (row ∷ rows) name (if b then Some (seen row) else pin_named (map seen rows) name) (if b then 0 else (1 + pin_offset (map seen rows) name)) (Some 0)) (sym t)
    (refl, λ r is. ap (λ (o : Option Row). option_map seen o) is)))
    (λ t.
    subst (IsPinAt (row ∷ rows) name (pin_named (map seen (row ∷ rows)) name) (pin_offset (map seen (row ∷ rows)) name)) (sym (position-next (has_name name) row rows t))
    (subst (λ b. IsPinAt (row ∷ rows) name (if b then Some (seen row) else pin_named (map seen rows) name) (if b then 0 else (1 + pin_offset (map seen rows) name))
    (option_map suc (position (has_name name) rows))) (sym t)
    (next_pin row rows name (pin_named (map seen rows) name) (pin_offset (map seen rows) name) (position (has_name name) rows) (pin_at rows name))))

pub no_pin : (rows : List Row) (pins : List Pin) (name : List ℕ) → map seen rows ≡ pins → position (has_name name) rows ≡ None → pin_named pins name ≡ None
no_pin rows pins name are none =
    ap (λ (ps : List Pin). pin_named ps name) (sym are) ∙ subst (IsPinAt rows name (pin_named (map seen rows) name) (pin_offset (map seen rows) name)) none (pin_at rows name)

pub one_pin : (rows : List Row) (pins : List Pin) (name : List ℕ) (k : ℕ) (r : Row) → map seen rows ≡ pins → position (has_name name) rows ≡ Some k → slice_get rows k ≡ Some r
    → (elementary (zero_of r.elem) ≡ pin_selected (pin_named pins name)) × (k ≡ pin_offset pins name)
one_pin rows pins name k r are at is =
    let found : IsPinAt rows name (pin_named (map seen rows) name) (pin_offset (map seen rows) name) (Some k) =
    subst (IsPinAt rows name (pin_named (map seen rows) name) (pin_offset (map seen rows) name)) at (pin_at rows name) in
    (sym (ap (λ (ps : List Pin). pin_selected (pin_named ps name)) (sym are) ∙ ap pin_selected (found.1 r is)), sym found.0 ∙ ap (λ (ps : List Pin). pin_offset ps name) are)

pub pin_below : (rows : List Row) (name : List ℕ) (k : ℕ) → position (has_name name) rows ≡ Some k → k < length rows
pin_below [] name k at = absurd (cc)
pin_below (row ∷ rows) name k at =
    by_test (is_word row.name.now name)
    (λ t. let here : Some 0 ≡ Some k = sym (position-here (has_name name) row rows t) ∙ at in omega (arith, same_Some 0 k here))
    (λ t. below (position (has_name name) rows) (λ j there. pin_below rows name j there) k (sym (position-next (has_name name) row rows t) ∙ at))
  where
    below : (found : Option ℕ) → ((j : ℕ) → found ≡ Some j → j < length rows) → (k : ℕ) → option_map suc found ≡ Some k → k < suc (length rows)
    below None each k is = absurd (cc)
    below (Some j) each k is = omega (arith, each j refl, same_Some (suc j) k is)
