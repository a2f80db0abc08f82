-- The leaves of standard function blocks, one by one: of each row of a table one leaf.
use Rattle.std.proofs.Common.{◌≡◌, ℕ, ◌+◌, ◌<◌, ◌≤◌, List, [], ◌∷◌, ◌++◌, get_or, length, map, take, refl, ap, sym, ◌∙◌, arith, append-nil, length-append}
use Rattle.std.specs.List.{flat_map}
use Rattle.std.proofs.lemmas.Grind.{flat_map-append}
use Rattle.std.proofs.lemmas.List.{length-map, length-take-le, map-append, take_more}
use Rattle.st_values.specs.declared.value.Value.{Value}
use Rattle.st_types.specs.Initials.{zero_of}
use Rattle.st_types.specs.Pins.{seen, seen_kept}
use Rattle.st_types.specs.declared.pin.Kept.{Kept}
use Rattle.st_types.specs.declared.pin.Pin.{Pin}
use Rattle.st_leaves.specs.LeavesIn.{LeafIn, Use, hidden, kept_leaf, one, pin_leaf, plain}
use Rattle.st_leaves.specs.Paths.{Selector, field, kept}
use Rattle.st_listing.specs.Listings.{ListingView, listed}
use Rattle.st_listing.proofs.Listings.{length_listed, listed_twice}

-- a leaf that begins with 0
put_zero : (now new : ListingView) (s : Selector) (of : List ℕ) (v zero : Value) (u : Use) → v ≡ zero → new ≡ listed now (one s of v u) → new ≡ listed now (one s of zero u)
put_zero now new s of v zero u is more = more ∙ ap (λ w. listed now (one s of w u)) is

-- those of one row more
leaves_more : {A B : Type 0} (leaf : B → List LeafIn) (seen : A → B) (rows : List A) (i : ℕ) (row : A) → i < length rows
    → flat_map leaf (map seen (take (i + 1) rows)) ≡ flat_map leaf (map seen (take i rows)) ++ leaf (seen (get_or rows i row))
leaves_more leaf seen rows i row within =
    ap (λ xs. flat_map leaf (map seen xs)) (take_more rows i row within)
    ∙ ap (flat_map leaf) (map-append seen (take i rows) (get_or rows i row ∷ []))
    ∙ flat_map-append leaf (map seen (take i rows)) (seen (get_or rows i row) ∷ [])
    ∙ ap (λ ls. flat_map leaf (map seen (take i rows)) ++ ls) (append-nil (leaf (seen (get_or rows i row))))

rows_more : {A B : Type 0} (leaf : B → List LeafIn) (seen : A → B) (s now new : ListingView) (rows : List A) (i : ℕ) (row : A) → i < length rows
    → now ≡ listed s (flat_map leaf (map seen (take i rows))) → new ≡ listed now (leaf (seen (get_or rows i row)))
    → new ≡ listed s (flat_map leaf (map seen (take (i + 1) rows)))
rows_more leaf seen s now new rows i row within is more =
    more ∙ ap (λ v. listed v (leaf (seen (get_or rows i row)))) is
    ∙ listed_twice s (flat_map leaf (map seen (take i rows))) (leaf (seen (get_or rows i row)))
    ∙ ap (listed s) (sym (leaves_more leaf seen rows i row within))

pub pins_more : (s now new : ListingView) (of : List ℕ) (pins : List Pin) (i : ℕ) (p : Pin) (v : Value) → i < length pins
    → now ≡ listed s (flat_map (pin_leaf of) (map seen (take i pins))) → v ≡ zero_of (get_or pins i p).elem
    → new ≡ listed now (one (field (get_or pins i p).name.now) of v plain)
    → new ≡ listed s (flat_map (pin_leaf of) (map seen (take (i + 1) pins)))
pins_more s now new of pins i p v within is zero more =
    rows_more (pin_leaf of) seen s now new pins i p within is
    (put_zero now new (field (get_or pins i p).name.now) of v (zero_of (get_or pins i p).elem) plain zero more)

pub kept_more : (s now new : ListingView) (of : List ℕ) (ks : List Kept) (i : ℕ) (k : Kept) (v : Value) → i < length ks
    → now ≡ listed s (flat_map (kept_leaf of) (map seen_kept (take i ks))) → v ≡ zero_of (get_or ks i k).elem
    → new ≡ listed now (one (kept (get_or ks i k).name.now) of v hidden)
    → new ≡ listed s (flat_map (kept_leaf of) (map seen_kept (take (i + 1) ks)))
kept_more s now new of ks i k v within is zero more =
    rows_more (kept_leaf of) seen_kept s now new ks i k within is
    (put_zero now new (kept (get_or ks i k).name.now) of v (zero_of (get_or ks i k).elem) hidden zero more)

leaves_length : {B : Type 0} (leaf : B → List LeafIn) → ((b : B) → length (leaf b) ≡ 1) → (bs : List B) → length (flat_map leaf bs) ≡ length bs
leaves_length leaf one [] = refl
leaves_length leaf one (b ∷ bs) =
    let both = length-append (leaf b) (flat_map leaf bs) in
    let first = one b in
    let others = leaves_length leaf one bs in
    omega (arith, both, first, others)

-- one leaf for each row
pub rows_count : {A B : Type 0} (leaf : B → List LeafIn) (seen : A → B) → ((b : B) → length (leaf b) ≡ 1) → (s now : ListingView) (rows : List A) (i : ℕ) → i ≤ length rows
    → now ≡ listed s (flat_map leaf (map seen (take i rows))) → length now.leaves ≡ length s.leaves + i
rows_count leaf seen one s now rows i within is =
    ap (λ v. length v.leaves) is ∙ length_listed s (flat_map leaf (map seen (take i rows)))
    ∙ ap (λ n. length s.leaves + n) (leaves_length leaf one (map seen (take i rows)) ∙ length-map (take i rows) seen ∙ length-take-le i rows within)
