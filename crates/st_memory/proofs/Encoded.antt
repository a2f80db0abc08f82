-- Values in bytes, one after another.
use Rattle.std.proofs.Common.{ℕ, zero, suc, ◌≡◌, ◌+◌, ◌-◌, ◌<◌, ◌≤◌, List, [], ◌∷◌, ◌++◌, length, take, drop, set, refl, sym, ap, ◌∙◌, arith, add-one}
use Rattle.std.proofs.lemmas.List.{append-nil, drop-drop, drop-take, drop_at, drop_more, length-append, set_split, take-append-drop, take-take, take_at}
use Rattle.std.proofs.lemmas.List.Concat.{flat_map-append}
use Rattle.std.proofs.lemmas.List.Sums.{sum_by-cons, sum_by-take-drop, sum_by-take-le}
use Rattle.st_values.specs.Types.{width_of}
use Rattle.st_values.specs.declared.elem.Elem.{Elem}
use Rattle.st_values.specs.declared.value.Value.{Value}
use Rattle.st_tree.specs.declared.leaf.Leaf.{Leaf}
use Rattle.st_memory.specs.Bytes.{BeginAsTruth, read_bytes, value_bytes}
use Rattle.st_layout.specs.Layout.{IsValueAt, leaf_at, no_value, offset_of, total_width}
use Rattle.st_memory.specs.Memory.{AreValues, value_at}
use Rattle.st_memory.specs.Packed.{IsHeld, decoded, encoded, length-decoded}
use Rattle.st_memory.proofs.Contents.{set_values_fit, value_fits}
use Rattle.st_layout.proofs.Places.{offset_more}
use Rattle.st_memory.proofs.ValueBytes.{begin_as_truth, length-value_bytes, read_bytes-value_bytes}

total-cons : (leaf : Leaf) (leaves : List Leaf) → total_width (leaf ∷ leaves) ≡ width_of leaf.elem + total_width leaves
total-cons leaf leaves = sum_by-cons (λ (leaf : Leaf). width_of leaf.elem) leaf leaves

-- a value is what the bytes at its leaf's place begin with
pub decoded_at : (leaves : List Leaf) (bytes : List ℕ) (i : ℕ) → i < length leaves → value_at (decoded leaves bytes) i ≡ read_bytes (leaf_at leaves i).elem (drop (offset_of leaves i) bytes)
decoded_at [] bytes i below = absurd (omega (arith, below))
decoded_at (leaf ∷ leaves) bytes zero below = refl
decoded_at (leaf ∷ leaves) bytes (suc i) below =
    decoded_at leaves (drop (width_of leaf.elem) bytes) i (omega (arith, below))
    ∙ ap (λ (them : List ℕ). read_bytes (leaf_at leaves i).elem them) (drop-drop (offset_of leaves i) (width_of leaf.elem) bytes
    ∙ ap (λ (n : ℕ). drop n bytes) (sym (total-cons leaf (take i leaves))))

-- values of the leaves' types are read back from their bytes
pub decoded-encoded : (leaves : List Leaf) (values : List Value) → AreValues leaves values → decoded leaves (encoded values) ≡ values
decoded-encoded [] [] fit = refl
decoded-encoded [] (value ∷ values) fit = absurd fit
decoded-encoded (leaf ∷ leaves) [] fit = absurd fit
decoded-encoded (leaf ∷ leaves) (value ∷ values) fit =
    let typed : value.elem ≡ leaf.elem = fit.0.elem in
    let first : read_bytes leaf.elem (value_bytes value ++ encoded values) ≡ value =
    ap (λ (e : Elem). read_bytes e (value_bytes value ++ encoded values)) (sym typed) ∙ read_bytes-value_bytes value (encoded values) fit.0.in_range in
    let rest : drop (width_of leaf.elem) (value_bytes value ++ encoded values) ≡ encoded values =
    drop_at (value_bytes value) (encoded values) (width_of leaf.elem) (length-value_bytes value ∙ ap width_of typed) in
    ap (λ (v : Value). v ∷ decoded leaves (drop (width_of leaf.elem) (value_bytes value ++ encoded values))) first
    ∙ ap (λ (them : List Value). value ∷ them) (ap (decoded leaves) rest ∙ decoded-encoded leaves values fit.1)

pub length-encoded : (leaves : List Leaf) (values : List Value) → AreValues leaves values → length (encoded values) ≡ total_width leaves
length-encoded [] [] fit = refl
length-encoded [] (value ∷ values) fit = absurd fit
length-encoded (leaf ∷ leaves) [] fit = absurd fit
length-encoded (leaf ∷ leaves) (value ∷ values) fit =
    let typed : width_of value.elem ≡ width_of leaf.elem = ap width_of fit.0.elem in
    omega (arith, length-append (value_bytes value) (encoded values), length-value_bytes value, typed, length-encoded leaves values fit.1, total-cons leaf leaves)

-- bytes of values of the leaves' types hold them
pub holds_encoded : (leaves : List Leaf) (values : List Value) (bytes : List ℕ) → AreValues leaves values → bytes ≡ encoded values → IsHeld leaves bytes
holds_encoded leaves values bytes fit are =
    let same : decoded leaves bytes ≡ values = ap (decoded leaves) are ∙ decoded-encoded leaves values fit in
    record {
      types = rw same fit;
      exact = ap encoded same ∙ sym are;
      count = ap (λ (them : List ℕ). length them) are ∙ length-encoded leaves values fit;
    }

-- what they hold is the values
pub says_encoded : (leaves : List Leaf) (values : List Value) (bytes : List ℕ) → AreValues leaves values → bytes ≡ encoded values → decoded leaves bytes ≡ values
says_encoded leaves values bytes fit are = ap (decoded leaves) are ∙ decoded-encoded leaves values fit

take_fits : (leaves : List Leaf) (values : List Value) (i : ℕ) → AreValues leaves values → AreValues (take i leaves) (take i values)
take_fits [] [] zero fit = tt
take_fits [] [] (suc i) fit = tt
take_fits [] (value ∷ values) i fit = absurd fit
take_fits (leaf ∷ leaves) [] i fit = absurd fit
take_fits (leaf ∷ leaves) (value ∷ values) zero fit = tt
take_fits (leaf ∷ leaves) (value ∷ values) (suc i) fit = (fit.0, take_fits leaves values i fit.1)

pub encoded-append : (values others : List Value) → encoded (values ++ others) ≡ encoded values ++ encoded others
encoded-append values others = flat_map-append value_bytes values others

-- the bytes before a leaf's place, and those from there on
module _ (leaves : List Leaf) (values : List Value) (fit : AreValues leaves values) (i : ℕ) where
  parts : encoded values ≡ encoded (take i values) ++ encoded (drop i values)
  parts = ap encoded (sym (take-append-drop i values)) ∙ encoded-append (take i values) (drop i values)

  before : length (encoded (take i values)) ≡ offset_of leaves i
  before = length-encoded (take i leaves) (take i values) (take_fits leaves values i fit)

  pub take-encoded : take (offset_of leaves i) (encoded values) ≡ encoded (take i values)
  take-encoded = ap (λ (them : List ℕ). take (offset_of leaves i) them) parts ∙ take_at (encoded (take i values)) (encoded (drop i values)) (offset_of leaves i) before

  pub drop-encoded : drop (offset_of leaves i) (encoded values) ≡ encoded (drop i values)
  drop-encoded = ap (λ (them : List ℕ). drop (offset_of leaves i) them) parts ∙ drop_at (encoded (take i values)) (encoded (drop i values)) (offset_of leaves i) before

-- the bytes at a BOOL's place begin with 0 or 1
pub begins_as_truth : (leaves : List Leaf) (bytes : List ℕ) (i : ℕ) → IsHeld leaves bytes → i < length leaves → BeginAsTruth (leaf_at leaves i).elem (drop (offset_of leaves i) bytes)
begins_as_truth leaves bytes i held below =
    let values : List Value = decoded leaves bytes in
    let many : i < length values = omega (arith, length-decoded leaves bytes, below) in
    let fits = value_fits leaves values i held.types below in
    let there : drop (offset_of leaves i) bytes ≡ value_bytes (value_at values i) ++ encoded (drop (i + 1) values) =
    ap (drop (offset_of leaves i)) (sym held.exact)
    ∙ (drop-encoded leaves values held.types i ∙ ap encoded (drop_more values i no_value many)) in
    rw (there, sym fits.elem) (begin_as_truth (value_at values i) (encoded (drop (i + 1) values)) fits.in_range)

-- a value in the place of another
pub set-encoded : (leaves : List Leaf) (values : List Value) (i : ℕ) (value : Value) → AreValues leaves values → length values ≡ length leaves → i < length leaves → IsValueAt leaves i value
    → take (offset_of leaves i) (encoded values) ++ (value_bytes value ++ drop (offset_of leaves i + width_of value.elem) (encoded values)) ≡ encoded (set values i value)
set-encoded leaves values i value fit count below one =
    let next : offset_of leaves i + width_of value.elem ≡ offset_of leaves (i + 1) = ap (λ (e : Elem). offset_of leaves i + width_of e) one.elem ∙ sym (offset_more leaves i below) in
    let after : drop (offset_of leaves i + width_of value.elem) (encoded values) ≡ encoded (drop (i + 1) values) = ap (λ (n : ℕ). drop n (encoded values)) next ∙ drop-encoded leaves values fit (i + 1) in
    let whole : set values i value ≡ take i values ++ (value ∷ drop (i + 1) values) = set_split values i value (omega (arith, count, below)) ∙ ap (λ (n : ℕ). take i values ++ (value ∷ drop n values)) (sym (add-one i)) in
    ap (λ (them : List ℕ). them ++ (value_bytes value ++ drop (offset_of leaves i + width_of value.elem) (encoded values))) (take-encoded leaves values fit i)
    ∙ (ap (λ (them : List ℕ). encoded (take i values) ++ (value_bytes value ++ them)) after
    ∙ (sym (encoded-append (take i values) (value ∷ drop (i + 1) values)) ∙ ap encoded (sym whole)))

-- the bytes are held after a value is put in the place of another, and they say so
pub set_held : (leaves : List Leaf) (bytes new : List ℕ) (i : ℕ) (value : Value) → IsHeld leaves bytes → i < length leaves → IsValueAt leaves i value
    → new ≡ take (offset_of leaves i) bytes ++ (value_bytes value ++ drop (offset_of leaves i + width_of value.elem) bytes)
    → IsHeld leaves new × (decoded leaves new ≡ set (decoded leaves bytes) i value)
set_held leaves bytes new i value held below one told =
    let values : List Value = decoded leaves bytes in
    let are : new ≡ encoded (set values i value) =
    told ∙ (ap (λ (them : List ℕ). take (offset_of leaves i) them ++ (value_bytes value ++ drop (offset_of leaves i + width_of value.elem) them)) (sym held.exact)
    ∙ set-encoded leaves values i value held.types (length-decoded leaves bytes) below one) in
    let fit : AreValues leaves (set values i value) = set_values_fit leaves values i value held.types one in
    (holds_encoded leaves (set values i value) new fit are, says_encoded leaves (set values i value) new fit are)

drop_fits : (leaves : List Leaf) (values : List Value) (i : ℕ) → AreValues leaves values → AreValues (drop i leaves) (drop i values)
drop_fits [] [] zero fit = tt
drop_fits [] [] (suc i) fit = tt
drop_fits [] (value ∷ values) i fit = absurd fit
drop_fits (leaf ∷ leaves) [] i fit = absurd fit
drop_fits (leaf ∷ leaves) (value ∷ values) zero fit = fit
drop_fits (leaf ∷ leaves) (value ∷ values) (suc i) fit = drop_fits leaves values i fit.1

-- how far the place behind leaves is from the first one's
pub offset_run : (leaves : List Leaf) (first count : ℕ) → offset_of leaves (first + count) ≡ offset_of leaves first + offset_of (drop first leaves) count
offset_run leaves first count =
    let split : total_width (take first (take (first + count) leaves)) + total_width (drop first (take (first + count) leaves)) ≡ total_width (take (first + count) leaves) =
    sum_by-take-drop (λ (leaf : Leaf). width_of leaf.elem) (take (first + count) leaves) first in
    let low : total_width (take first (take (first + count) leaves)) ≡ offset_of leaves first = ap total_width (take-take first (first + count) leaves (omega arith)) in
    let high : total_width (drop first (take (first + count) leaves)) ≡ offset_of (drop first leaves) count = ap total_width (drop-take first count leaves) in
    omega arith

-- the bytes of leaves that follow one another lie within all bytes
pub run_within : (leaves : List Leaf) (first end : ℕ) → first ≤ end → (offset_of leaves first ≤ offset_of leaves end) × (offset_of leaves end ≤ total_width leaves)
run_within leaves first end order =
    let whole : offset_of leaves (first + (end - first)) ≡ offset_of leaves end = ap (offset_of leaves) (omega arith) in
    (omega (arith, whole, offset_run leaves first (end - first)), sum_by-take-le (λ (leaf : Leaf). width_of leaf.elem) leaves end)

-- and are those of their values
pub run-encoded : (leaves : List Leaf) (bytes : List ℕ) (first end : ℕ) → IsHeld leaves bytes → first ≤ end
    → take (offset_of leaves end - offset_of leaves first) (drop (offset_of leaves first) bytes) ≡ encoded (take (end - first) (drop first (decoded leaves bytes)))
run-encoded leaves bytes first end held order =
    let values : List Value = decoded leaves bytes in
    let whole : offset_of leaves (first + (end - first)) ≡ offset_of leaves end = ap (offset_of leaves) (omega arith) in
    let wide : offset_of leaves end - offset_of leaves first ≡ offset_of (drop first leaves) (end - first) = omega (arith, whole, offset_run leaves first (end - first)) in
    let rest : drop (offset_of leaves first) bytes ≡ encoded (drop first values) = ap (λ (them : List ℕ). drop (offset_of leaves first) them) (sym held.exact) ∙ drop-encoded leaves values held.types first in
    ap (λ (n : ℕ). take n (drop (offset_of leaves first) bytes)) wide
    ∙ (ap (λ (them : List ℕ). take (offset_of (drop first leaves) (end - first)) them) rest
    ∙ take-encoded (drop first leaves) (drop first values) (drop_fits leaves values first held.types) (end - first))

-- a value after others
pub encoded_push : (values : List Value) (value : Value) → encoded (values ++ value ∷ []) ≡ encoded values ++ value_bytes value
encoded_push values value = encoded-append values (value ∷ []) ∙ ap (λ (them : List ℕ). encoded values ++ them) (append-nil (value_bytes value))
