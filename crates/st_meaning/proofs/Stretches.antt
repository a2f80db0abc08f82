-- Values that stand together, and the leaves of a part of a whole, which do.
use Rattle.std.proofs.Common.{◌≡◌, ◌⊎◌, inl, inr, ℕ, zero, suc, ◌+◌, ◌-◌, ◌<◌, ◌≤◌, Bool, true, false, List, [], ◌∷◌, ◌++◌, drop, length, map, take, get_or, if◌then◌else◌, refl, ap, sym, ◌∙◌, subst, arith, length-append, length-drop, length-take, ltb-false, ltb-true, nat_lt, Some}
use Rattle.std.specs.List.{AllZip, flat_map}
use Rattle.std.proofs.lemmas.List.{get_or-append-add, get_or-drop, get_or-take, get_or_append_left, length-map}
use Rattle.st_values.specs.Words.{is_word}
use Rattle.st_values.specs.declared.elem.Elem.{Elem}
use Rattle.st_values.specs.declared.elem.Elem.TheVariants as elems
use Rattle.st_types.specs.Compositions.{Composition, unknown, elementary, array, composed, standard, Members, none, member}
use Rattle.st_types.specs.Initials.{zero_of}
use Rattle.st_types.specs.Standard.{Pin, pin_named, pins_of, block_name, kept_by}
use Rattle.st_types.specs.declared.standard.StandardBlock.{StandardBlock}
use Rattle.st_types.specs.declared.standard.StandardBlock.TheVariants as blocks
use Rattle.st_leaves.specs.Charts.{stored_by}
use Rattle.st_leaves.specs.LeavesIn.{LeafIn, block_leaves, chart_in, kept_leaf, member_names, members_in, pin_leaf}
use Rattle.st_leaves.specs.Places.{IsMember, count, counts}
use Rattle.st_leaves.specs.Selected.{member_selected, pin_selected, selected_by}
use Rattle.st_leaves.proofs.Numbers.{length_is_count, length_is_counts}
use Rattle.st_values.specs.Values.{IsOfType}
use Rattle.st_blocks.specs.Cells.{AreLeavesOf, types_of}
use Rattle.st_operators.specs.Laws.{IsOf}
use Rattle.st_meaning.specs.Meaning.{Values, no_value}
use Rattle.st_meaning.specs.Offsets.{member_offset, offset_of, pin_offset}
use Rattle.st_meaning.specs.Sound.{AreValuesOf, type_at}
use Rattle.st_meaning.specs.Statements.{stretch, unless_forced, with_stretch}
use Rattle.st_meaning.proofs.LeafTypes.{elem_at, elem_left}
use Rattle.st_meaning.proofs.Places.{member_type, select}

-- ---- a number, seen from a stretch of so many

pub data Stands (offset size : ℕ) : ℕ → Type 0 where
  before : {n : ℕ} → n < offset → Stands offset size n
  inside : (i : ℕ) → i < size → Stands offset size (offset + i)
  past : (i : ℕ) → Stands offset size (offset + size + i)

stands_further : (offset size n : ℕ) → Stands offset size n → Stands (suc offset) size (suc n)
stands_further offset size n (before h) = before (omega (arith, h))
stands_further offset size n (inside i h) =
    let e : suc offset + i ≡ suc (offset + i) = omega arith in subst (Stands (suc offset) size) e (inside i h)
stands_further offset size n (past i) =
    let e : suc offset + size + i ≡ suc (offset + size + i) = omega arith in subst (Stands (suc offset) size) e (past i)

pub stands : (offset size n : ℕ) → Stands offset size n
stands zero size n = by (nat_lt n size) refl where
  by : (b : Bool) → nat_lt n size ≡ b → Stands zero size n
  by true q = let e : zero + n ≡ n = omega arith in subst (Stands zero size) e (inside n (ltb-true n size q))
  by false q =
      let most : size ≤ n = ltb-false n size q in
      let e : zero + size + (n - size) ≡ n = omega (arith, most) in
      subst (Stands zero size) e (past (n - size))
stands (suc offset) size zero = before (omega arith)
stands (suc offset) size (suc n) = stands_further offset size n (stands offset size n)

-- ---- values that stand together

module _ (values : Values) (offset : ℕ) where
  pub stretch_length : (size : ℕ) → offset + size ≤ length values → length (stretch values offset size) ≡ size
  stretch_length size few = omega (arith, length-take size (drop offset values), length-drop offset values, few)

  pub stretch_at : (size i : ℕ) → i < size → get_or (stretch values offset size) i no_value ≡ get_or values (offset + i) no_value
  stretch_at size i few = get_or-take size (drop offset values) i no_value few ∙ get_or-drop offset values i no_value

  module _ (part : Values) (few : offset + length part ≤ length values) where
    front_length : length (take offset values) ≡ offset
    front_length = omega (arith, length-take offset values, few)

    pub with_length : length (with_stretch values offset part) ≡ length values
    with_length = omega (
      arith,
      length-append (take offset values) (part ++ drop (offset + length part) values),
      length-append part (drop (offset + length part) values),
      length-drop (offset + length part) values,
      front_length,
      few,
    )

    pub with_before : (n : ℕ) → n < offset → get_or (with_stretch values offset part) n no_value ≡ get_or values n no_value
    with_before n h =
        let less : n < length (take offset values) = subst (λ k. n < k) (sym front_length) h in
        get_or_append_left (take offset values) (part ++ drop (offset + length part) values) no_value n less ∙ get_or-take offset values n no_value h

    behind_front : (n : ℕ) → get_or (with_stretch values offset part) (offset + n) no_value ≡ get_or (part ++ drop (offset + length part) values) n no_value
    behind_front n =
        ap (λ k. get_or (with_stretch values offset part) (k + n) no_value) (sym front_length)
        ∙ get_or-append-add (take offset values) (part ++ drop (offset + length part) values) n no_value

    pub with_inside : (i : ℕ) → i < length part → get_or (with_stretch values offset part) (offset + i) no_value ≡ get_or part i no_value
    with_inside i h = behind_front i ∙ get_or_append_left part (drop (offset + length part) values) no_value i h

    pub with_past : (i : ℕ) → get_or (with_stretch values offset part) (offset + length part + i) no_value ≡ get_or values (offset + length part + i) no_value
    with_past i =
        let e : offset + length part + i ≡ offset + (length part + i) = omega arith in
        ap (λ k. get_or (with_stretch values offset part) k no_value) e ∙ behind_front (length part + i)
        ∙ get_or-append-add part (drop (offset + length part) values) i no_value ∙ get_or-drop (offset + length part) values i no_value

-- ---- forced leaves stay

pub unless_length : (forced : List Bool) (old new : Values) → length old ≡ length new → length (unless_forced forced old new) ≡ length new
unless_length forced [] [] h = refl
unless_length forced [] (w ∷ new) h = absurd (omega (arith, h))
unless_length forced (v ∷ old) [] h = refl
unless_length [] (v ∷ old) (w ∷ new) h = ap suc (unless_length [] old new (omega (arith, h)))
unless_length (f ∷ forced) (v ∷ old) (w ∷ new) h = ap suc (unless_length forced old new (omega (arith, h)))

none_at : (b : Bool) → no_value ≡ (if b then no_value else no_value)
none_at true = refl
none_at false = refl

pub unless_at : (forced : List Bool) (old new : Values) → length old ≡ length new → (i : ℕ)
    → get_or (unless_forced forced old new) i no_value ≡ (if get_or forced i false then get_or old i no_value else get_or new i no_value)
unless_at forced [] [] h i = none_at (get_or forced i false)
unless_at forced [] (w ∷ new) h i = absurd (omega (arith, h))
unless_at forced (v ∷ old) [] h i = absurd (omega (arith, h))
unless_at [] (v ∷ old) (w ∷ new) h zero = refl
unless_at [] (v ∷ old) (w ∷ new) h (suc i) = unless_at [] old new (omega (arith, h)) i
unless_at (f ∷ forced) (v ∷ old) (w ∷ new) h zero = refl
unless_at (f ∷ forced) (v ∷ old) (w ∷ new) h (suc i) = unless_at forced old new (omega (arith, h)) i

-- ---- the leaves of a block

block_types : (b : StandardBlock) → map (λ l. l.initial.elem) (block_leaves b) ≡ types_of b
block_types blocks.RTrig = refl
block_types blocks.FTrig = refl
block_types blocks.Sr = refl
block_types blocks.Rs = refl
block_types blocks.Ctu = refl
block_types blocks.Ctd = refl
block_types blocks.Ton = refl
block_types blocks.Tof = refl
block_types blocks.Tp = refl

-- a block has as many leaves as values
pub block_count : (b : StandardBlock) → length (types_of b) ≡ count (standard b)
block_count b = ap length (sym (block_types b)) ∙ length-map (block_leaves b) (λ l. l.initial.elem) ∙ length_is_count (standard b)

pub elem_listed : (ls : List LeafIn) (n : ℕ) → elem_at ls n ≡ get_or (map (λ l. l.initial.elem) ls) n elems.Bool
elem_listed [] n = refl
elem_listed (l ∷ ls) zero = refl
elem_listed (l ∷ ls) (suc n) = elem_listed ls n

pub block_type : (b : StandardBlock) (i : ℕ) → type_at (standard b) i ≡ get_or (types_of b) i elems.Bool
block_type b i = elem_listed (block_leaves b) i ∙ ap (λ ts. get_or ts i elems.Bool) (block_types b)

-- ---- the leaves of what a name selects

members_fit : (ms : Members) (name : List ℕ) → member_offset ms name + count (member_selected ms name) ≤ counts ms
members_fit none name = omega arith
members_fit (member other kind c ms) name = by (is_word other name) (members_fit ms name) where
  by : (b : Bool) → member_offset ms name + count (member_selected ms name) ≤ counts ms
      → (if b then 0 else (count c + member_offset ms name)) + count (if b then c else member_selected ms name) ≤ count c + counts ms
  by true h = omega arith
  by false h = omega (arith, h)

pins_fit : (ps : List Pin) (name : List ℕ) → pin_offset ps name + count (pin_selected (pin_named ps name)) ≤ length ps
pins_fit [] name = omega arith
pins_fit (p ∷ ps) name = by (is_word p.name name) (pins_fit ps name) where
  by : (b : Bool) → pin_offset ps name + count (pin_selected (pin_named ps name)) ≤ length ps
      → (if b then 0 else (1 + pin_offset ps name)) + count (pin_selected (if b then Some p else pin_named ps name)) ≤ length (p ∷ ps)
  by true h = omega arith
  by false h = omega (arith, h)

-- a part ends within the whole
pub selected_fits : (c : Composition) (name : List ℕ) → offset_of c name + count (selected_by c name) ≤ count c
selected_fits unknown name = omega arith
selected_fits (elementary v) name = omega arith
selected_fits (array ranges firsts c) name = omega arith
selected_fits (composed whole' ms chart) name = omega (arith, members_fit ms name)
selected_fits (standard b) name = omega (arith, pins_fit (pins_of b) name)

pin_type : (whole' : List ℕ) (ps : List Pin) (name : List ℕ) (i : ℕ) → i < count (pin_selected (pin_named ps name))
    → (elem_at (flat_map (pin_leaf whole') ps) (pin_offset ps name + i) ≡ type_at (pin_selected (pin_named ps name)) i)
    × (pin_offset ps name + i < length (flat_map (pin_leaf whole') ps))
pin_type whole' [] name i few = absurd (omega (arith, few))
pin_type whole' (p ∷ ps) name i few = by (is_word p.name name) few (pin_type whole' ps name i) where
  by : (b : Bool) → i < count (pin_selected (if b then Some p else pin_named ps name))
      → (i < count (pin_selected (pin_named ps name))
      → (elem_at (flat_map (pin_leaf whole') ps) (pin_offset ps name + i) ≡ type_at (pin_selected (pin_named ps name)) i)
      × (pin_offset ps name + i < length (flat_map (pin_leaf whole') ps)))
      → (elem_at (flat_map (pin_leaf whole') (p ∷ ps)) ((if b then 0 else (1 + pin_offset ps name)) + i)
      ≡ type_at (pin_selected (if b then Some p else pin_named ps name)) i)
      × ((if b then 0 else (1 + pin_offset ps name)) + i < length (flat_map (pin_leaf whole') (p ∷ ps)))
  by true less more =
      let e : 0 ≡ i = omega (arith, less) in
      let here : elem_at (flat_map (pin_leaf whole') (p ∷ ps)) 0 ≡ type_at (elementary (zero_of p.elem)) 0 = refl in
      (subst (λ k. elem_at (flat_map (pin_leaf whole') (p ∷ ps)) (0 + k) ≡ type_at (elementary (zero_of p.elem)) k) e here, omega (arith, e))
  by false less more =
      let rest = more less in
      let e : 1 + pin_offset ps name + i ≡ suc (pin_offset ps name + i) = omega arith in
      (ap (elem_at (flat_map (pin_leaf whole') (p ∷ ps))) e ∙ rest.0, omega (arith, rest.1))

-- the leaf of this number in a part has in the whole the type that it has by itself
pub selected_type : (c : Composition) (name : List ℕ) (i : ℕ) → i < count (selected_by c name)
    → type_at c (offset_of c name + i) ≡ type_at (selected_by c name) i
selected_type unknown name i few = absurd (omega (arith, few))
selected_type (elementary v) name i few = absurd (omega (arith, few))
selected_type (array ranges firsts c) name i few = absurd (omega (arith, few))
selected_type (composed whole' ms chart) name i few = by (select name ms) where
  by : (member_selected ms name ≡ unknown) ⊎ IsMember name ms (member_offset ms name) (member_selected ms name)
      → type_at (composed whole' ms chart) (member_offset ms name + i) ≡ type_at (member_selected ms name) i
  by (inl q) = let empty : count (member_selected ms name) ≡ 0 = ap count q in absurd (omega (arith, few, empty))
  by (inr m) =
      let n = member_offset ms name + i in
      let inside = member_type whole' name ms (member_offset ms name) (member_selected ms name) i m few in
      let less : n < length (members_in whole' ms) = subst (λ k. n < k) (sym (length_is_counts whole' ms)) inside.1 in
      elem_left (members_in whole' ms) (chart_in whole' (stored_by (member_names ms) chart) chart) n less ∙ inside.0
selected_type (standard b) name i few =
    let pin = pin_type (block_name b) (pins_of b) name i few in
    elem_left (flat_map (pin_leaf (block_name b)) (pins_of b)) (flat_map (kept_leaf (block_name b)) (kept_by b)) (pin_offset (pins_of b) name + i) pin.1 ∙ pin.0

-- ---- instances

-- a part of the whole, which the name selects
module _ (root : Composition) (name : List ℕ) (c : Composition) (is : selected_by root name ≡ c) where
  -- its leaves are leaves of the whole,
  pub part_fits : offset_of root name + count c ≤ count root
  part_fits = subst (λ d. offset_of root name + count d ≤ count root) is (selected_fits root name)

  -- and have the types that they have by themselves,
  pub part_type : (i : ℕ) → i < count c → type_at root (offset_of root name + i) ≡ type_at c i
  part_type i few = selected_type root name i (subst (λ d. i < count d) (sym is) few) ∙ ap (λ d. type_at d i) is

  -- as their values do.
  pub part_values : (values : Values) → AreValuesOf root values → AreValuesOf c (stretch values (offset_of root name) (count c))
  part_values values all =
      let offset = offset_of root name in
      let size = count c in
      record {
        all = stretch_length values offset size (omega (arith, part_fits, all.all));
        each = λ i less. subst (IsOf (type_at c i)) (sym (stretch_at values offset size i less))
            (subst (λ e. IsOf e (get_or values (offset + i) no_value)) (part_type i less) (all.each (offset + i) (omega (arith, part_fits, less))));
      }

-- ---- instances of standard function blocks

pub zipped : (types : List Elem) (cells : Values) → length cells ≡ length types
    → ((i : ℕ) → i < length types → IsOfType (get_or types i elems.Bool) (get_or cells i no_value)) → AllZip IsOfType types cells
zipped [] [] e h = tt
zipped [] (v ∷ cells) e h = absurd (omega (arith, e))
zipped (t ∷ types) [] e h = absurd (omega (arith, e))
zipped (t ∷ types) (v ∷ cells) e h = (h 0 (omega arith), zipped types cells (omega (arith, e)) (λ i less. h (suc i) (omega (arith, less))))

-- the values of an instance have the types of the block's leaves
pub cells_typed : (b : StandardBlock) (cells : Values) → AreValuesOf (standard b) cells → AreLeavesOf b cells
cells_typed b cells all =
    zipped (types_of b) cells (all.all ∙ sym (block_count b))
    (λ i h. let at = all.each i (subst (λ n. i < n) (block_count b) h) in (at.of_type ∙ block_type b i, at.in_range))

pub block_values : (root : Composition) (name : List ℕ) (b : StandardBlock) → selected_by root name ≡ standard b → (values : Values) → AreValuesOf root values
    → AreLeavesOf b (stretch values (offset_of root name) (count (standard b)))
block_values root name b is values all =
    cells_typed b (stretch values (offset_of root name) (count (standard b))) (part_values root name (standard b) is values all)
