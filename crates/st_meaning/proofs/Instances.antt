-- The part of a whole that a name selects: each of its places is that of one leaf, and what keeps the frame in it keeps that of the
-- whole.
use Rattle.std.proofs.Common.{◌≡◌, ◌⊎◌, inl, inr, ℕ, ◌+◌, ◌<◌, ◌≤◌, Bool, true, false, ◌&&◌, List, ◌∷◌, drop, length, get_or, nat_lt, Option, Some, None, if◌then◌else◌, refl, ap, sym, ◌∙◌, subst, arith}
use Rattle.std.specs.List.{position, position_or_len}
use Rattle.std.proofs.lemmas.Bool.{lt-ltb}
use Rattle.std.proofs.lemmas.List.{get_or-drop, get_or_append_left}
use Rattle.std.proofs.lemmas.List.Quantifiers.{position-Some}
use Rattle.std.proofs.lemmas.List.Sums.{position_or_len_is}
use Rattle.st_tree.specs.declared.tree.unit.ChartElement.{ChartElement}
use Rattle.st_types.specs.Compositions.{Composition, unknown, elementary, array, composed, standard, Members}
use Rattle.st_types.specs.Standard.{Pin, pin_named, pins_of}
use Rattle.st_leaves.specs.Charts.{stored_by}
use Rattle.st_leaves.specs.LeavesIn.{LeafIn, chart_in, leaves_in, member_names, members_in}
use Rattle.st_leaves.specs.Paths.{Path, field, is_same_path}
use Rattle.st_leaves.specs.Places.{IsMember, LeadsTo, count, end, into}
use Rattle.st_leaves.specs.Selected.{member_selected, pin_selected, selected_by}
use Rattle.st_leaves.proofs.Numbers.{length_is_count, length_is_counts}
use Rattle.st_leaves.proofs.Places.{places_are_numbers}
use Rattle.st_operators.specs.Laws.{IsOf}
use Rattle.st_meaning.specs.Laws.{KeepsFrame}
use Rattle.st_meaning.specs.Meaning.{Values, no_value}
use Rattle.st_meaning.specs.Offsets.{member_offset, offset_of}
use Rattle.st_meaning.specs.Sound.{AreValuesOf, HasOneLeafEach, no_leaf, type_at}
use Rattle.st_meaning.specs.Statements.{stretch, with_stretch}
use Rattle.st_meaning.proofs.Places.{member_leaf, nothing_leads, select}
use Rattle.st_meaning.proofs.Stretches.{Stands, before, inside, past, part_fits, part_type, stands, stretch_at, with_before, with_inside, with_length, with_past}
use Rattle.st_values.proofs.SameWords.{is_word_comm}

-- ---- one leaf each

-- the first that passes
position_is : (passes : LeafIn → Bool) (ls : List LeafIn) (i : ℕ) → i < length ls → ((k : ℕ) → k < i → passes (get_or ls k no_leaf) ≡ false)
    → passes (get_or ls i no_leaf) ≡ true → position passes ls ≡ Some i
position_is passes ls i few none here =
    let at : position_or_len passes ls ≡ i = position_or_len_is passes ls i no_leaf (omega (arith, few)) none (λ h. here) in
    ap (λ n. if nat_lt n (length ls) then Some n else None) at ∙ ap (λ b. if b then Some i else None) (lt-ltb i (length ls) few)

module _ (whole' : List ℕ) (ms : Members) (chart : List ChartElement) (one : HasOneLeafEach (composed whole' ms chart)) where
  -- below a member's name a path is that of a leaf of the whole where the rest is that of the member's leaf
  same_below : (name : List ℕ) (d : ℕ) (c : Composition) → IsMember name ms d c → (path : Path) (k : ℕ) → k < count c
      → is_same_path (field name ∷ path) (get_or (leaves_in (composed whole' ms chart)) (d + k) no_leaf).path ≡ is_same_path path (get_or (leaves_in c) k no_leaf).path
  same_below name d c m path k few =
      let leaf = member_leaf whole' name ms d c k m few in
      let less : d + k < length (members_in whole' ms) = subst (λ n. d + k < n) (sym (length_is_counts whole' ms)) leaf.few in
      let rest = is_same_path path (get_or (leaves_in c) k no_leaf).path in
      ap (λ l. is_same_path (field name ∷ path) l.path)
      (get_or_append_left (members_in whole' ms) (chart_in whole' (stored_by (member_names ms) chart) chart) no_leaf (d + k) less ∙ leaf.leaf)
      ∙ ap (λ b. b && rest) (is_word_comm name leaf.other ∙ leaf.same)

  member_has_one : (name : List ℕ) (d : ℕ) (c : Composition) → IsMember name ms d c → HasOneLeafEach c
  member_has_one name d c m path n leads =
      let root = composed whole' ms chart in
      let few : n < count c = (places_are_numbers c path n leads).0 in
      let long : n < length (leaves_in c) = subst (λ k. n < k) (sym (length_is_count c)) few in
      let at = position-Some (λ l. is_same_path (field name ∷ path) l.path) (leaves_in root) (d + n) no_leaf (one (field name ∷ path) (d + n) (into m leads)) in
      position_is (λ l. is_same_path path l.path) (leaves_in c) n long
      (λ k h. sym (same_below name d c m path k (omega (arith, h, few))) ∙ at.2 (d + k) (omega (arith, h)))
      (sym (same_below name d c m path n few) ∙ at.1)

nothing_has_one : (c : Composition) → c ≡ unknown → HasOneLeafEach c
nothing_has_one c same path n leads = absurd (nothing_leads path n (subst (λ d. LeadsTo d path n) same leads))

pin_has_one : (p : Option Pin) → HasOneLeafEach (pin_selected p)
pin_has_one None path n leads = absurd (nothing_leads path n leads)
pin_has_one (Some p) path n end = refl

pub part_has_one : (root : Composition) (name : List ℕ) → HasOneLeafEach root → HasOneLeafEach (selected_by root name)
part_has_one unknown name one = nothing_has_one unknown refl
part_has_one (elementary v) name one = nothing_has_one unknown refl
part_has_one (array ranges firsts c) name one = nothing_has_one unknown refl
part_has_one (composed whole' ms chart) name one = by (select name ms) where
  by : (member_selected ms name ≡ unknown) ⊎ IsMember name ms (member_offset ms name) (member_selected ms name) → HasOneLeafEach (member_selected ms name)
  by (inl q) = nothing_has_one (member_selected ms name) q
  by (inr m) = member_has_one whole' ms chart one name (member_offset ms name) (member_selected ms name) m
part_has_one (standard b) name one = pin_has_one (pin_named (pins_of b) name)

-- ---- what keeps the frame in a part keeps it in the whole

module _ (root : Composition) (name : List ℕ) (c : Composition) (is : selected_by root name ≡ c) (forced : List Bool) (values : Values) (all : AreValuesOf root values)
    (left : ℕ) (part : Values) (rest : ℕ)
    (keeps : KeepsFrame c (drop (offset_of root name) forced) (stretch values (offset_of root name) (count c)) left part rest) where
  abbrev offset : ℕ
  offset = offset_of root name

  abbrev others : Values
  others = with_stretch values offset part

  fits : offset + length part ≤ length values
  fits = omega (arith, part_fits root name c is, all.all, keeps.all.all)

  in_part : (i : ℕ) → i < length part → i < count c
  in_part i h = omega (arith, h, keeps.all.all)

  each_is : (n : ℕ) → Stands offset (length part) n → n < count root → IsOf (type_at root n) (get_or others n no_value)
  each_is n (before h) less = subst (IsOf (type_at root n)) (sym (with_before values offset part fits n h)) (all.each n less)
  each_is n (inside i h) less =
      subst (IsOf (type_at root n)) (sym (with_inside values offset part fits i h))
      (subst (λ e. IsOf e (get_or part i no_value)) (sym (part_type root name c is i (in_part i h))) (keeps.all.each i (in_part i h)))
  each_is n (past i) less = subst (IsOf (type_at root n)) (sym (with_past values offset part fits i)) (all.each n less)

  each_kept : (n : ℕ) → Stands offset (length part) n → get_or forced n false ≡ true → get_or others n no_value ≡ get_or values n no_value
  each_kept n (before h) f = with_before values offset part fits n h
  each_kept n (inside i h) f =
      with_inside values offset part fits i h ∙ keeps.kept i (get_or-drop offset forced i false ∙ f) ∙ stretch_at values offset (count c) i (in_part i h)
  each_kept n (past i) f = with_past values offset part fits i

  pub part_keeps : KeepsFrame root forced values left others rest
  part_keeps = record {
    all = record { all = with_length values offset part fits ∙ all.all; each = λ n less. each_is n (stands offset (length part) n) less };
    kept = λ n f. each_kept n (stands offset (length part) n) f;
    steps = keeps.steps;
  }
