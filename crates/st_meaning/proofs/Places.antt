-- Where a place is found, a leaf of its type stands.
use Rattle.std.proofs.Common.{◌≡◌, ◌⊎◌, inl, inr, ℕ, suc, ◌+◌, ◌*◌, ◌<◌, ℤ, Bool, true, false, List, [], ◌∷◌, ◌++◌, length, get_or, Option, Some, None, refl, ap, sym, ◌∙◌, subst, if◌then◌else◌, arith}
use Rattle.std.proofs.lemmas.List.{get_or-append-add, get_or-map, get_or_append_left}
use Rattle.st_values.specs.Words.{is_word}
use Rattle.st_values.specs.declared.elem.Elem.{Elem}
use Rattle.st_types.specs.Compositions.{Composition, unknown, elementary, array, composed, standard, Members, none, member}
use Rattle.st_types.specs.Initials.{zero_of}
use Rattle.st_types.specs.Standard.{Pin, pin_named, pins_of, block_name, kept_by}
use Rattle.st_leaves.specs.Charts.{stored_by}
use Rattle.st_leaves.specs.LeavesIn.{LeafIn, chart_in, elements_in, kept_leaf, leaves_in, member_names, members_in, pin_leaf, subscript_lists, within}
use Rattle.st_leaves.specs.Paths.{Path, field, index}
use Rattle.st_leaves.specs.Places.{IsMember, here, later, IsPart, first, behind, LeadsTo, end, element, into, pin, count, counts}
use Rattle.st_leaves.specs.Selected.{element_of, member_selected, pin_selected, selected_by, subscripts_of, takes_subscripts, value_type}
use Rattle.st_leaves.proofs.Numbers.{length_is_count, length_is_counts, length_within, subscripts_length}
use Rattle.st_leaves.proofs.Places.{places_are_numbers}
use Rattle.std.specs.List.{flat_map}
use Rattle.st_meaning.specs.Laws.{HasLeaf, PlacesHaveLeaves}
use Rattle.st_meaning.specs.Meaning.{Calls, Values, are_within, located, numbers_in, values_of, when_within}
use Rattle.st_meaning.specs.Offsets.{member_offset}
use Rattle.st_meaning.specs.Operations.{gives, then_with}
use Rattle.st_meaning.specs.Sound.{no_leaf, type_at}
use Rattle.st_meaning.specs.Terms.{Parts, whole, field_part, element_part, how_many}
use Rattle.st_meaning.specs.Wholes.{type_of}
use Rattle.st_meaning.proofs.Giving.{given_in, same_given, within_given}
use Rattle.st_meaning.proofs.Elements.{element_within}
use Rattle.st_meaning.proofs.LeafTypes.{elem_at, elem_elements, elem_left}

-- ---- nowhere

pub nothing_leads : (path : Path) (n : ℕ) → LeadsTo unknown path n → ⊥
nothing_leads path n h = elim h [ ]

no_leaf_in : (c : Composition) (e : Elem) (path : Path) → c ≡ unknown → HasLeaf c e path → ⊥
no_leaf_in c e path same h = nothing_leads path h.number (subst (λ d. LeadsTo d path h.number) same h.leads)

leaf_below : (c : Composition) (e : Elem) (path : Path) (h : HasLeaf c e path) → h.number < count c
leaf_below c e path h = (places_are_numbers c path h.number h.leads).0

-- ---- members

pub select : (name : List ℕ) (ms : Members) → (member_selected ms name ≡ unknown) ⊎ IsMember name ms (member_offset ms name) (member_selected ms name)
select name none = inl refl
select name (member other kind c ms) = by (is_word other name) refl (select name ms) where
  by : (b : Bool) → is_word other name ≡ b → (member_selected ms name ≡ unknown) ⊎ IsMember name ms (member_offset ms name) (member_selected ms name)
      → ((if b then c else member_selected ms name) ≡ unknown)
      ⊎ IsMember name (member other kind c ms) (if b then 0 else (count c + member_offset ms name)) (if b then c else member_selected ms name)
  by true q more = inr (here q)
  by false q (inl h) = inl h
  by false q (inr h) = inr (later q h)

-- the leaf of a member, seen from a whole of this name, where the member is declared under this one
abbrev pub below : (whole' other : List ℕ) → LeafIn → LeafIn
below whole' other l = record { path = field other ∷ l.path; spine = whole' ∷ l.spine; initial = l.initial; use' = l.use' }

pub record IsMemberLeaf (whole' name : List ℕ) (ms : Members) (number : ℕ) (l : LeafIn) : Type 0 where
  pub other : List ℕ
  pub same : is_word other name ≡ true
  pub leaf : get_or (members_in whole' ms) number no_leaf ≡ below whole' other l
  pub few : number < counts ms

-- the leaves of a member stand together in the whole
pub member_leaf : (whole' name : List ℕ) (ms : Members) (d : ℕ) (c : Composition) (k : ℕ) → IsMember name ms d c → k < count c
    → IsMemberLeaf whole' name ms (d + k) (get_or (leaves_in c) k no_leaf)
member_leaf whole' name ms d c k (here {other = other} {ms = more} e) few =
    let z : 0 + k ≡ k = omega arith in
    let few' : k < length (leaves_in c) = subst (λ n. k < n) (sym (length_is_count c)) few in
    let less : k < length (within (field other) whole' (leaves_in c)) = subst (λ n. k < n) (sym (length_within (field other) whole' (leaves_in c))) few' in
    record {
      other = other;
      same = e;
      leaf = ap (λ n. get_or (within (field other) whole' (leaves_in c) ++ members_in whole' more) n no_leaf) z
          ∙ get_or_append_left (within (field other) whole' (leaves_in c)) (members_in whole' more) no_leaf k less
          ∙ get_or-map (below whole' other) (leaves_in c) k no_leaf no_leaf few';
      few = omega arith;
    }
member_leaf whole' name ms d c k (later {other = other} {c = b} {ms = more} {k = n} e h) few =
    let z : count b + n + k ≡ count b + (n + k) = omega arith in
    let front = within (field other) whole' (leaves_in b) in
    let size : length front ≡ count b = length_within (field other) whole' (leaves_in b) ∙ length_is_count b in
    let rest = member_leaf whole' name more n c k h few in
    record {
      other = rest.other;
      same = rest.same;
      leaf = ap (λ i. get_or (front ++ members_in whole' more) i no_leaf) z
          ∙ ap (λ i. get_or (front ++ members_in whole' more) (i + (n + k)) no_leaf) (sym size)
          ∙ get_or-append-add front (members_in whole' more) (n + k) no_leaf
          ∙ rest.leaf;
      few = omega (arith, rest.few);
    }

-- the leaves of a member have the types that they have by themselves
pub member_type : (whole' name : List ℕ) (ms : Members) (d : ℕ) (c : Composition) (k : ℕ) → IsMember name ms d c → k < count c
    → (elem_at (members_in whole' ms) (d + k) ≡ elem_at (leaves_in c) k) × (d + k < counts ms)
member_type whole' name ms d c k m few =
    let one = member_leaf whole' name ms d c k m few in (ap (λ l. l.initial.elem) one.leaf, one.few)

-- ---- inputs and outputs

record PinAt (whole' name : List ℕ) (pins : List Pin) (p : Pin) : Type 0 where
  number : ℕ
  part : IsPart (λ q. q.name) (λ q. 1) name pins number
  type : elem_at (flat_map (pin_leaf whole') pins) number ≡ p.elem
  few : number < length (flat_map (pin_leaf whole') pins)

pin_at : (whole' name : List ℕ) (pins : List Pin) (p : Pin) → pin_named pins name ≡ Some p → PinAt whole' name pins p
pin_at whole' name [] p h = cc
pin_at whole' name (q ∷ qs) p h = by (is_word q.name name) refl (pin_at whole' name qs p) where
  by : (b : Bool) → is_word q.name name ≡ b → (pin_named qs name ≡ Some p → PinAt whole' name qs p) → PinAt whole' name (q ∷ qs) p
  by true e more =
      let same : Some q ≡ Some p = ap (λ b. if b then Some q else pin_named qs name) (sym e) ∙ h in
      let one : q ≡ p = cc in
      record { number = 0; part = first e; type = ap (λ x. x.elem) one; few = omega arith }
  by false e more =
      let rest = more (ap (λ b. if b then Some q else pin_named qs name) (sym e) ∙ h) in
      let z : 1 + rest.number ≡ suc rest.number = omega arith in
      record {
        number = 1 + rest.number;
        part = behind e rest.part;
        type = ap (elem_at (flat_map (pin_leaf whole') (q ∷ qs))) z ∙ rest.type;
        few = omega (arith, rest.few);
      }

record Ends (e : Elem) (path : Path) (p : Pin) : Type 0 where
  at_end : path ≡ []
  type : p.elem ≡ e

ends : (e : Elem) (path : Path) (p : Pin) (n : ℕ) → LeadsTo (elementary (zero_of p.elem)) path n → type_at (elementary (zero_of p.elem)) n ≡ e → Ends e path p
ends e path p n end h = record { at_end = refl; type = h }

-- ---- what a name selects

field_leaf : (c : Composition) (name : List ℕ) (e : Elem) (path : Path) → HasLeaf (selected_by c name) e path → HasLeaf c e (field name ∷ path)
field_leaf unknown name e path h = absurd (no_leaf_in unknown e path refl h)
field_leaf (elementary v) name e path h = absurd (no_leaf_in unknown e path refl h)
field_leaf (array ranges firsts c) name e path h = absurd (no_leaf_in unknown e path refl h)
field_leaf (composed whole' ms chart) name e path h = by (select name ms) where
  by : (member_selected ms name ≡ unknown) ⊎ IsMember name ms (member_offset ms name) (member_selected ms name)
      → HasLeaf (composed whole' ms chart) e (field name ∷ path)
  by (inl q) = absurd (no_leaf_in (member_selected ms name) e path q h)
  by (inr m) =
      let d = member_offset ms name in
      let inside = member_type whole' name ms d (member_selected ms name) h.number m (leaf_below (member_selected ms name) e path h) in
      let less : d + h.number < length (members_in whole' ms) = subst (λ n. d + h.number < n) (sym (length_is_counts whole' ms)) inside.1 in
      record {
        number = d + h.number;
        leads = into m h.leads;
        type = elem_left (members_in whole' ms) (chart_in whole' (stored_by (member_names ms) chart) chart) (d + h.number) less ∙ inside.0 ∙ h.type;
      }
field_leaf (standard b) name e path h = by (pin_named (pins_of b) name) refl h where
  by : (p : Option Pin) → pin_named (pins_of b) name ≡ p → HasLeaf (pin_selected p) e path → HasLeaf (standard b) e (field name ∷ path)
  by None q h = absurd (no_leaf_in unknown e path refl h)
  by (Some p) q h =
      let at = pin_at (block_name b) name (pins_of b) p q in
      let last = ends e path p h.number h.leads h.type in
      let leaf : HasLeaf (standard b) e (field name ∷ []) = record {
        number = at.number;
        leads = pin at.part;
        type = elem_left (flat_map (pin_leaf (block_name b)) (pins_of b)) (flat_map (kept_leaf (block_name b)) (kept_by b)) at.number at.few ∙ at.type ∙ last.type;
      } in
      subst (λ rest. HasLeaf (standard b) e (field name ∷ rest)) (sym last.at_end) leaf

-- ---- what subscripts select

element_leaf : (c : Composition) (is : List ℤ) (e : Elem) (path : Path) (n : ℕ) → takes_subscripts c n ≡ true → are_within (subscripts_of c) is ≡ true → HasLeaf (element_of c) e path
    → HasLeaf c e (index is ∷ path)
element_leaf unknown is e path n t inside h = cc
element_leaf (elementary v) is e path n t inside h = cc
element_leaf (composed whole' ms chart) is e path n t inside h = cc
element_leaf (standard b) is e path n t inside h = cc
element_leaf (array ranges firsts c) is e path n t inside h =
    let one = element_within (count c) ranges is inside in
    let few : one.number < length (subscript_lists ranges) = subst (λ m. one.number < m) (sym (subscripts_length ranges)) one.few in
    let less : h.number < length (leaves_in c) = subst (λ m. h.number < m) (sym (length_is_count c)) (leaf_below c e path h) in
    let z : one.distance + h.number ≡ one.number * length (leaves_in c) + h.number = ap (λ m. m + h.number) (one.multiple ∙ ap (λ m. one.number * m) (sym (length_is_count c))) in
    record {
      number = one.distance + h.number;
      leads = element one.stands h.leads;
      type = ap (elem_at (elements_in (subscript_lists ranges) firsts (leaves_in c))) z ∙ elem_elements (subscript_lists ranges) firsts (leaves_in c) one.number h.number few less ∙ h.type;
    }

-- ---- places

end_leaf : (c : Composition) (e : Elem) → value_type c ≡ Some e → HasLeaf c e []
end_leaf unknown e h = cc
end_leaf (elementary v) e h = let same : v.elem ≡ e = cc in record { number = 0; leads = end; type = same }
end_leaf (array ranges firsts c) e h = cc
end_leaf (composed whole' ms chart) e h = cc
end_leaf (standard b) e h = cc

-- an element has a type where there are as many subscripts as there have to be
element_type : (b : Bool) (a : Option Elem) (e : Elem) → (if b then a else None) ≡ Some e → (b ≡ true) × (a ≡ Some e)
element_type true a e h = (refl, h)
element_type false a e h = cc

place_leaf : (calls : Calls) (root : Composition) (values : Values) (c : Composition) (e : Elem) (ps : Parts) (left : ℕ) (path : Path) (rest : ℕ) → type_of c ps ≡ Some e
    → located calls root values c ps left ≡ gives path rest → HasLeaf c e path
place_leaf calls root values c e whole left path rest t h = subst (λ p. HasLeaf c e p) (same_given [] path left rest h) (end_leaf c e t)
place_leaf calls root values c e (field_part name ps) left path rest t h =
    let inner = given_in (located calls root values (selected_by c name) ps left) (λ p n. gives (field name ∷ p) n) path rest h in
    subst (λ p. HasLeaf c e p) (same_given (field name ∷ inner.value) path inner.left rest inner.then')
    (field_leaf c name e inner.value (place_leaf calls root values (selected_by c name) e ps left inner.value inner.left t inner.first))
place_leaf calls root values c e (element_part line ts ps) left path rest t h =
    let type = element_type (takes_subscripts c (how_many ts)) (type_of (element_of c) ps) e t in
    let subscripts = given_in (values_of calls root values ts left)
    (λ xs n. when_within line (subscripts_of c) (numbers_in xs) (then_with (located calls root values (element_of c) ps n) (λ p m. gives (index (numbers_in xs) ∷ p) m))) path rest h in
    let is = numbers_in subscripts.value in
    let n = subscripts.left in
    let inside = within_given line (subscripts_of c) is (then_with (located calls root values (element_of c) ps n) (λ p m. gives (index is ∷ p) m)) path rest subscripts.then' in
    let inner = given_in (located calls root values (element_of c) ps n) (λ p m. gives (index is ∷ p) m) path rest inside.1 in
    subst (λ p. HasLeaf c e p) (same_given (index is ∷ inner.value) path inner.left rest inner.then')
    (element_leaf c is e inner.value (how_many ts) type.0 inside.0 (place_leaf calls root values (element_of c) e ps n inner.value inner.left type.1 inner.first))

pub places_have_leaves : PlacesHaveLeaves
places_have_leaves functions calls root values e ps left path rest is h = place_leaf calls root values root e ps left path rest is.type h
