-- What members consist of, and which a name selects, by the tables.
use Rattle.std.proofs.Common.{◌≡◌, ℕ, zero, suc, ◌+◌, ◌≤◌, ◌<◌, List, [], ◌∷◌, length, Option, Some, None, refl, ap, sym, ◌∙◌, subst, arith}
use Rattle.std.specs.List.{slice_get}
use Rattle.std.specs.Option.{option_and_then, option_map, option_map_or}
use Rattle.std.proofs.lemmas.Option.{same_Some, slice_get_within}
use Rattle.st_types.specs.Tables.{first_of}
use Rattle.st_tree.specs.declared.tree.declaration.Initial.{Initial}
use Rattle.st_tree.specs.declared.tree.declaration.Subrange.{Subrange}
use Rattle.st_types.specs.Compositions.{Composition, unknown, started, subscripted}
use Rattle.st_types.specs.Initials.{element_initial, initial_of}
use Rattle.st_types.specs.Names.{Declared, Named, unit_at}
use Rattle.st_types.specs.Types.{shape_of}
use Rattle.st_leaves.specs.Places.{count, counts}
use Rattle.st_leaves.specs.Selected.{member_selected, selected_by}
use Rattle.st_leaves.proofs.Started.{started_count}
use Rattle.st_meaning.specs.Offsets.{member_offset, offset_of}
use Rattle.st_places.specs.Contents.{AreOf, HasSameParts, IsArrayOf, IsContent, IsSelected, IsType, contents_of, member_in}
use Rattle.st_places.specs.Dimensions.{AreLimited}
use Rattle.st_places.specs.Members.{AreMembers, AreOwn, member_count}
use Rattle.st_places.specs.Parts.{element_part, inside, member_part, own_names, variables_among, variables_at}
use Rattle.st_places.specs.declared.content.Content.{Content}
use Rattle.st_places.specs.declared.member.Member.{Member}
use Rattle.st_places.specs.declared.node.Dimension.{Dimension}
use Rattle.st_places.specs.declared.node.Node.TheVariants as nodes
use Rattle.st_places.specs.declared.unit.UnitParts.{UnitParts}
use Rattle.st_places.proofs.Contents.{missing, same_parts, shape_type, started_array, started_content}
use Rattle.st_places.proofs.Lookups.{IsAt, IsFoundAt, found_at, members_of, without_constants}

module _ (units : List Named) where
  -- what has the table of a declared name
  pub record IsMemberOf (v : Declared) (m : Member) : Type 0 where
    pub base : m.base ≡ (shape_of units v.specification).base
    pub dimensions : AreOwn (count (inside units (shape_of units v.specification).base)) (shape_of units v.specification).subscripts m.dimensions

  abbrev pub AreMember : Option Declared → Option Member → Type 0
  AreMember None None = Unit {0}
  AreMember (Some v) (Some m) = IsMemberOf v m
  AreMember _ _ = ⊥

  member_of_number : (before : ℕ) (vs : List Declared) (ms : List Member) (k : ℕ) → AreMembers units before vs ms → AreMember (slice_get vs k) (slice_get ms k)
  member_of_number before [] [] k are = tt
  member_of_number before [] (m ∷ ms) k are = absurd are
  member_of_number before (v ∷ vs) [] k are = absurd are
  member_of_number before (v ∷ vs) (m ∷ ms) zero are = record { base = are.0.base; dimensions = are.0.dimensions }
  member_of_number before (v ∷ vs) (m ∷ ms) (suc k) are = member_of_number (before + member_count units v) vs ms k are.1

  abbrev pub names_by : Option Named → List Declared
  names_by u = option_map_or own_names (option_map (λ (x : Named). x.declares) u) []

  module _ (all : List UnitParts) (are : AreOf units all) where
    member_by : (i k : ℕ) (parts : Option UnitParts) → slice_get all i ≡ parts
        → AreMember (slice_get (variables_at units i) k) (option_and_then (λ (p : UnitParts). slice_get p.members.items k) parts)
    member_by i k None is = subst (λ u. AreMember (slice_get (variables_among (names_by u)) k) None) (sym (missing units all are i is)) tt
    member_by i k (Some parts) is = member_of_number 0 (variables_at units i) parts.members.items k (are.each i parts is).names.members.items

    pub member_known : (i k : ℕ) → AreMember (slice_get (variables_at units i) k) (member_in all i k)
    member_known i k = member_by i k (slice_get all i) refl

    -- ---- what members consist of

    of_no_member : (v : Option Declared) (m : Option Member) → AreMember v m → m ≡ None → (member_part units v ≡ unknown) × (element_part units v ≡ unknown)
    of_no_member None m is at = (refl, refl)
    of_no_member (Some v) None is at = absurd is
    of_no_member (Some v) (Some m) is at = absurd (cc)

    pub no_member_content : (i k : ℕ) → member_in all i k ≡ None → HasSameParts (member_part units (slice_get (variables_at units i) k)) unknown
    no_member_content i k at =
        same_parts (member_part units (slice_get (variables_at units i) k)) unknown (of_no_member (slice_get (variables_at units i) k) (member_in all i k) (member_known i k) at).0

    pub no_element_content : (i k : ℕ) → member_in all i k ≡ None → HasSameParts (element_part units (slice_get (variables_at units i) k)) unknown
    no_element_content i k at =
        same_parts (element_part units (slice_get (variables_at units i) k)) unknown (of_no_member (slice_get (variables_at units i) k) (member_in all i k) (member_known i k) at).1

    subscripted_array : (initial element_begins : Option Initial) (ranges : Option (List Subrange)) (c : Composition) (ds : Option (List Dimension)) (d : List Dimension)
        → AreOwn (count c) ranges ds → ds ≡ Some d → IsArrayOf (started initial (subscripted ranges (started element_begins c))) (started element_begins c) d
    subscripted_array initial begins None c None d own is = absurd (cc)
    subscripted_array initial begins None c (Some e) d own is = absurd own
    subscripted_array initial begins (Some ranges) c None d own is = absurd own
    subscripted_array initial begins (Some ranges) c (Some e) d own is =
        started_array initial ranges [] (started begins c) d
        (subst (AreLimited (count (started begins c)) ranges) (same_Some e d is) (subst (λ n. AreLimited n ranges e) (sym (started_count begins c)) own))

    of_array_member : (v : Option Declared) (m : Option Member) (n : Member) (d : List Dimension) → AreMember v m → m ≡ Some n → n.dimensions ≡ Some d
        → IsArrayOf (member_part units v) (element_part units v) d
    of_array_member None None n d is at array_is = absurd (cc)
    of_array_member None (Some m) n d is at array_is = absurd is
    of_array_member (Some v) None n d is at array_is = absurd is
    of_array_member (Some v) (Some m) n d is at array_is =
        subscripted_array (initial_of units v) (element_initial units v.specification) (shape_of units v.specification).subscripts (inside units (shape_of units v.specification).base) m.dimensions d
        is.dimensions (ap Member.dimensions (same_Some m n at) ∙ array_is)

    pub array_member_content : (i k : ℕ) (n : Member) (d : List Dimension) → member_in all i k ≡ Some n → n.dimensions ≡ Some d
        → IsArrayOf (member_part units (slice_get (variables_at units i) k)) (element_part units (slice_get (variables_at units i) k)) d
    array_member_content i k n d at array_is = of_array_member (slice_get (variables_at units i) k) (member_in all i k) n d (member_known i k) at array_is

    member_there : (v : Option Declared) (m : Option Member) (n : Member) (vs : List Declared) (k : ℕ) → slice_get vs k ≡ v → AreMember v m → m ≡ Some n → k < length vs
    member_there None None n vs k here is at = absurd (cc)
    member_there None (Some m) n vs k here is at = absurd is
    member_there (Some v) m n vs k here is at = slice_get_within vs k v here

    pub member_below : (i k : ℕ) (n : Member) → member_in all i k ≡ Some n → k < length (variables_at units i)
    member_below i k n at = member_there (slice_get (variables_at units i) k) (member_in all i k) n (variables_at units i) k refl (member_known i k) at

    plain : (ranges : Option (List Subrange)) (size : ℕ) (ds : Option (List Dimension)) → AreOwn size ranges ds → ds ≡ None → ranges ≡ None
    plain None size ds own is = refl
    plain (Some ranges) size None own is = absurd own
    plain (Some ranges) size (Some d) own is = absurd (cc)

    of_plain_member : (v : Option Declared) (m : Option Member) (n : Member) (content : Content) → AreMember v m → m ≡ Some n → n.dimensions ≡ None
        → (IsType units n.base → IsContent units (inside units n.base) content) → IsContent units (member_part units v) content
    of_plain_member None None n content is at none made = absurd (cc)
    of_plain_member None (Some m) n content is at none made = absurd is
    of_plain_member (Some v) None n content is at none made = absurd is
    of_plain_member (Some v) (Some m) n content is at none made =
        let base : n.base ≡ (shape_of units v.specification).base = ap Member.base (sym (same_Some m n at)) ∙ is.base in
        let own : (shape_of units v.specification).subscripts ≡ None =
        plain (shape_of units v.specification).subscripts (count (inside units (shape_of units v.specification).base)) m.dimensions is.dimensions (ap Member.dimensions (same_Some m n at) ∙ none) in
        let known : IsContent units (inside units (shape_of units v.specification).base) content =
        subst (λ b. IsContent units (inside units b) content) base (made (subst (IsType units) (sym base) (shape_type units all are v.specification))) in
        started_content units (initial_of units v) (subscripted (shape_of units v.specification).subscripts (started (element_initial units v.specification) (inside units (shape_of units v.specification).base))) content
        (subst (λ (r : Option (List Subrange)). IsContent units (subscripted r (started (element_initial units v.specification) (inside units (shape_of units v.specification).base))) content) (sym own)
        (started_content units (element_initial units v.specification) (inside units (shape_of units v.specification).base) content known))

    pub plain_member_content : (i k : ℕ) (n : Member) (content : Content) → member_in all i k ≡ Some n → n.dimensions ≡ None
        → (IsType units n.base → IsContent units (inside units n.base) content) → IsContent units (member_part units (slice_get (variables_at units i) k)) content
    plain_member_content i k n content at none made = of_plain_member (slice_get (variables_at units i) k) (member_in all i k) n content (member_known i k) at none made

    of_element : (v : Option Declared) (m : Option Member) (n : Member) (content : Content) → AreMember v m → m ≡ Some n
        → (IsType units n.base → IsContent units (inside units n.base) content) → IsContent units (element_part units v) content
    of_element None None n content is at made = absurd (cc)
    of_element None (Some m) n content is at made = absurd is
    of_element (Some v) None n content is at made = absurd is
    of_element (Some v) (Some m) n content is at made =
        let base : n.base ≡ (shape_of units v.specification).base = ap Member.base (sym (same_Some m n at)) ∙ is.base in
        started_content units (element_initial units v.specification) (inside units (shape_of units v.specification).base) content
        (subst (λ b. IsContent units (inside units b) content) base (made (subst (IsType units) (sym base) (shape_type units all are v.specification))))

    pub member_element_content : (i k : ℕ) (n : Member) (content : Content) → member_in all i k ≡ Some n
        → (IsType units n.base → IsContent units (inside units n.base) content) → IsContent units (element_part units (slice_get (variables_at units i) k)) content
    member_element_content i k n content at made = of_element (slice_get (variables_at units i) k) (member_in all i k) n content (member_known i k) at made

    -- ---- members by name

    selected_of : (u : Option Named) (name : List ℕ) → selected_by (contents_of units u) name ≡ member_selected (members_of units (variables_among (names_by u))) name
    selected_of None name = refl
    selected_of (Some u) name = ap (λ ms. member_selected ms name) (without_constants units (own_names u.declares))

    offset_by : (u : Option Named) (name : List ℕ) → offset_of (contents_of units u) name ≡ member_offset (members_of units (variables_among (names_by u))) name
    offset_by None name = refl
    offset_by (Some u) name = ap (λ ms. member_offset ms name) (without_constants units (own_names u.declares))

    count_by : (u : Option Named) → counts (members_of units (variables_among (names_by u))) ≤ count (contents_of units u)
    count_by None = omega arith
    count_by (Some u) = omega (arith, ap counts (without_constants units (own_names u.declares)))

    pub no_unit_named : (i : ℕ) (name : List ℕ) → slice_get all i ≡ None → selected_by (contents_of units (unit_at units i)) name ≡ unknown
    no_unit_named i name is = ap (λ u. selected_by (contents_of units u) name) (missing units all are i is)

    found : (i : ℕ) (parts : UnitParts) (name : List ℕ) → slice_get all i ≡ Some parts
        → IsFoundAt units 0 (variables_at units i) parts.members.items (member_selected (members_of units (variables_at units i)) name) (member_offset (members_of units (variables_at units i)) name)
        (counts (members_of units (variables_at units i))) (first_of parts.members.names name)
    found i parts name is =
        subst (λ ns. IsFoundAt units 0 (variables_at units i) parts.members.items (member_selected (members_of units (variables_at units i)) name) (member_offset (members_of units (variables_at units i)) name)
        (counts (members_of units (variables_at units i))) (first_of ns name)) (sym (are.each i parts is).names.members.names)
        (found_at units name 0 (variables_at units i) parts.members.items (are.each i parts is).names.members.items)

    pub none_named : (i : ℕ) (parts : UnitParts) (name : List ℕ) → slice_get all i ≡ Some parts → first_of parts.members.names name ≡ None
        → selected_by (contents_of units (unit_at units i)) name ≡ unknown
    none_named i parts name is none =
        selected_of (unit_at units i) name
        ∙ subst (IsFoundAt units 0 (variables_at units i) parts.members.items (member_selected (members_of units (variables_at units i)) name) (member_offset (members_of units (variables_at units i)) name)
        (counts (members_of units (variables_at units i)))) none (found i parts name is)

    at_number : (i : ℕ) (parts : UnitParts) (name : List ℕ) (k : ℕ) → slice_get all i ≡ Some parts → first_of parts.members.names name ≡ Some k
        → IsAt units 0 (variables_at units i) parts.members.items k (member_selected (members_of units (variables_at units i)) name) (member_offset (members_of units (variables_at units i)) name)
        (counts (members_of units (variables_at units i)))
    at_number i parts name k is at =
        subst (IsFoundAt units 0 (variables_at units i) parts.members.items (member_selected (members_of units (variables_at units i)) name) (member_offset (members_of units (variables_at units i)) name)
        (counts (members_of units (variables_at units i)))) at (found i parts name is)

    member_is : (i : ℕ) (parts : UnitParts) (k : ℕ) → slice_get all i ≡ Some parts → member_in all i k ≡ slice_get parts.members.items k
    member_is i parts k is = ap (option_and_then (λ (p : UnitParts). slice_get p.members.items k)) is

    pub not_missing : (i : ℕ) (parts : UnitParts) (name : List ℕ) (k : ℕ) {A : Type 0} → slice_get all i ≡ Some parts → first_of parts.members.names name ≡ Some k → member_in all i k ≡ None → A
    not_missing i parts name k is at none =
        let there : member_in all i k ≡ Some (at_number i parts name k is at).m = member_is i parts k is ∙ (at_number i parts name k is at).item in
        absurd (cc)

    pub one_named : (i : ℕ) (parts : UnitParts) (name : List ℕ) (k : ℕ) (m : Member) → slice_get all i ≡ Some parts → first_of parts.members.names name ≡ Some k → member_in all i k ≡ Some m
        → IsSelected units (contents_of units (unit_at units i)) name (Some (m.offset, nodes.Member i k))
    one_named i parts name k m is at there =
        let found_is = at_number i parts name k is at in
        let same : found_is.m ≡ m = same_Some found_is.m m (sym found_is.item ∙ sym (member_is i parts k is) ∙ there) in (
          ap (member_part units) found_is.declared ∙ sym found_is.is ∙ sym (selected_of (unit_at units i) name),
          (λ few. omega (arith, ap Member.offset same, found_is.stands, found_is.within, count_by (unit_at units i), offset_by (unit_at units i) name, few), member_below i k m there),
        )
