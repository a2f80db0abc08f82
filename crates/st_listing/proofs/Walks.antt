-- What a walk lists, part by part.
use Rattle.std.proofs.Common.{◌⊎◌, inl, inr, ◌≡◌, ◌≢◌, ◌≤◌, ◌<◌, ◌+◌, ◌-◌, ℕ, zero, suc, ℤ, Bool, true, false, List, [], ◌∷◌, ◌++◌, Option, Some, None, map, codes, drop, get_or, length, if◌then◌else◌, refl, ap, sym, ◌∙◌, append-nil, length-append, subst, arith, take, slice_set}
use Rattle.std.specs.Prelude.{slice_index_or}
use Rattle.std.proofs.lemmas.List.{get_or_default, drop_all, length-drop, length-map, take-append-drop, take_all}
use Rattle.st_values.specs.declared.elem.Elem.TheVariants as elems
use Rattle.std.proofs.Math.Seq.{drop-append_seam}
use Rattle.st_tree.specs.declared.leaf.Leaf.{Leaf}
use Rattle.st_values.specs.Words.{AreWordBytes, raised}
use Rattle.st_values.specs.declared.elem.Elem.{Elem}
use Rattle.st_values.specs.declared.value.Value.{Value}
use Rattle.st_tree.specs.declared.tree.constant.Constant.{Constant}
use Rattle.st_tree.specs.declared.tree.declaration.DeclaredType.TheVariants as declared_types
use Rattle.st_tree.specs.declared.tree.declaration.Initial.{Initial}
use Rattle.st_tree.specs.declared.tree.declaration.Initial.TheVariants as initials
use Rattle.st_tree.specs.Kinds.{is_constant}
use Rattle.st_types.specs.Compositions.{Composition, member, composition_within, declared_composition, members_by, optional_composition, started, subscripted, unknown}
use Rattle.st_types.specs.Names.{Declared, Declares, Named, chart_in, variables_of}
use Rattle.st_types.specs.Names as names
use Rattle.st_types.specs.Names.{unit_at}
use Rattle.st_types.specs.Initials.{element_initial, initial_of, value_written}
use Rattle.st_types.specs.Types.{Elements, Shape, is_unknown, name_stands_for, optional_elements, shape_of, type_named, without_instance}
use Rattle.st_types.specs.Types as types
use Rattle.st_types.specs.declared.base.Base.TheVariants as bases
use Rattle.st_types.specs.declared.standard.StandardBlock.{StandardBlock}
use Rattle.st_tree.specs.declared.tree.declaration.Specification.{Specification}
use Rattle.st_tree.specs.declared.tree.declaration.Specification.TheVariants as specifications
use Rattle.st_types.specs.declared.base.Base.{Base}
use Rattle.st_types.proofs.Units.{there}
use Rattle.st_leaves.specs.Charts.{stored_by, stored_of}
use Rattle.st_leaves.specs.LeavesIn.{LeafIn, block_leaves, elements_in, first_written, leaves_in, member_names, members_in, plain, starting, used_as, variables_in, within}
use Rattle.st_leaves.specs.LeavesIn as leaves
use Rattle.st_leaves.specs.Paths.{field, index, selector_text}
use Rattle.st_chart_parts.specs.Charts.{ChartView, leaves_of_parts, parts_of}
use Rattle.st_chart_parts.proofs.UnitCharts.{leaves_are}
use Rattle.st_chart_parts.proofs.Units.{names_of_unit, unit_item}
use Rattle.st_scopes.specs.Declarations.{names_at, names_in}
use Rattle.st_leaves.proofs.Spellings.{variables_are_members}
use Rattle.st_listing.specs.Listings.{AreWays, ListingView, behind, inside, leaf_behind, leaves_behind, listed, outside}
use Rattle.st_listing.specs.Walks.{AreRows, ListsTheSame, begins_with, array_leaves, declared_leaves, member_leaves, started_value, unit_leaves, variable_leaves}
use Rattle.st_listing.proofs.Listings.{ways_append, ways_none, ways_starting, ways_within, length_listed, length_starting, length_within, listed_count, listed_none, listed_twice, listed_within, ways_more}

-- what can't be known has no leaf
pub unknown_has_none : (initial : Option Initial) → leaves_in (started initial unknown) ≡ []
unknown_has_none None = refl
unknown_has_none (Some (initials.Constant c)) = refl
unknown_has_none (Some (initials.Array position items)) = refl

-- nothing is walked through with no depth
pub no_depth : (units : List Named) (depth : ℕ) (base : Base) (initial : Option Initial) → depth ≡ 0 → leaves_in (started initial (composition_within units depth base)) ≡ []
unfolding composition_within
no_depth units depth base initial is = ap (λ n. leaves_in (started initial (composition_within units n base))) is ∙ unknown_has_none initial

-- ---- units

-- the chart of a unit stores the same names, whether they are looked up among its members or its variables
pub with_chart : (units : List Named) (inside : Base → Composition) (name : List ℕ) (before : List LeafIn) (d : Declares)
    → before ++ leaves.chart_in name (stored_by (member_names (members_by units inside (names.variables_in d))) (chart_in d)) (chart_in d) ≡ before ++ leaves.chart_in name (stored_of d) (chart_in d)
with_chart units inside name before d = ap (λ ns. before ++ leaves.chart_in name (stored_by ns (chart_in d)) (chart_in d)) (sym (variables_are_members units inside (names.variables_in d)))

pub unit_has : (units : List Named) (inside : Base → Composition) (u : Named)
    → leaves_in (optional_composition units inside (Some u)) ≡ members_in (raised u.name.spelling) (members_by units inside (names_in u.declares)) ++ leaves.chart_in (raised u.name.spelling) (stored_of u.declares) (chart_in u.declares)
unit_has units inside u = by u.declares where
  by : (d : Declares)
      → leaves_in (optional_composition units inside (Some (record { name = u.name; declares = d }))) ≡ members_in (raised u.name.spelling) (members_by units inside (names_in d)) ++ leaves.chart_in (raised u.name.spelling) (stored_of d) (chart_in d)
  by (names.type (declared_types.Structure position members)) = refl
  by (names.type (declared_types.Derived specification initial)) = refl
  by (names.function f) = refl
  by (names.block b) = with_chart units inside (raised u.name.spelling) (members_in (raised u.name.spelling) (members_by units inside (variables_of b.variables))) (names.block b)
  by (names.program p) = with_chart units inside (raised u.name.spelling) (members_in (raised u.name.spelling) (members_by units inside (variables_of p.variables))) (names.program p)

-- ---- members

pub constant_member : (units : List Named) (depth : ℕ) (of : List ℕ) (v : Declared) → is_constant v.kind ≡ true → member_leaves units depth of (v ∷ []) ≡ []
constant_member units depth of v is = by (is_constant v.kind) is where
  by : (b : Bool) → b ≡ true → members_in of (if b then members_by units (composition_within units depth) [] else member v.name.spelling v.kind (declared_composition units (composition_within units depth) v) (members_by units (composition_within units depth) [])) ≡ []
  by true is = refl
  by false is = absurd (cc)

pub other_member : (units : List Named) (depth : ℕ) (of : List ℕ) (v : Declared) → is_constant v.kind ≡ false
    → member_leaves units depth of (v ∷ []) ≡ within (field v.name.spelling) of (declared_leaves units depth v)
other_member units depth of v is = by (is_constant v.kind) is where
  by : (b : Bool) → b ≡ false → members_in of (if b then members_by units (composition_within units depth) [] else member v.name.spelling v.kind (declared_composition units (composition_within units depth) v) (members_by units (composition_within units depth) [])) ≡ within (field v.name.spelling) of (declared_leaves units depth v)
  by true is = absurd (cc)
  by false is = append-nil (within (field v.name.spelling) of (declared_leaves units depth v))

-- one after the other
pub members_more : (units : List Named) (depth : ℕ) (of : List ℕ) (v : Declared) (vs : List Declared) → member_leaves units depth of (v ∷ vs) ≡ member_leaves units depth of (v ∷ []) ++ member_leaves units depth of vs
members_more units depth of v vs = by (is_constant v.kind) where
  by : (b : Bool) → members_in of (if b then members_by units (composition_within units depth) vs else member v.name.spelling v.kind (declared_composition units (composition_within units depth) v) (members_by units (composition_within units depth) vs))
      ≡ members_in of (if b then members_by units (composition_within units depth) [] else member v.name.spelling v.kind (declared_composition units (composition_within units depth) v) (members_by units (composition_within units depth) [])) ++ member_leaves units depth of vs
  by true = refl
  by false = ap (λ ls. ls ++ member_leaves units depth of vs) (sym (append-nil (within (field v.name.spelling) of (declared_leaves units depth v))))

-- ---- variables of the program

pub constant_variable : (units : List Named) (depth : ℕ) (of : List ℕ) (v : Declared) → is_constant v.kind ≡ true → variable_leaves units depth of (v ∷ []) ≡ []
constant_variable units depth of v is = by (is_constant v.kind) is where
  by : (b : Bool) → b ≡ true → variables_in of (if b then members_by units (composition_within units depth) [] else member v.name.spelling v.kind (declared_composition units (composition_within units depth) v) (members_by units (composition_within units depth) [])) ≡ []
  by true is = refl
  by false is = absurd (cc)

pub other_variable : (units : List Named) (depth : ℕ) (of : List ℕ) (v : Declared) → is_constant v.kind ≡ false
    → variable_leaves units depth of (v ∷ []) ≡ within (field v.name.spelling) of (used_as v.kind (declared_leaves units depth v))
other_variable units depth of v is = by (is_constant v.kind) is where
  by : (b : Bool) → b ≡ false → variables_in of (if b then members_by units (composition_within units depth) [] else member v.name.spelling v.kind (declared_composition units (composition_within units depth) v) (members_by units (composition_within units depth) [])) ≡ within (field v.name.spelling) of (used_as v.kind (declared_leaves units depth v))
  by true is = absurd (cc)
  by false is = append-nil (within (field v.name.spelling) of (used_as v.kind (declared_leaves units depth v)))

pub variables_more : (units : List Named) (depth : ℕ) (of : List ℕ) (v : Declared) (vs : List Declared) → variable_leaves units depth of (v ∷ vs) ≡ variable_leaves units depth of (v ∷ []) ++ variable_leaves units depth of vs
variables_more units depth of v vs = by (is_constant v.kind) where
  by : (b : Bool) → variables_in of (if b then members_by units (composition_within units depth) vs else member v.name.spelling v.kind (declared_composition units (composition_within units depth) v) (members_by units (composition_within units depth) vs))
      ≡ variables_in of (if b then members_by units (composition_within units depth) [] else member v.name.spelling v.kind (declared_composition units (composition_within units depth) v) (members_by units (composition_within units depth) [])) ++ variable_leaves units depth of vs
  by true = refl
  by false = ap (λ ls. ls ++ variable_leaves units depth of vs) (sym (append-nil (within (field v.name.spelling) of (used_as v.kind (declared_leaves units depth v)))))

-- ---- what is left to list: listed too, it gives the whole

pub left_more : (s now new : ListingView) (part rest left whole : List LeafIn) → left ≡ part ++ rest → new ≡ listed now part → listed now left ≡ listed s whole → listed new rest ≡ listed s whole
left_more s now new part rest left whole split is before = ap (λ v. listed v rest) is ∙ listed_twice now part rest ∙ ap (listed now) (sym split) ∙ before

pub left_room : (s now : ListingView) (part rest left whole : List LeafIn) → left ≡ part ++ rest → listed now left ≡ listed s whole → length s.leaves + length whole ≤ 65536 → length now.leaves + length part ≤ 65536
left_room s now part rest left whole split before room =
    let count = sym (listed_count now (listed s whole) left (sym before)) ∙ length_listed s whole in
    let parts = ap length split ∙ length-append part rest in
    omega (arith, count, parts, room)

pub left_ways : (part rest left whole : List LeafIn) → left ≡ part ++ rest → AreWays part → (AreWays left → AreWays whole) → AreWays rest → AreWays whole
left_ways part rest left whole split first before others = before (ways_more part rest left split first others)

-- none is listed
pub nothing_listed : (s : ListingView) (ls : List LeafIn) → ls ≡ [] → s ≡ listed s ls
nothing_listed s ls none = sym (listed_none s) ∙ ap (listed s) (sym none)

pub nothing_ways : (ls : List LeafIn) → ls ≡ [] → AreWays ls
nothing_ways ls none = subst AreWays (sym none) ways_none

-- the same leaves, said in another way
pub room_of : (s : ListingView) (a b : List LeafIn) → a ≡ b → length s.leaves + length a ≤ 65536 → length s.leaves + length b ≤ 65536
room_of s a b same room = let n = ap length same in omega (arith, n, room)

pub first_room : (s : ListingView) (a b all : List LeafIn) → all ≡ a ++ b → length s.leaves + length all ≤ 65536 → length s.leaves + length a ≤ 65536
first_room s a b all split room = let n = ap length split ∙ length-append a b in omega (arith, n, room)

pub second_room : (s now : ListingView) (a b all : List LeafIn) → all ≡ a ++ b → now ≡ listed s a → length s.leaves + length all ≤ 65536 → length now.leaves + length b ≤ 65536
second_room s now a b all split is room =
    let n = ap length split ∙ length-append a b in
    let count = listed_count s now a is in
    omega (arith, n, count, room)

-- ---- parts

-- what has this base
pub part_of : (units : List Named) (depth : ℕ) (base other : Base) (initial : Option Initial) (ls : List LeafIn) → base ≡ other → leaves_in (started initial (composition_within units depth other)) ≡ ls
    → leaves_in (started initial (composition_within units depth base)) ≡ ls
part_of units depth base other initial ls is same = ap (λ b. leaves_in (started initial (composition_within units depth b))) is ∙ same

pub elementary_listed : (s new : ListingView) (e : Elem) (initial : Option Initial) (v : Value) (ls : List LeafIn) → ls ≡ record { path = []; spine = []; initial = started_value e initial; use' = plain } ∷ []
    → v ≡ started_value e initial → new ≡ listed s (record { path = []; spine = []; initial = v; use' = plain } ∷ []) → new ≡ listed s ls
elementary_listed s new e initial v ls are v_is is = is ∙ ap (λ w. listed s (record { path = []; spine = []; initial = w; use' = plain } ∷ [])) v_is ∙ ap (listed s) (sym are)

pub part_unknown : (units : List Named) (depth : ℕ) (initial : Option Initial) → leaves_in (started initial (composition_within units depth bases.Unknown)) ≡ []
unfolding composition_within
part_unknown units zero initial = unknown_has_none initial
part_unknown units (suc depth) initial = unknown_has_none initial

pub part_elementary : (units : List Named) (depth : ℕ) (e : Elem) (initial : Option Initial) → 0 < depth
    → leaves_in (started initial (composition_within units depth (bases.Elementary e))) ≡ record { path = []; spine = []; initial = started_value e initial; use' = plain } ∷ []
unfolding composition_within
part_elementary units zero e initial some = absurd (omega (arith, some))
part_elementary units (suc depth) e None some = refl
part_elementary units (suc depth) e (Some (initials.Constant c)) some = refl
part_elementary units (suc depth) e (Some (initials.Array position items)) some = refl

pub part_array : (units : List Named) (depth less i : ℕ) (initial : Option Initial) → depth ≡ suc less → leaves_in (started initial (composition_within units depth (bases.Array i))) ≡ array_leaves units less i initial
unfolding composition_within
part_array units depth less i initial is = ap (λ n. leaves_in (started initial (composition_within units n (bases.Array i)))) is

unit_started : (units : List Named) (inside : Base → Composition) (unit : Option Named) (initial : Option Initial) → started initial (optional_composition units inside unit) ≡ optional_composition units inside unit
unit_started units inside unit None = refl
unit_started units inside None (Some (initials.Constant c)) = refl
unit_started units inside None (Some (initials.Array position items)) = refl
unit_started units inside (Some u) (Some (initials.Constant c)) = by u.declares where
  by : (d : Declares) → started (Some (initials.Constant c)) (optional_composition units inside (Some (record { name = u.name; declares = d }))) ≡ optional_composition units inside (Some (record { name = u.name; declares = d }))
  by (names.type (declared_types.Structure position members)) = refl
  by (names.type (declared_types.Derived specification initial)) = refl
  by (names.function f) = refl
  by (names.block b) = refl
  by (names.program p) = refl
unit_started units inside (Some u) (Some (initials.Array position items)) = by u.declares where
  by : (d : Declares) → started (Some (initials.Array position items)) (optional_composition units inside (Some (record { name = u.name; declares = d }))) ≡ optional_composition units inside (Some (record { name = u.name; declares = d }))
  by (names.type (declared_types.Structure position members)) = refl
  by (names.type (declared_types.Derived specification initial)) = refl
  by (names.function f) = refl
  by (names.block b) = refl
  by (names.program p) = refl

pub part_structure : (units : List Named) (depth less i : ℕ) (initial : Option Initial) → depth ≡ suc less → leaves_in (started initial (composition_within units depth (bases.Structure i))) ≡ unit_leaves units less i
unfolding composition_within
part_structure units depth less i initial is =
    ap (λ n. leaves_in (started initial (composition_within units n (bases.Structure i)))) is ∙ ap leaves_in (unit_started units (composition_within units less) (unit_at units i) initial)

pub part_instance : (units : List Named) (depth less i : ℕ) (initial : Option Initial) → depth ≡ suc less → leaves_in (started initial (composition_within units depth (bases.Block i))) ≡ unit_leaves units less i
unfolding composition_within
part_instance units depth less i initial is =
    ap (λ n. leaves_in (started initial (composition_within units n (bases.Block i)))) is ∙ ap leaves_in (unit_started units (composition_within units less) (unit_at units i) initial)

pub part_unit : (units : List Named) (depth less i : ℕ) (base : Base) (initial : Option Initial) → (base ≡ bases.Structure i) ⊎ (base ≡ bases.Block i) → depth ≡ suc less
    → leaves_in (started initial (composition_within units depth base)) ≡ unit_leaves units less i
part_unit units depth less i base initial (inl is) some = part_of units depth base (bases.Structure i) initial (unit_leaves units less i) is (part_structure units depth less i initial some)
part_unit units depth less i base initial (inr is) some = part_of units depth base (bases.Block i) initial (unit_leaves units less i) is (part_instance units depth less i initial some)

pub part_standard : (units : List Named) (depth : ℕ) (b : StandardBlock) (initial : Option Initial) → 0 < depth → leaves_in (started initial (composition_within units depth (bases.Standard b))) ≡ block_leaves b
unfolding composition_within
part_standard units zero b initial some = absurd (omega (arith, some))
part_standard units (suc depth) b None some = refl
part_standard units (suc depth) b (Some (initials.Constant c)) some = refl
part_standard units (suc depth) b (Some (initials.Array position items)) some = refl

unknown_started : (units : List Named) (depth : ℕ) (initial : Option Initial) → started initial (composition_within units depth bases.Unknown) ≡ composition_within units depth bases.Unknown
unfolding composition_within
unknown_started units depth None = refl
unknown_started units zero (Some (initials.Constant c)) = refl
unknown_started units zero (Some (initials.Array position items)) = refl
unknown_started units (suc depth) (Some (initials.Constant c)) = refl
unknown_started units (suc depth) (Some (initials.Array position items)) = refl

-- ---- elements

-- an array type is one of the units
pub elements_within : (all units : List Named) (i : ℕ) (elements : Elements) → optional_elements all (unit_at units i) ≡ Some elements → i < length units
elements_within all [] i elements some = absurd (cc)
elements_within all (u ∷ units) zero elements some = omega arith
elements_within all (u ∷ units) (suc i) elements some = let h = elements_within all units i elements some in omega (arith, h)

written : (firsts : List (Option Constant)) → slice_index_or firsts 0 None ≡ first_written firsts
written [] = refl
written (c ∷ cs) = refl

-- a choice is left
pub some_left : (choices : List (List ℤ)) → (choices ≡ [] → false ≡ true) → choices ≢ []
some_left choices told none = never choices (told none) none where
  never : (choices : List (List ℤ)) → false ≡ true → choices ≢ []
  never choices h none = absurd (cc)

pub next_element : (s now new : ListingView) (choices others : List (List ℤ)) (firsts later : List (Option Constant)) (first : Option Constant) (leaves whole : List LeafIn)
    → choices ≢ [] → others ≡ drop 1 choices → later ≡ drop 1 firsts → first ≡ slice_index_or firsts 0 None
    → ((is : List ℤ) → choices ≡ is ∷ drop 1 choices → new ≡ listed now (within (index is) (codes "array") (starting first leaves)))
    → listed now (elements_in choices firsts leaves) ≡ listed s whole → listed new (elements_in others later leaves) ≡ listed s whole
next_element s now new [] others firsts later first leaves whole some others_are later_are first_is one before = absurd (some refl)
next_element s now new (is ∷ rest) others firsts later first leaves whole some others_are later_are first_is one before =
    ap (λ cs. listed new (elements_in cs later leaves)) others_are ∙ ap (λ fs. listed new (elements_in rest fs leaves)) later_are
    ∙ left_more s now new (within (index is) (codes "array") (starting (first_written firsts) leaves)) (elements_in rest (drop 1 firsts) leaves) (elements_in (is ∷ rest) firsts leaves) whole refl
    (one is refl ∙ ap (λ c. listed now (within (index is) (codes "array") (starting c leaves))) (first_is ∙ written firsts)) before

pub next_element_room : (s now : ListingView) (choices : List (List ℤ)) (firsts : List (Option Constant)) (leaves whole : List LeafIn) → choices ≢ [] → listed now (elements_in choices firsts leaves) ≡ listed s whole
    → length s.leaves + length whole ≤ 65536 → length now.leaves + length leaves ≤ 65536
next_element_room s now [] firsts leaves whole some before room = absurd (some refl)
next_element_room s now (is ∷ rest) firsts leaves whole some before room =
    let part = left_room s now (within (index is) (codes "array") (starting (first_written firsts) leaves)) (elements_in rest (drop 1 firsts) leaves) (elements_in (is ∷ rest) firsts leaves) whole refl before room in
    let same = length_within (index is) (codes "array") (starting (first_written firsts) leaves) ∙ length_starting (first_written firsts) leaves in
    omega (arith, part, same)

pub next_element_ways : (choices others : List (List ℤ)) (firsts later : List (Option Constant)) (leaves whole : List LeafIn) → choices ≢ [] → others ≡ drop 1 choices → later ≡ drop 1 firsts → AreWays leaves
    → (AreWays (elements_in choices firsts leaves) → AreWays whole) → AreWays (elements_in others later leaves) → AreWays whole
next_element_ways [] others firsts later leaves whole some others_are later_are ways before left = absurd (some refl)
next_element_ways (is ∷ rest) others firsts later leaves whole some others_are later_are ways before left =
    let part = within (index is) (codes "array") (starting (first_written firsts) leaves) in
    let same = ap (λ cs. elements_in cs later leaves) others_are ∙ ap (λ fs. elements_in rest fs leaves) later_are in
    before (ways_append part (elements_in rest (drop 1 firsts) leaves) (ways_within (index is) (codes "array") (starting (first_written firsts) leaves) tt (ways_starting (first_written firsts) leaves ways)) (subst AreWays same left))

-- an element's leaves are listed within it
pub element_listed : (s inner begun outer : ListingView) (is : List ℤ) (text : List ℕ) (first : Option Constant) (leaves : List LeafIn) → text ≡ selector_text (index is) → inner ≡ behind s text (codes "array")
    → begun ≡ listed inner (starting first leaves) → outer ≡ outside begun (length s.text) → outer ≡ listed s (within (index is) (codes "array") (starting first leaves))
element_listed s inner begun outer is text first leaves text_is inner_is begun_is outer_is =
    outer_is ∙ ap (λ v. outside v (length s.text)) (begun_is ∙ ap (λ v. listed v (starting first leaves)) (inner_is ∙ ap (λ t. behind s t (codes "array")) text_is))
    ∙ listed_within s (index is) (codes "array") (starting first leaves)

-- ---- units and their members

pub unit_none : (units : List Named) (depth i : ℕ) → length units ≤ i → unit_leaves units depth i ≡ []
unit_none units depth i above = ap (λ u. leaves_in (optional_composition units (composition_within units depth) u)) (none units i above) where
  none : (us : List Named) (n : ℕ) → length us ≤ n → unit_at us n ≡ None
  none [] n above = refl
  none (u ∷ us) zero above = absurd (omega (arith, above))
  none (u ∷ us) (suc n) above = none us n (omega (arith, above))

-- the names of a unit that are listed, in the table of all
pub rows_at : (units : List Named) (rows : List (List Declared)) (i : ℕ) (vs other : List Declared) → AreRows units rows → i < length units → vs ≡ get_or rows i other → ListsTheSame units vs (names_at units i)
rows_at units rows i vs other are below at = subst (λ ds. ListsTheSame units ds (names_at units i)) (sym (at ∙ get_or_default rows i other [] (omega (arith, below, are.len)))) (are.each i below)

-- a unit's leaves, by what the tables have of it
pub unit_split : (units : List Named) (names : List (List ℕ)) (charts : List ChartView) (depth i : ℕ) (name n : List ℕ) (vs : List Declared) (chart c : ChartView) → i < length units
    → names ≡ map (λ u. raised u.name.spelling) units → ListsTheSame units vs (names_at units i) → charts ≡ map (λ u. parts_of u.declares) units → depth ≤ suc (length units) → name ≡ get_or names i n → chart ≡ get_or charts i c
    → unit_leaves units depth i ≡ member_leaves units depth name vs ++ leaves_of_parts name chart
unit_split units names charts depth i name n vs chart c below names_are same charts_are within name_at chart_at =
    let found = there units i below in
    let u = found.0 in
    let named = name_at ∙ unit_item (λ u. raised u.name.spelling) units names i u n found.1 names_are in
    let parts = chart_at ∙ unit_item (λ u. parts_of u.declares) units charts i u c found.1 charts_are in
    ap (λ o. leaves_in (optional_composition units (composition_within units depth) o)) found.1 ∙ unit_has units (composition_within units depth) u
    ∙ ap (λ n. member_leaves units depth n (names_in u.declares) ++ leaves.chart_in n (stored_of u.declares) (chart_in u.declares)) (sym named)
    ∙ ap (λ ds. member_leaves units depth name ds ++ leaves.chart_in name (stored_of u.declares) (chart_in u.declares)) (sym (names_of_unit units i u found.1))
    ∙ ap (λ ls. ls ++ leaves.chart_in name (stored_of u.declares) (chart_in u.declares)) (sym (same.members depth name within))
    ∙ ap (λ ls. member_leaves units depth name vs ++ ls) (leaves_are name (stored_of u.declares) (chart_in u.declares) ∙ ap (leaves_of_parts name) (sym parts))

-- a member's leaves are listed within it
pub member_listed : (units : List Named) (depth : ℕ) (of name : List ℕ) (v : Declared) (s inner now outer : ListingView) → is_constant v.kind ≡ false → name ≡ v.name.spelling → inner ≡ inside s (field name) of
    → now ≡ listed inner (declared_leaves units depth v) → outer ≡ outside now (length s.text) → outer ≡ listed s (member_leaves units depth of (v ∷ []))
member_listed units depth of name v s inner now outer other named inner_is now_is outer_is =
    outer_is ∙ ap (λ w. outside w (length s.text)) (now_is ∙ ap (λ w. listed w (declared_leaves units depth v)) (inner_is ∙ ap (λ n. inside s (field n) of) named))
    ∙ listed_within s (field v.name.spelling) of (declared_leaves units depth v) ∙ ap (listed s) (sym (other_member units depth of v other))

pub member_ways : (units : List Named) (depth : ℕ) (of name : List ℕ) (v : Declared) → is_constant v.kind ≡ false → name ≡ v.name.spelling → AreWordBytes name → AreWays (declared_leaves units depth v)
    → AreWays (member_leaves units depth of (v ∷ []))
member_ways units depth of name v other named word ways =
    subst AreWays (sym (other_member units depth of v other)) (ways_within (field v.name.spelling) of (declared_leaves units depth v) (subst AreWordBytes named word) ways)

-- ---- what is declared

pub declared_part : (units : List Named) (depth : ℕ) (v : Declared) (initial : Option Initial) → (shape_of units v.specification).subscripts ≡ None → initial ≡ initial_of units v
    → declared_leaves units depth v ≡ leaves_in (started initial (composition_within units depth (shape_of units v.specification).base))
unfolding shape_of
declared_part units depth v initial none initial_is = by v.specification none ∙ ap (λ o. leaves_in (started o (composition_within units depth (shape_of units v.specification).base))) (sym initial_is) where
  by : (s : Specification) → (shape_of units s).subscripts ≡ None
      → leaves_in (started (initial_of units v) (subscripted (shape_of units s).subscripts (started (element_initial units s) (composition_within units depth (shape_of units s).base))))
      ≡ leaves_in (started (initial_of units v) (composition_within units depth (shape_of units s).base))
  by (specifications.Simple name) none = refl
  by (specifications.Array position ranges name) none = of_array (is_unknown (without_instance (name_stands_for (type_named units) name))) none where
    of_array : (b : Bool) → (if b then types.unknown else record { subscripts = Some ranges; base = name_stands_for (type_named units) name }).subscripts ≡ None
        → leaves_in (started (initial_of units v) (subscripted (if b then types.unknown else record { subscripts = Some ranges; base = name_stands_for (type_named units) name }).subscripts
        (started (element_initial units (specifications.Array position ranges name)) (composition_within units depth (if b then types.unknown else record { subscripts = Some ranges; base = name_stands_for (type_named units) name }).base))))
        ≡ leaves_in (started (initial_of units v) (composition_within units depth (if b then types.unknown else record { subscripts = Some ranges; base = name_stands_for (type_named units) name }).base))
    of_array true none = unknown_twice (element_initial units (specifications.Array position ranges name)) ∙ sym (part_unknown units depth (initial_of units v)) where
      unknown_twice : (e : Option Initial) → leaves_in (started (initial_of units v) (started e (composition_within units depth bases.Unknown))) ≡ []
      unknown_twice e = ap (λ c. leaves_in (started (initial_of units v) c)) (still e) ∙ part_unknown units depth (initial_of units v) where
        still : (e : Option Initial) → started e (composition_within units depth bases.Unknown) ≡ composition_within units depth bases.Unknown
        still e = unknown_started units depth e
    of_array false none = absurd (cc)

pub declared_part_of : (units : List Named) (depth : ℕ) (v : Declared) (initial : Option Initial) (shape : Shape) (base : Base) → shape ≡ shape_of units v.specification → shape.subscripts ≡ None → base ≡ shape.base → initial ≡ initial_of units v
    → declared_leaves units depth v ≡ leaves_in (started initial (composition_within units depth base))
declared_part_of units depth v initial shape base is none base_is initial_is =
    declared_part units depth v initial (ap (λ s. s.subscripts) (sym is) ∙ none) initial_is ∙ ap (λ b. leaves_in (started initial (composition_within units depth b))) (ap (λ s. s.base) (sym is) ∙ sym base_is)

-- ---- leaves that begin with a value

-- one more of them
pub start_next : (c : Constant) (all now : List Leaf) (i : ℕ) (l : Leaf) (v : Value) → now ≡ map (begins_with c) (take i all) ++ drop i all → i < length all → v ≡ value_written (get_or now i l).elem c
    → slice_set now i (record { path = (get_or now i l).path; shown = (get_or now i l).shown; spine = (get_or now i l).spine; elem = (get_or now i l).elem; initial = v; role = (get_or now i l).role })
    ≡ map (begins_with c) (take (i + 1) all) ++ drop (i + 1) all
start_next c all now i l v now_is below v_is =
    ap (λ w. slice_set now i (record { path = (get_or now i l).path; shown = (get_or now i l).shown; spine = (get_or now i l).spine; elem = (get_or now i l).elem; initial = w; role = (get_or now i l).role })) v_is
    ∙ ap (λ x. slice_set now i (begins_with c x)) (ap (λ ls. get_or ls i l) now_is ∙ read all i below)
    ∙ ap (λ ls. slice_set ls i (begins_with c (get_or all i l))) now_is ∙ write all i below ∙ ap (λ n. map (begins_with c) (take n all) ++ drop n all) (next i) where
      next : (n : ℕ) → suc n ≡ n + 1
      next n = omega arith

      read : (xs : List Leaf) (n : ℕ) → n < length xs → get_or (map (begins_with c) (take n xs) ++ drop n xs) n l ≡ get_or xs n l
      read [] n below = absurd (omega (arith, below))
      read (x ∷ xs) zero below = refl
      read (x ∷ xs) (suc n) below = read xs n (omega (arith, below))

      write : (xs : List Leaf) (n : ℕ) → n < length xs → slice_set (map (begins_with c) (take n xs) ++ drop n xs) n (begins_with c (get_or xs n l)) ≡ map (begins_with c) (take (suc n) xs) ++ drop (suc n) xs
      write [] n below = absurd (omega (arith, below))
      write (x ∷ xs) zero below = refl
      write (x ∷ xs) (suc n) below = ap (λ ls. begins_with c x ∷ ls) (write xs n (omega (arith, below)))

written_elem : (e : Elem) (c : Constant) → (value_written e c).elem ≡ e
written_elem elems.Bool c = refl
written_elem e c = refl

started_behind : (s : ListingView) (c : Constant) (n : ℕ) (ls : List LeafIn) → map (begins_with c) (leaves_behind s n ls) ≡ leaves_behind s n (starting (Some c) ls)
started_behind s c n [] = refl
started_behind s c n (l ∷ ls) =
    let first = leaf_behind s n l in
    let value = value_written l.initial.elem c in
    ap (λ e. record { path = first.path; shown = first.shown; spine = first.spine; elem = e; initial = value; role = first.role } ∷ map (begins_with c) (leaves_behind s (suc n) ls)) (sym (written_elem l.initial.elem c))
    ∙ ap (λ x. leaf_behind s n (record { path = l.path; spine = l.spine; initial = value; use' = l.use' }) ∷ x) (started_behind s c (suc n) ls)

-- the last leaves, and none behind them
pub part_started : (f : Leaf → Leaf) (all new : List Leaf) (from : ℕ) → new ≡ map f (take (length all - from) (drop from all))
    → take from all ++ (new ++ drop (length all - from) (drop from all)) ≡ take from all ++ map f (drop from all)
part_started f all new from new_is =
    let rest = length-drop from all in
    ap (λ ls. take from all ++ ls)
    (ap (λ ls. new ++ ls) (drop_all (length all - from) (drop from all) (omega (arith, rest))) ∙ append-nil new ∙ new_is ∙ ap (map f) (take_all (length all - from) (drop from all) (omega (arith, rest))))

-- they are as many as before
pub part_count : (f : Leaf → Leaf) (all started : List Leaf) (from : ℕ) → started ≡ take from all ++ map f (drop from all) → length started ≡ length all
part_count f all started from is =
    ap length is ∙ length-append (take from all) (map f (drop from all)) ∙ ap (λ n. length (take from all) + n) (length-map (drop from all) f) ∙ sym (length-append (take from all) (drop from all)) ∙ ap length (take-append-drop from all)

-- those behind the first ones begin so
pub start_listed : (s v : ListingView) (c : Constant) (leaves : List LeafIn) (from : ℕ) (all started : List Leaf) → v ≡ listed s leaves → length s.leaves ≡ from → all ≡ v.leaves
    → started ≡ take from all ++ map (begins_with c) (drop from all) → record { leaves = started; text = v.text; spine = v.spine; is_input = v.is_input } ≡ listed s (starting (Some c) leaves)
start_listed s v c leaves from all started v_is count all_are started_are =
    let both = all_are ∙ ap (λ w. w.leaves) v_is in
    let fresh = leaves_behind s (length s.leaves) leaves in
    ap (λ w. record { leaves = started; text = w.text; spine = w.spine; is_input = w.is_input }) v_is
    ∙ ap (λ ls. record { leaves = ls; text = s.text; spine = s.spine; is_input = s.is_input })
    (started_are ∙ ap (λ ls. take from ls ++ map (begins_with c) (drop from ls)) both ∙ ap (λ n. take n (s.leaves ++ fresh) ++ map (begins_with c) (drop n (s.leaves ++ fresh))) (sym count)
    ∙ ap (λ ls. ls ++ map (begins_with c) (drop (length s.leaves) (s.leaves ++ fresh))) (take_front s.leaves fresh)
    ∙ ap (λ ls. s.leaves ++ map (begins_with c) ls) (drop-append_seam s.leaves fresh) ∙ ap (λ ls. s.leaves ++ ls) (started_behind s c (length s.leaves) leaves)) where
      take_front : (xs ys : List Leaf) → take (length xs) (xs ++ ys) ≡ xs
      take_front [] ys = refl
      take_front (x ∷ xs) ys = ap (λ l. x ∷ l) (take_front xs ys)
