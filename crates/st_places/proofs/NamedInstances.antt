-- Instances and small function blocks, by the tables.
use Rattle.std.proofs.Common.{◌≡◌, ℕ, suc, Bool, true, false, List, [], ◌∷◌, length, Option, Some, None, refl, ap, sym, ◌∙◌, subst, if◌then◌else◌}
use Rattle.std.specs.List.{slice_get}
use Rattle.std.specs.Option.{option_map}
use Rattle.std.proofs.lemmas.Option.{same_Some}
use Rattle.st_types.specs.Tables.{first_of}
use Rattle.st_scopes.specs.Declarations.{spellings_of}
use Rattle.st_tree.specs.declared.tree.declaration.Subrange.{Subrange}
use Rattle.st_types.proofs.Cases.{by_test}
use Rattle.st_types.specs.Compositions.{Members as Parts, declared_composition, optional_composition}
use Rattle.st_types.specs.Names.{Declared, Named, number_of, unit_at, units_of}
use Rattle.st_types.specs.Standard.{standard_of}
use Rattle.st_types.specs.Types.{optional_stands_for, shape_of, stands_for, type_at, type_within}
use Rattle.st_types.specs.declared.base.Base.{Base}
use Rattle.st_types.specs.declared.base.Base.TheVariants as bases
use Rattle.st_values.specs.Words.{is_word}
use Rattle.st_leaves.specs.Places.{count}
use Rattle.st_meaning.specs.Units.{instance_of, member_instance, root_name, root_of, unit_whole}
use Rattle.st_meaning.specs.Wholes.{Invoked}
use Rattle.st_places.specs.Contents.{AreOf, IsUnfolded, block_by, member_block, member_in}
use Rattle.st_places.specs.Members.{AreOwn, is_small_type}
use Rattle.st_places.specs.Parts.{TablesView, inside, is_block, is_small_block_in, optional_small_block, optional_whole, own_names, variables_among, variables_at, whole_in}
use Rattle.st_places.specs.declared.member.Member.{Member}
use Rattle.st_places.specs.declared.node.Dimension.{Dimension}
use Rattle.st_places.specs.declared.unit.UnitParts.{UnitParts}
use Rattle.st_places.proofs.Blocks.{IsDeclared, IsKnown, known_shape}
use Rattle.st_places.proofs.Contents.{missing}
use Rattle.st_places.proofs.Instances.{AreFound, block_root, declared_instance, invocation, of_block, of_unit, optional_invocation, shape_invocation, small_unit}
use Rattle.st_places.proofs.Lookups.{members_of, position-here, position-next, without_constants}
use Rattle.st_places.proofs.MemberContents.{AreMember, IsMemberOf, member_known, names_by}

-- the number of the unit whose body is invoked
abbrev pub invoked_number : Option Invoked → Option ℕ
invoked_number found = option_map (λ (f : Invoked). f.number) found

-- what a name stands for, as the type of a unit is looked up
abbrev type_named_within : List Named → List ℕ → Base
type_named_within units name = stands_for (type_within units (length units)) (standard_of name) (number_of units name)

module _ (units : List Named) where
  type_by : (i : ℕ) (u : Option Named) → unit_at units i ≡ u → type_at units i ≡ optional_stands_for (type_named_within units) i u
  unfolding type_at type_within
  type_by i u at = ap (optional_stands_for (type_named_within units) i) at

  -- ---- by a name among variables

  pub record IsInstanceAt (vs : List Declared) (k : ℕ) (found : Option Invoked) : Type 0 where
    pub v : Declared
    pub declared : slice_get vs k ≡ Some v
    pub is : found ≡ instance_of units (declared_composition units (inside units) v)

  abbrev pub IsFoundAt : List Declared → Option Invoked → Option ℕ → Type 0
  IsFoundAt vs found None = found ≡ None
  IsFoundAt vs found (Some k) = IsInstanceAt vs k found

  next_found : (v : Declared) (vs : List Declared) (found : Option Invoked) (k : Option ℕ) → IsFoundAt vs found k → IsFoundAt (v ∷ vs) found (option_map suc k)
  next_found v vs found None is = is
  next_found v vs found (Some k) is = record { v = is.v; declared = is.declared; is = is.is }

  found_at : (name : List ℕ) (vs : List Declared) → IsFoundAt vs (member_instance units (members_of units vs) name) (first_of (spellings_of vs) name)
  found_at name [] = refl
  found_at name (v ∷ vs) =
      by_test (is_word v.name.spelling name)
      (λ t.
      subst (IsFoundAt (v ∷ vs) (member_instance units (members_of units (v ∷ vs)) name)) (sym (position-here (λ n. is_word n name) v.name.spelling (spellings_of vs) t))
      (subst (λ b. IsInstanceAt (v ∷ vs) 0 (if b then instance_of units (declared_composition units (inside units) v) else member_instance units (members_of units vs) name)) (sym t)
      (record { v = v; declared = refl; is = refl })))
      (λ t.
      subst (IsFoundAt (v ∷ vs) (member_instance units (members_of units (v ∷ vs)) name)) (sym (position-next (λ n. is_word n name) v.name.spelling (spellings_of vs) t))
      (subst (λ b. IsFoundAt (v ∷ vs) (if b then instance_of units (declared_composition units (inside units) v) else member_instance units (members_of units vs) name) (option_map suc (first_of (spellings_of vs) name))) (sym t)
      (next_found v vs (member_instance units (members_of units vs) name) (first_of (spellings_of vs) name) (found_at name vs))))

  -- the names of a unit
  invoked_by : (u : Option Named) (name : List ℕ) → (optional_whole units u).invoked name ≡ member_instance units (members_of units (variables_among (names_by units u))) name
  unfolding unit_whole
  invoked_by None name = refl
  invoked_by (Some u) name =
      of_unit units (root_name u.name.spelling u.declares) u.declares name ∙ ap (λ (ms : Parts). member_instance units ms name) (without_constants units (own_names u.declares))

  -- ---- which block it is

  block_number : (j : ℕ) (u : Option Named) → unit_at units j ≡ u → IsDeclared units j true → invoked_number (optional_invocation units j u) ≡ Some j
  block_number j None at known = let there : Some known.unit ≡ None = sym known.at ∙ at in absurd (cc)
  block_number j (Some u) at known =
      let same : known.unit ≡ u = same_Some known.unit u (sym known.at ∙ at) in
      ap (λ (b : Bool). invoked_number (if b then Some (invocation units j u) else None)) (subst (λ (w : Named). is_block w.declares ≡ true) same known.is)

  shape_number : (size : ℕ) (ranges : Option (List Subrange)) (ds : Option (List Dimension)) (base : Base) → AreOwn size ranges ds → IsKnown units base
      → block_by ds base ≡ invoked_number (shape_invocation units ranges base)
  shape_number size None None bases.Unknown own known = refl
  shape_number size None None (bases.Elementary e) own known = refl
  shape_number size None None (bases.Array i) own known = refl
  shape_number size None None (bases.Structure i) own known = refl
  shape_number size None None (bases.Block i) own known = sym (block_number i (unit_at units i) refl known)
  shape_number size None None (bases.Standard b) own known = refl
  shape_number size None (Some ds) base own known = absurd own
  shape_number size (Some ranges) None base own known = absurd own
  shape_number size (Some ranges) (Some ds) bases.Unknown own known = refl
  shape_number size (Some ranges) (Some ds) (bases.Elementary e) own known = refl
  shape_number size (Some ranges) (Some ds) (bases.Array i) own known = refl
  shape_number size (Some ranges) (Some ds) (bases.Structure i) own known = refl
  shape_number size (Some ranges) (Some ds) (bases.Block i) own known = refl
  shape_number size (Some ranges) (Some ds) (bases.Standard b) own known = refl

  module _ (all : List UnitParts) (are : AreOf units all) where
    pub are_found : AreFound units
    are_found = record { named = are.named; unfolded = are.unfolded }

    member_number : (v : Declared) (m : Member) → IsMemberOf units v m → member_block m ≡ invoked_number (instance_of units (declared_composition units (inside units) v))
    member_number v m is =
        ap (block_by m.dimensions) is.base
        ∙ shape_number (count (inside units (shape_of units v.specification).base)) (shape_of units v.specification).subscripts m.dimensions (shape_of units v.specification).base is.dimensions
        (known_shape units v.specification)
        ∙ sym (ap invoked_number (declared_instance units are_found v))

    of_member : (v : Option Declared) (m : Option Member) (w : Declared) (n : Member) → AreMember units v m → v ≡ Some w → m ≡ Some n
        → member_block n ≡ invoked_number (instance_of units (declared_composition units (inside units) w))
    of_member None m w n is here at = absurd (cc)
    of_member (Some v) None w n is here at = absurd (cc)
    of_member (Some v) (Some m) w n is here at =
        ap member_block (sym (same_Some m n at)) ∙ member_number v m is ∙ ap (λ (x : Declared). invoked_number (instance_of units (declared_composition units (inside units) x))) (same_Some v w here)

    -- ---- in the tables

    pub no_unit : (i : ℕ) (name : List ℕ) → slice_get all i ≡ None → None ≡ invoked_number ((optional_whole units (unit_at units i)).invoked name)
    no_unit i name is = sym (ap (λ u. invoked_number ((optional_whole units u).invoked name)) (missing units all are i is))

    found : (i : ℕ) (parts : UnitParts) (name : List ℕ) → slice_get all i ≡ Some parts
        → IsFoundAt (variables_at units i) ((optional_whole units (unit_at units i)).invoked name) (first_of parts.members.names name)
    found i parts name is =
        subst (λ o. IsFoundAt (variables_at units i) o (first_of parts.members.names name)) (sym (invoked_by (unit_at units i) name))
        (subst (λ ns. IsFoundAt (variables_at units i) (member_instance units (members_of units (variables_at units i)) name) (first_of ns name)) (sym (are.each i parts is).names.members.names)
        (found_at name (variables_at units i)))

    pub no_name : (i : ℕ) (parts : UnitParts) (name : List ℕ) → slice_get all i ≡ Some parts → first_of parts.members.names name ≡ None
        → None ≡ invoked_number ((optional_whole units (unit_at units i)).invoked name)
    no_name i parts name is none = sym (ap invoked_number (subst (IsFoundAt (variables_at units i) ((optional_whole units (unit_at units i)).invoked name)) none (found i parts name is)))

    pub one_name : (i : ℕ) (parts : UnitParts) (name : List ℕ) (k : ℕ) (m : Member) → slice_get all i ≡ Some parts → first_of parts.members.names name ≡ Some k → member_in all i k ≡ Some m
        → member_block m ≡ invoked_number ((optional_whole units (unit_at units i)).invoked name)
    one_name i parts name k m is at there =
        let here : IsInstanceAt (variables_at units i) k ((optional_whole units (unit_at units i)).invoked name) =
        subst (IsFoundAt (variables_at units i) ((optional_whole units (unit_at units i)).invoked name)) at (found i parts name is) in
        of_member (slice_get (variables_at units i) k) (member_in all i k) here.v m (member_known units all are i k) here.declared there ∙ sym (ap invoked_number here.is)

    -- ---- small function blocks

    root_is : (i : ℕ) (u : Named) → unit_at units i ≡ Some u → is_block u.declares ≡ true → type_at units i ≡ bases.Block i → inside units (bases.Block i) ≡ root_of units u
    root_is i u at is type =
        of_block units are_found i (subst (IsUnfolded units) type (are.unfolded i))
        ∙ ap (optional_composition units (inside units)) at ∙ block_root units u is

    small_type : (i : ℕ) (u : Option Named) → unit_at units i ≡ u → is_small_type units (type_at units i) ≡ optional_small_block units u
    small_type i None at = ap (is_small_type units) (type_by i None at)
    small_type i (Some u) at =
        ap (is_small_type units) (type_by i (Some u) at)
        ∙ small_unit units (type_named_within units) i u u.declares refl (λ is stands. root_is i u at is (type_by i (Some u) at ∙ stands))

    -- what the table of a unit says
    pub small_known : (i : ℕ) (parts : UnitParts) → slice_get all i ≡ Some parts → parts.is_small_block ≡ optional_small_block units (unit_at units i)
    small_known i parts is = (are.each i parts is).small ∙ small_type i (unit_at units i) refl

    pub no_small_unit : (i : ℕ) → slice_get all i ≡ None → false ≡ optional_small_block units (unit_at units i)
    no_small_unit i is = sym (ap (optional_small_block units) (missing units all are i is))

-- ---- in tables

pub instance_clause : (s t : TablesView) (unit : ℕ) (name : List ℕ) (r : Option ℕ) → s ≡ t
    → r ≡ invoked_number ((optional_whole (units_of s.text) (unit_at (units_of s.text) unit)).invoked name) → r ≡ invoked_number ((whole_in t unit).invoked name)
unfolding whole_in
instance_clause s t unit name r same is = is ∙ ap (λ (x : TablesView). invoked_number ((optional_whole (units_of x.text) (unit_at (units_of x.text) unit)).invoked name)) same

pub small_clause : (s t : TablesView) (unit : ℕ) (r : Bool) → s ≡ t → r ≡ optional_small_block (units_of s.text) (unit_at (units_of s.text) unit) → r ≡ is_small_block_in t unit
unfolding is_small_block_in
small_clause s t unit r same is = is ∙ ap (λ (x : TablesView). optional_small_block (units_of x.text) (unit_at (units_of x.text) unit)) same
