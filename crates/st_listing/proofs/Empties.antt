-- What has no leaves through all units has none through fewer.
use Rattle.std.proofs.Common.{◌≡◌, ℕ, zero, suc, ◌+◌, ◌*◌, ◌≤◌, Bool, true, false, List, [], ◌∷◌, length, Option, Some, None, if◌then◌else◌, refl, ap, sym, ◌∙◌, subst, arith}
use Rattle.std.proofs.lemmas.List.{length-map}
use Rattle.std.proofs.Math.Nat.{mul-le-mul_left, mul-zero}
use Rattle.st_tree.specs.declared.tree.declaration.DeclaredType.TheVariants as declared_types
use Rattle.st_tree.specs.declared.tree.declaration.Initial.{Initial}
use Rattle.st_tree.specs.declared.tree.declaration.Subrange.{Subrange}
use Rattle.st_leaves.specs.Sizes.{IsSize}
use Rattle.st_leaves.specs.declared.limited.Size.{Size}
use Rattle.st_tree.specs.Kinds.{is_constant}
use Rattle.st_types.specs.Compositions.{Composition, composition_within, declared_composition, elements_composition, member, members_by, optional_composition, started, subscripted, unit_composition}
use Rattle.st_types.specs.Initials.{element_initial, initial_of, unit_element_initial}
use Rattle.st_types.specs.Names.{Declared, Declares, Named, chart_in, members_of, unit_at, variables_in}
use Rattle.st_types.specs.Names as names
use Rattle.st_types.specs.Types.{Elements, elements_in, is_unknown, shape_of, type_at}
use Rattle.st_types.specs.declared.base.Base.{Base}
use Rattle.st_types.specs.declared.base.Base.TheVariants as bases
use Rattle.st_leaves.specs.Charts.{LeafBelow}
use Rattle.st_leaves.specs.Compositions.{counted}
use Rattle.st_leaves.specs.Leaves.{leaves_within}
use Rattle.st_leaves.specs.LeavesIn.{leaves_in}
use Rattle.st_leaves.specs.Limits.{size_of, sizes_of}
use Rattle.st_leaves.specs.Places.{chart_count, count, counts, extent}
use Rattle.st_leaves.proofs.Composed.{leaves_of_bases}
use Rattle.st_leaves.proofs.Numbers.{leaves_are_counted}
use Rattle.st_leaves.proofs.Started.{started_count}
use Rattle.st_check.specs.Sized.{IsSized, size_at, type_leaves, unit_of}

-- ---- where bases have no more leaves, what is made of them has no more

started_le : (initial : Option Initial) (c d : Composition) → count c ≤ count d → count (started initial c) ≤ count (started initial d)
started_le initial c d h = subst (λ n. n ≤ count (started initial d)) (sym (started_count initial c)) (subst (λ n. count c ≤ n) (sym (started_count initial d)) h)

subscripted_le : (ranges : Option (List Subrange)) (c d : Composition) → count c ≤ count d → count (subscripted ranges c) ≤ count (subscripted ranges d)
subscripted_le None c d h = h
subscripted_le (Some ranges) c d h = mul-le-mul_left (extent ranges) h

add_le : (a b c d : ℕ) → a ≤ b → c ≤ d → a + c ≤ b + d
add_le a b c d h k = omega (arith, h, k)

module _ (units : List Named) (f g : Base → Composition) (le : (base : Base) → count (f base) ≤ count (g base)) where
  declared_le : (v : Declared) → count (declared_composition units f v) ≤ count (declared_composition units g v)
  declared_le v =
      let base = (shape_of units v.specification).base in
      let one = started_le (element_initial units v.specification) (f base) (g base) (le base) in
      let all = subscripted_le (shape_of units v.specification).subscripts (started (element_initial units v.specification) (f base)) (started (element_initial units v.specification) (g base)) one in
      started_le (initial_of units v) (subscripted (shape_of units v.specification).subscripts (started (element_initial units v.specification) (f base)))
      (subscripted (shape_of units v.specification).subscripts (started (element_initial units v.specification) (g base))) all

  member_le : (b : Bool) (v : Declared) (vs : List Declared) → counts (members_by units f vs) ≤ counts (members_by units g vs)
      → counts (if b then members_by units f vs else member v.name.spelling v.kind (declared_composition units f v) (members_by units f vs))
      ≤ counts (if b then members_by units g vs else member v.name.spelling v.kind (declared_composition units g v) (members_by units g vs))
  member_le true v vs h = h
  member_le false v vs h = add_le (count (declared_composition units f v)) (count (declared_composition units g v)) (counts (members_by units f vs)) (counts (members_by units g vs)) (declared_le v) h

  members_le : (vs : List Declared) → counts (members_by units f vs) ≤ counts (members_by units g vs)
  members_le [] = omega arith
  members_le (v ∷ vs) = member_le (is_constant v.kind) v vs (members_le vs)

  with_chart : (vs : List Declared) (n : ℕ) → counts (members_by units f vs) + n ≤ counts (members_by units g vs) + n
  with_chart vs n = add_le (counts (members_by units f vs)) (counts (members_by units g vs)) n n (members_le vs) (omega arith)

  unit_le : (name : List ℕ) (unit : Declares) → count (unit_composition units f name unit) ≤ count (unit_composition units g name unit)
  unit_le name (names.type (declared_types.Structure position members)) = with_chart (members_of members) 0
  unit_le name (names.type (declared_types.Derived specification initial)) = with_chart [] 0
  unit_le name (names.function h) = with_chart (variables_in (names.function h)) 0
  unit_le name (names.block b) = with_chart (variables_in (names.block b)) (chart_count (chart_in (names.block b)))
  unit_le name (names.program p) = with_chart (variables_in (names.program p)) (chart_count (chart_in (names.program p)))

  optional_le : (unit : Option Named) → count (optional_composition units f unit) ≤ count (optional_composition units g unit)
  optional_le None = omega arith
  optional_le (Some unit) = unit_le _ unit.declares

  array_le : (initial : Option Initial) (elements : Option Elements) → count (elements_composition f initial elements) ≤ count (elements_composition g initial elements)
  array_le initial None = omega arith
  array_le initial (Some elements) = mul-le-mul_left (extent elements.subscripts) (started_le initial (f elements.element) (g elements.element) (le elements.element))

-- through more units there are no fewer leaves
through_more : (units : List Named) (few most : ℕ) → few ≤ most → (base : Base) → count (composition_within units few base) ≤ count (composition_within units most base)
unfolding composition_within
through_more units zero most le base = omega arith
through_more units (suc few) zero le base = absurd (omega (arith, le))
through_more units (suc few) (suc most) le bases.Unknown = omega arith
through_more units (suc few) (suc most) le (bases.Elementary e) = omega arith
through_more units (suc few) (suc most) le (bases.Array i) =
    array_le units (composition_within units few) (composition_within units most) (through_more units few most (omega (arith, le))) (unit_element_initial units (unit_at units i)) (elements_in units (bases.Array i))
through_more units (suc few) (suc most) le (bases.Structure i) = optional_le units (composition_within units few) (composition_within units most) (through_more units few most (omega (arith, le))) (unit_at units i)
through_more units (suc few) (suc most) le (bases.Block i) = optional_le units (composition_within units few) (composition_within units most) (through_more units few most (omega (arith, le))) (unit_at units i)
through_more units (suc few) (suc most) le (bases.Standard b) = omega arith

none_of : {X : Type 0} (xs : List X) → length xs ≤ 0 → xs ≡ []
none_of [] h = refl
none_of (x ∷ xs) h = absurd (omega (arith, h))

-- what has no leaves through all units has none here
none_within : (units : List Named) (depth : ℕ) (base : Base) (initial : Option Initial) → depth ≤ suc (length units) → type_leaves units base ≡ [] → leaves_in (started initial (composition_within units depth base)) ≡ []
none_within units depth base initial within none =
    let all = composition_within units (suc (length units)) base in
    let part = composition_within units depth base in
    let no_leaves : length (leaves_in all) ≡ 0 = sym (length-map (leaves_in all) counted) ∙ ap length (sym (leaves_of_bases units (suc (length units)) base)) ∙ ap length none in
    none_of (leaves_in (started initial part))
    (omega (arith, (leaves_are_counted (started initial part)).0, started_count initial part, through_more units depth (suc (length units)) within base, (leaves_are_counted all).0, no_leaves))

-- a size of no leaves is that of none
pub no_size : (size : Size) (leaves : List LeafBelow) → IsSize size (sizes_of leaves) → size.leaves ≡ 0 → leaves ≡ []
no_size size leaves sized none = none_of leaves (omega (arith, sized.leaves, none, length-map leaves size_of))

pub empty_type : (units : List Named) (sizes : List Size) (base : Base) (unit : ℕ) (size : Size) → ((i : ℕ) → IsSized units sizes (type_at units i)) → base ≡ type_at units unit → unit_of base ≡ Some unit → size ≡ size_at sizes unit → size.leaves ≡ 0
    → type_leaves units base ≡ []
empty_type units sizes base unit size sized is of at none =
    no_size (size_at sizes unit) (type_leaves units base) (subst (λ (b : Base). IsSized units sizes b) (sym is) (sized unit) unit of) (ap Size.leaves (sym at) ∙ none)

-- what can't be known has none
pub empty_unknown : (units : List Named) (base : Base) → is_unknown base ≡ true → type_leaves units base ≡ []
unfolding leaves_within
empty_unknown units bases.Unknown is = refl
empty_unknown units (bases.Elementary e) is = absurd (cc)
empty_unknown units (bases.Array i) is = absurd (cc)
empty_unknown units (bases.Structure i) is = absurd (cc)
empty_unknown units (bases.Block i) is = absurd (cc)
empty_unknown units (bases.Standard b) is = absurd (cc)

-- ---- declared names without leaves

none_subscripted : (ranges : Option (List Subrange)) (c : Composition) → count c ≡ 0 → count (subscripted ranges c) ≡ 0
none_subscripted None c none = none
none_subscripted (Some ranges) c none = ap (λ n. extent ranges * n) none ∙ mul-zero (extent ranges)

pub none_declared : (units : List Named) (depth : ℕ) (v : Declared) → depth ≤ suc (length units) → type_leaves units (shape_of units v.specification).base ≡ [] → leaves_in (declared_composition units (composition_within units depth) v) ≡ []
none_declared units depth v within none =
    let shape = shape_of units v.specification in
    let one = started (element_initial units v.specification) (composition_within units depth shape.base) in
    let none_in_one : count one ≡ 0 = sym (leaves_are_counted one).0 ∙ ap length (none_within units depth shape.base (element_initial units v.specification) within none) in
    none_of (leaves_in (declared_composition units (composition_within units depth) v))
    (omega (arith, (leaves_are_counted (declared_composition units (composition_within units depth) v)).0, started_count (initial_of units v) (subscripted shape.subscripts one), none_subscripted shape.subscripts one none_in_one))
