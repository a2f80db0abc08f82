-- The tables of a unit: its variables with where their leaves stand, its constants, its chart, and the elements of an array type.
use Rattle.std.specs.Prelude.{◌≡◌, ℕ, ◌+◌, ◌*◌, nat_le, Bool, false, List, [], ◌∷◌, Option, Some, None, map, min}
use Rattle.std.specs.List.{slice_get}
use Rattle.st_values.specs.declared.value.Value.{Value}
use Rattle.st_tree.specs.declared.tree.declaration.Subrange.{Subrange}
use Rattle.st_scopes.specs.Declarations.{spellings_of}
use Rattle.st_types.specs.Compositions.{declared_composition}
use Rattle.st_types.specs.Names.{Declared, Named}
use Rattle.st_types.specs.Types.{Elements, elements_in, shape_of, type_at}
use Rattle.st_types.specs.declared.base.Base.{Base}
use Rattle.st_types.specs.declared.base.Base.TheVariants as bases
use Rattle.st_leaves.specs.Places.{count, extent}
use Rattle.st_meaning.specs.Wholes.{constant_value}
use Rattle.st_places.specs.Charts.{HasElements}
use Rattle.st_places.specs.Dimensions.{AreLimited}
use Rattle.st_places.specs.Parts.{chart_at, constants_among, inside, own_names_at, variables_among}
use Rattle.st_places.specs.declared.constant.Constants.{Constants}
use Rattle.st_places.specs.declared.member.Member.{Member}
use Rattle.st_places.specs.declared.member.Members.{Members}
use Rattle.st_places.specs.declared.member.Parts.{Parts}
use Rattle.st_places.specs.declared.node.Dimension.{Dimension}
use Rattle.st_places.specs.declared.unit.ArrayParts.{ArrayParts}
use Rattle.st_places.specs.declared.unit.UnitParts.{UnitParts}

-- how many leaves a declared name has
abbrev pub member_count : List Named → Declared → ℕ
member_count units v = count (declared_composition units (inside units) v)

abbrev pub members_count : List Named → List Declared → ℕ
members_count units [] = 0
members_count units (v ∷ vs) = member_count units v + members_count units vs

-- those of what is declared as an array, and else none
abbrev pub AreOwn : ℕ → Option (List Subrange) → Option (List Dimension) → Type 0
AreOwn size None None = Unit {0}
AreOwn size (Some ranges) (Some dimensions) = AreLimited size ranges dimensions
AreOwn size _ _ = ⊥

-- the same, where so many have what it or each of its elements is
abbrev pub shape_count : Option (List Subrange) → ℕ → ℕ
shape_count None n = n
shape_count (Some ranges) n = extent ranges * n

-- of a declared name behind so many leaves
pub record IsMember (units : List Named) (before : ℕ) (v : Declared) (m : Member) : Type 0 where
  pub offset : m.offset ≡ min before 1000000
  pub base : m.base ≡ (shape_of units v.specification).base
  pub dimensions : AreOwn (count (inside units (shape_of units v.specification).base)) (shape_of units v.specification).subscripts m.dimensions

abbrev pub AreMembers : List Named → ℕ → List Declared → List Member → Type 0
AreMembers units before [] [] = Unit {0}
AreMembers units before (v ∷ vs) (m ∷ ms) = IsMember units before v m × AreMembers units (before + member_count units v) vs ms
AreMembers units before _ _ = ⊥

-- what a declared name is made of
pub record AreParts (units : List Named) (v : Declared) (parts : Parts) : Type 0 where
  pub base : parts.base ≡ (shape_of units v.specification).base
  pub dimensions : AreOwn (count (inside units (shape_of units v.specification).base)) (shape_of units v.specification).subscripts parts.dimensions
  pub count : parts.count ≡ min (shape_count (shape_of units v.specification).subscripts (count (inside units (shape_of units v.specification).base))) 1000000

-- of these declared names
pub record HasMembers (units : List Named) (vs : List Declared) (members : Members) : Type 0 where
  pub names : members.names ≡ spellings_of vs
  pub items : AreMembers units 0 vs members.items
  pub count : members.count ≡ min (members_count units vs) 1000000

-- ---- constants

abbrev pub value_declared : List Named → Declared → Option Value
value_declared units v = constant_value (declared_composition units (inside units) v)

-- of these declared names
pub record HasConstants (units : List Named) (vs : List Declared) (constants : Constants) : Type 0 where
  pub names : constants.names ≡ spellings_of vs
  pub values : constants.values ≡ map (value_declared units) vs

-- ---- units

-- of an array type, and of what is none nothing
abbrev pub AreElements : List Named → Option Elements → Option ArrayParts → Type 0
AreElements units None None = Unit {0}
AreElements units (Some elements) (Some parts) = (parts.base ≡ elements.element) × AreLimited (count (inside units elements.element)) elements.subscripts parts.dimensions
AreElements units _ _ = ⊥

-- of these declared names
pub record HasNames (units : List Named) (vs : List Declared) (parts : UnitParts) : Type 0 where
  pub members : HasMembers units (variables_among vs) parts.members
  pub constants : HasConstants units (constants_among vs) parts.constants

-- a function block of the text whose instances have at most 65536 leaves
abbrev pub is_small_type : List Named → Base → Bool
is_small_type units (bases.Block i) = nat_le (count (inside units (bases.Block i))) 65536
is_small_type units _ = false

-- of the unit of this number
pub record IsUnit (units : List Named) (i : ℕ) (parts : UnitParts) : Type 0 where
  pub names : HasNames units (own_names_at units i) parts
  pub chart : HasElements (chart_at units i) parts.chart
  pub elements : AreElements units (elements_in units (bases.Array i)) parts.elements
  pub small : parts.is_small_block ≡ is_small_type units (type_at units i)

-- of all units
abbrev pub AreUnits : List Named → List UnitParts → Type 0
AreUnits units all = (i : ℕ) (parts : UnitParts) → slice_get all i ≡ Some parts → IsUnit units i parts
