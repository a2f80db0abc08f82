-- What names and subscripts select of parts.
use Rattle.std.specs.Borrow.{Bor}
use Rattle.std.specs.Char.{to_ascii_uppercase}
use Rattle.std.specs.Prelude.{◌≡◌, ℕ, suc, Bool, false, ◌≤◌, List, [], map, length, Option, Some, None}
use Rattle.std.specs.List.{slice_get}
use Rattle.std.specs.Option.{option_and_then}
use Rattle.st_tree.specs.declared.tree.constant.Constant.{Constant}
use Rattle.st_tree.specs.declared.tree.declaration.Subrange.{Subrange}
use Rattle.st_types.specs.Compositions.{Composition, array, composed, elementary, standard, unknown, composition_within, members_by}
use Rattle.st_types.specs.Initials.{zero_of}
use Rattle.st_types.specs.Names.{Named, chart_in, number_of, unit_at}
use Rattle.st_types.specs.Types.{type_at}
use Rattle.st_types.specs.declared.base.Base.{Base}
use Rattle.st_types.specs.declared.base.Base.TheVariants as bases
use Rattle.st_leaves.specs.Places.{count}
use Rattle.st_leaves.specs.Selected.{selected_by, value_type}
use Rattle.st_meaning.specs.Offsets.{offset_of}
use Rattle.st_meaning.specs.Wholes.{block_of}
use Rattle.st_places.specs.Dimensions.{AreLimited}
use Rattle.st_places.specs.Members.{AreUnits}
use Rattle.st_places.specs.Parts.{IsNodeIn, inside, is_array, is_function, node_part, own_names}
use Rattle.st_places.specs.declared.content.Content.{Content}
use Rattle.st_places.specs.declared.content.Content.TheVariants as contents
use Rattle.st_places.specs.declared.member.Member.{Member}
use Rattle.st_places.specs.declared.node.Dimension.{Dimension}
use Rattle.st_places.specs.declared.node.Node.{Node}
use Rattle.st_places.specs.declared.unit.ArrayParts.{ArrayParts}
use Rattle.st_places.specs.declared.unit.UnitParts.{UnitParts}

-- one unit more finds the same
abbrev pub IsUnfolded : List Named → Base → Type 0
IsUnfolded units base = inside units base ≡ composition_within units (suc (suc (length units))) base

-- a unit that is a function is no type
abbrev pub is_function_in : Option Named → Bool
is_function_in None = false
is_function_in (Some u) = is_function u.declares

abbrev pub IsNoFunction : List Named → Base → Type 0
IsNoFunction units (bases.Structure i) = is_function_in (unit_at units i) ≡ false
IsNoFunction units (bases.Block i) = is_function_in (unit_at units i) ≡ false
IsNoFunction units _ = Unit {0}

-- what variables are declared as
pub record IsType (units : List Named) (base : Base) : Type 0 where
  pub unfolded : IsUnfolded units base
  pub no_function : IsNoFunction units base

-- each unit is found by its name in upper case
abbrev pub AreNamed : List Named → Type 0
AreNamed units = (i : ℕ) (u : Named) → unit_at units i ≡ Some u → number_of units (map to_ascii_uppercase u.name.spelling) ≡ Some i

-- the tables of all units of a text, none of which contains itself, and all of which are found by their names
pub record AreOf (units : List Named) (all : List UnitParts) : Type 0 where
  pub len : length all ≡ length units
  pub each : AreUnits units all
  pub unfolded : (i : ℕ) → IsUnfolded units (type_at units i)
  pub named : AreNamed units

-- the table of a member, and of the elements of an array type
abbrev pub member_in : List UnitParts → ℕ → ℕ → Option Member
member_in all unit number = option_and_then (λ (parts : UnitParts). slice_get parts.members.items number) (slice_get all unit)

abbrev pub elements_of : List UnitParts → ℕ → Option ArrayParts
elements_of all unit = option_and_then (λ (parts : UnitParts). parts.elements) (slice_get all unit)

-- the number of the function block that what has this table is an instance of
abbrev pub block_by : Option (List Dimension) → Base → Option ℕ
block_by None (bases.Block i) = Some i
block_by _ _ = None

abbrev pub member_block : Member → Option ℕ
member_block m = block_by m.dimensions m.base

-- the unit's names and its chart, whatever its name
abbrev pub contents_of : List Named → Option Named → Composition
contents_of units None = unknown
contents_of units (Some u) = composed [] (members_by units (inside units) (own_names u.declares)) (chart_in u.declares)

-- names select the same, whatever the two begin with
pub record HasSameParts (c d : Composition) : Type 0 where
  pub selected : (name : List ℕ) → selected_by c name ≡ selected_by d name
  pub offset : (name : List ℕ) → offset_of c name ≡ offset_of d name
  pub count : count c ≡ count d
  pub array : is_array c ≡ is_array d
  pub type : value_type c ≡ value_type d
  pub block : block_of c ≡ block_of d

-- an array with these dimensions, whose elements consist of this
pub record IsArrayOf (c element : Composition) (dimensions : List Dimension) : Type 0 where
  pub ranges : List Subrange
  pub firsts : List (Option Constant)
  pub is : c ≡ array ranges firsts element
  pub limited : AreLimited (count element) ranges dimensions

-- the composition has this content
abbrev pub IsContent : List Named → Composition → Content → Type 0
IsContent units c contents.Unknown = HasSameParts c unknown
IsContent units c (contents.Value e) = HasSameParts c (elementary (zero_of e))
IsContent units c (contents.Whole i) = HasSameParts c (contents_of units (unit_at units i))
IsContent units c (contents.Block b) = HasSameParts c (standard b)
IsContent units c (contents.Array dimensions node) = IsArrayOf c (node_part units node) dimensions.now × IsNodeIn units node

-- what a name selects, and, of what isn't too large, how many leaves stand before it
abbrev pub IsSelected : List Named → Composition → List ℕ → Option (ℕ × Node) → Type 0
IsSelected units c name None = selected_by c name ≡ unknown
IsSelected units c name (Some found) = (node_part units found.1 ≡ selected_by c name) × ((count c ≤ 999999 → found.0 ≡ offset_of c name) × IsNodeIn units found.1)

-- an array of this with these dimensions, and else none
abbrev pub AreElementsOf : List Named → Composition → Option (Bor (List Dimension) × Node) → Type 0
AreElementsOf units c None = is_array c ≡ false
AreElementsOf units c (Some found) = IsArrayOf c (node_part units found.1) found.0.now × IsNodeIn units found.1
