-- What a walk through what variables consist of lists.
use Rattle.std.specs.Prelude.{◌≡◌, ◌<◌, ◌≤◌, ℕ, suc, List, [], Option, Some, get_or, length, map}
use Rattle.std.specs.List.{All}
use Rattle.std.specs.Option.{option_copied}
use Rattle.st_values.specs.Words.{raised}
use Rattle.st_values.specs.declared.elem.Elem.{Elem}
use Rattle.st_values.specs.declared.value.Value.{Value}
use Rattle.st_tree.specs.declared.leaf.Leaf.{Leaf}
use Rattle.st_tree.specs.declared.tree.constant.Constant.{Constant}
use Rattle.st_tree.specs.declared.tree.declaration.Initial.{Initial}
use Rattle.st_tree.specs.declared.tree.declaration.Initial.TheVariants as initials
use Rattle.st_types.specs.Compositions.{composition_within, declared_composition, members_by, optional_composition, started}
use Rattle.st_types.specs.Names.{Declared, Named, unit_at, units_of}
use Rattle.st_types.specs.Initials.{unit_element_initial, value_written, zero_of}
use Rattle.st_types.specs.Compositions.{elements_composition}
use Rattle.st_types.specs.Types.{elements_in, type_at}
use Rattle.st_types.specs.declared.base.Base.TheVariants as bases
use Rattle.st_leaves.specs.LeavesIn.{LeafIn, leaves_in, members_in, variables_in}
use Rattle.st_chart_parts.specs.Charts.{parts_of}
use Rattle.st_references.specs.Tables.{AreInitials}
use Rattle.st_check.specs.Sized.{IsSized}
use Rattle.st_scopes.specs.Declarations.{names_at}
use Rattle.st_listing.specs.Members.{IsMember, MemberView, declared_of}
use Rattle.st_listing.specs.declared.rows.Sieve.{Sieve}
use Rattle.st_listing.specs.declared.walk.Part.{Part}
use Rattle.st_listing.specs.declared.walk.Walk.{Walk}

-- of a value of this type, where this is written
abbrev pub started_value : Elem → Option Initial → Value
started_value e (Some (initials.Constant c)) = value_written e c
started_value e _ = zero_of e

-- a leaf that begins so
abbrev pub begins_with : Constant → Leaf → Leaf
begins_with c l = record { path = l.path; shown = l.shown; spine = l.spine; elem = l.elem; initial = value_written l.elem c; role = l.role }

-- of what has this base, through at most so many units, and begins so
abbrev pub part_leaves : List Named → Part → List LeafIn
part_leaves units part = leaves_in (started (option_copied part.initial) (composition_within units part.depth part.base))

-- of what has an array type
abbrev pub array_leaves : List Named → ℕ → ℕ → Option Initial → List LeafIn
array_leaves units depth unit initial =
    leaves_in (started initial (elements_composition (composition_within units depth) (unit_element_initial units (unit_at units unit)) (elements_in units (bases.Array unit))))

-- of what has a structure or a function block as its type
abbrev pub unit_leaves : List Named → ℕ → ℕ → List LeafIn
unit_leaves units depth unit = leaves_in (optional_composition units (composition_within units depth) (unit_at units unit))

-- of a declared name
abbrev pub declared_leaves : List Named → ℕ → Declared → List LeafIn
declared_leaves units depth v = leaves_in (declared_composition units (composition_within units depth) v)

-- of members of a whole of this name
abbrev pub member_leaves : List Named → ℕ → List ℕ → List Declared → List LeafIn
member_leaves units depth name vs = members_in name (members_by units (composition_within units depth) vs)

-- of the variables of the program
abbrev pub variable_leaves : List Named → ℕ → List ℕ → List Declared → List LeafIn
variable_leaves units depth name vs = variables_in name (members_by units (composition_within units depth) vs)

-- ---- which declared names are listed

-- these names list the same leaves as those, through no more units than there are
pub record ListsTheSame (units : List Named) (these those : List Declared) : Type 0 where
  pub members : (depth : ℕ) (name : List ℕ) → depth ≤ suc (length units) → member_leaves units depth name these ≡ member_leaves units depth name those
  pub variables : (depth : ℕ) (name : List ℕ) → depth ≤ suc (length units) → variable_leaves units depth name these ≡ variable_leaves units depth name those

-- of each unit some that list the same as all that it declares
pub record AreRows (units : List Named) (rows : List (List Declared)) : Type 0 where
  pub len : length rows ≡ length units
  pub each : (i : ℕ) → i < length units → ListsTheSame units (get_or rows i []) (names_at units i)

-- of each unit some that list the same as all that it declares, with what stands for their types
pub record AreMembers (units : List Named) (members : List (List MemberView)) : Type 0 where
  pub rows : AreRows units (map declared_of members)
  pub each : All (All (IsMember units)) members

-- the table has the sizes of the types of the text
abbrev pub IsSieve : Sieve → Type 0
IsSieve sieve = (i : ℕ) → IsSized (units_of sieve.tables.now) sieve.sizes.now (type_at (units_of sieve.tables.now) i)

-- ---- the tables of a text

-- the units of the text that is walked through
abbrev pub units_in : Walk → List Named
units_in walk = units_of walk.tables.now

-- the tables have the initial values of the text, the names of its units in upper case, the declared names that are listed, and the parts
-- of the charts
pub record IsWalk (walk : Walk) : Type 0 where
  pub initials : AreInitials (units_in walk) walk.initials.now
  pub names : walk.names.now ≡ map (λ u. raised u.name.spelling) (units_in walk)
  pub members : AreMembers (units_in walk) walk.members.now
  pub charts : walk.charts.now ≡ map (λ u. parts_of u.declares) (units_in walk)
