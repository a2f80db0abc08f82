-- What a unit stands for as a type, before the types that it names are known.
use Rattle.std.specs.Prelude.{ℕ, zero, suc, ◌<◌, List, get_or, map, Option, Some, None}
use Rattle.st_types.specs.Tables.{first_of}
use Rattle.st_tree.specs.declared.tree.declaration.DeclaredType.TheVariants as declared_types
use Rattle.st_tree.specs.declared.tree.declaration.Specification.{Specification}
use Rattle.st_tree.specs.declared.tree.declaration.Specification.TheVariants as specifications
use Rattle.st_tree.specs.declared.tree.declaration.TypeName.{TypeName}
use Rattle.st_tree.specs.declared.tree.declaration.TypeName.TheVariants as type_names
use Rattle.st_types.specs.Names.{Declares, Named}
use Rattle.st_types.specs.Names as names
use Rattle.st_types.specs.Standard.{standard_of}
use Rattle.st_types.specs.Types.{array_of, without_instance}
use Rattle.st_types.specs.declared.base.Base.{Base}
use Rattle.st_types.specs.declared.base.Base.TheVariants as bases
use Rattle.st_types.specs.declared.link.Link.{Link}
use Rattle.st_types.specs.declared.link.Link.TheVariants as links
use Rattle.st_types.specs.declared.standard.Standard.{Standard}
use Rattle.st_types.specs.declared.standard.Standard.TheVariants as standards

-- the names of units, in order
abbrev pub names_of : List Named → List (List ℕ)
names_of units = map (λ u. u.name.spelling) units

-- a name that is standard, or else the first unit of this name
abbrev pub target : Option Standard → Option ℕ → Link
target (Some (standards.Block b)) i = links.Known (bases.Standard b)
target (Some _) i = links.Known bases.Unknown
target None None = links.Known bases.Unknown
target None (Some i) = links.SameAs i

abbrev pub name_link : List (List ℕ) → TypeName → Link
name_link units (type_names.Elementary position e) = links.Known (bases.Elementary e)
name_link units (type_names.Declared identifier) = target (standard_of identifier.spelling) (first_of units identifier.spelling)

-- of a type that is declared as another one
abbrev pub alias_link : Link → Link
alias_link (links.Known base) = links.Known (without_instance base)
alias_link link = link

-- of an array whose type has this number
abbrev pub array_link : ℕ → Link → Link
array_link i (links.Known base) = links.Known (array_of i base)
array_link i (links.SameAs j) = links.ArrayOf j
array_link i (links.ArrayOf j) = links.ArrayOf j

abbrev pub derived_link : List (List ℕ) → ℕ → Specification → Link
derived_link units i (specifications.Simple name) = alias_link (name_link units name)
derived_link units i (specifications.Array position ranges name) = array_link i (name_link units name)

abbrev pub unit_link : List (List ℕ) → ℕ → Declares → Link
unit_link units i (names.type (declared_types.Derived specification initial)) = derived_link units i specification
unit_link units i (names.type (declared_types.Structure position members)) = links.Known (bases.Structure i)
unit_link units i (names.block b) = links.Known (bases.Block i)
unit_link units i _ = links.Known bases.Unknown

abbrev pub optional_link : List (List ℕ) → ℕ → Option Named → Link
optional_link units i None = links.Known bases.Unknown
optional_link units i (Some unit) = unit_link units i unit.declares

-- the link of the unit of this number
abbrev pub link_at : List Link → ℕ → Link
link_at all i = get_or all i (links.Known bases.Unknown)

-- it leads to one of so many units
abbrev pub LeadsBelow : ℕ → Link → Type 0
LeadsBelow n (links.Known base) = Unit {0}
LeadsBelow n (links.SameAs j) = j < n
LeadsBelow n (links.ArrayOf j) = j < n

-- what unit i stands for, where the unit at the link stands for this type
abbrev pub through : Link → ℕ → Base → Base
through (links.Known base) i other = base
through (links.SameAs j) i other = without_instance other
through (links.ArrayOf j) i other = array_of i other

-- ---- the types at the ends of links

-- what unit i stands for, where others are looked up by `type_at`
abbrev pub follow : (ℕ → Base) → ℕ → Link → Base
follow type_at i (links.Known base) = base
follow type_at i (links.SameAs j) = without_instance (type_at j)
follow type_at i (links.ArrayOf j) = array_of i (type_at j)

-- through at most so many links
unfoldable pub link_within : List Link → ℕ → ℕ → Base
link_within all zero i = bases.Unknown
link_within all (suc more) i = follow (link_within all more) i (link_at all i)
