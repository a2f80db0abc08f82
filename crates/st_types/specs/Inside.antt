-- What the fields of tables hold.
use Rattle.std.specs.Prelude.{ℕ, ◌≡◌, List, Option, map, get_or}
use Rattle.std.specs.Option.{option_map}
use Rattle.st_tree.specs.declared.tree.unit.TypeDeclaration.{TypeDeclaration}
use Rattle.st_types.specs.Names.{Declares, Named, named, unit_at}
use Rattle.st_types.specs.Names as names
use Rattle.st_types.specs.Types.{type_at}
use Rattle.st_types.specs.declared.base.Base.TheVariants as bases
use Rattle.st_types.specs.declared.types.TypeTable.TheInside.{Inside as TypesInside}
use Rattle.st_types.specs.declared.unit.NamedUnit.{NamedUnit}
use Rattle.st_types.specs.declared.unit.UnitKind.{UnitKind}
use Rattle.st_types.specs.declared.unit.UnitKind.TheVariants as kinds

-- what a unit declares
abbrev pub declared_by : UnitKind → Declares
declared_by (kinds.Type t) = names.type t.now
declared_by (kinds.Function f) = names.function f.now
declared_by (kinds.Block b) = names.block b.now
declared_by (kinds.Program p) = names.program p.now

abbrev pub named_by : NamedUnit → Named
named_by unit = named unit.name.now (declared_by unit.kind)

-- what the unit of this number declares
abbrev pub declares_at : List Named → ℕ → Option Declares
declares_at units i = option_map (λ u. u.declares) (unit_at units i)

-- the unit of a declared type
abbrev pub type_unit : TypeDeclaration → Named
type_unit d = named d.name (names.type d.declared)

-- ---- units, by number and by name

abbrev pub units_seen : TypesInside → List Named
units_seen table = map named_by table.units.items

pub record IsTypeTable (table : TypesInside) : Type 0 where
  pub names : table.names ≡ map (λ u. u.name.spelling) (map named_by table.units.items)
  pub bases : (i : ℕ) → get_or table.bases.items i bases.Unknown ≡ type_at (map named_by table.units.items) i
