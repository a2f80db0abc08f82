-- Declared names, as tables hold them.
use Rattle.std.specs.Prelude.{ℕ, ◌≡◌, List, [], map}
use Rattle.std.specs.Option.{option_map_or}
use Rattle.st_tree.specs.declared.tree.declaration.DeclaredType.TheVariants as declared_types
use Rattle.st_types.specs.Inside.{declares_at}
use Rattle.st_types.specs.Names.{Declared, Declares, Named, members_of, variables_in}
use Rattle.st_types.specs.Names as names
use Rattle.st_scopes.specs.declared.declaration.Declarations.TheInside.{Inside}
use Rattle.st_scopes.specs.declared.declaration.Declared.{Declared as Row}

-- one name of a declaration
abbrev pub seen : Row → Declared
seen row = record { name = row.name.now; kind = row.kind; specification = row.declaration.now.specification; initial = row.declaration.now.initial }

abbrev pub names_seen : Inside → List Declared
names_seen all = map seen all.items.items

-- the names of what is declared, in order
abbrev pub spellings_of : List Declared → List (List ℕ)
spellings_of all = map (λ d. d.name.spelling) all

-- the table has the names of what is declared
pub record AreDeclarations (all : Inside) : Type 0 where
  pub names : all.names ≡ spellings_of (map seen all.items.items)

-- what a unit declares: its variables, or the members of a structure
abbrev pub names_in : Declares → List Declared
names_in (names.type (declared_types.Structure position declarations)) = members_of declarations
names_in unit = variables_in unit

-- what the unit of this number declares
abbrev pub names_at : List Named → ℕ → List Declared
names_at units i = option_map_or names_in (declares_at units i) []
