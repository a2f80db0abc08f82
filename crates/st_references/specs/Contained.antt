-- The names of types in declarations, one for each name that is declared.
use Rattle.std.specs.Prelude.{ℕ, List}
use Rattle.std.specs.List.{flat_map}
use Rattle.st_tree.specs.declared.tree.declaration.Declaration.{Declaration}
use Rattle.st_tree.specs.declared.tree.declaration.VarBlock.{VarBlock}
use Rattle.st_references.specs.References.{specified_names}

abbrev pub declaration_names : Declaration → List (List ℕ)
declaration_names d = flat_map (λ name. specified_names d.specification) d.names

abbrev pub block_names : VarBlock → List (List ℕ)
block_names b = flat_map declaration_names b.declarations
