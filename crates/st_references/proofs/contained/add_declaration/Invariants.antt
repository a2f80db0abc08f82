use Rattle.std.proofs.Common.{◌≡◌, ◌++◌, drop}
use Rattle.std.specs.List.{flat_map}
use Rattle.st_types.specs.Names.{units_of}
use Rattle.st_references.specs.References.{contained, specified_names}
use Rattle.st_references.proofs.contained.add_declaration.Given as goal

-- with what is left the row becomes what it becomes with all
abbrev pub invariant-items : goal.invariant-items
invariant-items l =
    l.row ++ flat_map (contained (units_of l.tables)) (flat_map (λ name. specified_names l.declaration.specification) (drop l._name-index l._name-items))
    ≡ l.initial.row ++ flat_map (contained (units_of l.tables)) (flat_map (λ name. specified_names l.declaration.specification) l._name-items)
