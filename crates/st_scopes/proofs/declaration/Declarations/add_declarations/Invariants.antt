use Rattle.std.proofs.Common.{◌≡◌, ◌++◌, take}
use Rattle.std.specs.List.{flat_map}
use Rattle.st_types.specs.Names.{declared_in}
use Rattle.st_scopes.proofs.declaration.Declarations.add_declarations.Given as goal

-- the names of the declarations so far
abbrev pub invariant-loop-declaration : goal.invariant-loop-declaration
invariant-loop-declaration l = l.self ≡ l.initial.self ++ flat_map (declared_in l.kind) (take l.declaration-index l.declarations)
