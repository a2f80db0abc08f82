use Rattle.std.proofs.Common.{◌≡◌, ◌++◌, map, take}
use Rattle.st_types.specs.Names.{Declared}
use Rattle.st_scopes.proofs.declaration.Declarations.add_names.Given as goal

-- the names so far
abbrev pub invariant-loop-name : goal.invariant-loop-name
invariant-loop-name l =
    l.self ≡ l.initial.self ++ map {B = Declared} (λ n. record { name = n; kind = l.kind; specification = l.declaration.specification; initial = l.declaration.initial }) (take l.name-index l.name-items)
