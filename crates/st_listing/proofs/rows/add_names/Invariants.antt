use Rattle.std.proofs.Common.{◌≡◌, ◌++◌, map, take}
use Rattle.std.specs.Option.{option_map}
use Rattle.st_types.specs.Names.{Declared}
use Rattle.st_listing.proofs.rows.add_names.Given as goal

-- the names so far
abbrev pub invariant-names : goal.invariant-names
invariant-names l = record {
  names : l.rows ≡ l.initial.rows ++ map {B = Declared} (λ n. record { name = n; kind = l.kind; specification = l.declaration.specification; initial = l.declaration.initial }) (take l.name-index l.name-items);
  written : option_map (λ one. one.value) l.written ≡ l.declaration.initial;
}
