-- Declared names that aren't constants.
use Rattle.std.specs.Prelude.{◌≡◌, false}
use Rattle.std.specs.Option.{option_map}
use Rattle.st_tree.specs.Kinds.{is_constant}
use Rattle.st_types.specs.Names.{Declared}
use Rattle.st_listing.specs.declared.rows.Row.TheInside.{Inside}

-- the name, as it is declared
abbrev pub row_seen : Inside → Declared
row_seen row = record { name = row.name.now; kind = row.kind; specification = row.specification.now; initial = option_map (λ written. written.value) row.written }

abbrev pub IsVariable : Inside → Type 0
IsVariable row = is_constant row.kind ≡ false
