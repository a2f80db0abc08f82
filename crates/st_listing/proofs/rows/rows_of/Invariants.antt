use Rattle.std.proofs.Common.{◌≡◌, ◌<◌, ◌≤◌, ℕ, [], get_or, length}
use Rattle.st_scopes.specs.Declarations.{names_at}
use Rattle.st_types.specs.Names.{units_of}
use Rattle.st_listing.specs.Walks.{ListsTheSame}
use Rattle.st_listing.proofs.rows.rows_of.Given as goal

-- of the units so far
abbrev pub invariant-each : goal.invariant-each
invariant-each l = record {
  within : l.unit-index ≤ length l.units;
  len : length l.rows.items ≡ l.unit-index;
  each : (i : ℕ) → i < l.unit-index → ListsTheSame (units_of l.tables) (get_or l.rows.items i []) (names_at (units_of l.tables) i);
}
