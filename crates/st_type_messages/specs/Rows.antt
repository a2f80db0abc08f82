-- The table of what is said.
use Rattle.std.specs.Prelude.{ℕ, List, map}
use Rattle.st_type_messages.specs.declared.cause.Cause.{Cause}
use Rattle.st_type_messages.specs.declared.rows.TheConstants.{ROWS}

-- the rows: a cause, what is wrong, and a line below
abbrev pub rows : List (Cause × List ℕ × List ℕ)
rows = map (λ row. (row.0, row.1.now, row.2.now)) ROWS

-- the causes, in the order of their rows
abbrev pub causes : List Cause
causes = map (λ row. row.0) ROWS
