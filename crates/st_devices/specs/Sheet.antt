-- What contracts see of a sink over memory.
use Rattle.std.specs.Prelude.{ℕ, Bool, List, vec_capacity}
use Rattle.st_devices.specs.declared.memory_sink.Sheet.{Sheet}

-- the bytes that a sheet has taken
abbrev pub written_on : Sheet → List ℕ
written_on sheet = sheet.written.items

-- the bytes that it can hold without more memory
abbrev pub capacity_of : Sheet → ℕ
capacity_of sheet = vec_capacity sheet.written

-- the size of its pieces
abbrev pub piece_of : Sheet → ℕ
piece_of sheet = sheet.piece

-- the calls before it fails
abbrev pub good_calls_of : Sheet → ℕ
good_calls_of sheet = sheet.good_calls

abbrev pub has_failed_of : Sheet → Bool
has_failed_of sheet = sheet.failed
