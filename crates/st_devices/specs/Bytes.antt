-- What contracts see of a source over memory.
use Rattle.std.specs.Prelude.{ℕ, Bool, List}
use Rattle.st_devices.specs.declared.memory_source.Bytes.{Bytes}

-- the bytes that a source still has to give
abbrev pub rest_of : Bytes → List ℕ
rest_of source = source.rest.now

-- the size of its pieces
abbrev pub piece_of : Bytes → ℕ
piece_of source = source.piece

-- the calls before it fails
abbrev pub good_calls_of : Bytes → ℕ
good_calls_of source = source.good_calls

abbrev pub has_failed_of : Bytes → Bool
has_failed_of source = source.failed
