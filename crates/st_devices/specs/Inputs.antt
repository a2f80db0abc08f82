-- The bytes that are still to be taken from an input over its source.
use Rattle.std.specs.Prelude.{ℕ, Bool, ◌*◌, ◌+◌, ◌-◌, ◌%◌, ◌^◌, ◌==◌, List, Option, Some, None, slice_range, if◌then◌else◌}
use Rattle.std.specs.Io.KnownBytes.{prepend_known}
use Rattle.st_devices.specs.declared.input.Input.{Input}

-- what was read and is not taken yet
abbrev pub unread : Input → List ℕ
unread input = slice_range input.buffer.items input.at input.end

-- the source has answered that it has no more
abbrev pub has_ended : Input → Bool
has_ended input = input.at_end

-- what is unread, and what the source still has: after its end nothing is read any more, so that this is known
abbrev pub pending : Input → Option (List ℕ) → Option (List ℕ)
pending input rest = if input.at_end then Some (unread input) else prepend_known (unread input) rest

-- a number that falls with each byte that is taken
abbrev pub left : Input → ℕ → ℕ
left input reads_left = reads_left * 4096 + (input.end - input.at)

-- how many lines were ended, modulo 2^64
abbrev pub lines_of : Input → ℕ
lines_of input = input.lines

-- the same once a byte is taken, or there is none
abbrev pub lines_after : ℕ → Option ℕ → ℕ
lines_after lines None = lines
lines_after lines (Some byte) = (lines + (if byte == 10 then 1 else 0)) % 2 ^ 64
