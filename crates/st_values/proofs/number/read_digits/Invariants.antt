use Rattle.std.proofs.Common.{◌≡◌, ◌≤◌, ◌^◌, drop}
use Rattle.std.specs.Prelude.{option_map}
use Rattle.st_values.specs.Numbers.{capped, digits_read}
use Rattle.st_values.proofs.NumberLemmas.{rest_read}
use Rattle.st_values.proofs.number.read_digits.Given as goal

-- the number so far, and what the rest makes of it
abbrev pub invariant-loop-byte : goal.invariant-loop-byte
invariant-loop-byte l = record {
  small : l.number ≤ 2 ^ 64;
  told : rest_read l.base l.after_digit l.number (drop l.byte-index l.text) ≡ option_map capped (digits_read l.base l.text);
}
