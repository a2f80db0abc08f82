-- Durations: what is too much stays so.
use Rattle.std.proofs.Common.{◌≡◌, ℕ, Bool, true, false, List, drop, pos, slice_index, ◌==◌}
use Rattle.std.specs.Prelude.{Option, option_map, if◌then◌else◌}
use Rattle.std.specs.Str.{byte}
use Rattle.st_values.proofs.SignLemmas.{map-negative, map-pos}
use Rattle.st_values.specs.Durations.{interval_read, signed_interval_read}
use Rattle.st_values.specs.Numbers.{capped, capped_signed, negative}

if-capped : (p : Bool) (below above : Option ℕ) →
    option_map capped_signed (if p then option_map negative below else option_map pos above) ≡ (if p then option_map negative (option_map capped below) else option_map pos (option_map capped above))
if-capped true below above = map-negative below
if-capped false below above = map-pos above

-- a duration counts as what its magnitude counts as, with the sign
pub signed_interval_read-capped : (text : List ℕ) →
    option_map capped_signed (signed_interval_read text)
    ≡ (if slice_index text 0 == byte "-" then option_map negative (option_map capped (interval_read (drop 1 text)))
    else option_map pos (option_map capped (interval_read text)))
signed_interval_read-capped text = if-capped (slice_index text 0 == byte "-") (interval_read (drop 1 text)) (interval_read text)
