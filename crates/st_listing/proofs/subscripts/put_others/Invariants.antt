use Rattle.std.proofs.Common.{◌≡◌, ◌++◌, codes, take}
use Rattle.std.specs.Fmt.{signed_decimal}
use Rattle.std.specs.List.{flat_map}
use Rattle.std.specs.String.{string_bytes}
use Rattle.st_leaves.specs.Subscripts.{value_of}
use Rattle.st_listing.proofs.subscripts.put_others.Given as goal

-- with the numbers so far
abbrev pub invariant-others : goal.invariant-others
invariant-others l = string_bytes l.text ≡ string_bytes l.initial.text ++ flat_map (λ n. codes "," ++ signed_decimal (value_of n)) (take l.number-index l.numbers)
