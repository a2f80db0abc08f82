use Rattle.std.proofs.Common.{◌≡◌, drop}
use Rattle.std.specs.List.{flat_map}
use Rattle.st_types.specs.Standard.{conversion, entry_named}
use Rattle.st_types.proofs.standard.conversion_among.Given as goal

-- what is left decides
abbrev pub invariant-loop-from : goal.invariant-loop-from
invariant-loop-from l =
    entry_named (flat_map (λ x. flat_map (conversion x) l.types) (drop l.from-index l.types)) l.name ≡ entry_named (flat_map (λ x. flat_map (conversion x) l.types) l.types) l.name
