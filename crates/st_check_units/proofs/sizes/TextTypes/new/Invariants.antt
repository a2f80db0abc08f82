use Rattle.std.proofs.Common.{◌≡◌, ◌++◌, drop, map}
use Rattle.st_types.specs.Inside.{declared_by}
use Rattle.st_check_units.specs.Counted.{counted, declared_size}
use Rattle.st_check_units.proofs.sizes.TextTypes.new.Given as goal

-- what is left completes those so far
abbrev pub invariant-loop-unit : goal.invariant-loop-unit
invariant-loop-unit l =
    l.sizes.items ++ map (λ u. counted (declared_size (declared_by u.kind))) (drop l.unit-index l.units) ≡ map (λ u. counted (declared_size (declared_by u.kind))) l.units
