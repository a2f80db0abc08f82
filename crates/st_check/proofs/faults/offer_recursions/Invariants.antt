use Rattle.std.proofs.Common.{◌≡◌, drop}
use Rattle.st_faults.specs.Faults.{offer_all}
use Rattle.st_types.specs.Names.{units_of}
use Rattle.st_check.specs.Recursions.{recursions}
use Rattle.st_check.proofs.faults.offer_recursions.Given as goal

-- what is left gives what all give
abbrev pub invariant-loop-number : goal.invariant-loop-number
invariant-loop-number l = offer_all l.first (recursions (units_of l.tables) (drop l.number-index l.numbers)) ≡ offer_all l.initial.first (recursions (units_of l.tables) l.numbers)
