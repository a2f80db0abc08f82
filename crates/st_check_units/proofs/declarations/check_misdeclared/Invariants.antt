use Rattle.std.proofs.Common.{◌≡◌, drop}
use Rattle.st_faults.specs.Faults.{offer_all}
use Rattle.st_check_units.specs.Declarations.{misdeclared_faults}
use Rattle.st_check_units.proofs.declarations.check_misdeclared.Given as goal

-- what is left gives what all give
abbrev pub invariant-loop-name : goal.invariant-loop-name
invariant-loop-name l = offer_all l.first (misdeclared_faults l.are_wrong (drop l.name-index l.names)) ≡ offer_all l.initial.first (misdeclared_faults l.are_wrong l.names)
