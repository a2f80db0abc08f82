use Rattle.std.proofs.Common.{◌≡◌, ◌++◌, drop}
use Rattle.st_faults.specs.Faults.{offer_all}
use Rattle.st_check_units.specs.Declarations.{declared_names}
use Rattle.st_check_units.specs.Repeats.{repeated, spellings}
use Rattle.st_check_units.proofs.repeats.check_declared_names.Given as goal

-- what is left gives what all give
abbrev pub invariant-loop-declaration : goal.invariant-loop-declaration
invariant-loop-declaration l = record {
  first : offer_all l.first (repeated l.seen (declared_names (drop l.declaration-index l.declarations))) ≡ offer_all l.initial.first (repeated l.initial.seen (declared_names l.declarations));
  seen : l.seen ++ spellings (declared_names (drop l.declaration-index l.declarations)) ≡ l.initial.seen ++ spellings (declared_names l.declarations);
}
