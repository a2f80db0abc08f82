use Rattle.std.proofs.Common.{◌≡◌, ◌++◌, drop}
use Rattle.st_faults.specs.Faults.{offer_all}
use Rattle.st_check_units.specs.Repeats.{repeated, spellings}
use Rattle.st_check_units.proofs.repeats.check_names.Given as goal

-- what is left gives what all give
abbrev pub invariant-loop-name : goal.invariant-loop-name
invariant-loop-name l = record {
  first : offer_all l.first (repeated l.seen (drop l.name-index l.names)) ≡ offer_all l.initial.first (repeated l.initial.seen l.names);
  seen : l.seen ++ spellings (drop l.name-index l.names) ≡ l.initial.seen ++ spellings l.names;
}
