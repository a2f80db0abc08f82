use Rattle.std.proofs.Common.{◌≡◌, ◌++◌, drop}
use Rattle.st_faults.specs.Faults.{offer_all}
use Rattle.st_check_units.specs.Repeats.{repeated, spellings}
use Rattle.st_check_units.specs.Units.{variable_names}
use Rattle.st_check_units.proofs.repeats.check_variable_names.Given as goal

-- what is left gives what all give
abbrev pub invariant-loop-block : goal.invariant-loop-block
invariant-loop-block l = record {
  first : offer_all l.first (repeated l.seen (variable_names (drop l.block-index l.blocks))) ≡ offer_all l.initial.first (repeated l.initial.seen (variable_names l.blocks));
  seen : l.seen ++ spellings (variable_names (drop l.block-index l.blocks)) ≡ l.initial.seen ++ spellings (variable_names l.blocks);
}
