use Rattle.std.proofs.Common.{◌≡◌, ◌++◌, drop}
use Rattle.st_faults.specs.Faults.{offer_all}
use Rattle.st_check_units.specs.Repeats.{repeated, spellings}
use Rattle.st_check_units.specs.Units.{chart_names}
use Rattle.st_check_units.proofs.repeats.check_chart_names.Given as goal

-- what is left gives what all give
abbrev pub invariant-loop-element : goal.invariant-loop-element
invariant-loop-element l = record {
  first : offer_all l.first (repeated l.seen (chart_names (drop l.element-index l.elements))) ≡ offer_all l.initial.first (repeated l.initial.seen (chart_names l.elements));
  seen : l.seen ++ spellings (chart_names (drop l.element-index l.elements)) ≡ l.initial.seen ++ spellings (chart_names l.elements);
}
