use Rattle.std.proofs.Common.{◌≡◌, ◌||◌, drop, false, not}
use Rattle.st_faults.specs.Faults.{offer_all}
use Rattle.st_check_expressions.specs.Known.{is_empty}
use Rattle.st_check_units.specs.Charts.{further_faults, initial_steps}
use Rattle.st_check_units.proofs.charts.check_initial_steps.Given as goal

-- what is left gives what all give
abbrev pub invariant-loop-element : goal.invariant-loop-element
invariant-loop-element l = record {
  first : offer_all l.first (further_faults l.has_initial (initial_steps (drop l.element-index l.elements))) ≡ offer_all l.initial.first (further_faults false (initial_steps l.elements));
  has_initial : (l.has_initial || not (is_empty (initial_steps (drop l.element-index l.elements)))) ≡ not (is_empty (initial_steps l.elements));
}
