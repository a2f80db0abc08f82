use Rattle.std.proofs.Common.{◌≡◌, drop}
use Rattle.std.specs.List.{flat_map}
use Rattle.st_faults.specs.Faults.{offer_all}
use Rattle.st_check_statements.specs.Statements.{label_faults}
use Rattle.st_check_statements.proofs.labels.check_labels.Given as goal

-- what is left to be offered gives what all give
abbrev pub invariant-labels : goal.invariant-labels
invariant-labels l =
    offer_all l.first (flat_map (label_faults l.elem) (drop l.label-index l.labels)) ≡ offer_all l.initial.first (flat_map (label_faults l.elem) l.labels)
