use Rattle.st_check_statements.specs.Statements.{label_faults}
use Rattle.st_faults.proofs.Offers.{turn}
use Rattle.st_check_statements.proofs.labels.check_labels.Goals as goal

pub labels-preserved : goal.labels-preserved
labels-preserved c =
    turn (label_faults c.args.elem) c.args.labels.now c.labels.label-index c.label-item.result c.labels.first c.check_label.new.first _ c.labels-test.true c.label-item.is c.check_label.ensures c.labels.invariant
