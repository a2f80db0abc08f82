use Rattle.std.proofs.Common.{subst}
use Rattle.st_check.specs.Recursions.{IsOfUnits}
use Rattle.st_check.proofs.Passing.{first_of_all}
use Rattle.st_explain.proofs.finding.first_finding.Goals as goal

pub returns-in-Err-Fault : goal.returns-in-Err-Fault
returns-in-Err-Fault c =
    rw c.in-Err-Fault.field-0-is (first_of_all c.args.tables.now c.args.main.now c.in-Err-Fault.fault (subst (IsOfUnits c.args.tables.now) c.in-Err-Fault.field-0-is c.in-Err-Fault.ensures.fault))
