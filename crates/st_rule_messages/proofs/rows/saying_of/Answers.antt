use Rattle.st_messages.proofs.Telling.{row_listed}
use Rattle.st_rule_messages.specs.Rows.{rows}
use Rattle.st_rule_messages.proofs.rows.saying_of.Goals as goal

pub returns : goal.returns
returns c = row_listed rows c.row_number.result c.args.cause c.saying_at.result c.row_number.ensures.own c.saying_at.ensures
