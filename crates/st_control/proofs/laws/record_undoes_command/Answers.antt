use Rattle.st_control.proofs.Records.{record_fits, record_undoes}
use Rattle.st_control.proofs.laws.record_undoes_command.Goals as goal

pub returns-clause-gives_back : goal.returns-clause-gives_back
returns-clause-gives_back c = record_undoes

pub returns-clause-fits : goal.returns-clause-fits
returns-clause-fits c = record_fits
