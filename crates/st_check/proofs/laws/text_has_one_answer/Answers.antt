use Rattle.st_check.proofs.Deciding.{is_decided}
use Rattle.st_check.proofs.Firsts.{accepted_once, first_is_not_accepted, first_is_one, missing_is_not_accepted, missing_is_not_first}
use Rattle.st_check.proofs.laws.text_has_one_answer.Goals as goal

pub returns-clause-decided : goal.returns-clause-decided
returns-clause-decided c = is_decided

pub returns-clause-first : goal.returns-clause-first
returns-clause-first c = first_is_not_accepted

pub returns-clause-missing : goal.returns-clause-missing
returns-clause-missing c = missing_is_not_accepted

pub returns-clause-fault : goal.returns-clause-fault
returns-clause-fault c = missing_is_not_first

pub returns-clause-number : goal.returns-clause-number
returns-clause-number c = accepted_once

pub returns-clause-token : goal.returns-clause-token
returns-clause-token c = first_is_one
