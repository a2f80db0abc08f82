use Rattle.st_references.proofs.Orders.{references_are_before, reached_is_before, none_reaches_itself}
use Rattle.st_references.proofs.laws.ordered_has_no_cycle.Goals as goal

pub returns-clause-places : goal.returns-clause-places
returns-clause-places c = references_are_before

pub returns-clause-reached : goal.returns-clause-reached
returns-clause-reached c = reached_is_before

pub returns-clause-none : goal.returns-clause-none
returns-clause-none c = none_reaches_itself
