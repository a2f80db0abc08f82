use Rattle.st_lines.proofs.CommandLemmas.{asked_in_parts, ends_whole, whole_in_parts}
use Rattle.st_lines.proofs.laws.commands_come_in_parts.Goals as goal

pub returns-clause-asked : goal.returns-clause-asked
returns-clause-asked c = asked_in_parts

pub returns-clause-whole : goal.returns-clause-whole
returns-clause-whole c = whole_in_parts

pub returns-clause-ends : goal.returns-clause-ends
returns-clause-ends c = ends_whole
