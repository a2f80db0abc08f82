use Rattle.st_compile.proofs.Deeper.{more_units}
use Rattle.st_compile.proofs.Turns.{more_count_turns, more_repeat_turns, more_while_turns}
use Rattle.st_compile.proofs.calls.bounds_are_never_met.Goals as goal

pub returns-clause-units : goal.returns-clause-units
returns-clause-units c = more_units

pub returns-clause-while_turns : goal.returns-clause-while_turns
returns-clause-while_turns c = more_while_turns

pub returns-clause-repeat_turns : goal.returns-clause-repeat_turns
returns-clause-repeat_turns c = more_repeat_turns

pub returns-clause-count_turns : goal.returns-clause-count_turns
returns-clause-count_turns c = more_count_turns
