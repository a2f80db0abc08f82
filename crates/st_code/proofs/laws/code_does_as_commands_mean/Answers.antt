use Rattle.st_meaning.proofs.Places.{places_have_leaves}
use Rattle.st_meaning.proofs.TermValues.{places_take_steps, terms_give_values}
use Rattle.st_code.proofs.ChartRuns.{does_as_commands_mean}
use Rattle.st_code.proofs.laws.code_does_as_commands_mean.Goals as goal

pub returns : goal.returns
returns c = does_as_commands_mean terms_give_values places_have_leaves places_take_steps
