use Rattle.st_bounds.proofs.SmallFunctions.{small}
use Rattle.st_bounds.proofs.laws.short_programs_have_small_functions.Goals as goal

pub returns : goal.returns
returns c = small
