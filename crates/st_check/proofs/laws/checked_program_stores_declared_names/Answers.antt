use Rattle.st_types.specs.Names.{units_of}
use Rattle.st_check.specs.Programs.{text_of}
use Rattle.st_check.proofs.NamesStored.{stored_declared}
use Rattle.st_check.proofs.laws.checked_program_stores_declared_names.Goals as goal

pub returns : goal.returns
returns c program checked i unit found = stored_declared (units_of (text_of program)) i unit checked.faultless found
