use Rattle.st_types.specs.Names.{units_of}
use Rattle.st_check.specs.Programs.{main_of, text_of}
use Rattle.st_check.proofs.DistinctNames.{distinct_of}
use Rattle.st_check.proofs.UnitsApart.{units_apart}
use Rattle.st_check.proofs.laws.checked_program_has_distinct_names.Goals as goal

pub returns : goal.returns
returns c program checked unit found =
    let apart = units_apart (units_of (text_of program)) checked.faultless in
    distinct_of (units_of (text_of program)) apart unit.declares (apart (main_of program) unit found)
