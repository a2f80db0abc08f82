-- What the functions of a checked program call stands before them, and they give what their bodies give.
use Rattle.std.proofs.Common.{arith}
use Rattle.st_references.proofs.Contents.{order_len}
use Rattle.st_check.specs.Programs.{level_in, order_of, text_of}
use Rattle.st_types.specs.Names.{units_of}
use Rattle.st_meaning.proofs.CalledAlone.{calls_are_those_of_their_bodies}
use Rattle.st_compile.specs.Checked.{CheckedCallsAreThoseOfTheirBodies, CheckedFunctionsCallBelow}
use Rattle.st_compile.proofs.Elementary.{functions_have_no_instances}
use Rattle.st_compile.proofs.LevelLemmas.{level_limit, refer_below}
use Rattle.st_compile.proofs.Ranks.{functions_call_below}

pub checked_functions_call_below : CheckedFunctionsCallBelow
checked_functions_call_below program checked =
    functions_call_below (units_of (text_of program)) (level_in (order_of program)) (refer_below (units_of (text_of program)) (order_of program) checked.ordered)
    (functions_have_no_instances program checked)

pub checked_calls_are_those_of_their_bodies : CheckedCallsAreThoseOfTheirBodies
checked_calls_are_those_of_their_bodies program checked number inputs left =
    calls_are_those_of_their_bodies (units_of (text_of program)) (level_in (order_of program)) (checked_functions_call_below program checked) number
    (omega (arith, level_limit (order_of program) number, order_len (units_of (text_of program)) (order_of program) checked.ordered)) inputs left
