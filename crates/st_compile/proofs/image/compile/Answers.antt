use Rattle.st_compile.proofs.Typed.{typed_code}
use Rattle.st_compile.proofs.image.compile.Goals as goal

pub returns-clause-typed : goal.returns-clause-typed
returns-clause-typed c = typed_code c.typings_are_one.ensures c.args.program (c.checked_programs_are_typed.ensures c.args.program c.main-main.ensures.checked)
