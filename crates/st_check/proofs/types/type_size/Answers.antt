use Rattle.st_check.proofs.Parts.{elementary_size, standard_size, unknown_size}
use Rattle.st_check.proofs.types.type_size.Goals as goal

pub returns-in-Unknown : goal.returns-in-Unknown
returns-in-Unknown c = λ units sized. unknown_size units c.args.base c.none.result c.in-Unknown.is c.none.ensures

pub returns-in-Elementary : goal.returns-in-Elementary
returns-in-Elementary c = λ units sized. elementary_size units c.args.base c.in-Elementary.elem c.leaf_size.result c.in-Elementary.is c.leaf_size.ensures

pub returns-in-Standard : goal.returns-in-Standard
returns-in-Standard c = λ units sized. standard_size units c.args.base c.in-Standard.block c.standard_size.result c.in-Standard.is c.standard_size.ensures
