use Rattle.st_compile.proofs.OneTerm.{term_one}
use Rattle.st_compile.proofs.typing.strict_terms_are_one.Goals as goal

pub returns : goal.returns
returns c = term_one
