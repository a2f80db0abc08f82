use Rattle.st_parser.proofs.ParserLemmas.{takes_kept}
use Rattle.st_parser.specs.Reader.Expressions as spec
use Rattle.st_parser.proofs.expression.expression.Goals as goal

pub returns : goal.returns
unfolding spec.expression
returns c = takes_kept _ c.binary.result c.boxed.result _ _ c.boxed.ensures.ok c.boxed.ensures.err c.binary.ensures
