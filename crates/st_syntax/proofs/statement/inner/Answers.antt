use Rattle.st_syntax.proofs.ReaderLemmas.{deeper_expression}
use Rattle.st_syntax.proofs.statement.inner.Goals as goal

pub returns : goal.returns
returns c = rw (deeper_expression c.args.depth_left c.requires) c.expression.ensures
