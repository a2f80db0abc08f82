use Rattle.st_parser.proofs.Loops.{reads_alone}
use Rattle.st_parser.proofs.list.many.Goals as goal

pub returns-clause-read : goal.returns-clause-read
returns-clause-read g c = λ test p tests reads. reads_alone _ _ _ _ c.new.ensures (c.more.ensures.read test p tests reads)
