use Rattle.st_syntax.proofs.Top.{one_text}
use Rattle.st_syntax.proofs.text.one_reading.Goals as goal

pub returns : goal.returns
returns c = λ text us vs a b. one_text text us vs a b
