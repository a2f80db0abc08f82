use Rattle.st_tokens.proofs.Reading.{one_list}
use Rattle.st_tokens.proofs.scan.tokens_are_one_list.Goals as goal

pub returns : goal.returns
returns c = λ a b h k. one_list h k
