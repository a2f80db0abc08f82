use Rattle.st_tokens.proofs.Reading.{only_result}
use Rattle.st_tokens.proofs.scan.tokens.Goals as goal

pub returns-clause-only : goal.returns-clause-only
returns-clause-only c = λ found short has. only_result c.args.text.now found c.scan.result c.scan.ensures.found c.scan.ensures.fault short has
