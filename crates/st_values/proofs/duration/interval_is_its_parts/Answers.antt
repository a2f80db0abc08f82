use Rattle.st_values.proofs.Grammar.{interval_read-IsInterval}
use Rattle.st_values.proofs.duration.interval_is_its_parts.Goals as goal

pub returns : goal.returns
returns c = interval_read-IsInterval c.args.text.now
