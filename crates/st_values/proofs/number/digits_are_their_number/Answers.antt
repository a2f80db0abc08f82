use Rattle.st_values.proofs.Digits.{digits_are}
use Rattle.st_values.proofs.number.digits_are_their_number.Goals as goal

pub returns : goal.returns
returns c = digits_are c.args.base c.args.text.now c.requires
