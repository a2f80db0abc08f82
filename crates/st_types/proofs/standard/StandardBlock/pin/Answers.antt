use Rattle.st_types.proofs.Pins.{pin_found}
use Rattle.st_types.proofs.standard.StandardBlock.pin.Goals as goal

pub returns : goal.returns
returns c = pin_found _ _ c.args.name.now _ c.pins.ensures c.first_named.ensures
