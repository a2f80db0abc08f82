use Rattle.st_listing.proofs.Choices.{done_if_none}
use Rattle.st_listing.proofs.subscripts.Subscripts.is_done.Goals as goal

pub returns : goal.returns
returns c = done_if_none c.self.inside c.args.self.now c.self.view_is c.self.invariant
