use Rattle.st_control.proofs.Open.{opens_back}
use Rattle.st_control.proofs.undoing.move_back.Goals as goal

pub returns-in-Ok-clause-open : goal.returns-in-Ok-clause-open
returns-in-Ok-clause-open g c =
    opens_back c.back.result c.args.old.now c.args.new.now c.in-Ok.plan (g.M.Memory.content c.args.new.now c.args.memory.now) (g.M.Memory.content c.args.old.now c.back.new.self)
    c.args.saved.now c.in-Ok.ensures.pairing c.requires.fits.opens c.back.ensures.unmoved
