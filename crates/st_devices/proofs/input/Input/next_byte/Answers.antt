use Rattle.std.proofs.Common.{◌<◌, arith, length}
use Rattle.st_devices.specs.Inputs.{pending}
use Rattle.st_devices.proofs.TakingLemmas.{takes_unread}
use Rattle.st_devices.proofs.input.Input.next_byte.Goals as goal

pub returns-clause-bytes : goal.returns-clause-bytes
returns-clause-bytes g c =
    let filled = c.fill.new.self in
    let some : filled.at < filled.end = omega (arith, filled.ordered, c.if-self.false) in
    let within : filled.at < length filled.buffer.items = omega (arith, filled.within, filled.size, filled.buffer.ok.0) in
    takes_unread filled.buffer.items filled.at filled.end c.index-byte.result.now filled.at_end (pending c.args.self.now (g.R.Source.rest c.args.source.now)) (g.R.Source.rest c.fill.new.source)
    some within c.index-byte.ensures c.in_ok-fill.ensures.bytes
