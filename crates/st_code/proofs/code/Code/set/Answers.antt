use Rattle.std.proofs.Common.{◌<◌, length, arith}
use Rattle.st_code.proofs.Beside.{length-beside, set-beside}
use Rattle.st_code.proofs.code.Code.set.Goals as goal

pub index_mut-requires : goal.index_mut-requires
index_mut-requires c =
    let below = rw (← c.self.view_is) at c.requires in
    omega (arith, below, c.self.inside.instrs.ok.0, length-beside c.self.inside.instrs.items c.self.inside.lines.items c.self.invariant)

pub index_mut-requires-2 : goal.index_mut-requires-2
index_mut-requires-2 c =
    let below = rw (← c.self.view_is) at c.requires in
    omega (arith, below, c.self.invariant, c.self.inside.instrs.ok.0, c.self.inside.lines.ok.0, length-beside c.self.inside.instrs.items c.self.inside.lines.items c.self.invariant)

pub returns : goal.returns
returns c =
    let below = rw (← c.self.view_is) at c.requires in
    let within : c.args.place < length c.self.inside.instrs.items = omega (arith, below, length-beside c.self.inside.instrs.items c.self.inside.lines.items c.self.invariant) in
    rw (← c.self.view_is) (set-beside _ _ c.args.place c.args.instr c.args.line c.self.invariant within)
