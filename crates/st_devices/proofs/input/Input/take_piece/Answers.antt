use Rattle.std.proofs.Common.{◌<◌, ◌≤◌, ◌+◌, ◌∙◌, arith, length, refl}
use Rattle.std.specs.Prelude.{nat_lt}
use Rattle.st_devices.specs.Inputs.{pending}
use Rattle.st_devices.proofs.PieceLemmas.{bool_step, takes_piece}
use Rattle.st_devices.proofs.input.Input.take_piece.Goals as goal

pub returns-clause-bytes : goal.returns-clause-bytes
returns-clause-bytes g c =
    let filled = c.fill.new.self in
    let some : filled.at < filled.end = omega (arith, filled.ordered, c.if-self.false) in
    let within : filled.end ≤ length filled.buffer.items = omega (arith, filled.within, filled.size, filled.buffer.ok.0) in
    takes_piece filled.buffer.items filled.at filled.end c.bytes_before_lf.result c.from.result filled.at_end _ c.keep-is_cut.result c.args.line.now.items c.keep-is_cut.new.line.items
    (pending c.args.self.now (g.R.Source.rest c.args.source.now)) (g.R.Source.rest c.fill.new.source)
    some within (rw c.deref.ensures.value at c.bytes_before_lf.ensures.value) (rw c.deref.ensures.value at c.bytes_before_lf.ensures.within) refl (c.from.ensures ∙ bool_step (nat_lt (filled.at + c.bytes_before_lf.result) filled.end)) (rw c.deref-2.ensures.value at c.keep-is_cut.ensures.line) (rw c.deref-2.ensures.value at c.keep-is_cut.ensures.cut) c.in_ok-fill.ensures.bytes
