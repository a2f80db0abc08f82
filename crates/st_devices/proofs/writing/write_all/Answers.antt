use Rattle.std.proofs.Common.{◌≡◌, ◌-◌, length, take, drop, arith, length-drop}
use Rattle.std.proofs.KnownBytes.{Appends-trans}
use Rattle.std.proofs.Math.Seq.{take-add}
use Rattle.std.proofs.lemmas.Grind.{common_steps}
use Rattle.st_devices.proofs.writing.write_all.Goals as goal

pub loop-at-preserved : goal.loop-at-preserved
loop-at-preserved g c =
    let at = c.loop-at.at in
    let bytes = c.args.bytes.now in
    let whole : take (length bytes - at) (drop at bytes) ≡ drop at bytes = grind (arith, common_steps) in
    let bound = rw whole at c.in_ok-at.ensures.bound in
    record {
      within = omega (arith, bound, length-drop at bytes, c.loop-at-test.true);
      told = rw (take-add at c.in_ok-at.field-0 bytes) (Appends-trans (g.W.Sink.taken c.args.sink.now) (g.W.Sink.taken c.loop-at.sink) (g.W.Sink.taken c.write_some.new.self)
          (take at bytes) (take c.in_ok-at.field-0 (drop at bytes)) c.loop-at.invariant.told (rw whole at c.in_ok-at.ensures.bytes));
      works = c.in_ok-at.ensures.failed;
    }
