use Rattle.std.proofs.Common.{List, arith}
use Rattle.st_values.specs.declared.value.Value.{Value}
use Rattle.st_memory.specs.Moves.{saved_bytes}
use Rattle.st_memory.specs.Packed.{decoded, length-decoded}
use Rattle.st_memory.proofs.Moved.{dropped_more}
use Rattle.st_memory.proofs.packed.carrying.dropped_bytes.Goals as goal

pub loop-place-preserved : goal.loop-place-preserved
loop-place-preserved c =
    let values : List Value = decoded c.args.old.now c.args.bytes.now in
    record {
      within = omega (arith, c.next_target-run.ensures.within);
      bytes = dropped_more c.args.plan.now.targets values c.loop-place.place c.next_target-run.result.first c.next_target-run.result.to c.next_target-run.result.count c.loop-place.dropped.items c.push_run.new.to.items (saved_bytes c.args.plan.now.targets values)
          c.next_target-run.ensures.after c.next_target-run.ensures.within (omega (arith, c.next_target-run.ensures.within, c.requires.count, length-decoded c.args.old.now c.args.bytes.now)) c.next_target-run.ensures.gap c.next_target-run.ensures.kept c.loop-place.invariant.bytes c.in_ok-push_run.ensures;
    }
