use Rattle.std.proofs.Common.{◌≡◌, ◌+◌, ◌≤◌, ◌∙◌, List, None, ap, arith, length, refl}
use Rattle.std.proofs.lemmas.List.{take_rest}
use Rattle.st_values.specs.declared.value.Value.{Value}
use Rattle.st_tree.specs.declared.leaf.Leaf.{Leaf}
use Rattle.st_memory.specs.Bytes.{read_bytes}
use Rattle.st_memory.specs.Packed.{decoded, length-decoded}
use Rattle.st_layout.specs.Pairs.{number_at}
use Rattle.st_memory.proofs.Moved.{unpacked_run}
use Rattle.st_layout.proofs.RunLists.{run_below}
use Rattle.st_memory.proofs.Unpacked.{unpacked_all, unpacked_dropped, unpacked_room}
use Rattle.st_memory.proofs.packed.returning.returned_bytes.Goals as goal

pub first_value-requires : goal.first_value-requires
first_value-requires c =
    let is : number_at c.args.plan.now.targets c.loop-leaf.leaf ≡ None = c.next_target-run.ensures.gap c.loop-leaf.leaf (omega arith) (omega arith) in
    let room = unpacked_room c.args.old.now c.args.plan.now.targets (decoded c.args.new.now c.args.bytes.now) c.args.saved.now c.loop-leaf.leaf c.loop-leaf.start c.loop-leaf.returned.items (omega (arith, c.next_target-run.ensures.within)) (omega (arith, c.next_target-run.ensures.within)) c.loop-leaf.invariant is in
    rw (c.at.ensures.value, take_rest c.args.saved.now c.loop-leaf.start) room.0

pub push_value-requires : goal.push_value-requires
push_value-requires c =
    let is : number_at c.args.plan.now.targets c.loop-leaf.leaf ≡ None = c.next_target-run.ensures.gap c.loop-leaf.leaf (omega arith) (omega arith) in
    let room = unpacked_room c.args.old.now c.args.plan.now.targets (decoded c.args.new.now c.args.bytes.now) c.args.saved.now c.loop-leaf.leaf c.loop-leaf.start c.loop-leaf.returned.items (omega (arith, c.next_target-run.ensures.within)) (omega (arith, c.next_target-run.ensures.within)) c.loop-leaf.invariant is in
    rw (c.first_value.ensures, take_rest c.args.saved.now c.loop-leaf.start, c.at.ensures.value) room.1

pub loop-leaf-preserved : goal.loop-leaf-preserved
loop-leaf-preserved c =
    let is : number_at c.args.plan.now.targets c.loop-leaf.leaf ≡ None = c.next_target-run.ensures.gap c.loop-leaf.leaf (omega arith) (omega arith) in
    unpacked_dropped c.args.old.now c.args.plan.now.targets (decoded c.args.new.now c.args.bytes.now) c.args.saved.now c.loop-leaf.leaf c.loop-leaf.start c.loop-leaf.returned.items (omega (arith, c.next_target-run.ensures.within)) (omega (arith, c.next_target-run.ensures.within)) c.loop-leaf.invariant
    (c.loop-leaf.start + c.width-start.result) c.width-start.result c.at.result.now.elem c.first_value.result c.push_value.new.bytes.items is
    (ap (λ (leaf : Leaf). leaf.elem) c.at.ensures.value) c.width-start.ensures.value refl
    (c.first_value.ensures ∙ ap (read_bytes c.at.result.now.elem) (take_rest c.args.saved.now c.loop-leaf.start)) c.in_ok-push_value.ensures

pub push_kept-requires-clause-within : goal.push_kept-requires-clause-within
push_kept-requires-clause-within c = run_below c.args.plan.now.targets c.loop-place.place (length c.args.new.now) c.next_target-run.result c.next_target-run.ensures c.requires.below

pub loop-place-preserved : goal.loop-place-preserved
loop-place-preserved c =
    let values : List Value = decoded c.args.new.now c.args.bytes.now in
    let at_run : c.loop-leaf.leaf ≡ c.next_target-run.result.first = omega (arith, c.next_target-run.ensures.after) in
    let so_far = rw at_run at c.loop-leaf.invariant in
    let below : c.next_target-run.result.to + c.next_target-run.result.count ≤ length c.args.new.now =
    run_below c.args.plan.now.targets c.loop-place.place (length c.args.new.now) c.next_target-run.result c.next_target-run.ensures c.requires.below in
    record {
      within = omega (arith, c.next_target-run.ensures.within);
      bytes = rw c.in_ok-push_kept.ensures (unpacked_run c.args.old.now c.args.plan.now.targets values c.args.saved.now c.requires.count c.next_target-run.result.count c.next_target-run.result.first c.next_target-run.result.to c.loop-leaf.start c.loop-leaf.returned.items
          (omega (arith, c.next_target-run.ensures.within, c.requires.count)) (omega (arith, below, length-decoded c.args.new.now c.args.bytes.now)) c.next_target-run.ensures.kept so_far);
    }

pub returns : goal.returns
returns c =
    unpacked_all c.args.old.now c.args.plan.now.targets (decoded c.args.new.now c.args.bytes.now) c.args.saved.now c.loop-place.place c.loop-place.start c.loop-place.returned.items c.loop-place.invariant.bytes (omega arith)
