use Rattle.std.proofs.Common.{◌≡◌, ◌∙◌, ◌+◌, ◌≤◌, ◌++◌, [], ◌∷◌, ℕ, List, ap, arith, length, map, refl, sym, take}
use Rattle.std.specs.List.{zip}
use Rattle.st_values.specs.declared.value.Value.{Value}
use Rattle.st_tree.specs.declared.leaf.Leaf.{Leaf}
use Rattle.st_memory.specs.Bytes.{value_bytes}
use Rattle.st_layout.specs.Layout.{leaf_at}
use Rattle.st_memory.specs.Moves.{fresh_value, moved_pair, moved_value}
use Rattle.st_memory.specs.Packed.{decoded, encoded, length-decoded}
use Rattle.st_layout.specs.Pairs.{number_at}
use Rattle.st_memory.proofs.Encoded.{encoded_push}
use Rattle.st_memory.proofs.Moved.{carried_run}
use Rattle.st_layout.proofs.RunLists.{run_below}
use Rattle.st_memory.proofs.Steps.{carried_all, carried_more}
use Rattle.st_memory.proofs.packed.carrying.carried_bytes.Goals as goal

pub loop-leaf-preserved : goal.loop-leaf-preserved
loop-leaf-preserved c =
    let values : List Value = decoded c.args.old.now c.args.bytes.now in
    let so_far : List Value = map (moved_pair c.args.plan.now.sources values) (take c.loop-leaf.leaf (zip c.args.new.now c.args.plan.now.sources)) in
    let value : Value = c.fresh_value-value.result in
    let told : value ≡ moved_value c.args.plan.now.sources values (leaf_at c.args.new.now c.loop-leaf.leaf) (number_at c.args.plan.now.sources c.loop-leaf.leaf) =
    c.fresh_value-value.ensures.value
    ∙ (ap (λ (leaf : Leaf). fresh_value c.args.plan.now.sources values leaf leaf.role) c.at.ensures.value
    ∙ sym (ap (moved_value c.args.plan.now.sources values (leaf_at c.args.new.now c.loop-leaf.leaf)) (c.next_source-run.ensures.gap c.loop-leaf.leaf (omega arith) (omega arith)))) in
    let more = carried_more c.args.new.now c.args.plan.now.sources values c.loop-leaf.leaf so_far (so_far ++ value ∷ []) value c.requires.count (omega (arith, c.next_source-run.ensures.within)) refl told refl in
    c.in_ok-push_value.ensures ∙ (ap (λ (them : List ℕ). them ++ value_bytes value) c.loop-leaf.invariant ∙ (sym (encoded_push so_far value) ∙ ap encoded more))

pub push_kept-requires-clause-within : goal.push_kept-requires-clause-within
push_kept-requires-clause-within c = run_below c.args.plan.now.sources c.loop-place.place (length c.args.old.now) c.next_source-run.result c.next_source-run.ensures c.requires.below

pub loop-place-preserved : goal.loop-place-preserved
loop-place-preserved c =
    let values : List Value = decoded c.args.old.now c.args.bytes.now in
    let at_run : c.loop-leaf.leaf ≡ c.next_source-run.result.first = omega (arith, c.next_source-run.ensures.after) in
    let so_far = rw at_run at c.loop-leaf.invariant in
    let below : c.next_source-run.result.to + c.next_source-run.result.count ≤ length c.args.old.now =
    run_below c.args.plan.now.sources c.loop-place.place (length c.args.old.now) c.next_source-run.result c.next_source-run.ensures c.requires.below in
    record {
      within = omega (arith, c.next_source-run.ensures.within);
      bytes = carried_run c.args.new.now c.args.plan.now.sources values c.requires.count c.next_source-run.result.first c.next_source-run.result.to c.next_source-run.result.count c.loop-leaf.carried.items c.push_kept.new.to.items
          (omega (arith, c.next_source-run.ensures.within, c.requires.count)) (omega (arith, below, length-decoded c.args.old.now c.args.bytes.now)) c.next_source-run.ensures.kept so_far c.in_ok-push_kept.ensures;
    }

pub returns-clause-bytes : goal.returns-clause-bytes
returns-clause-bytes c =
    let all = carried_all c.args.new.now c.args.plan.now.sources c.loop-place.place c.requires.count (omega arith) in
    c.loop-place.invariant.bytes ∙ ap (λ them. encoded (map (moved_pair c.args.plan.now.sources (decoded c.args.old.now c.args.bytes.now)) them)) all
