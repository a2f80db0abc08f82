use Rattle.std.proofs.Common.{◌∙◌, ap, arith, map}
use Rattle.st_memory.specs.Moves.{moved_pair}
use Rattle.st_memory.proofs.Steps.{carried_all, carried_more}
use Rattle.st_memory.proofs.cells.carrying.carried_values.Goals as goal

pub loop-leaf-preserved : goal.loop-leaf-preserved
loop-leaf-preserved c =
    carried_more c.args.new.now c.args.plan.now.sources c.args.values.now c.loop-leaf.leaf c.loop-leaf.carried.items c.push.new.self.items c.carried_value.result c.requires.count (omega arith)
    c.loop-leaf.invariant c.carried_value.ensures c.in_ok-push.ensures.items

pub returns-clause-values : goal.returns-clause-values
returns-clause-values c =
    let all = carried_all c.args.new.now c.args.plan.now.sources c.loop-leaf.leaf c.requires.count (omega arith) in
    c.loop-leaf.invariant ∙ ap (map (moved_pair c.args.plan.now.sources c.args.values.now)) all
