use Rattle.std.proofs.Common.{◌∙◌, ◌<◌, length, sym, arith}
use Rattle.st_control.proofs.Charts.{stops_none, stops_one, stops_told}
use Rattle.st_control.proofs.changing.loses_active_step.Goals as goal

pub returns-then-stops : goal.returns-then-stops
returns-then-stops g c =
    let old = c.args.old.now in
    let targets = c.args.plan.now.targets in
    let values = (g.M.Memory.content old c.args.memory.now).values in
    let below : c.loop-leaf.leaf < length old = omega arith in
    let told = stops_told old targets values c.in_ok-keeps.keeps.items c.deref.result.now c.loop-leaf.leaf c.stops.result c.deref.ensures.value c.in_ok-keeps.ensures below c.stops.ensures in
    sym (stops_one old targets values c.loop-leaf.leaf below (told ∙ c.if-stops.true))

pub loop-leaf-preserved : goal.loop-leaf-preserved
loop-leaf-preserved g c =
    let old = c.args.old.now in
    let targets = c.args.plan.now.targets in
    let values = (g.M.Memory.content old c.args.memory.now).values in
    let below : c.loop-leaf.leaf < length old = omega arith in
    let told = stops_told old targets values c.in_ok-keeps.keeps.items c.deref.result.now c.loop-leaf.leaf c.stops.result c.deref.ensures.value c.in_ok-keeps.ensures below c.stops.ensures in
    stops_none old targets values c.loop-leaf.leaf c.loop-leaf.invariant (told ∙ c.if-stops.false)
