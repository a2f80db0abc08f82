use Rattle.std.proofs.Common.{rules, refl}
use Rattle.st_references.proofs.Steps.{begun, turn, mark_here, passed_here, entered_here, left_here, less_passed, less_entered}
use Rattle.st_references.proofs.walk.walk.Goals as goal

pub steps-init : goal.steps-init
steps-init c =
    begun c.args.graph.now c.args.from c.push.new.self.items c.args.seen.now.items c.args.order.now.items c.requires.walk
    c.requires.from c.requires.new (search rules)

pub steps-preserved-else-not-index : goal.steps-preserved-else-not-index
steps-preserved-else-not-index c =
    let t = turn c.steps.invariant c.in-Some.ensures.items c.as_slice-references.ensures c.index-graph-visit.is in
    passed_here t _ (search rules) c.if-visit-references.true
    (mark_here t c.requires.closed c.if-visit-references.true _ _ c.index.ensures c.if-not-index.false)

pub steps-smaller-else-not-index : goal.steps-smaller-else-not-index
steps-smaller-else-not-index c =
    let t = turn c.steps.invariant c.in-Some.ensures.items c.as_slice-references.ensures c.index-graph-visit.is in
    less_passed t c.push-then-visit-references.new.self.items (search rules) c.if-visit-references.true

pub steps-preserved-then-not-index : goal.steps-preserved-then-not-index
steps-preserved-then-not-index c =
    let t = turn c.steps.invariant c.in-Some.ensures.items c.as_slice-references.ensures c.index-graph-visit.is in
    entered_here t _ _ c.requires.closed (search rules) refl c.if-visit-references.true
    (mark_here t c.requires.closed c.if-visit-references.true _ _ c.index.ensures c.if-not-index.true)

pub steps-smaller-then-not-index : goal.steps-smaller-then-not-index
steps-smaller-then-not-index c =
    let t = turn c.steps.invariant c.in-Some.ensures.items c.as_slice-references.ensures c.index-graph-visit.is in
    less_entered t c.push-then-not-index.new.self.items _ c.requires.closed (search rules) refl c.if-visit-references.true
    (mark_here t c.requires.closed c.if-visit-references.true _ _ c.index.ensures c.if-not-index.true)

pub steps-preserved : goal.steps-preserved
steps-preserved c =
    let t = turn c.steps.invariant c.in-Some.ensures.items c.as_slice-references.ensures c.index-graph-visit.is in
    left_here t _ (search rules) c.if-visit-references.false
