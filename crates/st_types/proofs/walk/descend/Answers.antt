use Rattle.std.proofs.Common.{◌≡◌, ◌<◌, length, refl, sym, ◌∙◌, arith, inl}
use Rattle.std.proofs.lemmas.List.{get_or_read}
use Rattle.st_types.specs.Links.{link_at}
use Rattle.st_types.specs.Walks.{LeadsTo, mark_of}
use Rattle.st_types.specs.declared.walk.Mark.TheVariants as marks
use Rattle.st_types.proofs.WalkSteps.{done_end, known_end, leads_either, next_below, open_end, set_keeps, started-down, step_down}
use Rattle.st_types.proofs.walk.descend.Goals.{After-index}
use Rattle.st_types.proofs.walk.descend.Goals as goal

-- the mark that is read
read : (c : After-index) → mark_of c.steps.marks.items c.steps.at ≡ c.index.result.now
read c = sym (get_or_read c.steps.marks.items c.steps.at c.index.result.now (omega (arith, c.steps.invariant.down.below, c.steps.invariant.down.marked.len)) c.index.ensures marks.New)

pub returns-in-Done-clause-up : goal.returns-in-Done-clause-up
returns-in-Done-clause-up c = done_end c.args.links.now c.steps.marks.items c.steps.path.items c.steps.at c.steps.invariant.down c.in-Done.base (read (goal.at-returns-in-Done-clause-up c).After-index ∙ c.in-Done.is)

pub returns-in-Open-clause-up : goal.returns-in-Open-clause-up
returns-in-Open-clause-up c = open_end c.args.links.now c.steps.marks.items c.steps.path.items c.steps.at c.steps.invariant.down (read (goal.at-returns-in-Open-clause-up c).After-index ∙ c.in-Open.is)

pub returns-in-Known-clause-up : goal.returns-in-Known-clause-up
returns-in-Known-clause-up c =
    known_end c.args.links.now c.steps.marks.items c.steps.path.items c.steps.at c.steps.invariant.down c.in-Known.base (read (goal.at-returns-in-Known-clause-up c).After-index ∙ c.in-New.is) c.in-Known.is

pub steps-preserved : goal.steps-preserved
steps-preserved c =
    let leads : LeadsTo (link_at c.args.links.now c.steps.at) c.in-SameAs.next = leads_either (link_at c.args.links.now c.steps.at) c.in-SameAs.next c.in-SameAs.is in
    let below : c.steps.at < length c.steps.marks.items = omega (arith, c.steps.invariant.down.below, c.steps.invariant.down.marked.len) in record {
      down = step_down c.args.links.now c.steps.marks.items c.steps.path.items c.steps.at c.steps.invariant.down c.push.new.self.items c.in-SameAs.next
          (read (goal.at-steps-preserved c).After-index ∙ c.in-New.is) leads
          (next_below c.args.links.now c.steps.at c.in-SameAs.next c.requires.closed c.steps.invariant.down.below leads) c.in_ok-push-in-SameAs.ensures.items;
      started = inl (started-down c.steps.marks.items c.steps.at c.args.from marks.Open below refl c.steps.invariant.started);
      keeps = λ i met. set_keeps c.steps.marks.items c.steps.at marks.Open below refl i (c.steps.invariant.keeps i met);
    }
