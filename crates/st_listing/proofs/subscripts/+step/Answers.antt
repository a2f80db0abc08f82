use Rattle.std.proofs.Common.{◌∙◌, ap, rules}
use Rattle.st_leaves.specs.Leaves.{number_written}
use Rattle.st_listing.proofs.Choices.{step_first, step_last, step_rest}
use Rattle.st_listing.proofs.subscripts.+step.Goals as goal

pub returns-then-step : goal.returns-then-step
returns-then-step t c =
    step_rest c.args.ranges.now c.args.chosen.now c.step.new.chosen c.step.result c.step.ensures c.requires.len (search rules) (search rules)

pub returns-in-Some : goal.returns-in-Some
returns-in-Some t c =
    step_first c.args.ranges.now c.args.chosen.now c.step.new.chosen c.step.result c.in-Some.number c.number_written.result _ c.index-ranges-0.result c.step.ensures c.requires.len (search rules) (search rules)
    c.requires.numbers (c.number_written.ensures ∙ ap (λ r. number_written r.upper) c.index-ranges-0.is) c.in-Some.ensures.next c.in-Some.ensures.within

pub returns-in-None : goal.returns-in-None
returns-in-None t c =
    step_last c.args.ranges.now c.args.chosen.now c.step.new.chosen c.step.result c.number_written-in-None.result c.number_written.result _ c.index-ranges-0.result c.step.ensures c.requires.len (search rules) (search rules)
    (c.number_written.ensures ∙ ap (λ r. number_written r.upper) c.index-ranges-0.is) (c.number_written-in-None.ensures ∙ ap (λ r. number_written r.lower) c.index-ranges-0.is)
    (c.following.ensures.none c.in-None.is)
