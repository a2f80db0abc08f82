use Rattle.std.proofs.Common.{ap, length, ◌∙◌}
use Rattle.std.specs.List.{flat_map}
use Rattle.std.proofs.lemmas.List.{length-map}
use Rattle.st_types.specs.Names.{steps_in}
use Rattle.st_meaning.specs.Sketched.{transitions_in}
use Rattle.st_meaning.proofs.Links.{names_within, steps_within}
use Rattle.st_meaning.proofs.Passages.{after_within, before_within}
use Rattle.st_meaning.proofs.sketch.table_of.Goals as goal

pub new-requires-clause-before : goal.new-requires-clause-before
new-requires-clause-before c =
    before_within c.in_ok-steps.steps c.in_ok-transitions.transitions.items (flat_map transitions_in c.args.elements.now) c.in_ok-step_count.step_count (c.in_ok-step_count.ensures.count ∙ c.len.ensures)
    c.in_ok-transitions.ensures

pub new-requires-clause-after : goal.new-requires-clause-after
new-requires-clause-after c =
    after_within c.in_ok-steps.steps c.in_ok-transitions.transitions.items (flat_map transitions_in c.args.elements.now) c.in_ok-step_count.step_count (c.in_ok-step_count.ensures.count ∙ c.len.ensures)
    c.in_ok-transitions.ensures

pub new-requires-clause-linked : goal.new-requires-clause-linked
new-requires-clause-linked c =
    steps_within c.args.names.now (flat_map steps_in c.args.elements.now) c.in_ok-links.links.items c.in_ok-step_count.step_count
    (c.in_ok-step_count.ensures.count ∙ c.len.ensures ∙ ap length c.in_ok-steps.ensures ∙ length-map (flat_map steps_in c.args.elements.now) (λ s. s.name.spelling)) c.in_ok-links.ensures

pub new-requires-clause-named : goal.new-requires-clause-named
new-requires-clause-named c =
    names_within c.args.names.now (flat_map steps_in c.args.elements.now) c.in_ok-links.links.items c.in_ok-name_count.name_count (c.in_ok-name_count.ensures.count ∙ c.len-2.ensures) c.in_ok-links.ensures
