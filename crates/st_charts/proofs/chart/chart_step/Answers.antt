use Rattle.std.specs.Int.{w64}
use Rattle.std.specs.List.{All}
use Rattle.std.proofs.Common.{◌≡◌, ◌<◌, ℕ, ◌∙◌, ap, arith, get_or, length, map, refl, subst}
use Rattle.std.proofs.lemmas.Int.{to_z-of_z}
use Rattle.st_charts.specs.Charts.{active_in, asked, is_entered, is_on, step_between, step_in, stored_after, timed}
use Rattle.st_charts.specs.Passages.{marked, passages_of}
use Rattle.st_charts.specs.Stages.{Changes, entered}
use Rattle.st_charts.proofs.StepLemmas.{active_timed, asked_as_begun, asked_at_first, cleared_like, on_like, steps_after, steps_between, stored_like}
use Rattle.st_charts.proofs.TableLemmas.{passage_count}
use Rattle.st_charts.proofs.chart.chart_step.Goals as goal
use Rattle.st_charts.proofs.chart.chart_step.Goals.{After-remember, else-not-begun, then-not-begun}

timing : (c : After-remember) → c.chart_times.new.steps ≡ map (timed c.args.begun c.args.now) c.args.steps.now
timing c = c.chart_times.ensures ∙ ap (λ now. map (timed c.args.begun now) c.args.steps.now) (to_z-of_z w64 c.args.now c.ranges.now)

-- the steps as the names see them
between : (c : After-remember) (s : ℕ) → s < length c.args.steps.now
    → step_in c.enter_cleared.new.steps s ≡ step_between (passages_of c.args.table.now.transitions.items) (marked c.clear.new.conditions) c.args.begun c.args.now (step_in c.args.steps.now) s
between c =
    steps_between (passages_of c.args.table.now.transitions.items) (marked c.clear.new.conditions) c.args.begun c.args.now
    c.args.steps.now c.chart_times.new.steps c.clear.new.steps c.enter_cleared.new.steps
    (timing c) (omega arith) c.clear.ensures.left
    (subst (λ now. Changes (entered now) (is_entered (passages_of c.args.table.now.transitions.items) (marked c.clear.new.conditions)) c.clear.new.steps c.enter_cleared.new.steps)
    (to_z-of_z w64 c.args.now c.ranges.now) c.enter_cleared.ensures)

at_links : (c : After-remember)
    → All (λ link. step_in c.enter_cleared.new.steps link.step ≡ step_between (passages_of c.args.table.now.transitions.items) (marked c.clear.new.conditions) c.args.begun c.args.now (step_in c.args.steps.now) link.step) c.args.table.now.links.items
at_links c k d lt = between c (get_or c.args.table.now.links.items k d).step (omega (arith, c.args.table.now.linked k d lt))

pub returns-clause-cleared : goal.returns-clause-cleared
returns-clause-cleared c =
    cleared_like (passages_of c.args.table.now.transitions.items) (active_in c.chart_times.new.steps) (active_in c.args.steps.now)
    (marked c.if-not-begun.conditions) (asked c.args.begun (marked c.args.conditions.now)) (marked c.clear.new.conditions)
    (λ s. ap (λ cells. active_in cells s) (timing (goal.at.returns-clause-cleared c).After-remember) ∙ active_timed c.args.begun c.args.now c.args.steps.now s)
    (λ t lt. elim c.if-not-begun.branch [
      | then-not-begun w ↦
          let within : t < length c.args.conditions.now = omega (arith, lt, c.requires.conditions, passage_count c.args.table.now.transitions.items) in
          ap (λ marks. marked marks t) w.conditions-is ∙ asked_at_first c.args.begun (marked c.args.conditions.now) t w.if-not-begun.true
          (w.fill.ensures.clones t _ within refl)
      | else-not-begun w ↦ ap (λ marks. marked marks t) w.conditions-is ∙ asked_as_begun c.args.begun (marked c.args.conditions.now) t w.if-not-begun.false
    ])
    c.clear.ensures.cleared

pub returns-clause-steps : goal.returns-clause-steps
returns-clause-steps c =
    steps_after c.args.steps.now c.enter_cleared.new.steps c.remember.new.steps
    (step_between (passages_of c.args.table.now.transitions.items) (marked c.clear.new.conditions) c.args.begun c.args.now (step_in c.args.steps.now))
    (omega arith) c.remember.ensures (between (goal.at.returns-clause-steps c).After-remember)

pub returns-clause-flags : goal.returns-clause-flags
returns-clause-flags c n lt =
    c.control.ensures.flags n lt
    ∙ ap (λ links. stored_after links (step_in c.enter_cleared.new.steps) (marked c.args.flags.now) n) c.as_slice.ensures.value
    ∙ stored_like c.args.table.now.links.items (step_in c.enter_cleared.new.steps)
    (step_between (passages_of c.args.table.now.transitions.items) (marked c.clear.new.conditions) c.args.begun c.args.now (step_in c.args.steps.now))
    (marked c.args.flags.now) n (at_links (goal.at.returns-clause-flags c).After-remember)

pub returns-clause-on : goal.returns-clause-on
returns-clause-on c n lt =
    c.control.ensures.on n (omega arith)
    ∙ ap (λ links. is_on links (step_in c.enter_cleared.new.steps) (marked c.args.flags.now) n) c.as_slice.ensures.value
    ∙ on_like c.args.table.now.links.items (step_in c.enter_cleared.new.steps)
    (step_between (passages_of c.args.table.now.transitions.items) (marked c.clear.new.conditions) c.args.begun c.args.now (step_in c.args.steps.now))
    (marked c.args.flags.now) n (at_links (goal.at.returns-clause-on c).After-remember)
