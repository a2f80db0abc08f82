use Rattle.std.proofs.Common.{◌∙◌, ◌++◌, ◌∷◌, [], ℕ, List, ap, arith}
use Rattle.st_places.specs.declared.chart.Steps.{Steps}
use Rattle.st_places.proofs.Charts.{steps_more}
use Rattle.st_places.proofs.chart.Steps.add.Goals as goal

pub returns : goal.returns
returns c = λ steps has.
    let new : Steps = record { names = c.push.new.self; offsets = c.push-2.new.self; next = c.min-self.result } in
    steps_more steps c.args.step.now c.args.self.now new c.min.result has
    (c.in_ok-push.ensures.ok ∙ ap (λ (name : List ℕ). c.args.self.now.names ++ name ∷ []) c.as_slice.ensures) (omega (arith, c.min.ensures)) c.in_ok-push-2.ensures.ok
    (omega (arith, c.min-self.ensures, c.saturating_add.ensures, c.leaves_of.ensures))
