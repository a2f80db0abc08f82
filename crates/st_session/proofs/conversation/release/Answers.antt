use Rattle.st_control.specs.Controllers.{machine_of}
use Rattle.st_control.specs.Machine.{Command, step}
use Rattle.st_session.proofs.StepLemmas.{stepped-gives}
use Rattle.st_session.proofs.conversation.release.Goals as goal

pub returns : goal.returns
returns g c =
    let old = c.args.controller.now in
    stepped-gives (step (Command.release c.args.path.now) (machine_of old)) old c.release.new.self c.release.result _ _ c.release.ensures.step c.answer.ensures.text c.answer.ensures.grade
