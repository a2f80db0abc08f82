use Rattle.std.proofs.Common.{refl, sym, ◌∙◌}
use Rattle.st_control.specs.Controllers.{machine_of}
use Rattle.st_control.specs.Machine.{undo_step}
use Rattle.st_session.specs.Turns.{Taken}
use Rattle.st_session.proofs.StepLemmas.{stepped-grade, stepped-machine, stepped-reply}
use Rattle.st_session.proofs.conversation.undo.Goals as goal

pub returns : goal.returns
returns g c =
    let old = c.args.controller.now in
    let granted = c.undo.ensures.step.0 in
    let takes = c.undo.ensures.step.2 in
    let next = undo_step granted (machine_of old) in
    record {
      taken = Taken.undone granted;
      can = (granted, c.undo.ensures.step.1, refl);
      machine = stepped-machine next old c.undo.new.self c.undo.result takes;
      told = c.answer.ensures.text ∙ sym (stepped-reply next old c.undo.new.self c.undo.result takes);
      graded = c.answer.ensures.grade ∙ sym (stepped-grade next old c.undo.new.self c.undo.result takes);
    }
