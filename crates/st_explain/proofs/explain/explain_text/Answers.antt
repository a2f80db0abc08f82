use Rattle.std.specs.String.{string_bytes}
use Rattle.st_explain.specs.Messages.{ExplainsFirst, IsMessage, TellsFrom}
use Rattle.st_explain.proofs.Telling.{in_ok, message_on_first}
use Rattle.st_explain.proofs.explain.explain_text.Goals as goal

pub returns : goal.returns
returns c =
    in_ok c.explain_most.result (λ m. IsMessage (TellsFrom 1 c.args.file.now c.args.text.now) c.args.file.now c.args.text.now c.args.main.now (string_bytes m))
    (λ m. ExplainsFirst c.args.file.now c.args.text.now c.args.main.now (string_bytes m)) c.explain_most.ensures
    (λ m w. message_on_first c.args.file.now c.args.text.now c.args.main.now (string_bytes m) w)
