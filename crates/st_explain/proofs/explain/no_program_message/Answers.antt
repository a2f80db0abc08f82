use Rattle.st_explain.proofs.Telling.{headed}
use Rattle.st_explain.proofs.explain.no_program_message.Goals as goal

pub returns : goal.returns
returns c =
    headed _ _ _ _ _ _ _ _ _ c.new-message.ensures.bytes c.in_ok-push_heading.ensures c.in_ok-push_str.ensures.bytes c.in_ok-push.ensures.bytes
    c.in_ok-push_str-2.ensures.bytes
