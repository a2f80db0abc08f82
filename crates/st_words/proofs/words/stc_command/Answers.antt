use Rattle.st_words.specs.Words.{check_app, checking_app, layout_app, run_app, stc_top, text_app}
use Rattle.st_words.proofs.Extended.{extended, if_extended}
use Rattle.st_words.proofs.words.stc_command.Goals as goal

pub returns : goal.returns
returns c =
    let checking = extended c.check_command.result c.in_ok-checking.checking _ stc_top check_app c.in_ok-bare.ensures c.check_command.ensures.app c.in_ok-checking.ensures in
    let of_texts = extended c.layout_command.result c.in_ok-of_texts.of_texts _ checking_app layout_app checking c.layout_command.ensures.app c.in_ok-of_texts.ensures in
    if_extended c.run_command.result c.with-3.result _ text_app run_app of_texts c.run_command.ensures.app c.with-3.ensures
