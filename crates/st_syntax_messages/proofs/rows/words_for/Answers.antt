use Rattle.st_messages.specs.Rows.{slot_texts}
use Rattle.st_messages.proofs.Telling.{words_said}
use Rattle.st_syntax_messages.specs.Rows.{rows}
use Rattle.st_syntax_messages.proofs.rows.words_for.Goals as goal

pub returns : goal.returns
returns c = words_said rows c.args.cause c.saying_of.result (slot_texts c.args.slots.now) c.words_of.result c.saying_of.ensures c.words_of.ensures
