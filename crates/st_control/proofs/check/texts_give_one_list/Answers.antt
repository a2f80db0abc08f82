use Rattle.st_control.proofs.Texts.{one_list}
use Rattle.st_control.proofs.check.texts_give_one_list.Goals as goal

pub returns : goal.returns
returns c = one_list
