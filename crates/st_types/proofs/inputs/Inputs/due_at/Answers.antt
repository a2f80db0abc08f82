use Rattle.std.proofs.Common.{sym, ◌∙◌, ap}
use Rattle.std.specs.Option.{option_copied}
use Rattle.st_types.specs.Signatures.{Input}
use Rattle.st_types.proofs.InputTables.{due_there, optional_due}
use Rattle.st_types.proofs.inputs.Inputs.due_at.Goals as goal

pub returns-in-Some : goal.returns-in-Some
returns-in-Some c = ap (λ (i : Input). i.due) c.input.view_is ∙ (ap optional_due (sym (ap option_copied c.in-Some.is) ∙ c.at.ensures) ∙ due_there c.args.self.now c.args.position)

pub returns-in-None : goal.returns-in-None
returns-in-None c = ap optional_due (sym (ap option_copied c.in-None.is) ∙ c.at.ensures) ∙ due_there c.args.self.now c.args.position
