use Rattle.std.proofs.Common.{ℕ, List, ◌∙◌, ap}
use Rattle.st_types.specs.Tables.{first_of}
use Rattle.st_types.proofs.InputTables.{input_in}
use Rattle.st_types.proofs.inputs.Inputs.number_of.Goals as goal

pub returns-clause-number : goal.returns-clause-number
returns-clause-number c =
    rw (← c.self.view_is) (c.find.ensures.number ∙ (ap (λ (names : List (List ℕ)). first_of names c.args.name.now) c.self.invariant.names ∙ input_in c.self.inside.items.items c.args.name.now))
