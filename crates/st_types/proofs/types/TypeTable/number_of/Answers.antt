use Rattle.std.proofs.Common.{ℕ, List, ◌∙◌, ap}
use Rattle.st_types.specs.Tables.{first_of}
use Rattle.st_types.specs.Inside.{units_seen}
use Rattle.st_types.proofs.TypeTables.{number_in}
use Rattle.st_types.proofs.types.TypeTable.number_of.Goals as goal

pub returns-clause-number : goal.returns-clause-number
returns-clause-number c =
    rw (← c.self.view_is) (c.find.ensures.number ∙ (ap (λ (names : List (List ℕ)). first_of names c.args.name.now) c.self.invariant.names ∙ number_in (units_seen c.self.inside) c.args.name.now))
