use Rattle.std.proofs.Common.{ap, sym, ◌∙◌}
use Rattle.st_types.specs.Tables.{first_of}
use Rattle.st_chart_parts.proofs.DeclaredNames.{found_nowhere, found_there}
use Rattle.st_chart_parts.proofs.spellings.Spellings.of.Goals as goal

pub returns-in-Some : goal.returns-in-Some
returns-in-Some c =
    ap (λ w. w.now) c.index.ensures
    ∙ found_there c.args.self.now c.self.inside.names c.self.inside.words.items c.args.name.now c.in-Some.number c.index.result.now c.self.view_is c.self.invariant.names
    (ap (first_of c.self.inside.names) (sym c.as_slice.ensures) ∙ sym c.find.ensures.number ∙ c.in-Some.is) c.in-Some.ensures.within

pub returns-in-None : goal.returns-in-None
returns-in-None c =
    found_nowhere c.args.self.now c.self.inside.names c.args.name.now c.self.view_is (ap (first_of c.self.inside.names) (sym c.as_slice.ensures) ∙ sym c.find.ensures.number ∙ c.in-None.is)
