use Rattle.std.proofs.Common.{sym, ◌∙◌}
use Rattle.st_types.specs.Names.{units_of}
use Rattle.st_types.specs.Standard.{standard_of}
use Rattle.st_scopes.proofs.ScopeLookups.{callee-global}
use Rattle.st_scopes.proofs.lookup.global_callee.Goals as goal

pub returns-in-Some : goal.returns-in-Some
returns-in-Some c =
    c.unit_callee.ensures
    ∙ callee-global (units_of c.args.tables.now) c.args.name.now (standard_of c.args.name.now) c.in-Some.number (sym c.standard_of.ensures ∙ c.in-None.is) (sym c.number_of.ensures.number ∙ c.in-Some.is)
