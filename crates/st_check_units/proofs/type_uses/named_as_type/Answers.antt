use Rattle.std.proofs.Common.{ap, ◌∙◌}
use Rattle.st_types.specs.Names.{unit_by, units_of}
use Rattle.st_check_units.specs.Declarations.{optional_as_type}
use Rattle.st_check_units.proofs.type_uses.named_as_type.Goals as goal

pub returns-in-Some : goal.returns-in-Some
returns-in-Some c = c.unit_as_type.ensures ∙ ap optional_as_type (c.unit.ensures ∙ ap (unit_by (units_of c.args.tables.now)) c.in-Some.ensures.number)
