use Rattle.std.proofs.Common.{◌∙◌}
use Rattle.st_types.specs.Names.{units_of}
use Rattle.st_scopes.proofs.ScopeLookups.{member-numbered}
use Rattle.st_scopes.proofs.lookup.member_of.Goals as goal

pub returns-in-Structure : goal.returns-in-Structure
returns-in-Structure c = c.member_in.ensures ∙ member-numbered (units_of c.args.tables.now) c.args.base c.in-Structure.number c.args.name.now c.in-Structure.is
