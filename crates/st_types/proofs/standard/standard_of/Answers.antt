use Rattle.std.proofs.Common.{◌∙◌}
use Rattle.st_types.proofs.Entries.{standard_of-conversion, standard_of-listed}
use Rattle.st_types.proofs.standard.standard_of.Goals as goal

pub returns-in-Some : goal.returns-in-Some
returns-in-Some c = standard_of-listed c.args.name.now c.listed.result c.in-Some.standard c.listed.ensures c.in-Some.is

pub returns-in-None : goal.returns-in-None
returns-in-None c = c.conversion_among.ensures ∙ standard_of-conversion c.args.name.now c.listed.result c.listed.ensures c.in-None.is
