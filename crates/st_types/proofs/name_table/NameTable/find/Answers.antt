use Rattle.std.proofs.Common.{rules}
use Rattle.st_types.proofs.Positions.{first-within}
use Rattle.st_types.proofs.name_table.NameTable.find.Goals as goal

pub returns-clause-number : goal.returns-clause-number
returns-clause-number c = search rules

pub returns-clause-within : goal.returns-clause-within
returns-clause-within c = first-within c.args.self.now c.args.name.now _ (returns-clause-number c)
