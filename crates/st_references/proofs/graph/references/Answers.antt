use Rattle.std.proofs.Common.{arith}
use Rattle.std.proofs.lemmas.Grind.{common_steps}
use Rattle.st_types.specs.Names.{units_of}
use Rattle.st_references.proofs.Closed.{graph_closed}
use Rattle.st_references.proofs.graph.references.Goals as goal

pub returns-clause-closed : goal.returns-clause-closed
returns-clause-closed c = graph_closed (units_of c.args.tables.now) c.rows.graph.items (grind (arith, common_steps))
