use Rattle.std.proofs.Common.{◌≡◌, take}
use Rattle.st_types.specs.Names.{units_of}
use Rattle.st_references.specs.References.{graph_of}
use Rattle.st_references.proofs.graph.references.Given as goal

-- the rows so far
abbrev pub invariant-rows : goal.invariant-rows
invariant-rows l = l.graph.items ≡ take l.unit (graph_of (units_of l.tables))
