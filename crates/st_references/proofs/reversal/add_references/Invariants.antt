use Rattle.std.proofs.Common.{take}
use Rattle.st_references.specs.Reversals.{AddsReferences}
use Rattle.st_references.proofs.reversal.add_references.Given as goal

abbrev pub invariant-rows : goal.invariant-rows
invariant-rows l = AddsReferences (take l.row-index l.from) l.to l.initial.graph.items l.graph.items
