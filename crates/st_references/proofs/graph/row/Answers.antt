use Rattle.std.proofs.Common.{sym}
use Rattle.st_types.specs.Inside.{named_by}
use Rattle.st_references.proofs.Callers.{row_done}
use Rattle.st_references.proofs.graph.row.Goals as goal

pub returns : goal.returns
returns c =
    row_done (record { tables = c.args.tables; scope = c.scope.result }) c.args.unit (named_by c.unit.result) c.new-row.result c.add_contained.new.row c.add_calls.new.row
    c.scope.ensures (sym c.unit.ensures) c.new-row.ensures c.in_ok-add_contained.ensures c.in_ok-add_calls.ensures
