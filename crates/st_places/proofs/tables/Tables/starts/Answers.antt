use Rattle.st_types.specs.Names.{units_of}
use Rattle.st_places.proofs.Callables.{starts_clause}
use Rattle.st_places.proofs.tables.Tables.starts.Goals as goal

pub returns : goal.returns
returns c =
    starts_clause (record { text = c.self.inside.text.now }) c.args.self.now c.args.unit c.starts.result.now c.self.view_is
    (c.starts.ensures (units_of c.self.inside.text.now) c.self.invariant.functions c.self.invariant.elementary)
