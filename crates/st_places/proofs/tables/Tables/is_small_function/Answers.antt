use Rattle.st_types.specs.Names.{units_of}
use Rattle.st_places.proofs.Callables.{small_clause}
use Rattle.st_places.proofs.tables.Tables.is_small_function.Goals as goal

pub returns : goal.returns
returns c =
    small_clause (record { text = c.self.inside.text.now }) c.args.self.now c.args.unit c.is_small.result c.self.view_is
    (c.is_small.ensures (units_of c.self.inside.text.now) c.self.invariant.functions c.self.invariant.elementary)
