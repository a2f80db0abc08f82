use Rattle.st_types.specs.Names.{units_of}
use Rattle.st_places.proofs.Callables.{begin_with_values, function_clause}
use Rattle.st_places.proofs.tables.Tables.function.Goals as goal

pub returns-clause-function : goal.returns-clause-function
returns-clause-function c =
    function_clause (record { text = c.self.inside.text.now }) c.args.self.now c.args.name.now c.named.result c.self.view_is
    (c.named.ensures (units_of c.self.inside.text.now) c.self.invariant.functions)

pub returns-clause-in_range : goal.returns-clause-in_range
returns-clause-in_range c =
    begin_with_values (units_of c.self.inside.text.now) c.named.result c.args.name.now (c.named.ensures (units_of c.self.inside.text.now) c.self.invariant.functions)
