use Rattle.std.proofs.Common.{◌<◌, length, ◌∙◌}
use Rattle.st_types.specs.Names.{units_of}
use Rattle.st_scopes.proofs.ScopeLookups.{names-read}
use Rattle.st_scopes.proofs.tables.Tables.declared.Goals as goal

pub returns : goal.returns
returns c =
    let below : c.args.unit < length (units_of c.self.inside.text.now) = rw (← c.self.view_is) at c.requires in
    rw (← c.self.view_is) (c.as_slice.ensures ∙ names-read (units_of c.self.inside.text.now) c.self.inside.names.items c.args.unit c.index-names.result.now c.self.invariant.names below c.index-names.ensures)
