use Rattle.std.proofs.Common.{List, ◌∙◌, ap}
use Rattle.std.specs.List.{slice_get}
use Rattle.st_types.specs.Names.{units_of}
use Rattle.st_scopes.specs.UnitNames.{unit_names}
use Rattle.st_scopes.specs.declared.names.UnitNames.{UnitNames}
use Rattle.st_scopes.proofs.ScopeLookups.{told_at}
use Rattle.st_scopes.proofs.tables.Tables.names.Goals as goal

pub returns : goal.returns
returns c = rw (← c.self.view_is) (c.names_at.ensures
    ∙ (ap (λ (all : List UnitNames). slice_get all c.args.unit) (c.deref.ensures.value ∙ c.self.invariant.names) ∙ told_at (unit_names (units_of c.self.inside.text.now)) (units_of c.self.inside.text.now) c.args.unit))
