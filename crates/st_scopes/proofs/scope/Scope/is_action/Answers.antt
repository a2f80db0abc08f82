use Rattle.std.proofs.Common.{sym, ◌∙◌, ap}
use Rattle.std.specs.Option.{is_some, option_copied}
use Rattle.st_types.specs.Inside.{declares_at}
use Rattle.st_types.specs.Names.{units_of}
use Rattle.st_scopes.proofs.ScopeLookups.{action-found, action-missing, scope-action}
use Rattle.st_scopes.proofs.scope.Scope.is_action.Goals as goal

pub returns-in-Some : goal.returns-in-Some
returns-in-Some c = rw (← c.self.view_is) (c.is_some.ensures
    ∙ (ap is_some c.find.ensures.number
    ∙ (action-found (units_of c.self.inside.tables.now) (declares_at (units_of c.self.inside.tables.now) c.self.inside.unit) c.in-Some.names.now c.args.name.now (sym c.names.ensures ∙ ap option_copied c.in-Some.is)
    ∙ sym (scope-action (c.self.inside.tables.now, c.self.inside.unit) c.args.name.now))))

pub returns-in-None : goal.returns-in-None
returns-in-None c = rw (← c.self.view_is)
    (action-missing (units_of c.self.inside.tables.now) (declares_at (units_of c.self.inside.tables.now) c.self.inside.unit) c.args.name.now (sym c.names.ensures ∙ ap option_copied c.in-None.is)
    ∙ sym (scope-action (c.self.inside.tables.now, c.self.inside.unit) c.args.name.now))
