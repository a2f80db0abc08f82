use Rattle.std.proofs.Common.{sym, ◌∙◌}
use Rattle.st_scopes.proofs.ScopeLookups.{scope-variable}
use Rattle.st_scopes.proofs.scope.Scope.variable.Goals as goal

pub returns : goal.returns
returns c = rw (← c.self.view_is) (c.variable_in.ensures ∙ sym (scope-variable (c.self.inside.tables.now, c.self.inside.unit) c.args.name.now))
