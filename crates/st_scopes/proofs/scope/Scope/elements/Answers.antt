use Rattle.std.proofs.Common.{sym, ◌∙◌}
use Rattle.st_scopes.proofs.ScopeLookups.{scope-elements}
use Rattle.st_scopes.proofs.scope.Scope.elements.Goals as goal

pub returns : goal.returns
returns c = rw (← c.self.view_is) (c.elements_in.ensures ∙ sym (scope-elements (c.self.inside.tables.now, c.self.inside.unit) c.self.invariant.below c.args.base))
