use Rattle.std.proofs.Common.{sym, ◌∙◌}
use Rattle.st_scopes.proofs.ScopeLookups.{scope-member}
use Rattle.st_scopes.proofs.scope.Scope.member.Goals as goal

pub returns : goal.returns
returns c = rw (← c.self.view_is) (c.member_of.ensures ∙ sym (scope-member (c.self.inside.tables.now, c.self.inside.unit) c.self.invariant.below c.args.base c.args.name.now))
