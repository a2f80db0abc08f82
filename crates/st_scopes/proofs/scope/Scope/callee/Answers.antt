use Rattle.std.proofs.Common.{sym, ◌∙◌, ap}
use Rattle.st_types.specs.Scopes.{symbol_callee}
use Rattle.st_types.specs.declared.symbol.Callee.{Callee}
use Rattle.st_scopes.proofs.ScopeLookups.{scope-callee}
use Rattle.st_scopes.proofs.scope.Scope.callee.Goals as goal

pub returns : goal.returns
returns c = rw (← c.self.view_is) (c.callee_by.ensures
    ∙ (ap (λ (other : Callee). symbol_callee other c.variable.result) c.global_callee.ensures
    ∙ (ap (symbol_callee _) (rw (← c.self.view_is) at c.variable.ensures) ∙ sym (scope-callee (c.self.inside.tables.now, c.self.inside.unit) c.self.invariant.below c.args.name.now))))
