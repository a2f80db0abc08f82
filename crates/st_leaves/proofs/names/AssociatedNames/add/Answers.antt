use Rattle.std.proofs.Common.{◌++◌, ◌∷◌, [], ap, sym, ◌∙◌}
use Rattle.std.specs.Option.{is_some}
use Rattle.st_leaves.proofs.NamesOnce.{is_new, is_there}
use Rattle.st_leaves.proofs.names.AssociatedNames.add.Goals as goal

pub returns-then-is_some : goal.returns-then-is_some
returns-then-is_some c = λ before are.
    is_there before c.args.association.now c.args.self.now c.as_slice-name.result.now are c.as_slice-name.ensures (ap is_some (sym c.find.ensures.number) ∙ sym c.if-is_some.ensures)

pub returns : goal.returns
returns c = λ before are.
    is_new before c.args.association.now c.args.self.now c.push.new.self c.as_slice-name.result.now are c.as_slice-name.ensures (ap is_some (sym c.find.ensures.number) ∙ sym c.if-is_some.ensures)
    (c.in_ok-push.ensures.ok ∙ ap (λ ns. ns ++ c.as_slice-name.result.now ∷ []) c.self.view_is)
