use Rattle.std.proofs.Common.{◌++◌, take}
use Rattle.st_leaves.proofs.NamesOnce.{associations_more}
use Rattle.st_leaves.proofs.names.AssociatedNames.add_all.Goals as goal

pub associations-preserved : goal.associations-preserved
associations-preserved c = λ before are.
    associations_more before c.args.associations.now c.associations.association-index c.association-item.result c.add.new.self c.associations-test.true c.association-item.is
    (c.in_ok-add.ensures (before ++ take c.associations.association-index c.args.associations.now) (c.associations.invariant before are))
