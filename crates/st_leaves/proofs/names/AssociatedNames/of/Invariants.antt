use Rattle.std.proofs.Common.{◌≡◌, take}
use Rattle.st_leaves.specs.Charts.{associated_names, associations_in}
use Rattle.st_leaves.proofs.names.AssociatedNames.of.Given as goal

-- the names of the elements so far
abbrev pub invariant-elements : goal.invariant-elements
invariant-elements l = l.names ≡ associated_names (associations_in (take l.element-index l.elements))
