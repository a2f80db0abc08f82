use Rattle.std.proofs.Common.{◌≡◌, take}
use Rattle.st_leaves.specs.Charts.{associations_in, set_names}
use Rattle.st_leaves.proofs.stored.names_set.Given as goal

-- of the elements so far
abbrev pub invariant-elements : goal.invariant-elements
invariant-elements l = l.names ≡ set_names (associations_in (take l.element-index l.elements))
