use Rattle.std.proofs.Common.{◌≡◌, ◌+◌, ◌-◌, ◌^◌, ◌≤◌, drop, length}
use Rattle.std.specs.List.{flat_map}
use Rattle.std.specs.Prelude.{min}
use Rattle.st_types.specs.Names.{steps_in}
use Rattle.st_leaves.specs.Charts.{associations_of}
use Rattle.st_code.proofs.depth.count_associations.Given as goal

-- what is left makes it the whole
abbrev pub invariant-items : goal.invariant-items
invariant-items l = record {
  few : l.count ≤ 2 ^ 64 - 1;
  left : min (l.count + length (associations_of (flat_map steps_in (drop l.item-index l.elements)))) (2 ^ 64 - 1) ≡ min (length (associations_of (flat_map steps_in l.elements))) (2 ^ 64 - 1);
}
