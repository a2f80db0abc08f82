use Rattle.std.proofs.Common.{◌≡◌, ◌*◌, ◌^◌, ◌≤◌, take}
use Rattle.std.specs.List.{sum_by}
use Rattle.st_check_units.specs.Declarations.{item_size}
use Rattle.st_check_units.proofs.sizes.values_in.Given as goal

-- the values of the items so far
abbrev pub invariant-loop-item : goal.invariant-loop-item
invariant-loop-item l = record {
  values : l.count ≡ sum_by item_size (take l.item-index l.items);
  small : l.count ≤ l.item-index * 2 ^ 64;
}
