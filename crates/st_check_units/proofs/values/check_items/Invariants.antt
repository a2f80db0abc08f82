use Rattle.std.proofs.Common.{◌≡◌, drop}
use Rattle.std.specs.List.{flat_map}
use Rattle.st_faults.specs.Faults.{offer_all}
use Rattle.st_check_units.specs.Declarations.{item_faults}
use Rattle.st_check_units.proofs.values.check_items.Given as goal

-- what is left gives what all give
abbrev pub invariant-loop-item : goal.invariant-loop-item
invariant-loop-item l = offer_all l.first (flat_map (item_faults l.base) (drop l.item-index l.items)) ≡ offer_all l.initial.first (flat_map (item_faults l.base) l.items)
