use Rattle.std.proofs.Common.{◌≡◌, drop}
use Rattle.std.specs.List.{flat_map}
use Rattle.st_faults.specs.Faults.{offer_all}
use Rattle.st_types.specs.Names.{units_of}
use Rattle.st_types.specs.Inside.{declared_by}
use Rattle.st_check_units.specs.Declarations.{block_faults}
use Rattle.st_check_units.proofs.declarations.check_blocks.Given as goal

-- what is left gives what all give
abbrev pub invariant-loop-block : goal.invariant-loop-block
invariant-loop-block l =
    offer_all l.first (flat_map (block_faults (units_of l.types) (declared_by l.unit)) (drop l.block-index l.blocks))
    ≡ offer_all l.initial.first (flat_map (block_faults (units_of l.types) (declared_by l.unit)) l.blocks)
