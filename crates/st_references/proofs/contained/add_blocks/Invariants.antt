use Rattle.std.proofs.Common.{◌≡◌, ◌++◌, drop}
use Rattle.std.specs.List.{flat_map}
use Rattle.st_types.specs.Names.{units_of}
use Rattle.st_references.specs.Contained.{block_names}
use Rattle.st_references.specs.References.{contained}
use Rattle.st_references.proofs.contained.add_blocks.Given as goal

-- with what is left the row becomes what it becomes with all
abbrev pub invariant-items : goal.invariant-items
invariant-items l =
    l.row ++ flat_map (contained (units_of l.tables)) (flat_map block_names (drop l.block-index l.blocks))
    ≡ l.initial.row ++ flat_map (contained (units_of l.tables)) (flat_map block_names l.blocks)
