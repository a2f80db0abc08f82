use Rattle.std.proofs.Common.{◌≡◌, ◌+◌, ◌-◌, [], length, pos, arith}
use Rattle.st_blocks.specs.Cells.{types_of}
use Rattle.st_instructions.specs.Moves.{environment_at}
use Rattle.st_instructions.proofs.Invocations.{invoke_goes, leaves_there}
use Rattle.st_instructions.proofs.InPlace.{block_placed, block_values, cells_read}
use Rattle.st_instructions.proofs.variables.invoke.Goals as goal

pub slice_bounds-block_step-end : goal.slice_bounds-block_step-end
slice_bounds-block_step-end c = omega (arith, c.leaf_count.ensures.value, leaves_there c.args.block c.args.variables.now c.args.leaf c.requires.ready)

pub block_step-requires : goal.block_step-requires
block_step-requires c =
    let many : c.args.leaf + c.leaf_count.result - c.args.leaf ≡ length (types_of c.args.block) = omega (arith, c.leaf_count.ensures.value) in
    cells_read c.args.block c.args.leaf _ c.args.variables.now c.requires.ready many

pub returns-clause-values : goal.returns-clause-values
returns-clause-values c =
    let many : c.args.leaf + c.leaf_count.result - c.args.leaf ≡ length (types_of c.args.block) = omega (arith, c.leaf_count.ensures.value) in
    block_values c.args.block c.args.leaf _ c.args.variables.now c.block_step.new.cells c.requires.ready many c.block_step.ensures.typed c.requires.values

pub returns-clause-does : goal.returns-clause-does
returns-clause-does c =
    let many : c.args.leaf + c.leaf_count.result - c.args.leaf ≡ length (types_of c.args.block) = omega (arith, c.leaf_count.ensures.value) in
    invoke_goes (environment_at (pos 0) []) c.args.block c.args.leaf c.args.variables.now _ c.requires.ready
    (block_placed c.args.block c.args.leaf _ c.args.variables.now c.block_step.new.cells c.requires.ready many c.block_step.ensures.typed c.block_step.ensures.stepped)
