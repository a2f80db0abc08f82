use Rattle.std.proofs.Common.{◌∙◌, sym}
use Rattle.st_compile.proofs.Coded.{small_where}
use Rattle.st_compile.proofs.bodies.block_of.Goals as goal

pub body_of-requires : goal.body_of-requires
body_of-requires c = record { small = small_where c.args.tables.now c.args.number c.requires.bounds (sym c.is_small_block.ensures ∙ c.if-is_small_block.true) }
