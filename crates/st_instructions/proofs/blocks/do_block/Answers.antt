use Rattle.std.proofs.Common.{◌∙◌, ap, rules, w64, arith}
use Rattle.std.proofs.lemmas.Int.{to_z-of_z}
use Rattle.st_meaning.specs.Statements.{stretch}
use Rattle.st_instructions.proofs.Invocations.{block_is, leaves_read, leaves_there, new_fit}
use Rattle.st_instructions.proofs.blocks.do_block.Goals as goal

pub load_values-requires-clause-there : goal.load_values-requires-clause-there
load_values-requires-clause-there g c =
    let content = g.M.Memory.content c.args.layout.now c.args.memory.now in
    omega (arith, c.requires.cells, leaves_there c.args.block content.values c.args.leaf c.requires.leaves)

pub block_step-requires : goal.block_step-requires
block_step-requires g c =
    let content = g.M.Memory.content c.args.layout.now c.args.memory.now in
    let is = c.load_values.ensures ∙ ap (stretch content.values c.args.leaf) c.requires.cells in
    leaves_read c.args.block content.values c.load_values.new.cells c.args.leaf c.requires.leaves is

pub store_values-requires-clause-fit : goal.store_values-requires-clause-fit
store_values-requires-clause-fit g c =
    let content = g.M.Memory.content c.args.layout.now c.args.memory.now in
    let is = c.load_values.ensures ∙ ap (stretch content.values c.args.leaf) c.requires.cells in
    let cells = c.load_values.new.cells in
    new_fit c.args.layout.now content c.args.block cells c.block_step.new.cells c.args.leaf (g.met.M.Memory.fits _ _ c.requires.over) c.requires.leaves is
    c.block_step.ensures.typed

pub returns-clause-values : goal.returns-clause-values
returns-clause-values g c =
    let content = g.M.Memory.content c.args.layout.now c.args.memory.now in
    let is = c.load_values.ensures ∙ ap (stretch content.values c.args.leaf) c.requires.cells in
    let stepped = rw (to_z-of_z w64 c.args.now (search rules)) at c.block_step.ensures.stepped in
    c.store_values.ensures.values
    ∙ block_is c.args.now content.forced c.args.block c.args.leaf content.values c.load_values.new.cells c.block_step.new.cells is stepped
    c.block_step.ensures.typed
