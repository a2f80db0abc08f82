use Rattle.std.proofs.Common.{◌∙◌, ap, drop, length, rules, sym, w64}
use Rattle.std.proofs.lemmas.Int.{to_z-of_z}
use Rattle.st_types.specs.declared.standard.StandardBlock.TheVariants.{Ton}
use Rattle.st_blocks.specs.Blocks.{on_delay}
use Rattle.st_blocks.specs.Cells.{ton_cells}
use Rattle.st_meaning.specs.Statements.{stretch, unless_forced, with_stretch}
use Rattle.st_instructions.proofs.Invocations.{block_is, leaves_read, leaves_there, new_fit}
use Rattle.st_instructions.proofs.blocks.do_ton.Goals as goal

pub load_ton-cells-requires-clause-there : goal.load_ton-cells-requires-clause-there
load_ton-cells-requires-clause-there g c =
    let content = g.M.Memory.content c.args.layout.now c.args.memory.now in
    leaves_there Ton content.values c.args.leaf c.requires.leaves

pub read-requires : goal.read-requires
read-requires g c =
    let content = g.M.Memory.content c.args.layout.now c.args.memory.now in
    leaves_read Ton content.values c.load_ton-cells.result c.args.leaf c.requires.leaves c.load_ton-cells.ensures

pub store_six-requires-clause-there : goal.store_six-requires-clause-there
store_six-requires-clause-there g c =
    let content = g.M.Memory.content c.args.layout.now c.args.memory.now in
    leaves_there Ton content.values c.args.leaf c.requires.leaves

pub store_six-requires-clause-fit : goal.store_six-requires-clause-fit
store_six-requires-clause-fit g c =
    let content = g.M.Memory.content c.args.layout.now c.args.memory.now in
    new_fit c.args.layout.now content Ton c.load_ton-cells.result c.cells-after.result c.args.leaf (g.met.M.Memory.fits _ _ c.requires.over) c.requires.leaves c.load_ton-cells.ensures
    c.cells-after.ensures.typed

pub returns-clause-values : goal.returns-clause-values
returns-clause-values g c =
    let content = g.M.Memory.content c.args.layout.now c.args.memory.now in
    let after = c.cells-after.result in
    let made = rw (to_z-of_z w64 c.args.now (search rules)) at c.on_delay.ensures in
    let step = c.cells-after.ensures.value ∙ ap ton_cells (made ∙ ap (λ timer. on_delay timer c.args.now) c.read.ensures) in
    c.store_six.ensures.values
    ∙ ap (λ n. with_stretch content.values c.args.leaf (unless_forced (drop c.args.leaf content.forced) (stretch content.values c.args.leaf n) after)) (sym (ap length c.cells-after.ensures.value))
    ∙ block_is c.args.now content.forced Ton c.args.leaf content.values c.load_ton-cells.result after c.load_ton-cells.ensures step c.cells-after.ensures.typed
