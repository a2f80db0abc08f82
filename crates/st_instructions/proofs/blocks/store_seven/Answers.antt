use Rattle.std.proofs.Common.{◌∙◌, ◌≡◌, ◌+◌, ap, drop, length, sym, arith}
use Rattle.st_meaning.specs.Statements.{stretch, unless_forced, with_stretch}
use Rattle.st_chart_runs.proofs.Stretches.{written_all, written_is}
use Rattle.st_instructions.proofs.Together.{stored_before}
use Rattle.st_instructions.proofs.blocks.store_seven.Goals as goal

pub returns-clause-values : goal.returns-clause-values
returns-clause-values g c =
    let m0 = g.M.Memory.content c.args.layout.now c.args.memory.now in
    let m1 = g.M.Memory.content c.args.layout.now c.store_value.new.memory in
    let m2 = g.M.Memory.content c.args.layout.now c.store_value-2.new.memory in
    let m3 = g.M.Memory.content c.args.layout.now c.store_value-3.new.memory in
    let m4 = g.M.Memory.content c.args.layout.now c.store_value-4.new.memory in
    let m5 = g.M.Memory.content c.args.layout.now c.store_value-5.new.memory in
    let m6 = g.M.Memory.content c.args.layout.now c.store_value-6.new.memory in
    let m7 = g.M.Memory.content c.args.layout.now c.store_value-7.new.memory in
    let cells = c.args.cells.now in
    let all : length cells ≡ 7 = omega (arith, c.told-cells) in
    sym (written_all m7.forced m7.values c.args.leaf 7 cells (sym all))
    ∙ stored_before m6.forced m7.forced m6.values m7.values (c.args.leaf + 6) (c.args.leaf + 7) cells 6 _ (omega (arith, all)) (omega arith) c.store_value-7.ensures.forced c.store_value-7.ensures.values
    ∙ stored_before m5.forced m6.forced m5.values m6.values (c.args.leaf + 5) (c.args.leaf + 6) cells 5 _ (omega (arith, all)) (omega arith) c.store_value-6.ensures.forced c.store_value-6.ensures.values
    ∙ stored_before m4.forced m5.forced m4.values m5.values (c.args.leaf + 4) (c.args.leaf + 5) cells 4 _ (omega (arith, all)) (omega arith) c.store_value-5.ensures.forced c.store_value-5.ensures.values
    ∙ stored_before m3.forced m4.forced m3.values m4.values (c.args.leaf + 3) (c.args.leaf + 4) cells 3 _ (omega (arith, all)) (omega arith) c.store_value-4.ensures.forced c.store_value-4.ensures.values
    ∙ stored_before m2.forced m3.forced m2.values m3.values (c.args.leaf + 2) (c.args.leaf + 3) cells 2 _ (omega (arith, all)) (omega arith) c.store_value-3.ensures.forced c.store_value-3.ensures.values
    ∙ stored_before m1.forced m2.forced m1.values m2.values (c.args.leaf + 1) (c.args.leaf + 2) cells 1 _ (omega (arith, all)) (omega arith) c.store_value-2.ensures.forced c.store_value-2.ensures.values
    ∙ stored_before m0.forced m1.forced m0.values m1.values c.args.leaf (c.args.leaf + 1) cells 0 _ (omega (arith, all)) (omega arith) c.store_value.ensures.forced c.store_value.ensures.values
    ∙ written_is m0.forced m0.values c.args.leaf cells (omega (arith, all, c.requires.there))
    ∙ ap (λ n. with_stretch m0.values c.args.leaf (unless_forced (drop c.args.leaf m0.forced) (stretch m0.values c.args.leaf n) cells)) all
