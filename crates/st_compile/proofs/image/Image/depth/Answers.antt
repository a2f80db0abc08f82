use Rattle.std.proofs.Common.{ap, arith, ◌∙◌, ◌≡◌}
use Rattle.std.proofs.lemmas.List.{take_all}
use Rattle.std.specs.Prelude.{max}
use Rattle.st_code.specs.Depths.{most}
use Rattle.st_compile.specs.Programs.{greatest_depth, program_depth, program_rooms, stacks_in}
use Rattle.st_compile.proofs.Greatest.{most_more}
use Rattle.st_compile.proofs.image.Image.depth.Goals as goal

pub levels-init : goal.levels-init
levels-init c =
    let own : c.self.inside.depth ≡ program_depth c.args.self.now = c.self.invariant.3 ∙ ap program_depth c.self.view_is in
    omega (arith, own)

pub levels-preserved : goal.levels-preserved
levels-preserved c =
    let more = most_more c.deref-room-items.result.now c.levels.room-index c.levels-test.true in
    omega (arith, more, c.max-depth.ensures, c.levels.invariant)

pub returns : goal.returns
unfolding greatest_depth
returns c =
    let all = take_all c.levels.room-index c.deref-room-items.result.now c.levels-test.false in
    let levels : c.deref-room-items.result.now ≡ program_rooms c.args.self.now = c.deref-room-items.ensures.value ∙ c.self.invariant.4 ∙ ap program_rooms c.self.view_is in
    c.levels.invariant ∙ ap (λ rs. max (program_depth c.args.self.now) (most (stacks_in rs))) (all ∙ levels)
