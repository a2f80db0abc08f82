use Rattle.std.proofs.Common.{◌≡◌, ◌<◌, ◌∙◌, Bool, List, length, ap, arith, sym}
use Rattle.st_control.proofs.Resets.{reset_none, reset_one}
use Rattle.st_memory.specs.Memory.{Content, forced_at}
use Rattle.st_control.proofs.scanning.reset_values.Goals.{then-not-forced, else-not-forced}
use Rattle.st_control.proofs.scanning.reset_values.Goals as goal

pub loop-leaf-preserved : goal.loop-leaf-preserved
loop-leaf-preserved g c =
    let leaves = c.args.layout.now in
    let before = g.M.Memory.content leaves c.args.memory.now in
    let now = g.M.Memory.content leaves c.loop-leaf.memory in
    let so_far = c.loop-leaf.invariant in
    let below : c.loop-leaf.leaf < length before.values = omega (arith, c.len-leaf-end.ensures.value, (g.met.M.Memory.fits leaves c.args.memory.now c.requires.over).values) in
    let told : c.forced.result ≡ forced_at before.forced c.loop-leaf.leaf = c.forced.ensures ∙ ap (λ (forced : List Bool). forced_at forced c.loop-leaf.leaf) so_far.1 in
    elim c.if-not-forced.branch [
      | then-not-forced w ↦
          rw w.memory-is (
            w.set.ensures.over,
            ap (λ (it : Content). it.forced) w.set.ensures.set ∙ so_far.1,
            reset_one leaves before.forced before.values c.loop-leaf.leaf now.values (g.M.Memory.content leaves w.set.new.self).values w.at.result.now below so_far.2
                w.at.ensures.value (sym told ∙ w.if-not-forced.true) (ap (λ (it : Content). it.values) w.set.ensures.set),
          )
      | else-not-forced w ↦
          rw w.memory-is
          (so_far.0, so_far.1, reset_none leaves before.forced before.values c.loop-leaf.leaf now.values below so_far.2 (sym told ∙ w.if-not-forced.false))
    ]
