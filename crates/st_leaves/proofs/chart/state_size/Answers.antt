use Rattle.st_leaves.proofs.chart.state_size.Goals as goal

pub returns-then-has_pulse : goal.returns-then-has_pulse
returns-then-has_pulse c =
    rw c.if-has_pulse.true
    (c.beside-then-has_pulse.ensures _ _ (c.beside-state.ensures _ _ (c.beside.ensures _ _ c.named_leaf_size.ensures c.named_leaf_size-2.ensures) c.kept_leaf_size.ensures) c.kept_leaf_size-then-has_pulse.ensures)

pub returns-else-has_pulse : goal.returns-else-has_pulse
returns-else-has_pulse c = rw c.if-has_pulse.false (c.beside-state.ensures _ _ (c.beside.ensures _ _ c.named_leaf_size.ensures c.named_leaf_size-2.ensures) c.kept_leaf_size.ensures)
