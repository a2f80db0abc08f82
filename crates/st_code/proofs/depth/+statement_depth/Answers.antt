use Rattle.std.proofs.Common.{◌≡◌, ℕ, ◌+◌, arith}
use Rattle.std.specs.Prelude.{max, min}
use Rattle.st_code.proofs.DepthFolds.{branch_is, case_is, element_is, for_is, if_is, repeat_is, while_is}
use Rattle.st_code.proofs.depth.+statement_depth.Goals as goal

-- numbers that stop at a greatest one
capped_sum : (a b k most r : ℕ) → a ≡ min b most → r ≡ min (a + k) most → r ≡ min (k + b) most
capped_sum a b k most r h is = omega (arith, h, is)

capped_max : (a b c d most r : ℕ) → a ≡ min b most → c ≡ min d most → r ≡ max a c → r ≡ min (max b d) most
capped_max a b c d most r h k is = omega (arith, h, k, is)

pub if_depth-returns : goal.if_depth-returns
if_depth-returns n c = rw (if_is c.args.inputs, ← c.as_slice.ensures, ← c.as_slice-2.ensures) (omega (arith, c.max.ensures, c.branches_depth.ensures, c.statements_depth.ensures))

pub branch_depth-returns : goal.branch_depth-returns
branch_depth-returns n c = rw (branch_is c.args.inputs, ← c.as_slice.ensures) (omega (arith, c.max.ensures, c.expression_depth.ensures, c.statements_depth.ensures))

pub case_depth-returns : goal.case_depth-returns
case_depth-returns n c =
    rw (case_is c.args.inputs, ← c.get.ensures, ← c.as_slice.ensures, ← c.as_slice-2.ensures)
    (omega (arith, c.max-2.ensures, c.max.ensures, c.expression_depth.ensures, c.elements_depth.ensures, c.statements_depth.ensures))

pub element_depth-returns : goal.element_depth-returns
element_depth-returns n c = rw (element_is c.args.inputs, ← c.as_slice.ensures) (omega (arith, c.max.ensures, c.statements_depth.ensures))

pub for_depth-returns : goal.for_depth-returns
for_depth-returns n c =
    let last = capped_sum _ _ _ _ _ c.expression_depth-2.ensures c.saturating_add.ensures in
    let step = capped_sum _ _ _ _ _ c.step_depth.ensures c.saturating_add-2.ensures in
    let body = capped_sum _ _ _ _ _ c.statements_depth.ensures c.saturating_add-3.ensures in
    rw (for_is c.args.inputs, ← c.get.ensures, ← c.get-2.ensures, ← c.as_slice.ensures)
    (capped_max _ _ _ _ _ _ (capped_max _ _ _ _ _ _ (capped_max _ _ _ _ _ _ c.expression_depth.ensures last c.max.ensures) step c.max-2.ensures) body c.max-3.ensures)

pub repeat_depth-returns : goal.repeat_depth-returns
repeat_depth-returns n c = rw (repeat_is c.args.inputs, ← c.get.ensures, ← c.as_slice.ensures) (omega (arith, c.max.ensures, c.expression_depth.ensures, c.statements_depth.ensures))

pub while_depth-returns : goal.while_depth-returns
while_depth-returns n c = rw (while_is c.args.inputs, ← c.get.ensures, ← c.as_slice.ensures) (omega (arith, c.max.ensures, c.expression_depth.ensures, c.statements_depth.ensures))
