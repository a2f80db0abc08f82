use Rattle.std.proofs.Common.{ℕ, ℤ, List, ap, drop, reverse, take, ◌∙◌}
use Rattle.st_instructions.proofs.Newest.{lower_is}
use Rattle.st_instructions.proofs.stack.Stack.lower.Goals as goal

pub returns-clause-cells : goal.returns-clause-cells
returns-clause-cells c =
    let cells = c.self.inside.cells.items in
    let top = c.self.inside.top in
    ap (λ n. reverse (take n cells)) c.saturating_sub-self-inside.ensures ∙ lower_is cells top c.args.count c.self.invariant
    ∙ ap (λ (v : List ℤ × ℕ). drop c.args.count v.0) c.self.view_is
