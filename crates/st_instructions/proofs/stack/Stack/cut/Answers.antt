use Rattle.std.proofs.Common.{ℕ, ◌-◌, ◌≤◌, ℤ, List, ap, drop, length, take, arith, ◌∙◌, length-take-le}
use Rattle.std.proofs.lemmas.List.{length-reverse}
use Rattle.st_instructions.proofs.Newest.{cut_is}
use Rattle.st_instructions.proofs.stack.Stack.cut.Goals as goal

pub returns-clause-cells : goal.returns-clause-cells
returns-clause-cells c =
    let cells = c.self.inside.cells.items in
    let top = c.self.inside.top in
    let count = c.args.count in
    let long = ap (λ (v : List ℤ × ℕ). length v.0) c.self.view_is in
    let less : count ≤ top = omega (arith, c.requires, long, length-reverse (take top cells), length-take-le top cells c.self.invariant) in
    cut_is cells top count c.self.invariant less ∙ ap (λ (v : List ℤ × ℕ). drop (length v.0 - count) v.0) c.self.view_is
