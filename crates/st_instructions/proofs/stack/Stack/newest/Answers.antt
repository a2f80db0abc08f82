use Rattle.std.proofs.Common.{ℕ, ◌-◌, ◌≤◌, ℤ, List, ap, drop, length, reverse, take, arith, ◌∙◌, length-take-le}
use Rattle.std.proofs.lemmas.List.{length-reverse}
use Rattle.st_instructions.proofs.Newest.{newest_are}
use Rattle.st_instructions.proofs.stack.Stack.newest.Goals as goal

pub returns : goal.returns
returns c =
    let cells = c.self.inside.cells.items in
    let top = c.self.inside.top in
    let count = c.args.count in
    let long = ap (λ (v : List ℤ × ℕ). length v.0) c.self.view_is in
    let less : count ≤ top = omega (arith, c.requires, long, length-reverse (take top cells), length-take-le top cells c.self.invariant) in
    ap (λ (ns : List ℤ). take (top - (top - count)) (drop (top - count) ns)) c.deref.ensures.value
    ∙ newest_are cells top count c.self.invariant less ∙ ap (λ (v : List ℤ × ℕ). reverse (take count v.0)) c.self.view_is
