use Rattle.std.proofs.Common.{ℕ, ◌<◌, ℤ, List, ap, length, set, take, arith, ◌∙◌, length-take-le, rules, w64}
use Rattle.std.proofs.lemmas.Int.{to_z-of_z}
use Rattle.std.proofs.lemmas.List.{length-reverse}
use Rattle.st_instructions.proofs.Newest.{put_is}
use Rattle.st_instructions.proofs.stack.Stack.put.Goals as goal

pub returns-clause-cells : goal.returns-clause-cells
returns-clause-cells c =
    let cells = c.self.inside.cells.items in
    let top = c.self.inside.top in
    let long = ap (λ (v : List ℤ × ℕ). length v.0) c.self.view_is in
    let less : c.args.distance < top = omega (arith, c.requires, long, length-reverse (take top cells), length-take-le top cells c.self.invariant) in
    rw (to_z-of_z w64 c.args.number (search rules))
    (put_is cells top c.args.distance c.args.number c.self.invariant less ∙ ap (λ (v : List ℤ × ℕ). set v.0 c.args.distance c.args.number) c.self.view_is)
