use Rattle.std.proofs.Common.{◌≡◌, ◌++◌, ◌-◌, ◌+◌, ℕ, ap, arith, drop, take}
use Rattle.std.proofs.lemmas.Result.{IfOk-equal}
use Rattle.st_memory.specs.Packed.{decoded, encoded}
use Rattle.st_memory.proofs.packed.places.push_kept.Goals as goal

pub returns : goal.returns
returns c =
    let count : c.args.run.to + c.args.run.count - c.args.run.to ≡ c.args.run.count = omega arith in
    IfOk-equal c.push_run.result _ _ _ c.push_run.ensures (ap (λ (n : ℕ). c.args.to.now.items ++ encoded (take n (drop c.args.run.to (decoded c.args.layout.now c.args.bytes.now)))) count)
