use Rattle.std.proofs.Common.{◌<◌, ◌≤◌, length, arith, refl}
use Rattle.st_layout.specs.Runs.{run_at}
use Rattle.st_layout.proofs.RunLists.{next_none, next_part, next_whole}
use Rattle.st_layout.proofs.runs.next_run.Goals as goal

pub returns-then-place-runs : goal.returns-then-place-runs
returns-then-place-runs c = next_none c.args.count c.args.runs.now c.args.from c.requires.from (λ k below. c.first_behind-place.ensures.before k (omega (arith, c.if-place-runs.true, below)))

pub returns-then-from-run : goal.returns-then-from-run
returns-then-from-run c =
    let below : c.first_behind-place.result < length c.args.runs.now = omega (arith, c.if-place-runs.false, c.first_behind-place.ensures.within) in
    next_whole c.args.count c.args.runs.now c.requires.runs c.args.from c.first_behind-place.result c.first_behind-place.ensures.before below (c.first_behind-place.ensures.after c.first_behind-place.result (omega arith) below) c.if-from-run.true

pub returns : goal.returns
returns c =
    let below : c.first_behind-place.result < length c.args.runs.now = omega (arith, c.if-place-runs.false, c.first_behind-place.ensures.within) in
    let high : (run_at c.args.runs.now c.first_behind-place.result).first ≤ c.args.from = omega (arith, c.if-from-run.false) in
    next_part c.args.count c.args.runs.now c.requires.runs c.args.from c.first_behind-place.result c.first_behind-place.ensures.before below (c.first_behind-place.ensures.after c.first_behind-place.result (omega arith) below)
    _ high refl refl refl
