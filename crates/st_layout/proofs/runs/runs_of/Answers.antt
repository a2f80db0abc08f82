use Rattle.st_layout.proofs.RunLists.{runs_all, runs_gap, runs_more}
use Rattle.st_layout.proofs.runs.runs_of.Goals as goal

pub loop-place-preserved-in-Some : goal.loop-place-preserved-in-Some
loop-place-preserved-in-Some c =
    rw c.in_ok-push-in-Some.ensures.items
    (runs_more c.args.numbers.now c.loop-place.place c.loop-place.runs.items c.loop-place.invariant c.in-Some.to c.end_of_run-end.result c.end_of_run-end.ensures.after c.end_of_run-end.ensures.within c.end_of_run-end.ensures.kept c.end_of_run-end.ensures.end c.end_of_run-end.ensures.fits)

pub loop-place-preserved : goal.loop-place-preserved
loop-place-preserved c = runs_gap c.args.numbers.now c.loop-place.place c.loop-place.runs.items c.loop-place.invariant c.loop-place-test.true c.in-None.is

pub returns-clause-numbers : goal.returns-clause-numbers
returns-clause-numbers c = runs_all c.args.numbers.now c.loop-place.place c.loop-place.runs.items c.loop-place.invariant c.loop-place-test.false
