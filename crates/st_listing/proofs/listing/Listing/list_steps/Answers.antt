use Rattle.std.proofs.Common.{◌+◌, ◌-◌, arith, sym, take}
use Rattle.st_leaves.specs.LeavesIn.{all_steps_in, step_in}
use Rattle.st_listing.proofs.ChartListings.{steps_below, steps_room, steps_split_at}
use Rattle.st_listing.proofs.Listings.{listed_count, listed_more, ways_more}
use Rattle.st_listing.proofs.listing.Listing.list_steps.Goals as goal

pub overflow_cast-back : goal.overflow_cast-back
overflow_cast-back c =
    let count = listed_count c.args.self.now c.steps.self (all_steps_in c.args.of.now 1 (take c.steps.step-index c.args.steps.now)) c.steps.invariant.listed in
    let below = steps_below c.args.of.now c.args.steps.now c.steps.step-index in
    omega (arith, count, below, c.requires.room, c.count.ensures, c.count-first.ensures)

pub list_step-requires-clause-room : goal.list_step-requires-clause-room
list_step-requires-clause-room c =
    steps_room c.args.self.now c.steps.self c.args.of.now c.args.steps.now c.steps.step-index c.step-item.result (c.count.result - c.count-first.result + 1)
    c.steps-test.true (sym c.step-item.is) c.steps.invariant.listed (omega (arith, c.count.ensures, c.count-first.ensures)) c.requires.room

pub steps-preserved : goal.steps-preserved
steps-preserved c =
    let before = all_steps_in c.args.of.now 1 (take c.steps.step-index c.args.steps.now) in
    let step = step_in c.args.of.now (c.count.result - c.count-first.result + 1) c.step-item.result in
    let after = all_steps_in c.args.of.now 1 (take (c.steps.step-index + 1) c.args.steps.now) in
    let split = steps_split_at c.args.self.now c.steps.self c.args.of.now c.args.steps.now c.steps.step-index c.step-item.result (c.count.result - c.count-first.result + 1)
    c.steps-test.true (sym c.step-item.is) c.steps.invariant.listed (omega (arith, c.count.ensures, c.count-first.ensures)) in record {
      listed = listed_more c.args.self.now c.steps.self c.list_step.new.self before step after split c.steps.invariant.listed c.in_ok-list_step.ensures.listed;
      ways = ways_more before step after split c.steps.invariant.ways c.in_ok-list_step.ensures.ways;
    }
