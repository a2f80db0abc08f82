use Rattle.std.proofs.Common.{◌+◌, ◌≤◌, ◌∙◌, ap, length, subst, sym}
use Rattle.std.specs.List.{flat_map}
use Rattle.st_leaves.specs.LeavesIn.{all_steps_in, stored_in}
use Rattle.st_listing.specs.Listings.{AreWays, listed}
use Rattle.st_listing.proofs.ChartListings.{chart_listed, chart_room, chart_ways, words_room}
use Rattle.st_listing.proofs.listing.Listing.list_chart.Goals as goal

pub list_stored-requires : goal.list_stored-requires
list_stored-requires c = record {
  room =
      words_room c.list_steps.new.self c.stored.result.now
      (subst (λ names. length c.list_steps.new.self.leaves + length names ≤ 65536) (sym c.stored.ensures)
      (chart_room c.args.of.now c.args.chart.now (sym c.is_there.ensures ∙ c.if-not-is_there.false) c.args.self.now c.put_kept.new.self c.list_steps.new.self c.truth.result c.in_ok-put_kept.ensures
      (c.in_ok-list_steps.ensures.listed ∙ ap (λ steps. listed c.put_kept.new.self (all_steps_in c.args.of.now 1 steps)) c.steps.ensures) c.requires.room));
}

pub returns-clause-listed : goal.returns-clause-listed
returns-clause-listed c =
    chart_listed c.args.of.now c.args.chart.now (sym c.is_there.ensures ∙ c.if-not-is_there.false) c.args.self.now c.put_kept.new.self c.list_steps.new.self c.list_stored.new.self c.truth.result c.truth.ensures.value c.in_ok-put_kept.ensures
    (c.in_ok-list_steps.ensures.listed ∙ ap (λ steps. listed c.put_kept.new.self (all_steps_in c.args.of.now 1 steps)) c.steps.ensures)
    (c.in_ok-list_stored.ensures.listed ∙ ap (λ names. listed c.list_steps.new.self (flat_map (stored_in c.args.of.now) names)) c.stored.ensures)

pub returns-clause-ways : goal.returns-clause-ways
returns-clause-ways c =
    chart_ways c.args.of.now c.args.chart.now (sym c.is_there.ensures ∙ c.if-not-is_there.false) (subst (λ steps. AreWays (all_steps_in c.args.of.now 1 steps)) c.steps.ensures c.in_ok-list_steps.ensures.ways)
    (subst (λ names. AreWays (flat_map (stored_in c.args.of.now) names)) c.stored.ensures c.in_ok-list_stored.ensures.ways)
