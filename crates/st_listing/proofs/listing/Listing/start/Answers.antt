use Rattle.std.proofs.Common.{◌-◌, ◌++◌, ◌∙◌, ap, drop, length, sym, take}
use Rattle.std.specs.Option.{option_copied}
use Rattle.std.specs.Vec.{with_items}
use Rattle.std.proofs.lemmas.List.{with_items_is}
use Rattle.st_leaves.specs.LeavesIn.{starting}
use Rattle.st_listing.specs.Listings.{listed}
use Rattle.st_listing.specs.Walks.{begins_with}
use Rattle.st_listing.proofs.Walks.{part_count, part_started, start_listed}
use Rattle.st_listing.proofs.listing.Listing.start.Goals as goal

pub returns-in-Some : goal.returns-in-Some
returns-in-Some c s leaves listed_so count =
    let all = c.deref_mut.result.now in
    let now = take c.args.from all ++ (c.start_all.new.leaves ++ drop (length all - c.args.from) (drop c.args.from all)) in
    let started = part_started (begins_with c.in-Some.constant.now) all c.start_all.new.leaves c.args.from c.start_all.ensures in
    let kept = with_items_is c.self.inside.leaves now (part_count (begins_with c.in-Some.constant.now) all now c.args.from started ∙ c.deref_mut.ensures.len) in
    start_listed s _ c.in-Some.constant.now leaves c.args.from all (with_items c.self.inside.leaves now).items (c.self.view_is ∙ listed_so) count c.deref_mut.ensures.value (kept ∙ started)
    ∙ ap (λ first. listed s (starting (option_copied first) leaves)) (sym c.in-Some.is)
