use Rattle.std.proofs.Common.{◌∙◌, ◌+◌, ◌∷◌, [], ap, drop}
use Rattle.st_listing.specs.Listings.{ListingView}
use Rattle.st_listing.specs.Members.{declared_of}
use Rattle.st_listing.specs.Walks.{units_in, variable_leaves}
use Rattle.st_listing.proofs.MemberLists.{member_at}
use Rattle.st_listing.proofs.Variables.{program, variables_left}
use Rattle.st_listing.proofs.Walks.{left_more, left_room, left_ways}
use Rattle.st_listing.proofs.walk.Walk.list_variables.Goals as goal

pub list_variable-requires-clause-room : goal.list_variable-requires-clause-room
list_variable-requires-clause-room c =
    left_room c.args.listing.now c.each.listing (variable_leaves (units_in c.args.self) c.args.depth program (c.variable-item.result.declared ∷ [])) (variable_leaves (units_in c.args.self) c.args.depth program (declared_of (drop (c.each.variable-index + 1) c.args.variables.now)))
    (variable_leaves (units_in c.args.self) c.args.depth program (declared_of (drop c.each.variable-index c.args.variables.now))) (variable_leaves (units_in c.args.self) c.args.depth program (declared_of c.args.variables.now))
    (variables_left (units_in c.args.self) c.args.depth c.args.variables.now c.each.variable-index c.variable-item.result c.each-test.true c.variable-item.is) c.each.invariant.left c.requires.room

pub list_variable-requires-clause-known : goal.list_variable-requires-clause-known
list_variable-requires-clause-known c = member_at (units_in c.args.self) c.args.variables.now c.each.variable-index c.variable-item.result c.each-test.true c.variable-item.is c.requires.known

pub each-preserved : goal.each-preserved
each-preserved c =
    let part = variable_leaves (units_in c.args.self) c.args.depth program (c.variable-item.result.declared ∷ []) in
    let rest = variable_leaves (units_in c.args.self) c.args.depth program (declared_of (drop (c.each.variable-index + 1) c.args.variables.now)) in
    let left = variable_leaves (units_in c.args.self) c.args.depth program (declared_of (drop c.each.variable-index c.args.variables.now)) in
    let whole = variable_leaves (units_in c.args.self) c.args.depth program (declared_of c.args.variables.now) in
    let split = variables_left (units_in c.args.self) c.args.depth c.args.variables.now c.each.variable-index c.variable-item.result c.each-test.true c.variable-item.is in
    record {
      left = left_more c.args.listing.now c.each.listing c.list_variable.new.listing part rest left whole split c.in_ok-list_variable.ensures.listed c.each.invariant.left;
      ways = left_ways part rest left whole split c.in_ok-list_variable.ensures.ways c.each.invariant.ways;
      input = ap ListingView.is_input c.in_ok-list_variable.ensures.listed ∙ c.each.invariant.input;
    }
