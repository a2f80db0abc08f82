use Rattle.std.proofs.Common.{◌+◌, ap, get_or, refl}
use Rattle.st_types.specs.Compositions.{composition_of}
use Rattle.st_types.proofs.Units.{there}
use Rattle.st_leaves.specs.LeavesIn.{leaves_of_whole}
use Rattle.st_chart_parts.specs.Charts.{leaves_of_parts}
use Rattle.st_listing.specs.Members.{declared_of}
use Rattle.st_listing.specs.Walks.{units_in, variable_leaves}
use Rattle.st_listing.proofs.ChartListings.{no_chart}
use Rattle.st_listing.proofs.MemberLists.{known_at, same_at}
use Rattle.st_listing.proofs.Variables.{both_listed, both_ways, first_room, program, program_split, second_room}
use Rattle.st_listing.proofs.walk.Walk.list_program.Goals as goal

pub list_variables-requires-clause-room : goal.list_variables-requires-clause-room
list_variables-requires-clause-room c =
    let units = units_in c.args.self in
    let found = there units c.args.unit c.requires.unit in
    let chart = get_or c.args.self.charts.now c.args.unit no_chart in
    first_room c.args.listing.now (variable_leaves units (c.len-depth.result + 1) program (declared_of c.as_slice.result.now)) (leaves_of_parts program chart) (leaves_of_whole (composition_of units found.0.declares))
    (program_split units c.args.self.charts.now (c.len-depth.result + 1) c.args.unit found.0 (declared_of c.as_slice.result.now) chart no_chart found.1
    (same_at units c.args.self.members.now c.args.unit c.as_slice.result.now c.index-self-unit.result c.requires.walk.members c.requires.unit c.as_slice.ensures)
    c.requires.walk.charts (ap (λ n. n + 1) c.len-depth.ensures) refl) (c.requires.room found.0 found.1)

pub list_variables-requires-clause-known : goal.list_variables-requires-clause-known
list_variables-requires-clause-known c = known_at (units_in c.args.self) c.args.self.members.now c.args.unit c.as_slice.result.now c.index-self-unit.result c.requires.walk.members c.requires.unit c.as_slice.ensures

pub list_chart-requires : goal.list_chart-requires
list_chart-requires c =
    let units = units_in c.args.self in
    let found = there units c.args.unit c.requires.unit in
    let chart = get_or c.args.self.charts.now c.args.unit c.index-self-unit-2.result in record {
      room =
          second_room c.args.listing.now c.list_variables.new.listing (variable_leaves units (c.len-depth.result + 1) program (declared_of c.as_slice.result.now)) (leaves_of_parts program chart) (leaves_of_whole (composition_of units found.0.declares))
          (program_split units c.args.self.charts.now (c.len-depth.result + 1) c.args.unit found.0 (declared_of c.as_slice.result.now) chart c.index-self-unit-2.result found.1
          (same_at units c.args.self.members.now c.args.unit c.as_slice.result.now c.index-self-unit.result c.requires.walk.members c.requires.unit c.as_slice.ensures)
          c.requires.walk.charts (ap (λ n. n + 1) c.len-depth.ensures) refl) c.in_ok-list_variables.ensures.listed (c.requires.room found.0 found.1);
    }

pub returns-clause-listed : goal.returns-clause-listed
returns-clause-listed c = λ u at.
    let units = units_in c.args.self in
    let chart = get_or c.args.self.charts.now c.args.unit c.index-self-unit-2.result in
    both_listed c.list_chart.result c.args.listing.now c.list_variables.new.listing c.list_chart.new.self (variable_leaves units (c.len-depth.result + 1) program (declared_of c.as_slice.result.now)) (leaves_of_parts program chart) (leaves_of_whole (composition_of units u.declares))
    (program_split units c.args.self.charts.now (c.len-depth.result + 1) c.args.unit u (declared_of c.as_slice.result.now) chart c.index-self-unit-2.result at
    (same_at units c.args.self.members.now c.args.unit c.as_slice.result.now c.index-self-unit.result c.requires.walk.members c.requires.unit c.as_slice.ensures)
    c.requires.walk.charts (ap (λ n. n + 1) c.len-depth.ensures) refl) c.in_ok-list_variables.ensures.listed c.list_chart.ensures.listed

pub returns-clause-ways : goal.returns-clause-ways
returns-clause-ways c = λ u at.
    let units = units_in c.args.self in
    let chart = get_or c.args.self.charts.now c.args.unit c.index-self-unit-2.result in
    both_ways c.list_chart.result (variable_leaves units (c.len-depth.result + 1) program (declared_of c.as_slice.result.now)) (leaves_of_parts program chart) (leaves_of_whole (composition_of units u.declares))
    (program_split units c.args.self.charts.now (c.len-depth.result + 1) c.args.unit u (declared_of c.as_slice.result.now) chart c.index-self-unit-2.result at
    (same_at units c.args.self.members.now c.args.unit c.as_slice.result.now c.index-self-unit.result c.requires.walk.members c.requires.unit c.as_slice.ensures)
    c.requires.walk.charts (ap (λ n. n + 1) c.len-depth.ensures) refl) c.in_ok-list_variables.ensures.ways c.list_chart.ensures.ways
