use Rattle.std.proofs.Common.{rules, ◌≡◌, false, ◌+◌, ◌-◌, [], ◌∷◌, ap, arith, drop, get_or, length, refl, subst, sym, ◌∙◌}
use Rattle.std.specs.Option.{option_copied, option_map}
use Rattle.std.proofs.lemmas.Result.{on_ok_weaker}
use Rattle.st_chart_parts.specs.Charts.{leaves_of_parts}
use Rattle.st_leaves.specs.LeavesIn.{elements_in, plain, subscript_lists}
use Rattle.st_listing.specs.Listings.{AreWays, listed, outside}
use Rattle.st_listing.specs.Members.{declared_of}
use Rattle.st_listing.specs.Walks.{declared_leaves, member_leaves, part_leaves, started_value, unit_leaves, units_in}
use Rattle.st_tree.specs.Kinds.{is_constant}
use Rattle.st_types.specs.Names.{Declared}
use Rattle.st_types.specs.declared.base.Base.TheVariants as bases
use Rattle.st_listing.proofs.ChartListings.{no_chart}
use Rattle.st_listing.proofs.Listings.{listed_more, ways_by, ways_more}
use Rattle.st_listing.proofs.MemberLists.{known_at, member_at, members_left, same_at}
use Rattle.st_listing.proofs.Walks.{declared_part_of, element_listed, elementary_listed, elements_within, first_room, left_more, left_room, left_ways, member_listed, member_ways, next_element, next_element_room, next_element_ways, no_depth, nothing_listed, nothing_ways, part_array, part_elementary, part_of, part_standard, part_unit, part_unknown, room_of, second_room, some_left, unit_none, unit_split}
use Rattle.st_listing.proofs.walk.Walk.+walk.Goals as goal

pub list_array-of_array-requires-clause-unit : goal.list_array-of_array-requires-clause-unit
list_array-of_array-requires-clause-unit t c = elements_within (units_in c.args.self) (units_in c.args.self) c.args.unit c.in-Some.elements (sym c.elements.ensures ∙ c.in-Some.is)

pub list_declared-list_part-requires : goal.list_declared-list_part-requires
list_declared-list_part-requires t c =
    let same = declared_part_of (units_in c.args.self) c.args.depth c.args.member.now.declared (option_copied c.initial-initial.result) c.args.member.now.shape c.base-base.result c.requires.known.shape (sym c.subscripts.ensures ∙ ap (option_map (λ ranges. ranges.now)) c.in_default.is) c.base-base.ensures (c.initial-initial.ensures ∙ c.requires.known.initial) in
    (omega (arith, c.decreases), (c.requires.walk, (c.requires.depth, room_of c.args.listing.now (declared_leaves (units_in c.args.self) c.args.depth c.args.member.now.declared) _ same c.requires.room)))

pub list_declared-returns-in_default-clause-listed : goal.list_declared-returns-in_default-clause-listed
list_declared-returns-in_default-clause-listed t c =
    let same = declared_part_of (units_in c.args.self) c.args.depth c.args.member.now.declared (option_copied c.initial-initial.result) c.args.member.now.shape c.base-base.result c.requires.known.shape (sym c.subscripts.ensures ∙ ap (option_map (λ ranges. ranges.now)) c.in_default.is) c.base-base.ensures (c.initial-initial.ensures ∙ c.requires.known.initial) in
    on_ok_weaker c.list_part.result (λ h. h ∙ ap (listed c.args.listing.now) (sym same)) c.list_part.ensures.listed

pub list_declared-returns-in_default-clause-ways : goal.list_declared-returns-in_default-clause-ways
list_declared-returns-in_default-clause-ways t c =
    let same = declared_part_of (units_in c.args.self) c.args.depth c.args.member.now.declared (option_copied c.initial-initial.result) c.args.member.now.shape c.base-base.result c.requires.known.shape (sym c.subscripts.ensures ∙ ap (option_map (λ ranges. ranges.now)) c.in_default.is) c.base-base.ensures (c.initial-initial.ensures ∙ c.requires.known.initial) in
    on_ok_weaker c.list_part.result (λ h. subst AreWays (sym same) h) c.list_part.ensures.ways

pub list_element-returns-clause-listed : goal.list_element-returns-clause-listed
list_element-returns-clause-listed t c is text =
    let leaves = part_leaves (units_in c.args.self) c.args.element in
    element_listed c.args.listing.now c.enter_text.new.self c.start.new.self c.leave.new.self is c.args.subscripts.now (option_copied c.args.first) leaves text c.in_ok-enter_text.ensures
    (c.start.ensures c.enter_text.new.self leaves c.in_ok-list_part.ensures.listed (ap (λ v. length v.leaves) c.in_ok-enter_text.ensures ∙ sym c.count-from.ensures))
    (c.leave.ensures ∙ ap (outside c.start.new.self) c.mark-mark.ensures)

pub list_elements-list_element-requires : goal.list_elements-list_element-requires
list_elements-list_element-requires t c =
    let some = some_left c.elements.choices c.elements-test.ensures.1 in
    let room = next_element_room c.args.listing.now c.elements.listing c.elements.choices c.elements.firsts (part_leaves (units_in c.args.self) c.args.element) _ some c.elements.invariant.left c.requires.room in
    (omega (arith, c.decreases), (c.requires.walk, (c.requires.depth, room)))

pub list_elements-elements-preserved : goal.list_elements-elements-preserved
list_elements-elements-preserved t c =
    let leaves = part_leaves (units_in c.args.self) c.args.element in
    let whole = elements_in (subscript_lists c.args.ranges.now) c.args.firsts leaves in
    let some = some_left c.elements.choices c.elements-test.ensures.1 in record {
      left =
          next_element c.args.listing.now c.elements.listing c.list_element.new.listing c.elements.choices c.advance.new.self c.elements.firsts c.next-first.new.self (option_copied c.next-first.result) leaves whole some c.advance.ensures
          c.next-first.ensures.rest c.next-first.ensures.value (λ is split. c.in_ok-list_element.ensures.listed is (c.as_bytes.ensures.value ∙ c.in_ok-text.ensures is (drop 1 c.elements.choices) split)) c.elements.invariant.left;
      ways =
          next_element_ways c.elements.choices c.advance.new.self c.elements.firsts c.next-first.new.self leaves whole some c.advance.ensures c.next-first.ensures.rest c.in_ok-list_element.ensures.ways c.elements.invariant.ways;
    }

pub list_member-returns-clause-listed : goal.list_member-returns-clause-listed
list_member-returns-clause-listed t c =
    let variable = subst (λ (v : Declared). is_constant v.kind ≡ false) c.row.ensures c.name.ensures.variable in
    let named = c.letters.ensures.bytes ∙ ap (λ name. name.spelling) (c.name.ensures.name ∙ ap (λ (v : Declared). v.name) c.row.ensures) in
    member_listed (units_in c.args.self) c.args.depth c.args.of.now c.letters.result.now c.args.member.now.declared c.args.listing.now c.enter.new.self c.list_declared.new.listing c.leave.new.self variable named c.in_ok-enter.ensures
    c.in_ok-list_declared.ensures.listed (c.leave.ensures ∙ ap (outside c.list_declared.new.listing) c.mark-mark.ensures)

pub list_member-returns-clause-ways : goal.list_member-returns-clause-ways
list_member-returns-clause-ways t c =
    let variable = subst (λ (v : Declared). is_constant v.kind ≡ false) c.row.ensures c.name.ensures.variable in
    let named = c.letters.ensures.bytes ∙ ap (λ name. name.spelling) (c.name.ensures.name ∙ ap (λ (v : Declared). v.name) c.row.ensures) in
    member_ways (units_in c.args.self) c.args.depth c.args.of.now c.letters.result.now c.args.member.now.declared variable named c.letters.ensures.word c.in_ok-list_declared.ensures.ways

pub list_members-list_member-requires : goal.list_members-list_member-requires
list_members-list_member-requires t c =
    let units = units_in c.args.self in
    let split = members_left units c.args.depth c.args.of.now c.args.members.now c.members.member-index c.member-item.result c.members-test.true c.member-item.is in
    let room = left_room c.args.listing.now c.members.listing (member_leaves units c.args.depth c.args.of.now (c.member-item.result.declared ∷ []))
    (member_leaves units c.args.depth c.args.of.now (declared_of (drop (c.members.member-index + 1) c.args.members.now))) (member_leaves units c.args.depth c.args.of.now (declared_of (drop c.members.member-index c.args.members.now)))
    (member_leaves units c.args.depth c.args.of.now (declared_of c.args.members.now)) split c.members.invariant.left c.requires.room in
    let known = member_at units c.args.members.now c.members.member-index c.member-item.result c.members-test.true c.member-item.is c.requires.known in
    search (rules, room, known)

pub list_members-members-preserved : goal.list_members-members-preserved
list_members-members-preserved t c =
    let units = units_in c.args.self in
    let part = member_leaves units c.args.depth c.args.of.now (c.member-item.result.declared ∷ []) in
    let rest = member_leaves units c.args.depth c.args.of.now (declared_of (drop (c.members.member-index + 1) c.args.members.now)) in
    let left = member_leaves units c.args.depth c.args.of.now (declared_of (drop c.members.member-index c.args.members.now)) in
    let whole = member_leaves units c.args.depth c.args.of.now (declared_of c.args.members.now) in
    let split = members_left units c.args.depth c.args.of.now c.args.members.now c.members.member-index c.member-item.result c.members-test.true c.member-item.is in record {
      left = left_more c.args.listing.now c.members.listing c.list_member.new.listing part rest left whole split c.in_ok-list_member.ensures.listed c.members.invariant.left;
      ways = left_ways part rest left whole split c.in_ok-list_member.ensures.ways c.members.invariant.ways;
    }

pub list_part-returns-then-part-eq0-clause-listed : goal.list_part-returns-then-part-eq0-clause-listed
list_part-returns-then-part-eq0-clause-listed t c =
    nothing_listed c.args.listing.now (part_leaves (units_in c.args.self) c.args.part) (no_depth (units_in c.args.self) c.args.part.depth c.args.part.base (option_copied c.args.part.initial) c.if-part-eq0.true)

pub list_part-returns-then-part-eq0-clause-ways : goal.list_part-returns-then-part-eq0-clause-ways
list_part-returns-then-part-eq0-clause-ways t c =
    nothing_ways (part_leaves (units_in c.args.self) c.args.part) (no_depth (units_in c.args.self) c.args.part.depth c.args.part.base (option_copied c.args.part.initial) c.if-part-eq0.true)

pub list_part-push-requires : goal.list_part-push-requires
list_part-push-requires t c =
    let same = part_of (units_in c.args.self) c.args.part.depth c.args.part.base (bases.Elementary c.in-Elementary.elem) (option_copied c.args.part.initial) _ c.in-Elementary.is
    (part_elementary (units_in c.args.self) c.args.part.depth c.in-Elementary.elem (option_copied c.args.part.initial) (omega (arith, c.if-part-eq0.false))) in record {
      room = room_of c.args.listing.now (part_leaves (units_in c.args.self) c.args.part) _ same c.requires.room;
    }

pub list_part-list_array-requires : goal.list_part-list_array-requires
list_part-list_array-requires t c =
    let same = part_of (units_in c.args.self) c.args.part.depth c.args.part.base (bases.Array c.in-Array.unit) (option_copied c.args.part.initial) _ c.in-Array.is
    (part_array (units_in c.args.self) c.args.part.depth (c.args.part.depth - 1) c.in-Array.unit (option_copied c.args.part.initial) (omega (arith, c.if-part-eq0.false))) in
    (omega (arith, c.decreases, c.if-part-eq0.false), (c.requires.walk, (omega (arith, c.requires.depth), room_of c.args.listing.now (part_leaves (units_in c.args.self) c.args.part) _ same c.requires.room)))

pub list_part-list_block-requires : goal.list_part-list_block-requires
list_part-list_block-requires t c =
    let same = part_of (units_in c.args.self) c.args.part.depth c.args.part.base (bases.Standard c.in-Standard.block) (option_copied c.args.part.initial) _ c.in-Standard.is
    (part_standard (units_in c.args.self) c.args.part.depth c.in-Standard.block (option_copied c.args.part.initial) (omega (arith, c.if-part-eq0.false))) in record {
      room = room_of c.args.listing.now (part_leaves (units_in c.args.self) c.args.part) _ same c.requires.room;
    }

pub list_part-list_unit-requires : goal.list_part-list_unit-requires
list_part-list_unit-requires t c =
    let same = part_unit (units_in c.args.self) c.args.part.depth (c.args.part.depth - 1) c.in-Structure.unit c.args.part.base (option_copied c.args.part.initial) c.in-Structure.is (omega (arith, c.if-part-eq0.false)) in
    (omega (arith, c.decreases, c.if-part-eq0.false), (c.requires.walk, (omega (arith, c.requires.depth), room_of c.args.listing.now (part_leaves (units_in c.args.self) c.args.part) _ same c.requires.room)))

pub list_part-returns-in-Unknown-clause-listed : goal.list_part-returns-in-Unknown-clause-listed
list_part-returns-in-Unknown-clause-listed t c =
    nothing_listed c.args.listing.now (part_leaves (units_in c.args.self) c.args.part)
    (part_of (units_in c.args.self) c.args.part.depth c.args.part.base bases.Unknown (option_copied c.args.part.initial) _ c.in-Unknown.is (part_unknown (units_in c.args.self) c.args.part.depth (option_copied c.args.part.initial)))

pub list_part-returns-in-Unknown-clause-ways : goal.list_part-returns-in-Unknown-clause-ways
list_part-returns-in-Unknown-clause-ways t c =
    nothing_ways (part_leaves (units_in c.args.self) c.args.part)
    (part_of (units_in c.args.self) c.args.part.depth c.args.part.base bases.Unknown (option_copied c.args.part.initial) _ c.in-Unknown.is (part_unknown (units_in c.args.self) c.args.part.depth (option_copied c.args.part.initial)))

pub list_part-returns-in-Elementary-clause-listed : goal.list_part-returns-in-Elementary-clause-listed
list_part-returns-in-Elementary-clause-listed t c =
    let same = part_of (units_in c.args.self) c.args.part.depth c.args.part.base (bases.Elementary c.in-Elementary.elem) (option_copied c.args.part.initial) _ c.in-Elementary.is
    (part_elementary (units_in c.args.self) c.args.part.depth c.in-Elementary.elem (option_copied c.args.part.initial) (omega (arith, c.if-part-eq0.false))) in
    on_ok_weaker c.push.result
    (λ h. elementary_listed c.args.listing.now c.push.new.self c.in-Elementary.elem (option_copied c.args.part.initial) c.started_value-initial.result (part_leaves (units_in c.args.self) c.args.part) same c.started_value-initial.ensures h) c.push.ensures

pub list_part-returns-in-Elementary-clause-ways : goal.list_part-returns-in-Elementary-clause-ways
list_part-returns-in-Elementary-clause-ways t c =
    let same = part_of (units_in c.args.self) c.args.part.depth c.args.part.base (bases.Elementary c.in-Elementary.elem) (option_copied c.args.part.initial) _ c.in-Elementary.is
    (part_elementary (units_in c.args.self) c.args.part.depth c.in-Elementary.elem (option_copied c.args.part.initial) (omega (arith, c.if-part-eq0.false))) in
    on_ok_weaker c.push.result (λ h. subst AreWays (sym same) (ways_by (record { path = []; spine = []; initial = started_value c.in-Elementary.elem (option_copied c.args.part.initial); use' = plain } ∷ []) refl)) c.push.ensures

pub list_part-returns-in-Array-clause-listed : goal.list_part-returns-in-Array-clause-listed
list_part-returns-in-Array-clause-listed t c =
    let same = part_of (units_in c.args.self) c.args.part.depth c.args.part.base (bases.Array c.in-Array.unit) (option_copied c.args.part.initial) _ c.in-Array.is
    (part_array (units_in c.args.self) c.args.part.depth (c.args.part.depth - 1) c.in-Array.unit (option_copied c.args.part.initial) (omega (arith, c.if-part-eq0.false))) in
    on_ok_weaker c.list_array.result (λ h. h ∙ ap (listed c.args.listing.now) (sym same)) c.list_array.ensures.listed

pub list_part-returns-in-Array-clause-ways : goal.list_part-returns-in-Array-clause-ways
list_part-returns-in-Array-clause-ways t c =
    let same = part_of (units_in c.args.self) c.args.part.depth c.args.part.base (bases.Array c.in-Array.unit) (option_copied c.args.part.initial) _ c.in-Array.is
    (part_array (units_in c.args.self) c.args.part.depth (c.args.part.depth - 1) c.in-Array.unit (option_copied c.args.part.initial) (omega (arith, c.if-part-eq0.false))) in
    on_ok_weaker c.list_array.result (λ h. subst AreWays (sym same) h) c.list_array.ensures.ways

pub list_part-returns-in-Standard-clause-listed : goal.list_part-returns-in-Standard-clause-listed
list_part-returns-in-Standard-clause-listed t c =
    let same = part_of (units_in c.args.self) c.args.part.depth c.args.part.base (bases.Standard c.in-Standard.block) (option_copied c.args.part.initial) _ c.in-Standard.is
    (part_standard (units_in c.args.self) c.args.part.depth c.in-Standard.block (option_copied c.args.part.initial) (omega (arith, c.if-part-eq0.false))) in
    on_ok_weaker c.list_block.result (λ h. h ∙ ap (listed c.args.listing.now) (sym same)) c.list_block.ensures.listed

pub list_part-returns-in-Standard-clause-ways : goal.list_part-returns-in-Standard-clause-ways
list_part-returns-in-Standard-clause-ways t c =
    let same = part_of (units_in c.args.self) c.args.part.depth c.args.part.base (bases.Standard c.in-Standard.block) (option_copied c.args.part.initial) _ c.in-Standard.is
    (part_standard (units_in c.args.self) c.args.part.depth c.in-Standard.block (option_copied c.args.part.initial) (omega (arith, c.if-part-eq0.false))) in
    on_ok_weaker c.list_block.result (λ h. subst AreWays (sym same) c.list_block.ensures.ways) c.list_block.ensures.listed

pub list_part-returns-in-Structure-clause-listed : goal.list_part-returns-in-Structure-clause-listed
list_part-returns-in-Structure-clause-listed t c =
    let same = part_unit (units_in c.args.self) c.args.part.depth (c.args.part.depth - 1) c.in-Structure.unit c.args.part.base (option_copied c.args.part.initial) c.in-Structure.is (omega (arith, c.if-part-eq0.false)) in
    on_ok_weaker c.list_unit.result (λ h. h ∙ ap (listed c.args.listing.now) (sym same)) c.list_unit.ensures.listed

pub list_part-returns-in-Structure-clause-ways : goal.list_part-returns-in-Structure-clause-ways
list_part-returns-in-Structure-clause-ways t c =
    let same = part_unit (units_in c.args.self) c.args.part.depth (c.args.part.depth - 1) c.in-Structure.unit c.args.part.base (option_copied c.args.part.initial) c.in-Structure.is (omega (arith, c.if-part-eq0.false)) in
    on_ok_weaker c.list_unit.result (λ h. subst AreWays (sym same) h) c.list_unit.ensures.ways

pub list_unit-returns-then-unit-len-clause-listed : goal.list_unit-returns-then-unit-len-clause-listed
list_unit-returns-then-unit-len-clause-listed t c =
    nothing_listed c.args.listing.now (unit_leaves (units_in c.args.self) c.args.depth c.args.unit) (unit_none (units_in c.args.self) c.args.depth c.args.unit (omega (arith, c.len.ensures, c.if-unit-len.true)))

pub list_unit-returns-then-unit-len-clause-ways : goal.list_unit-returns-then-unit-len-clause-ways
list_unit-returns-then-unit-len-clause-ways t c =
    nothing_ways (unit_leaves (units_in c.args.self) c.args.depth c.args.unit) (unit_none (units_in c.args.self) c.args.depth c.args.unit (omega (arith, c.len.ensures, c.if-unit-len.true)))

pub list_unit-list_members-requires : goal.list_unit-list_members-requires
list_unit-list_members-requires t c =
    let units = units_in c.args.self in
    let members = member_leaves units c.args.depth c.as_slice-name.result.now (declared_of c.as_slice.result.now) in
    let chart = leaves_of_parts c.as_slice-name.result.now (get_or c.args.self.charts.now c.args.unit no_chart) in
    let split = unit_split units c.args.self.names.now c.args.self.charts.now c.args.depth c.args.unit c.as_slice-name.result.now c.index-self-unit.result (declared_of c.as_slice.result.now)
    (get_or c.args.self.charts.now c.args.unit no_chart) no_chart (omega (arith, c.len.ensures, c.if-unit-len.false)) c.requires.walk.names (same_at units c.args.self.members.now c.args.unit c.as_slice.result.now c.index-self-unit-2.result c.requires.walk.members (omega (arith, c.len.ensures, c.if-unit-len.false)) c.as_slice.ensures) c.requires.walk.charts c.requires.depth c.as_slice-name.ensures refl in (omega (arith, c.decreases), (c.requires.walk, (c.requires.depth, (known_at units c.args.self.members.now c.args.unit c.as_slice.result.now c.index-self-unit-2.result c.requires.walk.members (omega (arith, c.len.ensures, c.if-unit-len.false)) c.as_slice.ensures, first_room c.args.listing.now members chart _ split c.requires.room))))

pub list_unit-list_chart-requires : goal.list_unit-list_chart-requires
list_unit-list_chart-requires t c =
    let units = units_in c.args.self in
    let members = member_leaves units c.args.depth c.as_slice-name.result.now (declared_of c.as_slice.result.now) in
    let parts = get_or c.args.self.charts.now c.args.unit c.index-self-unit-3.result in
    let chart = leaves_of_parts c.as_slice-name.result.now parts in
    let split = unit_split units c.args.self.names.now c.args.self.charts.now c.args.depth c.args.unit c.as_slice-name.result.now c.index-self-unit.result (declared_of c.as_slice.result.now)
    parts c.index-self-unit-3.result (omega (arith, c.len.ensures, c.if-unit-len.false)) c.requires.walk.names (same_at units c.args.self.members.now c.args.unit c.as_slice.result.now c.index-self-unit-2.result c.requires.walk.members (omega (arith, c.len.ensures, c.if-unit-len.false)) c.as_slice.ensures) c.requires.walk.charts c.requires.depth c.as_slice-name.ensures refl in record { room = second_room c.args.listing.now c.list_members.new.listing members chart _ split c.in_ok-list_members.ensures.listed c.requires.room }

pub list_unit-returns-clause-listed : goal.list_unit-returns-clause-listed
list_unit-returns-clause-listed t c =
    let units = units_in c.args.self in
    let members = member_leaves units c.args.depth c.as_slice-name.result.now (declared_of c.as_slice.result.now) in
    let parts = get_or c.args.self.charts.now c.args.unit c.index-self-unit-3.result in
    let chart = leaves_of_parts c.as_slice-name.result.now parts in
    let split = unit_split units c.args.self.names.now c.args.self.charts.now c.args.depth c.args.unit c.as_slice-name.result.now c.index-self-unit.result (declared_of c.as_slice.result.now)
    parts c.index-self-unit-3.result (omega (arith, c.len.ensures, c.if-unit-len.false)) c.requires.walk.names (same_at units c.args.self.members.now c.args.unit c.as_slice.result.now c.index-self-unit-2.result c.requires.walk.members (omega (arith, c.len.ensures, c.if-unit-len.false)) c.as_slice.ensures) c.requires.walk.charts c.requires.depth c.as_slice-name.ensures refl in
    on_ok_weaker c.list_chart.result (λ h. listed_more c.args.listing.now c.list_members.new.listing c.list_chart.new.self members chart (unit_leaves units c.args.depth c.args.unit) split c.in_ok-list_members.ensures.listed h) c.list_chart.ensures.listed

pub list_unit-returns-clause-ways : goal.list_unit-returns-clause-ways
list_unit-returns-clause-ways t c =
    let units = units_in c.args.self in
    let members = member_leaves units c.args.depth c.as_slice-name.result.now (declared_of c.as_slice.result.now) in
    let parts = get_or c.args.self.charts.now c.args.unit c.index-self-unit-3.result in
    let chart = leaves_of_parts c.as_slice-name.result.now parts in
    let split = unit_split units c.args.self.names.now c.args.self.charts.now c.args.depth c.args.unit c.as_slice-name.result.now c.index-self-unit.result (declared_of c.as_slice.result.now)
    parts c.index-self-unit-3.result (omega (arith, c.len.ensures, c.if-unit-len.false)) c.requires.walk.names (same_at units c.args.self.members.now c.args.unit c.as_slice.result.now c.index-self-unit-2.result c.requires.walk.members (omega (arith, c.len.ensures, c.if-unit-len.false)) c.as_slice.ensures) c.requires.walk.charts c.requires.depth c.as_slice-name.ensures refl in
    on_ok_weaker c.list_chart.result (λ h. ways_more members chart (unit_leaves units c.args.depth c.args.unit) split c.in_ok-list_members.ensures.ways h) c.list_chart.ensures.ways
