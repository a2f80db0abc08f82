use Rattle.std.proofs.Common.{◌≡◌, ◌+◌, ◌*◌, drop, length}
use Rattle.st_leaves.specs.LeavesIn.{elements_in, subscript_lists}
use Rattle.st_listing.specs.Listings.{AreWays, listed}
use Rattle.st_listing.specs.Members.{declared_of}
use Rattle.st_listing.specs.Walks.{member_leaves, part_leaves, units_in}
use Rattle.st_listing.proofs.walk.Walk.+walk.Given as goal

abbrev pub decreases-list_part : goal.decreases-list_part
decreases-list_part l = 8 * l.part.depth

abbrev pub decreases-list_element : goal.decreases-list_element
decreases-list_element l = 8 * l.element.depth + 1

abbrev pub decreases-list_elements : goal.decreases-list_elements
decreases-list_elements l = 8 * l.element.depth + 2

abbrev pub decreases-list_array : goal.decreases-list_array
decreases-list_array l = 8 * l.depth + 3

abbrev pub decreases-list_declared : goal.decreases-list_declared
decreases-list_declared l = 8 * l.depth + 3

abbrev pub decreases-list_member : goal.decreases-list_member
decreases-list_member l = 8 * l.depth + 4

abbrev pub decreases-list_members : goal.decreases-list_members
decreases-list_members l = 8 * l.depth + 5

abbrev pub decreases-list_unit : goal.decreases-list_unit
decreases-list_unit l = 8 * l.depth + 6

-- the elements that are left give the whole
abbrev pub invariant-list_elements-elements : goal.invariant-list_elements-elements
invariant-list_elements-elements l = record {
  left : listed l.listing (elements_in l.choices l.firsts (part_leaves (units_in l.self) l.element))
      ≡ listed l.fn.listing (elements_in (subscript_lists l.ranges) l.fn.firsts (part_leaves (units_in l.self) l.element));
  ways : AreWays (elements_in l.choices l.firsts (part_leaves (units_in l.self) l.element))
      → AreWays (elements_in (subscript_lists l.ranges) l.fn.firsts (part_leaves (units_in l.self) l.element));
}

abbrev pub decreases-list_elements-elements : goal.decreases-list_elements-elements
decreases-list_elements-elements l = length l.choices

-- the members that are left give the whole
abbrev pub invariant-list_members-members : goal.invariant-list_members-members
invariant-list_members-members l = record {
  left : listed l.listing (member_leaves (units_in l.self) l.depth l.of (declared_of (drop l.member-index l.members)))
      ≡ listed l.fn.listing (member_leaves (units_in l.self) l.depth l.of (declared_of l.members));
  ways : AreWays (member_leaves (units_in l.self) l.depth l.of (declared_of (drop l.member-index l.members)))
      → AreWays (member_leaves (units_in l.self) l.depth l.of (declared_of l.members));
}
