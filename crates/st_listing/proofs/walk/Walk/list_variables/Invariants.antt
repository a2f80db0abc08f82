use Rattle.std.proofs.Common.{◌≡◌, codes, drop, false}
use Rattle.st_listing.specs.Listings.{AreWays, listed}
use Rattle.st_listing.specs.Members.{declared_of}
use Rattle.st_listing.specs.Walks.{units_in, variable_leaves}
use Rattle.st_listing.proofs.walk.Walk.list_variables.Given as goal

-- the variables that are left give the whole
abbrev pub invariant-each : goal.invariant-each
invariant-each l = record {
  left : listed l.listing (variable_leaves (units_in l.self) l.depth (codes "PROGRAM") (declared_of (drop l.variable-index l.variables)))
      ≡ listed l.fn.listing (variable_leaves (units_in l.self) l.depth (codes "PROGRAM") (declared_of l.variables));
  ways : AreWays (variable_leaves (units_in l.self) l.depth (codes "PROGRAM") (declared_of (drop l.variable-index l.variables)))
      → AreWays (variable_leaves (units_in l.self) l.depth (codes "PROGRAM") (declared_of l.variables));
  input : l.listing.is_input ≡ false;
}
