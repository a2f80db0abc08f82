-- What leaves are for, in code.
use Rattle.st_leaves.specs.LeavesIn.{Use, active, begun, elapsed, hidden, plain, pulsed}
use Rattle.st_listing.specs.declared.leaf_use.LeafUse.{LeafUse}
use Rattle.st_listing.specs.declared.leaf_use.LeafUse.TheVariants as uses

abbrev pub meant : LeafUse → Use
meant uses.Plain = plain
meant uses.Hidden = hidden
meant uses.Begun = begun
meant (uses.Active back) = active back
meant uses.Elapsed = elapsed
meant (uses.Pulsed active_back begun_back) = pulsed active_back begun_back
