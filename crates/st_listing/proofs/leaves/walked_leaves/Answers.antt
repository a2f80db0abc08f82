use Rattle.st_listing.specs.Walks.{units_in}
use Rattle.st_listing.proofs.ProgramLeaves.{all_walked}
use Rattle.st_listing.proofs.leaves.walked_leaves.Goals as goal

pub returns-clause-leaves : goal.returns-clause-leaves
returns-clause-leaves c = λ u found.
    all_walked (units_in c.args.walk) c.args.main u c.unit.result c.as_slice-name.result.now c.in_ok-listing.listing c.list_program.new.listing c.into_leaves.result.items c.unit.ensures found
    c.as_slice-name.ensures c.in_ok-listing.ensures (c.in_ok-list_program.ensures.listed u found) c.into_leaves.ensures
