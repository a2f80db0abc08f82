use Rattle.std.proofs.Common.{◌++◌, subst}
use Rattle.std.specs.List.{flat_map}
use Rattle.st_types.specs.Names.{declared_in, units_of}
use Rattle.st_listing.specs.Walks.{ListsTheSame}
use Rattle.st_listing.proofs.DeclaredNames.{same_next}
use Rattle.st_listing.proofs.rows.Sieve.add_blocks.Goals as goal

pub each-preserved : goal.each-preserved
each-preserved c =
    same_next (units_of c.args.self.tables.now) (λ b. flat_map (declared_in b.kind) b.declarations) c.args.rows.now c.each.rows c.add_declarations.new.rows c.args.blocks.now c.each.block-index c.block-item.result c.each-test.true c.block-item.is
    c.each.invariant
    (subst (λ ds. ListsTheSame (units_of c.args.self.tables.now) c.add_declarations.new.rows (c.each.rows ++ flat_map (declared_in c.block-item.result.kind) ds)) c.as_slice.ensures c.in_ok-add_declarations.ensures)
