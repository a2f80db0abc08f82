use Rattle.st_types.specs.Names.{declared_in, units_of}
use Rattle.st_listing.proofs.DeclaredNames.{same_next}
use Rattle.st_listing.proofs.rows.Sieve.add_declarations.Goals as goal

pub declarations-preserved : goal.declarations-preserved
declarations-preserved c =
    same_next (units_of c.args.self.tables.now) (declared_in c.args.kind) c.args.rows.now c.declarations.rows c.add_declaration.new.rows c.args.declarations.now c.declarations.declaration-index c.declaration-item.result c.declarations-test.true c.declaration-item.is
    c.declarations.invariant c.in_ok-add_declaration.ensures
