use Rattle.st_types.specs.Names.{units_of}
use Rattle.st_check_units.specs.Declarations.{declaration_faults}
use Rattle.st_faults.proofs.Offers.{turn}
use Rattle.st_check_units.proofs.declarations.check_declarations.Goals as goal

pub loop-declaration-preserved : goal.loop-declaration-preserved
loop-declaration-preserved c =
    turn (declaration_faults (units_of c.args.types.now) c.args.permitted) c.args.declarations.now c.loop-declaration.declaration-index c.declaration-item.result c.loop-declaration.first c.check_declaration.new.first _ c.loop-declaration-test.true c.declaration-item.is c.check_declaration.ensures c.loop-declaration.invariant
