use Rattle.st_scopes.specs.Declarations.{seen}
use Rattle.st_types.specs.Names.{units_of}
use Rattle.st_check.proofs.Lists.{all_read}
use Rattle.st_check.proofs.Parts.{IsShapeSized}
use Rattle.st_check.proofs.types.variables_size.Goals as goal

pub declared_size-requires : goal.declared_size-requires
declared_size-requires c =
    all_read (IsShapeSized (units_of c.args.tables.now) c.args.sizes.now) seen c.args.variables.now c.variables.variable-index c.variable-item.result c.variables-test.true c.variable-item.is c.requires
