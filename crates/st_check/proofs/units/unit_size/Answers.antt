use Rattle.std.proofs.Common.{map, subst, sym}
use Rattle.std.specs.List.{All, flat_map}
use Rattle.st_leaves.specs.Charts.{chart_leaves, stored_of, variable_names}
use Rattle.st_leaves.specs.Leaves.{declared_leaves}
use Rattle.st_leaves.specs.Limits.{sizes_of}
use Rattle.st_check.specs.Sized.{type_leaves}
use Rattle.st_scopes.specs.Declarations.{seen}
use Rattle.st_types.specs.Inside.{declared_by}
use Rattle.st_types.specs.Names.{chart_in, units_of, variables_in}
use Rattle.st_check.proofs.Parts.{IsShapeSized, variables_sized}
use Rattle.st_check.proofs.Whole.{unit_sized}
use Rattle.st_check.proofs.units.unit_size.Goals as goal

pub variables_size-variables-requires : goal.variables_size-variables-requires
variables_size-variables-requires c =
    subst (All (IsShapeSized (units_of c.args.tables.now) c.args.sizes.now)) (sym c.declared.ensures) (variables_sized (units_of c.args.tables.now) c.args.sizes.now c.args.unit c.requires.sized)

pub returns : goal.returns
returns c = λ named is.
    unit_sized (units_of c.args.tables.now) c.args.unit c.unit.result named (map seen c.declared.result.now) c.beside.result c.unit.ensures is c.declared.ensures
    (c.beside.ensures (sizes_of (flat_map (declared_leaves (units_of c.args.tables.now) (type_leaves (units_of c.args.tables.now))) (map seen c.declared.result.now)))
    (sizes_of (chart_leaves (stored_of (declared_by c.unit.result.kind)) (chart_in (declared_by c.unit.result.kind)))) c.variables_size-variables.ensures
    (c.in_ok-chart.ensures (variable_names (variables_in (declared_by c.unit.result.kind)))))
