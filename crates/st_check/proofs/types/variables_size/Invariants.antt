use Rattle.std.proofs.Common.{map, take}
use Rattle.std.specs.List.{flat_map}
use Rattle.st_leaves.specs.Leaves.{declared_leaves}
use Rattle.st_leaves.specs.Limits.{sizes_of}
use Rattle.st_check.specs.Sized.{type_leaves}
use Rattle.st_leaves.specs.Sizes.{IsSize}
use Rattle.st_scopes.specs.Declarations.{seen}
use Rattle.st_types.specs.Names.{units_of}
use Rattle.st_check.proofs.types.variables_size.Given as goal

-- of the variables so far
abbrev pub invariant-variables : goal.invariant-variables
invariant-variables l =
    IsSize l.size (sizes_of (flat_map (declared_leaves (units_of l.tables) (type_leaves (units_of l.tables))) (map seen (take l.variable-index l.variables))))
