use Rattle.std.proofs.Common.{◌≡◌, map, take}
use Rattle.std.specs.List.{flat_map}
use Rattle.st_scopes.specs.Declarations.{seen}
use Rattle.st_types.specs.Inside.{declared_by}
use Rattle.st_types.specs.Scopes.{input_of}
use Rattle.st_scopes.proofs.names.inputs_of.Given as goal

-- the inputs so far
abbrev pub invariant-loop-variable : goal.invariant-loop-variable
invariant-loop-variable l = l.inputs ≡ flat_map (input_of l.types (declared_by l.unit)) (map seen (take l.variable-index l.variables))
