use Rattle.std.proofs.Common.{map, take}
use Rattle.st_places.specs.Callables.{HasVariables}
use Rattle.st_scopes.specs.Declarations.{seen}
use Rattle.st_types.specs.Names.{units_of}
use Rattle.st_places.proofs.functions.function_of.Given as goal

-- of the names so far
abbrev pub invariant-names : goal.invariant-names
invariant-names l = HasVariables (units_of l.tables) l.function.result (map seen (take l.declared-index l.declared-items)) l.all
