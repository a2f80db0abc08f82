use Rattle.std.proofs.Common.{◌≡◌, ◌++◌, map, take}
use Rattle.st_leaves.specs.Charts.{variable_names}
use Rattle.st_scopes.specs.Declarations.{seen}
use Rattle.st_chart_parts.proofs.spellings.Spellings.add_variables.Given as goal

-- of the variables so far
abbrev pub invariant-variables : goal.invariant-variables
invariant-variables l = l.self ≡ l.initial.self ++ variable_names (map seen (take l.variable-index l.variables))
