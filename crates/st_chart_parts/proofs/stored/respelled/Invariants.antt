use Rattle.std.proofs.Common.{◌≡◌, map, take}
use Rattle.st_leaves.specs.Charts.{as_declared, spelled}
use Rattle.st_chart_parts.proofs.stored.respelled.Given as goal

-- the names so far
abbrev pub invariant-names : goal.invariant-names
invariant-names l = spelled l.words.items ≡ map (as_declared l.declared) (spelled (take l.name-index l.names))
