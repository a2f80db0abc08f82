use Rattle.std.specs.Option.{is_some}
use Rattle.std.proofs.Common.{◌≡◌, map, take}
use Rattle.st_meaning.specs.Sketched.{variable_named}
use Rattle.st_places.specs.Parts.{whole_in}
use Rattle.st_compile.proofs.charts.bool_variables.Given as goal

-- of the names so far
abbrev pub invariant-names : goal.invariant-names
invariant-names l = l.variables.items ≡ map (λ n. is_some (variable_named (whole_in l.tables l.unit).variables n)) (take l.number l.names)
