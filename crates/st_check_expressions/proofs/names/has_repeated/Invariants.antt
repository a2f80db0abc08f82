use Rattle.std.proofs.Common.{◌≡◌, drop, map}
use Rattle.st_check_expressions.specs.Calls.{is_repeated}
use Rattle.st_check_expressions.proofs.Repeated.{repeats}
use Rattle.st_check_expressions.proofs.names.has_repeated.Given as goal

abbrev pub invariant-names : goal.invariant-names
invariant-names l = repeats l.seen (map (λ n. n.now) (drop l.name-index l.names)) ≡ is_repeated (map (λ n. n.now) l.names)
