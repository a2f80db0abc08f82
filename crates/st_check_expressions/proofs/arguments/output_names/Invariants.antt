use Rattle.std.proofs.Common.{◌≡◌, ◌++◌, drop, map}
use Rattle.st_check_expressions.specs.Nodes.{outputs_of}
use Rattle.st_check_expressions.proofs.arguments.output_names.Given as goal

-- those that were found, and those that are left
abbrev pub invariant-arguments : goal.invariant-arguments
invariant-arguments l = map (λ n. n.now) l.names.items ++ outputs_of (drop l.argument-index l.arguments) ≡ outputs_of l.arguments
