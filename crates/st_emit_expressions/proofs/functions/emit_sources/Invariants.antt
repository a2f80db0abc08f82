use Rattle.std.proofs.Common.{◌≡◌, ◌≤◌, ◌++◌, drop, length, reverse}
use Rattle.st_code.specs.Code.{inputs_code}
use Rattle.st_meaning.specs.Typing.{sources_from}
use Rattle.st_emit_expressions.specs.Functions.{destinations}
use Rattle.st_emit_expressions.specs.Trees.{whole_of}
use Rattle.st_emit_expressions.proofs.functions.emit_sources.Given as goal

-- those of the inputs from this number on
abbrev pub invariant-loop-number : goal.invariant-loop-number
invariant-loop-number l =
    let to = destinations (whole_of l.scope) l.function l.arguments in
    record {
      inside : l.number ≤ length l.function.inputs;
      code : l.code ≡ l.initial.code ++ reverse (inputs_code l.count l.number (sources_from to l.number (drop l.number l.function.inputs)));
    }

abbrev pub decreases-loop-number : goal.decreases-loop-number
decreases-loop-number l = l.number
