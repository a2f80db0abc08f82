use Rattle.std.proofs.Common.{◌≡◌, ◌≤◌, length}
use Rattle.st_emit_expressions.specs.Functions.{AreFirst}
use Rattle.st_emit_expressions.specs.Trees.{whole_of}
use Rattle.st_emit_expressions.proofs.Destinations.{front}
use Rattle.st_emit_expressions.proofs.functions.first_arguments.Given as goal

-- those among the arguments so far
abbrev pub invariant-loop-argument : goal.invariant-loop-argument
invariant-loop-argument l =
    let to = front (whole_of l.scope) l.function l.arguments l.argument-index in
    record {
      few : l.place ≤ l.argument-index;
      count : l.place ≡ length to;
      first : AreFirst (length l.function.inputs) to l.all.items;
    }
