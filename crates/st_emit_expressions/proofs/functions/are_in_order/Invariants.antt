use Rattle.std.proofs.Common.{◌≡◌, ◌<◌, ◌≤◌, ℕ, true, get_or, length, None}
use Rattle.st_meaning.specs.Typing.{is_number}
use Rattle.st_emit_expressions.specs.Trees.{whole_of}
use Rattle.st_emit_expressions.proofs.Destinations.{front}
use Rattle.st_emit_expressions.proofs.functions.are_in_order.Given as goal

-- each argument so far goes to the input of its place
abbrev pub invariant-loop-argument : goal.invariant-loop-argument
invariant-loop-argument l =
    let to = front (whole_of l.scope) l.function l.arguments l.argument-index in
    record {
      few : l.place ≤ l.argument-index;
      count : l.place ≡ length to;
      each : (n : ℕ) → n < l.place → is_number n (get_or to n None) ≡ true;
    }
