use Rattle.std.proofs.Common.{◌≡◌, ℕ, get_or, length, None}
use Rattle.st_emit_expressions.proofs.functions.none_noted.Given as goal

abbrev pub invariant-loop : goal.invariant-loop
invariant-loop l = record { number : length l.all.items ≡ l.counter; none : (number : ℕ) → get_or l.all.items number None ≡ None }
