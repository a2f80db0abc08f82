use Rattle.std.proofs.Common.{◌≡◌, ◌≤◌, [], length, pos}
use Rattle.std.specs.List.{All}
use Rattle.st_values.specs.Values.{IsValue}
use Rattle.st_meaning.specs.Statements.{Outcome}
use Rattle.st_code.specs.Machine.{Reaches, state}
use Rattle.st_machine.specs.Functions.{AreFunctions}
use Rattle.st_machine.specs.Levels.{Said, environment_with, rooms_of}
use Rattle.st_machine.proofs.Ends.{weight}
use Rattle.st_machine.proofs.calls.+call.Given as goal

-- each level has as many levels as stand before it
abbrev pub decreases-call : goal.decreases-call
decreases-call l = length l.levels.now

-- each run that begins so is on its way
abbrev pub invariant-loop-place : goal.invariant-loop-place
invariant-loop-place l = record {
  values : All IsValue l.variables;
  lower : rooms_of l.lower ≡ rooms_of l.initial.lower;
  room : l.own.1 ≡ l.initial.own.1;
  steps : l.left ≤ l.limit;
  way : (said : Said) → AreFunctions l.functions (rooms_of l.fn.levels) said → (o : Outcome)
      → Reaches (environment_with said (pos 0) []) l.initial.own.1 l.function.code o (state 0 [] l.initial.variables l.limit)
      → Reaches (environment_with said (pos 0) []) l.initial.own.1 l.function.code o (state l.place l.own.0 l.variables l.left);
}

abbrev pub decreases-loop-place : goal.decreases-loop-place
decreases-loop-place l = weight (length l.function.code) l.place l.left
