-- What is moved of the arguments of an invocation (3.3.2.2).
use Rattle.std.specs.Prelude.{ℕ, List}
use Rattle.st_tree.specs.declared.tree.expression.Argument.{Argument}
use Rattle.st_meaning.specs.Terms.{Moves}
use Rattle.st_meaning.specs.Typing.{inputs_of, outputs_of}
use Rattle.st_meaning.specs.Wholes.{Whole}
use Rattle.st_emit.specs.declared.invocations.Moved.{Moved}
use Rattle.st_emit.specs.declared.invocations.Moved.TheVariants as moved

-- the inputs of an instance of this name, or its outputs
abbrev pub moves_of : Moved → Whole → List ℕ → List Argument → Moves
moves_of moved.Inputs = inputs_of
moves_of moved.Outputs = outputs_of
