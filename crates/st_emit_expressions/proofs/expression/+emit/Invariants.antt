use Rattle.std.proofs.Common.{◌≡◌, ◌≤◌, ◌++◌, take, drop, length, reverse, false}
use Rattle.st_leaves.specs.Selected.{selected_by}
use Rattle.st_code.specs.Code.{parts_code, terms_code}
use Rattle.st_meaning.specs.Sound.{types_in}
use Rattle.st_meaning.specs.Typing.{arguments_from}
use Rattle.st_emit_expressions.specs.Calls.{AreTyped, arguments_code, passed_in, positionals}
use Rattle.st_emit_expressions.specs.Emits.{Leaves, own_types, terms_in}
use Rattle.st_emit_expressions.specs.Places.{behind_parts, is_indexed}
use Rattle.st_emit_expressions.specs.Trees.{chain_of, parts_in, whole_of}
use Rattle.st_emit_expressions.proofs.expression.+emit.Given as goal

-- the first operands leave the whole complete
abbrev pub invariant-emit_expression-loop-i : goal.invariant-emit_expression-loop-i
invariant-emit_expression-loop-i l =
    let w = whole_of l.scope in
    (l.i ≤ length l.operations) × Leaves w.variables l.due ((chain_of w l.first (take l.i l.operations)).as_type l.due) l.code l.initial.due ((chain_of w l.first l.operations).as_type l.initial.due) l.initial.code

abbrev pub decreases-emit_expression-loop-i : goal.decreases-emit_expression-loop-i
decreases-emit_expression-loop-i l = l.i

abbrev pub invariant-emit_parts-loop-i : goal.invariant-emit_parts-loop-i
invariant-emit_parts-loop-i l =
    let w = whole_of l.scope in
    let front = take l.i l.parts in
    (l.i ≤ length l.parts) × (l.code ≡ l.initial.code ++ reverse (parts_code w.variables (is_indexed w false front) (behind_parts w (selected_by w.variables l.variable.name.spelling) front) (parts_in w (drop l.i l.parts))))

abbrev pub decreases-emit_parts-loop-i : goal.decreases-emit_parts-loop-i
decreases-emit_parts-loop-i l = l.i

abbrev pub invariant-emit_alone-loop-i : goal.invariant-emit_alone-loop-i
invariant-emit_alone-loop-i l =
    let w = whole_of l.scope in
    let rest = drop l.i l.expressions in
    record {
      inside : l.i ≤ length l.expressions;
      code : l.code ≡ l.initial.code ++ reverse (terms_code w.variables (terms_in w rest));
      types : types_in w.variables (terms_in w rest) ≡ own_types w rest;
    }

abbrev pub decreases-emit_alone-loop-i : goal.decreases-emit_alone-loop-i
decreases-emit_alone-loop-i l = l.i

abbrev pub invariant-emit_arguments-loop-i : goal.invariant-emit_arguments-loop-i
invariant-emit_arguments-loop-i l =
    let w = whole_of l.scope in
    let rest = positionals w (drop l.i l.arguments) in
    record {
      inside : l.i ≤ length l.arguments;
      left : l.left ≡ length (positionals w (take l.i l.arguments));
      code : l.code ≡ l.initial.code ++ reverse (arguments_code w.variables l.standard l.fn.due l.left rest);
      types : AreTyped w.variables l.standard l.fn.due l.left rest;
    }

abbrev pub decreases-emit_arguments-loop-i : goal.decreases-emit_arguments-loop-i
decreases-emit_arguments-loop-i l = l.i

-- the values of the arguments from this number on
abbrev pub invariant-emit_passed-loop-number : goal.invariant-emit_passed-loop-number
invariant-emit_passed-loop-number l =
    let w = whole_of l.scope in
    record {
      inside : l.number ≤ length l.arguments;
      place : l.place ≡ length (passed_in w (take l.number l.arguments));
      code : l.code ≡ l.initial.code ++ reverse (terms_code w.variables (arguments_from l.function.inputs l.place (passed_in w (drop l.number l.arguments))));
    }

abbrev pub decreases-emit_passed-loop-number : goal.decreases-emit_passed-loop-number
decreases-emit_passed-loop-number l = l.number
