use Rattle.std.proofs.Common.{◌≡◌, ◌+◌, ◌-◌, ◌*◌, ◌<◌, ◌≤◌, [], length, Ok}
use Rattle.st_parser.specs.Reader.Parsers as parser
use Rattle.st_tokens.specs.declared.symbol.Symbol.TheVariants as symbols
use Rattle.st_parser.specs.Reader.Expressions as spec
use Rattle.st_parser.proofs.Loops.{Left}
use Rattle.st_parser.proofs.expression.+parser.Given as goal

abbrev pub decreases-inside : goal.decreases-inside
decreases-inside l = 40 * l.depth_left

abbrev pub decreases-boxed_inside : goal.decreases-boxed_inside
decreases-boxed_inside l = 40 * l.depth_left + 1

abbrev pub decreases-boxed_target : goal.decreases-boxed_target
decreases-boxed_target l = 40 * l.depth_left

abbrev pub decreases-expressions : goal.decreases-expressions
decreases-expressions l = 40 * l.depth_left + 2

abbrev pub decreases-subscripts : goal.decreases-subscripts
decreases-subscripts l = 40 * l.depth_left + 3

abbrev pub decreases-part : goal.decreases-part
decreases-part l = 40 * l.depth_left + 4

abbrev pub decreases-parts : goal.decreases-parts
decreases-parts l = 40 * l.depth_left + 5

abbrev pub decreases-variable : goal.decreases-variable
decreases-variable l = 40 * l.depth_left + 6

abbrev pub decreases-input : goal.decreases-input
decreases-input l = 40 * l.depth_left + 2

abbrev pub decreases-output : goal.decreases-output
decreases-output l = 40 * l.depth_left + 1

abbrev pub decreases-positional : goal.decreases-positional
decreases-positional l = 40 * l.depth_left + 1

abbrev pub decreases-argument : goal.decreases-argument
decreases-argument l = 40 * l.depth_left + 3

abbrev pub decreases-argument_list : goal.decreases-argument_list
decreases-argument_list l = 40 * l.depth_left + 4

abbrev pub decreases-arguments : goal.decreases-arguments
decreases-arguments l = 40 * l.depth_left + 5

abbrev pub decreases-call : goal.decreases-call
decreases-call l = 40 * l.depth_left + 6

abbrev pub decreases-parenthesized : goal.decreases-parenthesized
decreases-parenthesized l = 40 * l.depth_left + 2

abbrev pub decreases-named : goal.decreases-named
decreases-named l = 40 * l.depth_left + 7

abbrev pub decreases-primary : goal.decreases-primary
decreases-primary l = 40 * l.depth_left + 8

abbrev pub decreases-boxed_primary : goal.decreases-boxed_primary
decreases-boxed_primary l = 40 * l.depth_left + 9

abbrev pub decreases-unary : goal.decreases-unary
decreases-unary l = 40 * l.depth_left + 11

abbrev pub decreases-binary : goal.decreases-binary
decreases-binary l = 40 * l.depth_left + 3 * l.precedence + 12

abbrev pub decreases-operation : goal.decreases-operation
decreases-operation l = 40 * l.depth_left + 3 * l.precedence + 13

abbrev pub decreases-operations : goal.decreases-operations
decreases-operations l = 40 * l.depth_left + 3 * l.precedence + 14

abbrev pub decreases-expressions-items : goal.decreases-expressions-items
decreases-expressions-items l = length l.ts

abbrev pub invariant-expressions-items : goal.invariant-expressions-items
invariant-expressions-items l = record {
  left : Left (parser.is_symbol symbols.Comma) (parser.next_item (spec.inside_of l.depth_left).expression) l.initial.found l.initial.ts l.found l.ts;
  shorter : length l.ts ≤ length l.initial.ts;
}

abbrev pub decreases-argument_list-items : goal.decreases-argument_list-items
decreases-argument_list-items l = length l.ts

abbrev pub invariant-argument_list-items : goal.invariant-argument_list-items
invariant-argument_list-items l = record {
  left : Left (parser.is_symbol symbols.Comma) (parser.next_item (spec.argument (spec.inside_of l.depth_left))) l.initial.found l.initial.ts l.found l.ts;
  shorter : length l.ts ≤ length l.initial.ts;
}

abbrev pub decreases-parts-items : goal.decreases-parts-items
decreases-parts-items l = length l.ts

abbrev pub invariant-parts-items : goal.invariant-parts-items
invariant-parts-items l = record {
  left : Left spec.begins_part (spec.part_of l.depth_left (spec.inside_of l.depth_left)) [] l.initial.ts l.found l.ts;
  shorter : length l.ts ≤ length l.initial.ts;
}

abbrev pub decreases-operations-items : goal.decreases-operations-items
decreases-operations-items l = length l.ts

abbrev pub invariant-operations-items : goal.invariant-operations-items
invariant-operations-items l = record {
  left : Left (spec.is_operator l.precedence) (spec.operation (spec.binary l.depth_left (spec.inside_of l.depth_left) l.precedence)) [] l.initial.ts l.found l.ts;
  shorter : length l.ts ≤ length l.initial.ts;
}

abbrev pub decreases-binary-levels : goal.decreases-binary-levels
decreases-binary-levels l = l.precedence - l.bound

-- what is read so far is all that has operators up to this precedence
abbrev pub invariant-binary-levels : goal.invariant-binary-levels
invariant-binary-levels l = record {
  within : l.bound ≤ l.precedence;
  reads : spec.binary l.depth_left (spec.inside_of l.depth_left) l.bound l.fn.ts ≡ Ok (l.found, l.ts);
  shorter : length l.ts < length l.fn.ts;
}
