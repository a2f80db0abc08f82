use Rattle.std.proofs.Common.{◌+◌, ◌*◌, ◌≤◌, [], length}
use Rattle.st_tokens.specs.declared.keyword.Keyword.TheVariants as keywords
use Rattle.st_parser.specs.Reader.Parsers.{is_keyword}
use Rattle.st_syntax.specs.Reader.Statements as spec
use Rattle.st_parser.proofs.Loops.{Left}
use Rattle.st_syntax.proofs.statement.+parser.Given as goal

abbrev pub decreases-block : goal.decreases-block
decreases-block l = 16 * l.depth_left

abbrev pub decreases-closed_block : goal.decreases-closed_block
decreases-closed_block l = 16 * l.depth_left + 1

abbrev pub decreases-closed_otherwise : goal.decreases-closed_otherwise
decreases-closed_otherwise l = 16 * l.depth_left + 2

abbrev pub decreases-conditional : goal.decreases-conditional
decreases-conditional l = 16 * l.depth_left + 1

abbrev pub decreases-elsif : goal.decreases-elsif
decreases-elsif l = 16 * l.depth_left + 2

abbrev pub decreases-conditionals : goal.decreases-conditionals
decreases-conditionals l = 16 * l.depth_left + 3

abbrev pub decreases-otherwise : goal.decreases-otherwise
decreases-otherwise l = 16 * l.depth_left + 1

abbrev pub decreases-if_statement : goal.decreases-if_statement
decreases-if_statement l = 16 * l.depth_left + 4

abbrev pub decreases-case : goal.decreases-case
decreases-case l = 16 * l.depth_left + 1

abbrev pub decreases-cases : goal.decreases-cases
decreases-cases l = 16 * l.depth_left + 2

abbrev pub decreases-case_body : goal.decreases-case_body
decreases-case_body l = 16 * l.depth_left + 3

abbrev pub decreases-case_statement : goal.decreases-case_statement
decreases-case_statement l = 16 * l.depth_left + 4

abbrev pub decreases-for_statement : goal.decreases-for_statement
decreases-for_statement l = 16 * l.depth_left + 2

abbrev pub decreases-while_statement : goal.decreases-while_statement
decreases-while_statement l = 16 * l.depth_left + 2

abbrev pub decreases-repeat_statement : goal.decreases-repeat_statement
decreases-repeat_statement l = 16 * l.depth_left + 1

abbrev pub decreases-statement : goal.decreases-statement
decreases-statement l = 16 * l.depth_left + 5

abbrev pub decreases-statements : goal.decreases-statements
decreases-statements l = 16 * l.depth_left + 6

abbrev pub decreases-conditionals-items : goal.decreases-conditionals-items
decreases-conditionals-items l = length l.ts

abbrev pub invariant-conditionals-items : goal.invariant-conditionals-items
invariant-conditionals-items l = record {
  left : Left (is_keyword keywords.Elsif) (spec.elsif (spec.deeper_of l.depth_left)) l.initial.found l.initial.ts l.found l.ts;
  shorter : length l.ts ≤ length l.initial.ts;
}

abbrev pub decreases-cases-items : goal.decreases-cases-items
decreases-cases-items l = length l.ts

abbrev pub invariant-cases-items : goal.invariant-cases-items
invariant-cases-items l = record {
  left : Left spec.begins_label (spec.case (spec.deeper_of l.depth_left)) l.initial.found l.initial.ts l.found l.ts;
  shorter : length l.ts ≤ length l.initial.ts;
}

abbrev pub decreases-statements-items : goal.decreases-statements-items
decreases-statements-items l = length l.ts

abbrev pub invariant-statements-items : goal.invariant-statements-items
invariant-statements-items l = record {
  left : Left spec.begins_statement (spec.statement l.depth_left (spec.deeper_of l.depth_left)) [] l.initial.ts l.found l.ts;
  shorter : length l.ts ≤ length l.initial.ts;
}
