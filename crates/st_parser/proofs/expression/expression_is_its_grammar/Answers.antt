use Rattle.std.proofs.Common.{[]}
use Rattle.st_parser.proofs.Levels.{fits_from, within_from}
use Rattle.st_parser.proofs.Expressions.{expression_exact}
use Rattle.st_parser.proofs.expression.expression_is_its_grammar.Goals as goal

pub returns : goal.returns
returns c = λ depth_left ts x. (
  λ read. let found = (expression_exact depth_left).reads ts x [] tt read in (found.is, within_from ts depth_left (found.before tt)),
  λ has. (expression_exact depth_left).read ts x [] tt has.0 tt (fits_from ts depth_left has.1),
)
