use Rattle.std.proofs.Common.{[], refl}
use Rattle.st_parser.proofs.Levels.{fits_from, within_from}
use Rattle.st_syntax.proofs.Statements.{statements_exact}
use Rattle.st_syntax.proofs.statement.statements_are_their_grammar.Goals as goal

pub returns : goal.returns
returns c = λ depth_left ts xs. (
  λ read. let found = (statements_exact depth_left).reads ts xs [] tt read in (found.is, within_from ts depth_left (found.before tt)),
  λ has. (statements_exact depth_left).read ts xs [] tt has.0 (refl, tt) (fits_from ts depth_left has.1),
)
