use Rattle.st_syntax.proofs.ChartsExact.{chart_law}
use Rattle.st_syntax.proofs.chart.chart_is_its_grammar.Goals as goal

pub returns : goal.returns
returns c = λ depth_left ts xs some. chart_law depth_left ts xs some
