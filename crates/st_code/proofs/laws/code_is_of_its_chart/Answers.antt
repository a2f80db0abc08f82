use Rattle.st_code.proofs.Entrances.{code_is_of_its_chart}
use Rattle.st_code.proofs.laws.code_is_of_its_chart.Goals as goal

pub returns : goal.returns
returns c = code_is_of_its_chart
