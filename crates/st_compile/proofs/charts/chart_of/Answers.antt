use Rattle.std.proofs.Common.{◌∙◌, sym}
use Rattle.st_compile.proofs.Coded.{small_where}
use Rattle.st_compile.proofs.charts.chart_of.Goals as goal
use Rattle.st_compile.proofs.charts.chart_of.Goals.{then-number-main, else-number-main}

pub body_chart-requires : goal.body_chart-requires
body_chart-requires c = elim c.if-number-main.branch [
  | then-number-main w ↦ c.requires.small w.if-number-main.true
  | else-number-main w ↦ small_where c.args.tables.now c.args.number c.requires.bounds (sym w.is_small_block.ensures ∙ sym w.value-is ∙ c.if-is_small_block.true)
]
