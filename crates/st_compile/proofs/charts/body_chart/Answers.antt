use Rattle.std.proofs.Common.{◌≡◌, ◌==◌, ◌∙◌, List, ap, false, length, sym, true}
use Rattle.st_tree.specs.declared.tree.unit.ChartElement.{ChartElement}
use Rattle.st_places.specs.Parts.{whole_in}
use Rattle.st_compile.proofs.Charted.{chart_made}
use Rattle.st_compile.proofs.charts.body_chart.Goals as goal

pub returns : goal.returns
returns c =
    let w = whole_in c.args.tables.now c.args.number in
    chart_made w c.args.number c.chart-elements.result.now c.chart-elements.ensures
    (λ none. let empty : false ≡ true = sym c.if-is_empty.false ∙ c.is_empty.ensures ∙ ap (λ (es : List ChartElement). length es == 0) none in absurd cc)
    c.in_ok-sketch.sketch (c.in_ok-sketch.ensures w.variables c.in_ok-variables.ensures)
