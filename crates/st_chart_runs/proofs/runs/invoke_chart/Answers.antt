use Rattle.std.proofs.Common.{◌≤◌, ◌∙◌, ap, arith, length, rules, w64}
use Rattle.std.proofs.lemmas.Int.{to_z-of_z}
use Rattle.st_chart_runs.specs.Views.{WorkspaceView}
use Rattle.st_chart_runs.proofs.Fronts.{front_within}
use Rattle.st_chart_runs.proofs.runs.invoke_chart.Goals as goal

pub returns-clause-values : goal.returns-clause-values
returns-clause-values g c = rw (to_z-of_z w64 c.args.now (search rules)) at c.invoke_in.ensures.values

pub returns-clause-on : goal.returns-clause-on
returns-clause-on g c = λ s is.
    let said = rw (to_z-of_z w64 c.args.now (search rules)) at c.invoke_in.ensures.on in
    let n = length c.args.sketch.now.variables in
    let few : n ≤ length c.invoke_in.new.on =
    omega (arith, c.requires.room.names, ap (λ (w : WorkspaceView). length w.on) c.workspace.view_is, ap length c.as_mut_slice-on.ensures.value, c.invoke_in.auto.on) in
    front_within n c.workspace.inside.on.len c.invoke_in.new.on _ few (omega (arith, few, c.as_mut_slice-on.ensures.len, c.invoke_in.auto.on)) ∙ said s is
