use Rattle.std.proofs.Common.{◌≡◌, ◌∙◌, arith, drop, length, length-take, rules, w64}
use Rattle.std.proofs.lemmas.Int.{to_z-of_z}
use Rattle.st_chart_runs.proofs.Fronts.{front_part}
use Rattle.st_chart_runs.proofs.runs.invoke_in.Goals as goal

pub returns-clause-values : goal.returns-clause-values
returns-clause-values g c = rw (to_z-of_z w64 c.args.now (search rules), c.set_conditions.ensures) at c.invoke_over.ensures.values

pub returns-clause-on : goal.returns-clause-on
returns-clause-on g c = λ s is.
    let said = rw (to_z-of_z w64 c.args.now (search rules), c.set_conditions.ensures) at c.invoke_over.ensures.on in
    let long : length c.args.sketch.now.variables ≡ length c.invoke_over.new.on =
    omega (arith, c.invoke_over.auto.on, length-take c.names-2.result c.args.on.now, c.names-2.ensures, c.requires.on) in
    front_part (length c.args.sketch.now.variables) c.invoke_over.new.on (drop c.names-2.result c.args.on.now) long ∙ said s is
