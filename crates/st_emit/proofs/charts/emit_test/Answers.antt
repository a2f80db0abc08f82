use Rattle.std.proofs.Common.{◌-◌, ◌∙◌, ap, length}
use Rattle.std.proofs.lemmas.Result.{on_ok_weaker}
use Rattle.st_emit_expressions.specs.Trees.{whole_of}
use Rattle.st_emit.proofs.ChartCode.{test_done}
use Rattle.st_emit.proofs.charts.emit_test.Goals as goal

pub returns : goal.returns
returns c =
    let far = c.len.result - c.len-start.result in
    on_ok_weaker c.push-5.result (λ last. test_done (whole_of c.args.scope.now) c.args.transition.now c.args.unit c.args.leaf c.args.number far c.args.code.now c.push.new.self c.push-2.new.self c.emit_expression.new.code c.push-3.new.self
    c.push-4.new.self c.push-5.new.self c.in_ok-push.ensures.ok c.in_ok-push-2.ensures.ok c.in_ok-emit_expression.ensures.code c.in_ok-push-3.ensures.ok
    (ap (λ n. n - c.len-start.result) c.len.ensures ∙ ap (λ n. length c.push-3.new.self - n) c.len-start.ensures) c.in_ok-push-4.ensures.ok last) c.push-5.ensures.ok
