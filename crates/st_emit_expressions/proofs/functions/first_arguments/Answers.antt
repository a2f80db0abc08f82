use Rattle.std.proofs.Common.{◌∙◌, ◌++◌, [], ◌∷◌, length, sym, ap, subst, arith, append-nil}
use Rattle.std.specs.Prelude.{Some, None}
use Rattle.st_emit_expressions.specs.Functions.{AreFirst, destination_list}
use Rattle.st_emit_expressions.specs.Trees.{whole_of}
use Rattle.st_emit_expressions.proofs.Destinations.{front, front_more, noted_first, one_longer}
use Rattle.st_emit_expressions.proofs.functions.first_arguments.Goals.{in-Some, in_default}
use Rattle.st_emit_expressions.proofs.functions.first_arguments.Goals as goal

pub loop-argument-preserved : goal.loop-argument-preserved
loop-argument-preserved c =
    let w = whole_of c.args.scope.now in
    let f = c.args.function.now in
    let all = c.args.arguments.now in
    let i = c.loop-argument.argument-index in
    let place = c.loop-argument.place in
    let old = c.loop-argument.invariant in
    let first = c.loop-argument.all.items in
    elim c.match-destination.branch [
      | in-Some b ↦
          let input = b.in-Some.input in
          let more = front_more w f all i place c.argument-item.result (Some input) c.loop-argument-test.true c.argument-item.is old.count b.in-Some.ensures in
          rw (b.place-is, b.all-is) (record {
            few = omega (arith, old.few);
            count = one_longer (front w f all i) input place old.count ∙ ap length (sym more);
            first = subst (λ l. AreFirst (length f.inputs) l b.note_first.new.all.items) (sym more)
                (subst (AreFirst (length f.inputs) (front w f all i ++ input ∷ [])) (sym b.note_first.ensures) (noted_first (length f.inputs) (front w f all i) first input place old.count old.first));
          })
      | in_default b ↦
          let more = front_more w f all i place c.argument-item.result None c.loop-argument-test.true c.argument-item.is old.count (c.destination.ensures ∙ ap destination_list b.in_default.is) ∙ append-nil (front w f all i) in
          rw (b.place-is, b.all-is) (record {
            few = omega (arith, old.few);
            count = old.count ∙ ap length (sym more);
            first = subst (λ l. AreFirst (length f.inputs) l first) (sym more) old.first;
          })
    ]
