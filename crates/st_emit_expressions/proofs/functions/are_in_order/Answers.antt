use Rattle.std.proofs.Common.{◌≡◌, ◌<◌, ◌+◌, ◌∙◌, ◌==◌, ◌++◌, ℕ, true, [], ◌∷◌, length, get_or, sym, ap, subst, arith, append-nil}
use Rattle.std.specs.Prelude.{Some, None}
use Rattle.std.proofs.lemmas.List.{length-map}
use Rattle.st_meaning.specs.Typing.{is_number}
use Rattle.st_meaning.specs.Wholes.{Input}
use Rattle.st_emit_expressions.specs.Calls.{passed_in}
use Rattle.st_emit_expressions.specs.Functions.{destination_list, destinations}
use Rattle.st_emit_expressions.specs.Trees.{whole_of}
use Rattle.st_emit_expressions.proofs.Destinations.{front, front_all, front_more, front_split, go_length, goes_at, in_order, one_longer, order_more, out_of_order}
use Rattle.st_emit_expressions.proofs.functions.are_in_order.Goals.{in-Some+else-not-is_number, in_default}
use Rattle.st_emit_expressions.proofs.functions.are_in_order.Goals as goal

pub returns-then-not-is_number : goal.returns-then-not-is_number
returns-then-not-is_number c =
    let w = whole_of c.args.scope.now in
    let f = c.args.function.now in
    let all = c.args.arguments.now in
    let i = c.loop-argument.argument-index in
    let place = c.loop-argument.place in
    let input = c.in-Some.input in
    let to = destinations w f all in
    let more = front_more w f all i place c.argument-item.result (Some input) c.loop-argument-test.true c.argument-item.is c.loop-argument.invariant.count c.in-Some.ensures in
    let split = front_split w f all i (front w f all i ++ input ∷ []) more in
    let at = goes_at to (front w f all i) split.0 input place c.loop-argument.invariant.count split.1 in
    let long = go_length f.inputs 0 (passed_in w all) in
    sym (out_of_order to (length (passed_in w all)) place (omega (arith, at.1, long)) (ap (is_number place) at.0 ∙ sym c.is_number.ensures ∙ c.if-not-is_number.true) 0 f.inputs (omega arith))

pub loop-argument-preserved : goal.loop-argument-preserved
loop-argument-preserved c =
    let w = whole_of c.args.scope.now in
    let f = c.args.function.now in
    let all = c.args.arguments.now in
    let i = c.loop-argument.argument-index in
    let place = c.loop-argument.place in
    let old = c.loop-argument.invariant in
    elim c.match-destination.branch [
      | in-Some+else-not-is_number b ↦
          let input = b.in-Some.input in
          let more = front_more w f all i place c.argument-item.result (Some input) c.loop-argument-test.true c.argument-item.is old.count b.in-Some.ensures in
          rw b.place-is (record {
            few = omega (arith, old.few);
            count = one_longer (front w f all i) input place old.count ∙ ap length (sym more);
            each = subst (λ l. (n : ℕ) → n < place + 1 → is_number n (get_or l n None) ≡ true) (sym more)
                (order_more (front w f all i) input place old.count (sym b.is_number.ensures ∙ b.if-not-is_number.false) old.each);
          })
      | in_default b ↦
          let more = front_more w f all i place c.argument-item.result None c.loop-argument-test.true c.argument-item.is old.count (c.destination.ensures ∙ ap destination_list b.in_default.is) ∙ append-nil (front w f all i) in
          rw b.place-is (record {
            few = omega (arith, old.few);
            count = old.count ∙ ap length (sym more);
            each = subst (λ l. (n : ℕ) → n < place → is_number n (get_or l n None) ≡ true) (sym more) old.each;
          })
    ]

pub returns : goal.returns
returns c =
    let w = whole_of c.args.scope.now in
    let f = c.args.function.now in
    let all = c.args.arguments.now in
    let i = c.loop-argument.argument-index in
    let place = c.loop-argument.place in
    let to = destinations w f all in
    let m = length (passed_in w all) in
    let whole = front_all w f all i c.loop-argument-test.false in
    let long = go_length f.inputs 0 (passed_in w all) in
    let same : place ≡ m = c.loop-argument.invariant.count ∙ ap length whole ∙ long in
    let count : length c.initials.result.now ≡ 0 + length f.inputs = omega (arith, ap length c.initials.ensures, length-map f.inputs (λ (input : Input). input.initial)) in
    ap (λ n. n == place) count ∙ ap (λ n. 0 + length f.inputs == n) same
    ∙ sym (in_order to m (sym long) (subst (λ l. (n : ℕ) → n < m → is_number n (get_or l n None) ≡ true) whole (λ n lt. c.loop-argument.invariant.each n (omega (arith, lt, same)))) 0 f.inputs)
