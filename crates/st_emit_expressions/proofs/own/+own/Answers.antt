use Rattle.std.proofs.Common.{◌∙◌, sym, ap, drop, arith, ◌+◌}
use Rattle.st_meaning.specs.Typing.{typed}
use Rattle.st_types.specs.Standard.{standard_of}
use Rattle.st_emit_expressions.specs.Calls.{own_from, positionals}
use Rattle.st_emit_expressions.specs.Trees.{whole_of}
use Rattle.st_emit_expressions.proofs.Calling.{text_own}
use Rattle.st_emit_expressions.proofs.Owns.{call_block, call_conversion, call_function, call_none, ended_own, input_left, output_left, own_skip, positional_left, whole_own}
use Rattle.st_emit_expressions.proofs.own.+own.Goals.{own_of_arguments-in-Positional+else-is_some, own_of_arguments-in-Input, own_of_arguments-in-Output}
use Rattle.st_emit_expressions.proofs.own.+own.Goals as goal

pub own-returns-then-ends_in_comparison : goal.own-returns-then-ends_in_comparison
own-returns-then-ends_in_comparison t c =
    ended_own (whole_of c.args.scope.now) c.args.expression.now c.in-Chain.field-0 c.in-Chain.first c.in-Chain.operations c.as_slice-operations.result.now c.as_slice-operations.ensures c.in-Chain.is
    (sym c.ends_in_comparison.ensures ∙ c.if-ends_in_comparison.true)

pub own-returns-else-ends_in_comparison : goal.own-returns-else-ends_in_comparison
own-returns-else-ends_in_comparison t c =
    c.own_of_chain.ensures
    ∙ whole_own (whole_of c.args.scope.now) c.args.expression.now c.in-Chain.field-0 c.in-Chain.first c.in-Chain.operations c.as_slice-operations.result.now c.own-first.result c.as_slice-operations.ensures c.in-Chain.is
    (c.own-first.ensures ∙ ap (λ x. (typed (whole_of c.args.scope.now) x).own) c.get-in-Chain.ensures)

pub own_of_arguments-loop-argument-preserved : goal.own_of_arguments-loop-argument-preserved
own_of_arguments-loop-argument-preserved t c =
    let w = whole_of c.args.scope.now in
    let i = c.loop-argument.argument-index in
    elim c.match-argument.branch [
      | own_of_arguments-in-Positional+else-is_some b ↦
          let rest = positionals w (drop (i + 1) c.args.arguments.now) in
          let left = positional_left w c.args.arguments.now i c.argument-item.result b.in-Positional.expression c.loop-argument-test.true c.argument-item.is b.in-Positional.is in
          let skip = own_skip c.args.standard c.loop-argument.number (typed w b.in-Positional.expression) rest b.counts.result b.own_of_argument-found.result b.counts.ensures b.own_of_argument-found.ensures (sym b.is_some.ensures ∙ b.if-is_some.false) in
          rw b.number-is (record {
            few = omega (arith, c.loop-argument.invariant.few);
            left = sym skip ∙ ap (own_from c.args.standard c.loop-argument.number) (sym left) ∙ c.loop-argument.invariant.left;
          })
      | own_of_arguments-in-Input b ↦
          let left = input_left w c.args.arguments.now i c.argument-item.result b.in-Input.field-0 b.in-Input.field-1 c.loop-argument-test.true c.argument-item.is b.in-Input.is in
          rw b.number-is (record {
            few = omega (arith, c.loop-argument.invariant.few);
            left = ap (own_from c.args.standard c.loop-argument.number) (sym left) ∙ c.loop-argument.invariant.left;
          })
      | own_of_arguments-in-Output b ↦
          let left = output_left w c.args.arguments.now i c.argument-item.result b.in-Output.field-0 b.in-Output.field-1 c.loop-argument-test.true c.argument-item.is b.in-Output.is in
          rw b.number-is (record {
            few = omega (arith, c.loop-argument.invariant.few);
            left = ap (own_from c.args.standard c.loop-argument.number) (sym left) ∙ c.loop-argument.invariant.left;
          })
    ]

pub own_of_call-returns-in_default : goal.own_of_call-returns-in_default
own_of_call-returns-in_default t c = text_own (whole_of c.args.scope.now) c.args.call.now c.as_slice-name.result.now c.standard_of.result c.result_named.result c.as_slice-name.ensures c.standard_of.ensures c.in_default.is c.result_named.ensures

pub own_of_call-returns-then-not-takes_number : goal.own_of_call-returns-then-not-takes_number
own_of_call-returns-then-not-takes_number t c =
    call_none (whole_of c.args.scope.now) c.args.call.now c.as_slice-arguments.result.now c.standard_of.result c.in-Some.standard c.positional_count.result (c.standard_of.ensures ∙ ap standard_of c.as_slice-name.ensures) c.as_slice-arguments.ensures c.in-Some.is c.positional_count.ensures
    (sym c.takes_number.ensures ∙ c.if-not-takes_number.true)

pub own_of_call-returns-in-Function : goal.own_of_call-returns-in-Function
own_of_call-returns-in-Function t c =
    c.own_of_arguments.ensures ∙ call_function (whole_of c.args.scope.now) c.args.call.now c.as_slice-arguments.result.now c.standard_of.result c.in-Some.standard c.in-Function.field-0 c.positional_count.result (c.standard_of.ensures ∙ ap standard_of c.as_slice-name.ensures) c.as_slice-arguments.ensures c.in-Some.is c.positional_count.ensures
    (sym c.takes_number.ensures ∙ c.if-not-takes_number.false) c.in-Function.is

pub own_of_call-returns-in-Conversion : goal.own_of_call-returns-in-Conversion
own_of_call-returns-in-Conversion t c =
    call_conversion (whole_of c.args.scope.now) c.args.call.now c.as_slice-arguments.result.now c.standard_of.result c.in-Some.standard c.in-Conversion.field-0 c.in-Conversion.to c.positional_count.result (c.standard_of.ensures ∙ ap standard_of c.as_slice-name.ensures) c.as_slice-arguments.ensures c.in-Some.is c.positional_count.ensures
    (sym c.takes_number.ensures ∙ c.if-not-takes_number.false) c.in-Conversion.is

pub own_of_call-returns-in-Block : goal.own_of_call-returns-in-Block
own_of_call-returns-in-Block t c = absurd (call_block (whole_of c.args.scope.now) c.in-Some.standard c.positional_count.result c.in-Block.field-0 (sym c.takes_number.ensures ∙ c.if-not-takes_number.false) c.in-Block.is)
