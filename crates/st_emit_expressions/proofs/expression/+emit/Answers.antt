use Rattle.std.proofs.Common.{refl, ◌≡◌, ◌∙◌, ◌-◌, ◌+◌, ◌<◌, ◌++◌, take, drop, length, reverse, sym, ap, subst, arith, false}
use Rattle.std.specs.Prelude.{Some, None, []}
use Rattle.std.specs.List.{position}
use Rattle.st_values.specs.Types.{is_same}
use Rattle.st_values.specs.Words.{is_word}
use Rattle.st_meaning.specs.Wholes.{Input}
use Rattle.st_emit_expressions.proofs.Calling.{function_emits, none_before, one_before, passed_over, passed_step}
use Rattle.st_emit_expressions.proofs.Trees.{input_is, output_is}
use Rattle.std.proofs.lemmas.List.{length-map}
use Rattle.st_types.specs.Standard.{standard_of}
use Rattle.st_types.specs.OwnTypes.{or_lint}
use Rattle.st_leaves.specs.Selected.{selected_by}
use Rattle.st_meaning.specs.Typing.{argument_typed, as_input, input_at, passed, place_of, typed}
use Rattle.st_meaning.specs.Wholes.{type_of}
use Rattle.st_code.specs.Code.{parts_code, term_code, terms_code}
use Rattle.st_meaning.specs.Sound.{types_in}
use Rattle.st_emit_expressions.specs.Emits.{own_types, terms_in}
use Rattle.st_emit_expressions.specs.Places.{behind_parts, dimensions_code, is_indexed}
use Rattle.st_places.specs.Parts.{part_in}
use Rattle.st_emit_expressions.specs.Trees.{chain_of, operand_type, parts_in, whole_of}
use Rattle.st_emit_expressions.proofs.Emitting.{call_emits, call_gives_nil, call_is_nil, chain_ends, chain_step, chain_stops, element_emits, field_code, subscripted, subscripts_put, takes_length}
use Rattle.st_emit_expressions.proofs.expression.+emit.Goals as goal

pub emit_call-returns-then-not-takes_number : goal.emit_call-returns-then-not-takes_number
emit_call-returns-then-not-takes_number t c =
    call_is_nil (whole_of c.args.scope.now) c.args.due c.args.call.now c.as_slice-arguments.result.now c.standard_of.result c.in-Some.standard c.positional_count-number.result _ _ (c.standard_of.ensures ∙ ap standard_of c.as_slice.ensures) c.as_slice-arguments.ensures c.in-Some.is
    c.positional_count-number.ensures (sym c.takes_number.ensures ∙ c.if-not-takes_number.true) c.in_ok-emit_nil.ensures

pub emit_call-returns : goal.emit_call-returns
emit_call-returns t c =
    call_emits (whole_of c.args.scope.now) c.args.due c.args.call.now c.as_slice-arguments.result.now c.standard_of.result c.in-Some.standard c.positional_count-number.result _ _ (c.standard_of.ensures ∙ ap standard_of c.as_slice.ensures) c.as_slice-arguments.ensures c.in-Some.is
    c.positional_count-number.ensures (sym c.takes_number.ensures ∙ c.if-not-takes_number.false) (sym c.gives_type.ensures ∙ c.if-not-gives_type.false) c.in_ok-emit_arguments.ensures.code c.in_ok-emit_arguments.ensures.types

pub emit_expression-returns-in_default : goal.emit_expression-returns-in_default
emit_expression-returns-in_default t c =
    let w = whole_of c.args.scope.now in
    let back : c.loop-i.i - 1 + 1 ≡ c.loop-i.i = omega (arith, c.loop-i-test.true) in
    let o = c.index-operations-i.result in
    let none : operand_type o.operator (chain_of w c.in-Chain.first (take (c.loop-i.i - 1) c.as_slice-operations.result.now)).own (typed w o.operand).own c.loop-i.due ≡ None
    = ap (λ y. operand_type o.operator (chain_of w y (take (c.loop-i.i - 1) c.as_slice-operations.result.now)).own (typed w o.operand).own c.loop-i.due) (sym c.get-in-loop-i.ensures) ∙ sym c.operand_type.ensures ∙ c.in_default.is in
    chain_stops w c.args.due c.loop-i.due c.args.expression.now c.in-Chain.field-0 c.in-Chain.first c.in-Chain.operations c.as_slice-operations.result.now c.loop-i.i (c.loop-i.i - 1) o c.loop-i.code _ _ c.as_slice-operations.ensures c.in-Chain.is back
    c.loop-i.invariant.0 c.index-operations-i.is none c.in_ok-emit_nil-in-Chain.ensures c.loop-i.invariant.1

pub emit_expression-loop-i-preserved : goal.emit_expression-loop-i-preserved
emit_expression-loop-i-preserved t c =
    let w = whole_of c.args.scope.now in
    let back : c.loop-i.i - 1 + 1 ≡ c.loop-i.i = omega (arith, c.loop-i-test.true) in
    let o = c.index-operations-i.result in
    let some : operand_type o.operator (chain_of w c.in-Chain.first (take (c.loop-i.i - 1) c.as_slice-operations.result.now)).own (typed w o.operand).own c.loop-i.due ≡ Some c.in-Some.elem
    = ap (λ y. operand_type o.operator (chain_of w y (take (c.loop-i.i - 1) c.as_slice-operations.result.now)).own (typed w o.operand).own c.loop-i.due) (sym c.get-in-loop-i.ensures) ∙ sym c.operand_type.ensures ∙ c.in-Some.is in (
      omega (arith, c.loop-i.invariant.0),
      chain_step w c.args.due c.loop-i.due c.in-Some.elem c.in-Chain.first c.as_slice-operations.result.now c.loop-i.i (c.loop-i.i - 1) o c.loop-i.code c.push.new.self _ _ _ back c.loop-i.invariant.0 c.index-operations-i.is some
          c.in_ok-push-in-Chain.ensures.ok c.in_ok-emit_expression-in-Chain.ensures c.loop-i.invariant.1,
    )

pub emit_expression-returns-in_ok-emit_expression-in-Chain-2 : goal.emit_expression-returns-in_ok-emit_expression-in-Chain-2
emit_expression-returns-in_ok-emit_expression-in-Chain-2 t c =
    chain_ends (whole_of c.args.scope.now) c.args.due c.loop-i.due c.args.expression.now c.in-Chain.field-0 c.in-Chain.first c.get-in-Chain.result.now c.in-Chain.operations c.as_slice-operations.result.now c.loop-i.i c.loop-i.code _ _ c.as_slice-operations.ensures c.in-Chain.is
    c.get-in-Chain.ensures c.loop-i-test.false c.in_ok-emit_expression-in-Chain-2.ensures c.loop-i.invariant.1

pub emit_parts-loop-i-preserved-in-Field : goal.emit_parts-loop-i-preserved-in-Field
emit_parts-loop-i-preserved-in-Field t c =
    let w = whole_of c.args.scope.now in
    let d = selected_by w.variables c.args.variable.now.name.spelling in
    let ps = c.as_slice-parts.result.now in
    let j = c.loop-i.i - 1 in
    let back : c.loop-i.i ≡ j + 1 = omega (arith, c.loop-i-test.true) in
    let lt : j < length ps = omega (arith, c.loop-i.invariant.0, c.loop-i-test.true) in
    let behind = subst (λ k. c.loop-i.code ≡ c.args.code.now ++ reverse (parts_code w.variables (is_indexed w false (take k ps)) (behind_parts w d (take k ps)) (parts_in w (drop k ps)))) back c.loop-i.invariant.1 in (
      omega (arith, c.loop-i.invariant.0),
      behind ∙ ap (λ l. c.args.code.now ++ reverse l) (field_code w d ps j c.index-parts-i.result c.in-Field.field-0 lt c.index-parts-i.is c.in-Field.is),
    )

pub emit_parts-emit_dimensions-requires : goal.emit_parts-emit_dimensions-requires
emit_parts-emit_dimensions-requires t c =
    let w = whole_of c.args.scope.now in
    let ps = c.as_slice-parts.result.now in
    let j = c.loop-i.i - 1 in
    let lt : j < length ps = omega (arith, c.loop-i.invariant.0, c.loop-i-test.true) in
    let len : j < length c.args.variable.now.parts = omega (arith, ap length c.as_slice-parts.ensures) in
    let stop = c.in_ok-all.ensures.each j c.index-stop.result.now len c.index-stop.ensures in
    let d = part_in c.args.scope.now.0 c.index-stop.result.now.node in
    let same = ap (λ l. type_of d (parts_in w (drop j l))) c.as_slice-parts.ensures ∙ stop.same in
    let both = subscripted w d (type_of w.variables (place_of w c.args.variable.now)) ps j c.index-parts-i.result c.in-Subscripts.position c.in-Subscripts.subscripts lt c.index-parts-i.is c.in-Subscripts.is same c.requires stop.small.bounds in
    c.in-Some.ensures.number ∙ sym (takes_length d (length c.in-Subscripts.subscripts) both.0) ∙ ap length (sym c.as_slice.ensures)

pub emit_parts-loop-i-preserved : goal.emit_parts-loop-i-preserved
emit_parts-loop-i-preserved t c =
    let w = whole_of c.args.scope.now in
    let e = selected_by w.variables c.args.variable.now.name.spelling in
    let ps = c.as_slice-parts.result.now in
    let j = c.loop-i.i - 1 in
    let xs = c.in-Subscripts.subscripts in
    let lt : j < length ps = omega (arith, c.loop-i.invariant.0, c.loop-i-test.true) in
    let len : j < length c.args.variable.now.parts = omega (arith, ap length c.as_slice-parts.ensures) in
    let stop = c.in_ok-all.ensures.each j c.index-stop.result.now len c.index-stop.ensures in
    let d = part_in c.args.scope.now.0 c.index-stop.result.now.node in
    let front : take j c.args.variable.now.parts ≡ take j ps = ap (take j) (sym c.as_slice-parts.ensures) in
    let same = ap (λ l. type_of d (parts_in w (drop j l))) c.as_slice-parts.ensures ∙ stop.same in
    let both = subscripted w d (type_of w.variables (place_of w c.args.variable.now)) ps j c.index-parts-i.result c.in-Subscripts.position xs lt c.index-parts-i.is c.in-Subscripts.is same c.requires stop.small.bounds in
    let number : length c.in-Some.dimensions.now ≡ length xs = c.in-Some.ensures.number ∙ sym (takes_length d (length xs) both.0) in
    let put = element_emits w c.index-stop.result.now.is_indexed c.in-Subscripts.position.line xs d c.in-Some.dimensions.now c.loop-i.code c.emit_added.new.code c.emit_dimensions.new.code c.emit_alone.new.code c.in-Some.ensures.number number
    (length-map xs (λ x. or_lint (typed w x).own)) (c.in-Some.ensures.dimensions both.1) c.in_ok-emit_added-in-Subscripts.ensures
    (c.in_ok-emit_dimensions-in-Subscripts.ensures ∙ ap (λ l. c.emit_added.new.code ++ reverse (dimensions_code c.in-Subscripts.position.line (own_types w l) c.in-Some.dimensions.now)) c.as_slice.ensures)
    (c.in_ok-emit_alone-in-Subscripts.ensures.code ∙ ap (λ l. c.emit_dimensions.new.code ++ reverse (terms_code w.variables (terms_in w l))) c.as_slice-in-Subscripts.ensures)
    (ap (λ l. types_in w.variables (terms_in w l)) (sym c.as_slice-in-Subscripts.ensures) ∙ c.in_ok-emit_alone-in-Subscripts.ensures.types ∙ ap (own_types w) c.as_slice-in-Subscripts.ensures) in (
      omega (arith, c.loop-i.invariant.0),
      subscripts_put w e ps c.loop-i.i j c.index-parts-i.result c.in-Subscripts.position xs xs c.index-stop.result.now.is_indexed d c.args.code.now c.loop-i.code c.emit_alone.new.code
          (omega (arith, c.loop-i-test.true)) lt c.index-parts-i.is c.in-Subscripts.is refl (stop.indexed ∙ ap (is_indexed w false) front) (stop.part ∙ ap (behind_parts w e) front) c.loop-i.invariant.1 put,
    )

pub emit_call-returns-then-not-gives_type : goal.emit_call-returns-then-not-gives_type
emit_call-returns-then-not-gives_type t c =
    call_gives_nil (whole_of c.args.scope.now) c.args.due c.args.call.now c.as_slice-arguments.result.now c.standard_of.result c.in-Some.standard _ _ (c.standard_of.ensures ∙ ap standard_of c.as_slice.ensures) c.as_slice-arguments.ensures c.in-Some.is
    (sym c.gives_type.ensures ∙ c.if-not-gives_type.true) c.in_ok-emit_nil-2.ensures

pub emit_function-returns : goal.emit_function-returns
emit_function-returns t c =
    let f = c.in-Some.function.now in
    function_emits (whole_of c.args.scope.now) c.args.due c.args.call.now c.as_slice.result.now f c.as_slice-arguments.result.now c.args.code.now c.emit_behind.new.code c.emit_passed.new.code c.push.new.self c.as_slice.ensures c.requires c.in-Some.ensures.some
    (ap (λ e. is_same e c.args.due) (sym c.result.ensures) ∙ sym c.is.ensures.value ∙ c.if-not-is.false) c.as_slice-arguments.ensures c.in_ok-emit_behind.ensures c.in_ok-emit_passed.ensures c.in_ok-push.ensures.ok

pub emit_passed-loop-number-preserved-in-Continue-branch-2 : goal.emit_passed-loop-number-preserved-in-Continue-branch-2
emit_passed-loop-number-preserved-in-Continue-branch-2 t c =
    let w = whole_of c.args.scope.now in
    let inputs = c.args.function.now.inputs in
    let all = c.args.arguments.now in
    let i = c.loop-number.number in
    let j = i - 1 in
    let old = c.loop-number.invariant in
    let back : j + 1 ≡ i = omega (arith, c.loop-number-test.true) in
    let x = typed w c.in-Input.value in
    let name = c.in-Input.name.spelling in
    let a = c.index-arguments-number.result in
    let is : argument_typed w a ≡ passed (Some name) x = ap (argument_typed w) c.in-Input.is ∙ input_is w c.in-Input.name c.in-Input.value in
    let one = one_before w all i j a (Some name) x back old.inside c.index-arguments-number.is is in
    let next : c.loop-number.place - 1 + 1 ≡ c.loop-number.place = omega (arith, old.place, one) in
    let new = c.emit_value_of_input-in-Input.new.code in
    let here : new ≡ c.loop-number.code ++ reverse (term_code w.variables (as_input x (input_at inputs (position (λ (input : Input). is_word input.name name) inputs))))
    = c.in_ok-emit_value_of_input-in-Input.ensures ∙ ap (λ y. c.loop-number.code ++ reverse (term_code w.variables (as_input (typed w y) (input_at inputs c.input-input.result)))) c.get.ensures
    ∙ ap (λ o. c.loop-number.code ++ reverse (term_code w.variables (as_input x (input_at inputs o)))) (c.input-input.ensures.number ∙ ap (λ n. position (λ (input : Input). is_word input.name n) inputs) c.as_slice.ensures) in
    record {
      inside = omega (arith, old.inside);
      place = omega (arith, old.place, one);
      code = passed_step w inputs all i j c.loop-number.place (c.loop-number.place - 1) a (Some name) x c.args.code.now c.loop-number.code new back old.inside c.index-arguments-number.is is next old.code here;
    }

pub emit_passed-loop-number-preserved : goal.emit_passed-loop-number-preserved
emit_passed-loop-number-preserved t c =
    let w = whole_of c.args.scope.now in
    let all = c.args.arguments.now in
    let i = c.loop-number.number in
    let j = i - 1 in
    let old = c.loop-number.invariant in
    let back : j + 1 ≡ i = omega (arith, c.loop-number-test.true) in
    let a = c.index-arguments-number.result in
    let is : argument_typed w a ≡ [] = ap (argument_typed w) c.in-Output.is ∙ output_is w c.in-Output.field-0 c.in-Output.field-1 in
    record {
      inside = omega (arith, old.inside);
      place = old.place ∙ none_before w all i j a back old.inside c.index-arguments-number.is is;
      code = passed_over w c.args.function.now.inputs all i j c.loop-number.place a c.args.code.now c.loop-number.code back old.inside c.index-arguments-number.is is old.code;
    }
