use Rattle.std.proofs.Common.{◌<◌, [], sym, ap, Ok, ◌∙◌, arith}
use Rattle.std.proofs.lemmas.Result.{err_from_is_err_and}
use Rattle.st_tokens.specs.declared.symbol.Symbol.TheVariants as symbols
use Rattle.st_parser.specs.Reader.Parsers as parser
use Rattle.st_parser.proofs.Loops.{left_added, left_init, loop_end, loop_err, listed_first, listed_end, listed_err, of_item, refused_read}
use Rattle.st_parser.proofs.ParserLemmas.{next_at, takes_kept}
use Rattle.st_parser.specs.Reader.Expressions as spec
use Rattle.st_parser.proofs.ReaderLemmas.{binary_before, binary_err, binary_first, binary_ok, binary_up_to, inside_expression, inside_variable, refused_up_to}
use Rattle.st_parser.proofs.expression.+parser.Goals as goal

pub expressions-returns-in_err-found : goal.expressions-returns-in_err-found
expressions-returns-in_err-found t c =
    let e = err_from_is_err_and c.from_residual.result c.from_residual.ensures.1 in
    rw (e.1, e.2) (record {
      reads = listed_first ((spec.inside_of c.args.depth_left).expression) c.args.ts.now _ (refused_read _ c.inside.result c.inside.new.ts _ c.in_err-found.ensures.err c.inside.ensures.reads);
      shorter = tt;
    })

pub expressions-items-init : goal.expressions-items-init
expressions-items-init t c = record { left = left_init (parser.is_symbol symbols.Comma) (parser.next_item ((spec.inside_of c.args.depth_left).expression)) c.in_ok-found.found c.inside.new.ts; shorter = omega arith }

pub expressions-returns-in_err-add : goal.expressions-returns-in_err-add
expressions-returns-in_err-add t c =
    let e = err_from_is_err_and c.from_residual-in_err-add.result c.from_residual-in_err-add.ensures.1 in
    rw (e.1, e.2) (record {
      reads = listed_err ((spec.inside_of c.args.depth_left).expression) c.args.ts.now c.inside.new.ts c.inside.result c.inside.ensures.reads c.in_ok-found.found c.in_ok-found.ensures.ok c.items.found c.items.ts _ c.items.invariant.left (sym c.at_symbol.ensures ∙ c.items-test.true)
          (refused_read _ c.inside-in-items.result c.inside-in-items.new.ts _ c.in_err-add.ensures.err (rw (next_at ((spec.inside_of c.args.depth_left).expression) c.items.ts c.bump.new.self c.bump.ensures.rest) c.inside-in-items.ensures.reads));
      shorter = tt;
    })

pub expressions-items-preserved : goal.expressions-items-preserved
expressions-items-preserved t c =
    let less = of_item c.inside-in-items.result _ c.in_ok-add.ensures.ok c.inside-in-items.ensures.shorter in
    record {
      left = left_added (parser.is_symbol symbols.Comma) (parser.next_item ((spec.inside_of c.args.depth_left).expression)) c.in_ok-found.found c.inside.new.ts c.items.found c.add.new.found c.items.ts c.inside-in-items.new.ts c.inside-in-items.result c.items.invariant.left (sym c.at_symbol.ensures ∙ c.items-test.true)
          (rw (next_at ((spec.inside_of c.args.depth_left).expression) c.items.ts c.bump.new.self c.bump.ensures.rest) c.inside-in-items.ensures.reads) c.in_ok-add.ensures.ok (omega (arith, less, c.bump.ensures.shorter));
      shorter = omega (arith, less, c.bump.ensures.shorter, c.items.invariant.shorter);
    }

pub expressions-returns : goal.expressions-returns
expressions-returns t c = rw c.shrink_to_fit.ensures (record {
  reads = listed_end ((spec.inside_of c.args.depth_left).expression) c.args.ts.now c.inside.new.ts c.inside.result c.inside.ensures.reads c.in_ok-found.found c.in_ok-found.ensures.ok c.items.found c.items.ts c.items.invariant.left (sym c.at_symbol.ensures ∙ c.items-test.false);
  shorter = omega (arith, of_item c.inside.result _ c.in_ok-found.ensures.ok c.inside.ensures.shorter, c.items.invariant.shorter);
})

pub argument_list-returns-in_err-found : goal.argument_list-returns-in_err-found
argument_list-returns-in_err-found t c =
    let e = err_from_is_err_and c.from_residual.result c.from_residual.ensures.1 in
    rw (e.1, e.2) (record {
      reads = listed_first (spec.argument (spec.inside_of c.args.depth_left)) c.args.ts.now _ (refused_read _ c.argument.result c.argument.new.ts _ c.in_err-found.ensures.err c.argument.ensures.reads);
      shorter = tt;
    })

pub argument_list-items-init : goal.argument_list-items-init
argument_list-items-init t c = record { left = left_init (parser.is_symbol symbols.Comma) (parser.next_item (spec.argument (spec.inside_of c.args.depth_left))) c.in_ok-found.found c.argument.new.ts; shorter = omega arith }

pub argument_list-returns-in_err-add : goal.argument_list-returns-in_err-add
argument_list-returns-in_err-add t c =
    let e = err_from_is_err_and c.from_residual-in_err-add.result c.from_residual-in_err-add.ensures.1 in
    rw (e.1, e.2) (record {
      reads = listed_err (spec.argument (spec.inside_of c.args.depth_left)) c.args.ts.now c.argument.new.ts c.argument.result c.argument.ensures.reads c.in_ok-found.found c.in_ok-found.ensures.ok c.items.found c.items.ts _ c.items.invariant.left (sym c.at_symbol.ensures ∙ c.items-test.true)
          (refused_read _ c.argument-in-items.result c.argument-in-items.new.ts _ c.in_err-add.ensures.err (rw (next_at (spec.argument (spec.inside_of c.args.depth_left)) c.items.ts c.bump.new.self c.bump.ensures.rest) c.argument-in-items.ensures.reads));
      shorter = tt;
    })

pub argument_list-items-preserved : goal.argument_list-items-preserved
argument_list-items-preserved t c =
    let less = of_item c.argument-in-items.result _ c.in_ok-add.ensures.ok c.argument-in-items.ensures.shorter in
    record {
      left = left_added (parser.is_symbol symbols.Comma) (parser.next_item (spec.argument (spec.inside_of c.args.depth_left))) c.in_ok-found.found c.argument.new.ts c.items.found c.add.new.found c.items.ts c.argument-in-items.new.ts c.argument-in-items.result c.items.invariant.left (sym c.at_symbol.ensures ∙ c.items-test.true)
          (rw (next_at (spec.argument (spec.inside_of c.args.depth_left)) c.items.ts c.bump.new.self c.bump.ensures.rest) c.argument-in-items.ensures.reads) c.in_ok-add.ensures.ok (omega (arith, less, c.bump.ensures.shorter));
      shorter = omega (arith, less, c.bump.ensures.shorter, c.items.invariant.shorter);
    }

pub argument_list-returns : goal.argument_list-returns
argument_list-returns t c = rw c.shrink_to_fit.ensures (record {
  reads = listed_end (spec.argument (spec.inside_of c.args.depth_left)) c.args.ts.now c.argument.new.ts c.argument.result c.argument.ensures.reads c.in_ok-found.found c.in_ok-found.ensures.ok c.items.found c.items.ts c.items.invariant.left (sym c.at_symbol.ensures ∙ c.items-test.false);
  shorter = omega (arith, of_item c.argument.result _ c.in_ok-found.ensures.ok c.argument.ensures.shorter, c.items.invariant.shorter);
})

pub parts-items-init : goal.parts-items-init
parts-items-init t c = record { left = rw c.new-found.ensures (left_init spec.begins_part (spec.part_of c.args.depth_left (spec.inside_of c.args.depth_left)) [] c.args.ts.now); shorter = omega arith }

pub parts-returns-in_err-add : goal.parts-returns-in_err-add
parts-returns-in_err-add t c =
    let e = err_from_is_err_and c.from_residual.result c.from_residual.ensures.1 in
    rw (e.1, e.2) (record {
      reads = loop_err spec.begins_part (spec.part_of c.args.depth_left (spec.inside_of c.args.depth_left)) c.args.ts.now c.items.found c.items.ts _ c.items.invariant.left (sym c.begins_part.ensures ∙ c.items-test.true) (refused_read _ c.part.result c.part.new.ts _ c.in_err-add.ensures.err c.part.ensures.reads);
      shorter = tt;
    })

pub parts-items-preserved : goal.parts-items-preserved
parts-items-preserved t c =
    let less = of_item c.part.result _ c.in_ok-add.ensures.ok c.part.ensures.shorter in
    record {
      left = left_added spec.begins_part (spec.part_of c.args.depth_left (spec.inside_of c.args.depth_left)) [] c.args.ts.now c.items.found c.add.new.found c.items.ts c.part.new.ts c.part.result c.items.invariant.left (sym c.begins_part.ensures ∙ c.items-test.true) c.part.ensures.reads c.in_ok-add.ensures.ok less;
      shorter = omega (arith, less, c.items.invariant.shorter);
    }

pub parts-returns : goal.parts-returns
parts-returns t c = rw c.shrink_to_fit.ensures (record {
  reads = loop_end spec.begins_part (spec.part_of c.args.depth_left (spec.inside_of c.args.depth_left)) c.args.ts.now c.items.found c.items.ts c.items.invariant.left (sym c.begins_part.ensures ∙ c.items-test.false);
  shorter = c.items.invariant.shorter;
})

pub operations-items-init : goal.operations-items-init
operations-items-init t c = record { left = rw c.new-found.ensures (left_init (spec.is_operator c.args.precedence) (spec.operation (spec.binary c.args.depth_left (spec.inside_of c.args.depth_left) c.args.precedence)) [] c.args.ts.now); shorter = omega arith }

pub operations-returns-in_err-add : goal.operations-returns-in_err-add
operations-returns-in_err-add t c =
    let e = err_from_is_err_and c.from_residual.result c.from_residual.ensures.1 in
    rw (e.1, e.2) (record {
      reads = loop_err (spec.is_operator c.args.precedence) (spec.operation (spec.binary c.args.depth_left (spec.inside_of c.args.depth_left) c.args.precedence)) c.args.ts.now c.items.found c.items.ts _ c.items.invariant.left (sym c.is_operator.ensures ∙ c.items-test.true) (refused_read _ c.operation.result c.operation.new.ts _ c.in_err-add.ensures.err c.operation.ensures.reads);
      shorter = tt;
    })

pub operations-items-preserved : goal.operations-items-preserved
operations-items-preserved t c =
    let less = of_item c.operation.result _ c.in_ok-add.ensures.ok c.operation.ensures.shorter in
    record {
      left = left_added (spec.is_operator c.args.precedence) (spec.operation (spec.binary c.args.depth_left (spec.inside_of c.args.depth_left) c.args.precedence)) [] c.args.ts.now c.items.found c.add.new.found c.items.ts c.operation.new.ts c.operation.result c.items.invariant.left (sym c.is_operator.ensures ∙ c.items-test.true) c.operation.ensures.reads c.in_ok-add.ensures.ok less;
      shorter = omega (arith, less, c.items.invariant.shorter);
    }

pub operations-returns : goal.operations-returns
operations-returns t c = rw c.shrink_to_fit.ensures (record {
  reads = loop_end (spec.is_operator c.args.precedence) (spec.operation (spec.binary c.args.depth_left (spec.inside_of c.args.depth_left) c.args.precedence)) c.args.ts.now c.items.found c.items.ts c.items.invariant.left (sym c.is_operator.ensures ∙ c.items-test.false);
  shorter = c.items.invariant.shorter;
})

pub inside-returns : goal.inside-returns
inside-returns t c = rw (inside_expression c.args.depth_left c.requires) c.binary.ensures

pub boxed_target-returns : goal.boxed_target-returns
boxed_target-returns t c = rw (inside_variable c.args.depth_left c.requires) (takes_kept _ c.variable.result c.boxed.result _ _ c.boxed.ensures.ok c.boxed.ensures.err c.variable.ensures)

pub binary-levels-init : goal.binary-levels-init
binary-levels-init t c = record {
  within = omega arith;
  reads = binary_first c.args.depth_left (spec.inside_of c.args.depth_left) c.args.ts.now ∙ c.in_ok-found.ensures.reads;
  shorter = c.in_ok-found.ensures.shorter;
}

pub binary-levels-preserved : goal.binary-levels-preserved
binary-levels-preserved t c =
    let above : c.levels.bound < c.in-Some.next = c.in-Some.ensures.above in
    record {
      within = c.in-Some.ensures.within;
      reads = binary_ok c.args.depth_left (spec.inside_of c.args.depth_left) c.in-Some.next c.args.ts.now c.levels.ts c.operations.new.ts c.levels.found c.in_ok-operations.operations
          (λ none. absurd (omega (arith, above, none)))
          (binary_before c.args.depth_left (spec.inside_of c.args.depth_left) c.levels.bound c.in-Some.next c.args.ts.now c.levels.ts c.levels.found above c.in-Some.ensures.operator c.levels.invariant.reads)
          c.in_ok-operations.ensures.reads
          ∙ ap (λ p. Ok (spec.chain p c.levels.found c.in_ok-operations.operations, c.operations.new.ts)) (sym c.position-position.ensures)
          ∙ ap (λ x. Ok (x, c.operations.new.ts)) (sym c.in_ok-found-2.ensures.ok);
      shorter = omega (arith, c.in_ok-operations.ensures.shorter, c.levels.invariant.shorter);
    }

pub binary-returns-in_err-operations : goal.binary-returns-in_err-operations
binary-returns-in_err-operations t c =
    let above : c.levels.bound < c.in-Some.next = c.in-Some.ensures.above in
    let e = err_from_is_err_and c.from_residual-in_err-operations.result c.from_residual-in_err-operations.ensures.1 in
    rw (e.1, e.2) (record {
      reads = refused_up_to c.args.depth_left (spec.inside_of c.args.depth_left) c.in-Some.next c.args.precedence c.args.ts.now _ c.in-Some.ensures.within
          (binary_err c.args.depth_left (spec.inside_of c.args.depth_left) c.in-Some.next c.args.ts.now c.levels.ts c.levels.found _
          (λ none. absurd (omega (arith, above, none)))
          (binary_before c.args.depth_left (spec.inside_of c.args.depth_left) c.levels.bound c.in-Some.next c.args.ts.now c.levels.ts c.levels.found above c.in-Some.ensures.operator c.levels.invariant.reads)
          c.in_err-operations.ensures.reads);
      shorter = tt;
    })

pub binary-returns-in_err-found : goal.binary-returns-in_err-found
binary-returns-in_err-found t c =
    let e = err_from_is_err_and c.from_residual.result c.from_residual.ensures.1 in
    rw (e.1, e.2) (record {
      reads = refused_up_to c.args.depth_left (spec.inside_of c.args.depth_left) 0 c.args.precedence c.args.ts.now _ (omega arith)
          (rw (binary_first c.args.depth_left (spec.inside_of c.args.depth_left) c.args.ts.now) c.in_err-found.ensures.reads);
      shorter = tt;
    })

pub binary-returns : goal.binary-returns
binary-returns t c = record {
  reads = binary_up_to c.args.depth_left (spec.inside_of c.args.depth_left) c.levels.bound c.args.precedence c.args.ts.now c.levels.ts c.levels.found c.levels.invariant.within
      (c.precedence_at.ensures.none c.in_default.is) c.levels.invariant.reads;
  shorter = c.levels.invariant.shorter;
}

pub boxed_inside-returns : goal.boxed_inside-returns
boxed_inside-returns t c = takes_kept _ c.inside.result c.boxed.result _ _ c.boxed.ensures.ok c.boxed.ensures.err c.inside.ensures

pub boxed_primary-returns : goal.boxed_primary-returns
boxed_primary-returns t c = takes_kept _ c.primary.result c.boxed.result _ _ c.boxed.ensures.ok c.boxed.ensures.err c.primary.ensures
