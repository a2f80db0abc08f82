use Rattle.std.proofs.Common.{[], sym, ◌∙◌, arith}
use Rattle.std.proofs.lemmas.Result.{err_from_is_err_and}
use Rattle.st_tokens.specs.declared.keyword.Keyword.TheVariants as keywords
use Rattle.st_parser.specs.Reader.Parsers.{is_keyword}
use Rattle.st_parser.proofs.Loops.{left_added, left_init, loop_end, loop_err, leading_end, leading_err, leading_first, of_item, refused_read}
use Rattle.st_syntax.specs.Reader.Statements as spec
use Rattle.st_syntax.proofs.ReaderLemmas.{deeper_statements}
use Rattle.st_syntax.proofs.statement.+parser.Goals as goal

pub conditionals-items-init : goal.conditionals-items-init
conditionals-items-init t c = record { left = left_init (is_keyword keywords.Elsif) (spec.elsif (spec.deeper_of c.args.depth_left)) c.in_ok-found.found c.conditional.new.ts; shorter = omega arith }

pub conditionals-returns-in_err-found : goal.conditionals-returns-in_err-found
conditionals-returns-in_err-found t c =
    let e = err_from_is_err_and c.from_residual.result c.from_residual.ensures.1 in
    rw (e.1, e.2) (record {
      reads = leading_first (spec.conditional (spec.deeper_of c.args.depth_left)) (is_keyword keywords.Elsif) (spec.elsif (spec.deeper_of c.args.depth_left)) c.args.ts.now _ (refused_read _ c.conditional.result c.conditional.new.ts _ c.in_err-found.ensures.err c.conditional.ensures.reads);
      shorter = tt;
    })

pub conditionals-returns-in_err-add : goal.conditionals-returns-in_err-add
conditionals-returns-in_err-add t c =
    let e = err_from_is_err_and c.from_residual-in_err-add.result c.from_residual-in_err-add.ensures.1 in
    rw (e.1, e.2) (record {
      reads = leading_err (spec.conditional (spec.deeper_of c.args.depth_left)) (is_keyword keywords.Elsif) (spec.elsif (spec.deeper_of c.args.depth_left)) c.args.ts.now c.conditional.new.ts c.conditional.result c.conditional.ensures.reads c.in_ok-found.found c.in_ok-found.ensures.ok c.items.found c.items.ts _ c.items.invariant.left (sym c.at_keyword.ensures ∙ c.items-test.true)
          (refused_read _ c.elsif.result c.elsif.new.ts _ c.in_err-add.ensures.err c.elsif.ensures.reads);
      shorter = tt;
    })

pub conditionals-items-preserved : goal.conditionals-items-preserved
conditionals-items-preserved t c =
    let less = of_item c.elsif.result _ c.in_ok-add.ensures.ok c.elsif.ensures.shorter in
    record {
      left = left_added (is_keyword keywords.Elsif) (spec.elsif (spec.deeper_of c.args.depth_left)) c.in_ok-found.found c.conditional.new.ts c.items.found c.add.new.found c.items.ts c.elsif.new.ts c.elsif.result c.items.invariant.left (sym c.at_keyword.ensures ∙ c.items-test.true) c.elsif.ensures.reads c.in_ok-add.ensures.ok less;
      shorter = omega (arith, less, c.items.invariant.shorter);
    }

pub conditionals-returns : goal.conditionals-returns
conditionals-returns t c = rw c.shrink_to_fit.ensures (record {
  reads = leading_end (spec.conditional (spec.deeper_of c.args.depth_left)) (is_keyword keywords.Elsif) (spec.elsif (spec.deeper_of c.args.depth_left)) c.args.ts.now c.conditional.new.ts c.conditional.result c.conditional.ensures.reads c.in_ok-found.found c.in_ok-found.ensures.ok c.items.found c.items.ts c.items.invariant.left (sym c.at_keyword.ensures ∙ c.items-test.false);
  shorter = omega (arith, of_item c.conditional.result _ c.in_ok-found.ensures.ok c.conditional.ensures.shorter, c.items.invariant.shorter);
})

pub cases-items-init : goal.cases-items-init
cases-items-init t c = record { left = left_init spec.begins_label (spec.case (spec.deeper_of c.args.depth_left)) c.in_ok-found.found c.case.new.ts; shorter = omega arith }

pub cases-returns-in_err-found : goal.cases-returns-in_err-found
cases-returns-in_err-found t c =
    let e = err_from_is_err_and c.from_residual.result c.from_residual.ensures.1 in
    rw (e.1, e.2) (record {
      reads = leading_first (spec.case (spec.deeper_of c.args.depth_left)) spec.begins_label (spec.case (spec.deeper_of c.args.depth_left)) c.args.ts.now _ (refused_read _ c.case.result c.case.new.ts _ c.in_err-found.ensures.err c.case.ensures.reads);
      shorter = tt;
    })

pub cases-returns-in_err-add : goal.cases-returns-in_err-add
cases-returns-in_err-add t c =
    let e = err_from_is_err_and c.from_residual-in_err-add.result c.from_residual-in_err-add.ensures.1 in
    rw (e.1, e.2) (record {
      reads = leading_err (spec.case (spec.deeper_of c.args.depth_left)) spec.begins_label (spec.case (spec.deeper_of c.args.depth_left)) c.args.ts.now c.case.new.ts c.case.result c.case.ensures.reads c.in_ok-found.found c.in_ok-found.ensures.ok c.items.found c.items.ts _ c.items.invariant.left (sym c.begins_label.ensures ∙ c.items-test.true)
          (refused_read _ c.case-in-items.result c.case-in-items.new.ts _ c.in_err-add.ensures.err c.case-in-items.ensures.reads);
      shorter = tt;
    })

pub cases-items-preserved : goal.cases-items-preserved
cases-items-preserved t c =
    let less = of_item c.case-in-items.result _ c.in_ok-add.ensures.ok c.case-in-items.ensures.shorter in
    record {
      left = left_added spec.begins_label (spec.case (spec.deeper_of c.args.depth_left)) c.in_ok-found.found c.case.new.ts c.items.found c.add.new.found c.items.ts c.case-in-items.new.ts c.case-in-items.result c.items.invariant.left (sym c.begins_label.ensures ∙ c.items-test.true) c.case-in-items.ensures.reads c.in_ok-add.ensures.ok less;
      shorter = omega (arith, less, c.items.invariant.shorter);
    }

pub cases-returns : goal.cases-returns
cases-returns t c = rw c.shrink_to_fit.ensures (record {
  reads = leading_end (spec.case (spec.deeper_of c.args.depth_left)) spec.begins_label (spec.case (spec.deeper_of c.args.depth_left)) c.args.ts.now c.case.new.ts c.case.result c.case.ensures.reads c.in_ok-found.found c.in_ok-found.ensures.ok c.items.found c.items.ts c.items.invariant.left (sym c.begins_label.ensures ∙ c.items-test.false);
  shorter = omega (arith, of_item c.case.result _ c.in_ok-found.ensures.ok c.case.ensures.shorter, c.items.invariant.shorter);
})

pub statements-items-init : goal.statements-items-init
statements-items-init t c = record { left = rw c.new-found.ensures (left_init spec.begins_statement (spec.statement c.args.depth_left (spec.deeper_of c.args.depth_left)) [] c.args.ts.now); shorter = omega arith }

pub statements-returns-in_err-add : goal.statements-returns-in_err-add
statements-returns-in_err-add t c =
    let e = err_from_is_err_and c.from_residual.result c.from_residual.ensures.1 in
    rw (e.1, e.2) (record {
      reads = loop_err spec.begins_statement (spec.statement c.args.depth_left (spec.deeper_of c.args.depth_left)) c.args.ts.now c.items.found c.items.ts _ c.items.invariant.left (sym c.begins_statement.ensures ∙ c.items-test.true) (refused_read _ c.statement.result c.statement.new.ts _ c.in_err-add.ensures.err c.statement.ensures.reads);
      shorter = tt;
    })

pub statements-items-preserved : goal.statements-items-preserved
statements-items-preserved t c =
    let less = of_item c.statement.result _ c.in_ok-add.ensures.ok c.statement.ensures.shorter in
    record {
      left = left_added spec.begins_statement (spec.statement c.args.depth_left (spec.deeper_of c.args.depth_left)) [] c.args.ts.now c.items.found c.add.new.found c.items.ts c.statement.new.ts c.statement.result c.items.invariant.left (sym c.begins_statement.ensures ∙ c.items-test.true) c.statement.ensures.reads c.in_ok-add.ensures.ok less;
      shorter = omega (arith, less, c.items.invariant.shorter);
    }

pub statements-returns : goal.statements-returns
statements-returns t c = rw c.shrink_to_fit.ensures (record {
  reads = loop_end spec.begins_statement (spec.statement c.args.depth_left (spec.deeper_of c.args.depth_left)) c.args.ts.now c.items.found c.items.ts c.items.invariant.left (sym c.begins_statement.ensures ∙ c.items-test.false);
  shorter = c.items.invariant.shorter;
})

pub block-returns : goal.block-returns
block-returns t c = rw (deeper_statements c.args.depth_left c.requires) c.statements.ensures
