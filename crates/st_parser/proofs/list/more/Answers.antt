use Rattle.std.proofs.Common.{sym, ◌∙◌, arith}
use Rattle.std.proofs.lemmas.Result.{err_from_is_err_and}
use Rattle.st_parser.proofs.Loops.{left_init, left_added, left_end, left_err, of_item, refused_read, refuses_too}
use Rattle.st_parser.proofs.list.more.Goals as goal

pub items-init : goal.items-init
items-init g c = record { left = λ test p tests reads. left_init test p c.args.found c.args.ts.now; shorter = omega arith }

pub returns-in_err-add-clause-read : goal.returns-in_err-add-clause-read
returns-in_err-add-clause-read g c = λ test p tests reads.
    let e = err_from_is_err_and c.from_residual.result c.from_residual.ensures.1 in
    let left = c.items.invariant.left test p tests reads in
    let begins = sym (tests _ _ c.begins.ensures) ∙ c.items-test.true in
    rw (e.1, e.2) (refuses_too _ _ _ (λ r h. left_err test p c.args.found c.args.ts.now c.items.found c.items.ts r left begins h)
    (refused_read (p c.items.ts) c.item.result c.item.new.arg3 _ c.in_err-add.ensures.err (reads _ _ _ _ c.item.ensures).reads))

pub items-preserved : goal.items-preserved
items-preserved g c =
    let less = of_item c.item.result _ c.in_ok-add.ensures.ok (c.requires.item.shorter _ _ _ _ c.item.ensures) in
    record {
      left = λ test p tests reads.
          left_added test p c.args.found c.args.ts.now c.items.found c.add.new.found c.items.ts c.item.new.arg3 c.item.result (c.items.invariant.left test p tests reads)
          (sym (tests _ _ c.begins.ensures) ∙ c.items-test.true) (reads _ _ _ _ c.item.ensures).reads c.in_ok-add.ensures.ok less;
      shorter = omega (arith, less, c.items.invariant.shorter);
    }

pub returns-clause-read : goal.returns-clause-read
returns-clause-read g c = λ test p tests reads.
    rw c.shrink_to_fit.ensures (left_end test p c.args.found c.args.ts.now c.items.found c.items.ts (c.items.invariant.left test p tests reads) (sym (tests _ _ c.begins.ensures) ∙ c.items-test.false))
