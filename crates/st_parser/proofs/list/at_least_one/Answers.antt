use Rattle.std.proofs.lemmas.Result.{err_from_is_err_and}
use Rattle.st_parser.proofs.Loops.{leading_first, leading_is, refused_read}
use Rattle.st_parser.proofs.list.at_least_one.Goals as goal

pub returns-in_err-found-clause-read : goal.returns-in_err-found-clause-read
returns-in_err-found-clause-read g c = λ test p tests reads.
    let e = err_from_is_err_and c.from_residual.result c.from_residual.ensures.1 in
    rw (e.1, e.2) (leading_first p test p c.args.ts.now _ (refused_read (p c.args.ts.now) c.item.result c.item.new.arg3 _ c.in_err-found.ensures.err (reads _ _ _ _ c.item.ensures).reads))

pub returns-clause-read : goal.returns-clause-read
returns-clause-read g c = λ test p tests reads.
    rw (leading_is p test p c.args.ts.now c.item.new.arg3 c.item.result (reads _ _ _ _ c.item.ensures).reads c.in_ok-found.found c.in_ok-found.ensures.ok) (c.more.ensures.read test p tests reads)
