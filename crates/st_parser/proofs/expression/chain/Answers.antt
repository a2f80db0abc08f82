use Rattle.std.proofs.Common.{refl}
use Rattle.st_parser.proofs.ReaderLemmas.{chain_none, chain_some}
use Rattle.st_parser.proofs.expression.chain.Goals as goal

pub returns-then-is_empty-clause-ok : goal.returns-then-is_empty-clause-ok
returns-then-is_empty-clause-ok c = chain_none c.args.position c.args.first c.args.operations ((rw c.if-is_empty.true at c.is_empty.ensures).0 refl)

pub returns-clause-ok : goal.returns-clause-ok
returns-clause-ok c = rw c.in_ok-new.ensures (chain_some c.args.position c.args.first c.args.operations
    (λ none. let empty = (rw c.if-is_empty.false at c.is_empty.ensures).1 none in cc))
