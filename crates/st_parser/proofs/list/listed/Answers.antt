use Rattle.std.proofs.Common.{sym, ◌∙◌, arith}
use Rattle.std.proofs.lemmas.Result.{err_from_is_err_and}
use Rattle.st_tokens.specs.declared.symbol.Symbol.TheVariants as symbols
use Rattle.st_parser.specs.Reader.Parsers.{is_symbol, next_item}
use Rattle.st_parser.proofs.Loops.{left_init, left_added, listed_first, listed_end, listed_err, of_item, refused_read}
use Rattle.st_parser.proofs.ParserLemmas.{next_at}
use Rattle.st_parser.proofs.list.listed.Goals as goal

pub returns-in_err-found-clause-read : goal.returns-in_err-found-clause-read
returns-in_err-found-clause-read g c = λ p reads.
    let e = err_from_is_err_and c.from_residual.result c.from_residual.ensures.1 in
    rw (e.1, e.2) (listed_first p c.args.ts.now _ (refused_read (p c.args.ts.now) c.item.result c.item.new.arg3 _ c.in_err-found.ensures.err (reads _ _ _ _ c.item.ensures).reads))

pub items-init : goal.items-init
items-init g c = record { left = λ p reads. left_init (is_symbol symbols.Comma) (next_item p) c.in_ok-found.found c.item.new.arg3; shorter = omega arith }

pub returns-in_err-add-clause-read : goal.returns-in_err-add-clause-read
returns-in_err-add-clause-read g c = λ p reads.
    let e = err_from_is_err_and c.from_residual-in_err-add.result c.from_residual-in_err-add.ensures.1 in
    rw (e.1, e.2) (listed_err p c.args.ts.now c.item.new.arg3 c.item.result (reads _ _ _ _ c.item.ensures).reads c.in_ok-found.found c.in_ok-found.ensures.ok c.items.found c.items.ts _ (c.items.invariant.left p reads) (sym c.at_symbol.ensures ∙ c.items-test.true)
    (refused_read (next_item p c.items.ts) c.item-in-items.result c.item-in-items.new.arg3 _ c.in_err-add.ensures.err
    (rw (next_at p c.items.ts c.bump.new.self c.bump.ensures.rest) (reads _ _ _ _ c.item-in-items.ensures).reads)))

pub items-preserved : goal.items-preserved
items-preserved g c =
    let less = of_item c.item-in-items.result _ c.in_ok-add.ensures.ok (c.requires.shorter _ _ _ _ c.item-in-items.ensures) in
    record {
      left = λ p reads.
          left_added (is_symbol symbols.Comma) (next_item p) c.in_ok-found.found c.item.new.arg3 c.items.found c.add.new.found c.items.ts c.item-in-items.new.arg3 c.item-in-items.result (c.items.invariant.left p reads) (sym c.at_symbol.ensures ∙ c.items-test.true)
          (rw (next_at p c.items.ts c.bump.new.self c.bump.ensures.rest) (reads _ _ _ _ c.item-in-items.ensures).reads) c.in_ok-add.ensures.ok (omega (arith, less, c.bump.ensures.shorter));
      shorter = omega (arith, less, c.bump.ensures.shorter, c.items.invariant.shorter);
    }

pub returns-clause-read : goal.returns-clause-read
returns-clause-read g c = λ p reads.
    rw c.shrink_to_fit.ensures (listed_end p c.args.ts.now c.item.new.arg3 c.item.result (reads _ _ _ _ c.item.ensures).reads c.in_ok-found.found c.in_ok-found.ensures.ok c.items.found c.items.ts (c.items.invariant.left p reads) (sym c.at_symbol.ensures ∙ c.items-test.false))

pub returns-clause-shorter : goal.returns-clause-shorter
returns-clause-shorter g c = omega (arith, of_item c.item.result _ c.in_ok-found.ensures.ok (c.requires.shorter _ _ _ _ c.item.ensures), c.items.invariant.shorter)
