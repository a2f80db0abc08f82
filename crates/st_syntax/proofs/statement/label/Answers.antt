use Rattle.std.proofs.Common.{Ok, refl, sym, arith}
use Rattle.st_parser.proofs.ParserLemmas.{takes_kept}
use Rattle.st_syntax.specs.Reader.Statements as spec
use Rattle.st_syntax.proofs.statement.label.Goals as goal

pub returns-then-at_symbol : goal.returns-then-at_symbol
unfolding spec.label
returns-then-at_symbol c =
    let last = takes_kept _ c.constant-then-at_symbol.result (Ok c.in_ok-last.last) _ _ c.in_ok-last.ensures.ok tt c.constant-then-at_symbol.ensures in
    record {
      reads = rw (c.in_ok-first.ensures.reads, sym c.at_symbol.ensures, c.if-at_symbol.true, sym c.bump.ensures.rest, last.reads, c.in_ok-new.ensures) refl;
      shorter = omega (arith, c.in_ok-first.ensures.shorter, c.bump.ensures.shorter, last.shorter);
    }
