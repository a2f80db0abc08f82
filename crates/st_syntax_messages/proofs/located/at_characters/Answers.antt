use Rattle.std.proofs.Common.{sym, subst, arith}
use Rattle.std.proofs.lemmas.List.{take_all}
use Rattle.st_messages.specs.declared.lexeme.Lexeme.{Lexeme}
use Rattle.st_syntax_messages.specs.Located.{AreReadOn, IsUnknownAt, first, none}
use Rattle.st_syntax_messages.proofs.Standing.{begins_at, read_more, within_line}
use Rattle.st_syntax_messages.proofs.located.at_characters.Goals as goal

pub returns-then-branch-clause-unknown : goal.returns-then-branch-clause-unknown
returns-then-branch-clause-unknown c =
    subst (IsUnknownAt c.args.text.now c.args.line) (sym c.span_of.ensures)
    (first (begins_at c.args.text.now c.args.found.now c.loop-lexeme.lexeme-index (record { start = 0; end = 0 }) c.requires.pieces c.loop-lexeme-test.true)
    (c.in_ok-is_unknown_on.ensures.unknown c.if-branch.true) c.loop-lexeme.invariant)

pub loop-lexeme-preserved : goal.loop-lexeme-preserved
loop-lexeme-preserved c =
    let text = c.args.text.now in
    let none : Lexeme = record { start = 0; end = 0 } in
    read_more text c.args.line c.args.found.now c.loop-lexeme.lexeme-index none c.loop-lexeme-test.true c.loop-lexeme.invariant
    (λ e.
    let w = c.requires.within c.loop-lexeme.lexeme-index none c.loop-lexeme-test.true in
    let b = within_line text c.args.line c.line_span-here.result.start c.line_span-here.result.end c.line_span-here.ensures.is _ (omega (arith, w.0, w.1)) e in
    c.in_ok-is_unknown_on.ensures.read c.if-branch.false b.0 b.1)

pub returns-clause-unknown : goal.returns-clause-unknown
returns-clause-unknown c = none c.requires.pieces
    (subst (AreReadOn c.args.text.now c.args.line) (take_all c.loop-lexeme.lexeme-index c.args.found.now c.loop-lexeme-test.false) c.loop-lexeme.invariant)
    c.line_span-here.ensures.ends
