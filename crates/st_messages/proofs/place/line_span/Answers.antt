use Rattle.std.proofs.Common.{subst, sym, arith, drop_of_length-le}
use Rattle.st_messages.specs.Places.{EndsLine, text_ends}
use Rattle.st_messages.proofs.Lines.{ends_at_feed, line_at_end, line_at_feed, line_goes_on, line_passed}
use Rattle.st_messages.proofs.place.line_span.Goals.{then-byte-eq10+else-current-line, else-byte-eq10}
use Rattle.st_messages.proofs.place.line_span.Goals as goal

pub returns-then-current-line-clause-is : goal.returns-then-current-line-clause-is
returns-then-current-line-clause-is c =
    line_at_feed c.args.text.now c.args.line c.loop-at.start c.loop-at.current c.loop-at.at c.loop-at.invariant c.loop-at-test.true c.if-byte-eq10.true
    c.if-current-line.true

pub returns-then-current-line-clause-ends : goal.returns-then-current-line-clause-ends
returns-then-current-line-clause-ends c = ends_at_feed c.args.text.now c.loop-at.at c.loop-at-test.true c.if-byte-eq10.true

pub loop-at-preserved : goal.loop-at-preserved
loop-at-preserved c = elim c.if-byte-eq10.branch [
  | then-byte-eq10+else-current-line w ↦ rw (w.start-is, w.current-is)
      (line_passed c.args.text.now c.args.line c.loop-at.start c.loop-at.current c.loop-at.at c.loop-at.invariant c.loop-at-test.true w.if-byte-eq10.true w.if-current-line.false)
  | else-byte-eq10 w ↦ rw (w.start-is, w.current-is)
      (line_goes_on c.args.text.now c.args.line c.loop-at.start c.loop-at.current c.loop-at.at c.loop-at.invariant c.loop-at-test.true w.if-byte-eq10.false)
]

pub returns-clause-is : goal.returns-clause-is
returns-clause-is c =
    line_at_end c.args.text.now c.args.line c.loop-at.start c.loop-at.current c.loop-at.at c.loop-at.invariant (omega (arith, c.loop-at-test.false, c.loop-at.auto.at-end))

pub returns-clause-ends : goal.returns-clause-ends
returns-clause-ends c = subst EndsLine (sym (drop_of_length-le c.args.text.now (omega arith))) text_ends
