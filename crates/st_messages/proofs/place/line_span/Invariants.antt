use Rattle.st_messages.proofs.Lines.{OnLine}
use Rattle.st_messages.proofs.place.line_span.Given as goal

-- no line feed has come so far on the line
abbrev pub invariant-loop-at : goal.invariant-loop-at
invariant-loop-at l = OnLine l.text l.line l.start l.current l.at
