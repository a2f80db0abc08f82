use Rattle.st_syntax_messages.specs.Causes.{HasNoElseIf}
use Rattle.st_syntax_messages.proofs.tokens.else_if_from.Given as goal

-- there is none so far
abbrev pub invariant-loop-at : goal.invariant-loop-at
invariant-loop-at l = HasNoElseIf l.reading.tokens.now l.number l.at
