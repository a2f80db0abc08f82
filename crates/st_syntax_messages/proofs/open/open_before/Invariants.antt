use Rattle.std.proofs.Common.{◌≡◌}
use Rattle.st_syntax_messages.specs.Open.{open_before}
use Rattle.st_syntax_messages.proofs.open.open_before.Given as goal

-- what is open before the token that is next
abbrev pub invariant-loop-at : goal.invariant-loop-at
invariant-loop-at l = l.opened.items ≡ open_before l.tokens l.at
