use Rattle.std.proofs.Common.{lt-ltb, le-ltb}
use Rattle.st_messages.proofs.shown.push_number.Goals as goal

pub returns-then-code-lt128 : goal.returns-then-code-lt128
returns-then-code-lt128 c = rw (lt-ltb _ _ c.if-code-lt128.true) c.push_byte.ensures

pub returns-else-code-lt128 : goal.returns-else-code-lt128
returns-else-code-lt128 c = rw (le-ltb _ _ c.if-code-lt128.false) (rw c.in_radix.ensures at c.write.ensures.bytes)
