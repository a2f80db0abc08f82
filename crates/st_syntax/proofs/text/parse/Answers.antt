use Rattle.st_syntax.proofs.Top.{found, refused, one_text, only_memory, short_text}
use Rattle.st_syntax.proofs.Stopping.{named, not_long}
use Rattle.st_syntax.proofs.text.parse.Goals as goal

pub returns-clause-fault : goal.returns-clause-fault
returns-clause-fault c = rw c.in_text.ensures (refused c.args.text.now c.in_ok-tokens.tokens.items c.in_ok-tokens.ensures.found c.last_line.result c.in-Err.fault
    (rw c.as_slice.ensures.value at c.in-Err.ensures))

pub returns-clause-stops : goal.returns-clause-stops
returns-clause-stops c = rw (c.in_text.ensures, c.last_line.ensures) (named c.args.text.now c.in_ok-tokens.tokens.items c.in-Err.fault (not_long c.args.text.now (λ h. let e = c.in_ok-tokens.ensures.long h in cc)) c.in_ok-tokens.ensures.found
    (rw c.as_slice.ensures.value at c.in-Err.ensures))

pub returns-clause-only : goal.returns-clause-only
returns-clause-only c = λ us short t. only_memory c.args.text.now _ us (returns-clause-fault c) short t

pub returns-in-Ok-clause-found : goal.returns-in-Ok-clause-found
returns-in-Ok-clause-found c = rw c.found.view_is (found c.args.text.now c.in_ok-tokens.tokens.items c.in_ok-tokens.ensures.found c.in-Ok.found
    (rw c.as_slice.ensures.value at c.in-Ok.ensures))

pub returns-in-Ok-clause-short : goal.returns-in-Ok-clause-short
returns-in-Ok-clause-short c = rw c.found.view_is (short_text c.args.text.now c.in_ok-tokens.tokens.items c.in_ok-tokens.ensures.found c.in-Ok.found
    (rw c.as_slice.ensures.value at c.in-Ok.ensures) c.in_ok-tokens.ensures.count)

pub returns-in-Ok-clause-only : goal.returns-in-Ok-clause-only
returns-in-Ok-clause-only c = λ us short t. one_text c.args.text.now _ us (returns-in-Ok-clause-found c) t
