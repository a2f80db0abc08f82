use Rattle.st_leaves.proofs.Texts.{Counted}
use Rattle.st_leaves.proofs.subrange.decimal_len.Given as goal

abbrev pub invariant-digits : goal.invariant-digits
invariant-digits l = Counted l.number l.rest l.digits

abbrev pub decreases-digits : goal.decreases-digits
decreases-digits l = l.rest
