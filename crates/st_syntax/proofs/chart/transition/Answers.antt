use Rattle.std.proofs.Common.{refl, sym, arith}
use Rattle.st_syntax.specs.Reader.Charts as spec
use Rattle.st_syntax.proofs.chart.transition.Goals as goal

pub returns : goal.returns
unfolding spec.transition
returns c = record {
  reads =
      rw (sym c.bump-position.ensures.value, sym c.bump-position.ensures.rest, c.in_ok-name.ensures.reads, c.in_ok-priority.ensures.reads, c.in_ok-from.ensures.reads, c.in_ok-condition.ensures.reads, c.into_inner.ensures) refl;
  shorter = omega (arith, c.bump-position.ensures.shorter, c.in_ok-name.ensures.shorter, c.in_ok-priority.ensures.shorter, c.in_ok-from.ensures.shorter, c.in_ok-condition.ensures.shorter);
}
