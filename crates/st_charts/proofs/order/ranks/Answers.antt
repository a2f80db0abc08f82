use Rattle.std.proofs.Common.{◌≡◌, ◌+◌, ◌∙◌, ap, arith, below_more, get_or, length, sym}
use Rattle.std.proofs.lemmas.List.{get_or_append_left, get_or_push, length_push}
use Rattle.st_charts.specs.Passages.{passage, passages_of}
use Rattle.st_charts.specs.Ranks.{no_rank, rank}
use Rattle.st_charts.proofs.TableLemmas.{passage_read}
use Rattle.st_charts.proofs.order.ranks.Goals as goal

pub loop-place-preserved : goal.loop-place-preserved
loop-place-preserved c = record {
  count = ap length c.in_ok-push.ensures.items ∙ length_push _ _ ∙ ap (λ n. n + 1) c.loop-place.invariant.count;
  each = below_more (λ t. get_or c.push.new.self.items t no_rank ≡ rank (passage (passages_of c.args.transitions.now) t).priority t) c.loop-place.place
      (λ t lt. ap (λ ranks. get_or ranks t no_rank) c.in_ok-push.ensures.items ∙ get_or_append_left c.loop-place.ranks.items _ no_rank t (omega (arith, c.loop-place.invariant.count)) ∙ c.loop-place.invariant.each t lt)
      (ap (λ ranks. get_or ranks c.loop-place.place no_rank) c.in_ok-push.ensures.items ∙ get_or_push _ _ _ _ c.loop-place.invariant.count ∙ c.rank.ensures
      ∙ ap (λ p. rank p.priority c.loop-place.place) (sym (passage_read _ _ _ c.loop-place-test.true c.index-transitions-place.is)));
}
