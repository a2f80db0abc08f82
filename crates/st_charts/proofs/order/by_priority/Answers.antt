use Rattle.std.proofs.Common.{◌≡◌, ◌∙◌, ap, map, subst, sym}
use Rattle.std.proofs.lemmas.Result.{IfOk-weaker}
use Rattle.st_charts.specs.Passages.{IsByPriority, passages_of}
use Rattle.st_charts.specs.Ranks.{Rank}
use Rattle.st_charts.proofs.RankLemmas.{ordered_ranks}
use Rattle.st_charts.proofs.order.by_priority.Goals as goal

pub returns : goal.returns
returns c =
    IfOk-weaker c.places.result (λ places. places.items ≡ map (λ (r : Rank). r.2) c.as_slice.result.now) (λ order. IsByPriority (passages_of c.args.transitions.now) order.items)
    (λ order is.
    subst (IsByPriority (passages_of c.args.transitions.now)) (sym (is ∙ ap (map (λ (r : Rank). r.2)) c.as_slice.ensures.value))
    (ordered_ranks (passages_of c.args.transitions.now) c.in_ok-ranks.ranks.items c.sort.new.self.items c.in_ok-ranks.ensures c.in_ok-sort.ensures.permutation c.in_ok-sort.ensures.sorted))
    c.places.ensures
