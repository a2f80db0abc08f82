use Rattle.std.proofs.Common.{map, subst}
use Rattle.st_words.specs.Words.{chosen_by, faults_of}
use Rattle.st_driver.specs.Statuses.{EndsBy}
use Rattle.st_driver.proofs.Ends.{ends_by_fault, ends_by_limit, order_has_limit}
use Rattle.st_driver.proofs.driver.obey_words.Goals as goal

pub returns-in-Ok : goal.returns-in-Ok
returns-in-Ok g c = record {
  fault = λ some. absurd (some c.in-Ok.ensures.faultless);
  limit = λ none unlimited. absurd (unlimited (order_has_limit c.in-Ok.order (chosen_by (map g.S.AsStr.text c.args.words.now)) c.in-Ok.ensures.order));
  order = λ in_order memory. (c.in-Ok.order, c.in-Ok.ensures.order, c.obey.ensures.check, c.obey.ensures.layout, c.obey.ensures.run);
}

pub returns-in-Err : goal.returns-in-Err
returns-in-Err g c =
    let words = map g.S.AsStr.text c.args.words.now in
    record {
      fault = ends_by_fault (faults_of words) c.in-Err.error c.explain.result c.in-Err.ensures.fault c.explain.ensures;
      limit = λ none unlimited. ends_by_limit (faults_of words) c.in-Err.error c.explain.result c.in-Err.ensures.fault c.explain.ensures none;
      order = λ in_order memory. absurd (memory (subst (λ k. EndsBy k c.explain.result) (c.in-Err.ensures.memory in_order) c.explain.ensures));
    }
