use Rattle.std.proofs.Common.{arith, ◌<◌, ◌∙◌, length, get_or, length-set, subst}
use Rattle.std.specs.List.{Contains}
use Rattle.std.proofs.lemmas.List.{take_all}
use Rattle.st_references.specs.Searches.{AddsNew}
use Rattle.st_references.proofs.Marks.{mark_read}
use Rattle.st_references.proofs.Searching.{adds_none, adds_one, adds_next}
use Rattle.st_references.proofs.search.add_new.Goals as goal
use Rattle.st_references.proofs.search.add_new.Goals.{then-not-index+in_ok-push, else-not-index}

pub rows-preserved : goal.rows-preserved
rows-preserved c =
    let within : get_or c.args.rows.now c.rows.row-index 0 < length c.rows.seen.items = omega (arith, c.requires c.rows.row-index 0 c.rows-test.true) in record {
      length = elim c.if-not-index.branch [
        | then-not-index+in_ok-push w ↦ rw w.seen-is (length-set _ _ _ ∙ c.rows.invariant.length)
        | else-not-index w ↦ rw w.seen-is c.rows.invariant.length
      ];
      adds = adds_next _ _ _ _ _ _ _ _ c.rows-test.true c.rows.invariant.adds (elim c.if-not-index.branch [
        | then-not-index+in_ok-push w ↦ rw (w.seen-is, w.found-is, w.in_ok-push.ensures.items) (adds_one _ _ _ within (mark_read _ _ _ _ within c.index.ensures w.if-not-index.true))
        | else-not-index w ↦ rw (w.seen-is, w.found-is) (adds_none _ _ _ (mark_read _ _ _ _ within c.index.ensures w.if-not-index.false))
      ]);
    }

pub returns-clause-new : goal.returns-clause-new
returns-clause-new c =
    subst (λ rows. AddsNew (Contains rows) c.args.seen.now.items c.rows.seen.items c.args.found.now.items c.rows.found.items)
    (take_all c.rows.row-index c.args.rows.now c.rows-test.false) c.rows.invariant.adds
