use Rattle.std.proofs.Common.{rules, arith, ◌∙◌}
use Rattle.st_references.proofs.GraphLemmas.{references_read}
use Rattle.st_references.proofs.Searching.{search_begun, search_continued, search_ended, next_row, references_marked}
use Rattle.st_references.proofs.search.add_reached.Goals as goal

pub found-init : goal.found-init
found-init c =
    search_begun _ _ _ _ _ _ _ _ (search rules) c.requires.seen
    (references_read _ _ _ _ c.requires.from c.index-graph-from.is c.as_slice.ensures)
    c.in_ok-add_new.ensures.new (c.in_ok-add_new.ensures.length ∙ c.requires.length)

pub bounds-graph-row : goal.bounds-graph-row
bounds-graph-row c = next_row _ _ _ _ _ _ _ _ c.requires.closed c.found.invariant (omega arith) c.index-row.ensures

pub offset_bounds-graph-row : goal.offset_bounds-graph-row
offset_bounds-graph-row c = search (rules, next_row _ _ _ _ _ _ _ _ c.requires.closed c.found.invariant (omega arith) c.index-row.ensures)

pub add_new-requires-in-found : goal.add_new-requires-in-found
add_new-requires-in-found c =
    let is_row = next_row _ _ _ _ _ _ _ _ c.requires.closed c.found.invariant (omega arith) c.index-row.ensures in
    references_marked _ _ _ _ c.requires.closed is_row (references_read _ _ _ _ is_row c.index-graph-row.is c.as_slice-in-found.ensures) c.found.invariant.length

pub found-preserved : goal.found-preserved
found-preserved c =
    search_continued _ _ _ _ _ _ _ _ _ _ _ c.found.invariant (omega arith) c.index-row.ensures
    (references_read _ _ _ _ (next_row _ _ _ _ _ _ _ _ c.requires.closed c.found.invariant (omega arith) c.index-row.ensures) c.index-graph-row.is c.as_slice-in-found.ensures)
    c.in_ok-add_new-2.ensures.new (c.in_ok-add_new-2.ensures.length ∙ c.found.invariant.length)

pub returns-clause-new : goal.returns-clause-new
returns-clause-new c = search_ended _ _ _ _ _ _ c.found.next c.found.invariant (omega arith)
