use Rattle.std.proofs.Common.{◌≡◌, length, take}
use Rattle.std.specs.List.{Contains}
use Rattle.st_references.specs.Searches.{AddsNew}
use Rattle.st_references.proofs.search.add_new.Given as goal

abbrev pub invariant-rows : goal.invariant-rows
invariant-rows l = record {
  length : length l.seen.items ≡ length l.initial.seen.items;
  adds : AddsNew (Contains (take l.row-index l.rows)) l.initial.seen.items l.seen.items l.initial.found.items l.found.items;
}
