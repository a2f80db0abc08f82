use Rattle.std.proofs.Common.{◌≡◌, take}
use Rattle.std.specs.List.{All}
use Rattle.st_types.specs.Initials.{first_values}
use Rattle.st_references.specs.Runs.{HasElements, runs_values}
use Rattle.st_references.proofs.first.runs_of.Given as goal

-- the runs of the items so far
abbrev pub invariant-items : goal.invariant-items
invariant-items l = record {
  values : runs_values l.runs.items ≡ first_values (take l.item-index l.items);
  filled : All HasElements l.runs.items;
}
