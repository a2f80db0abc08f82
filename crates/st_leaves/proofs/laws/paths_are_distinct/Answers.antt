use Rattle.st_leaves.proofs.PathsApart.{paths_apart}
use Rattle.st_leaves.proofs.WaysApart.{ways_are_distinct}
use Rattle.st_leaves.proofs.WaysTold.{texts_are_ways}
use Rattle.st_leaves.proofs.laws.paths_are_distinct.Goals as goal

pub returns-clause-ways : goal.returns-clause-ways
returns-clause-ways c = ways_are_distinct

pub returns-clause-texts : goal.returns-clause-texts
returns-clause-texts c = texts_are_ways

pub returns-clause-paths : goal.returns-clause-paths
returns-clause-paths c = paths_apart
