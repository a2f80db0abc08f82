-- Elements of one value, and lists of them.
use Rattle.std.specs.Prelude.{◌≡◌, ◌<◌, ◌++◌, List, Option, Some, replicate}
use Rattle.std.specs.List.{All, flat_map}
use Rattle.std.specs.Option.{option_copied}
use Rattle.st_tree.specs.declared.tree.constant.Constant.{Constant}
use Rattle.st_references.specs.Lists.{values_of}
use Rattle.st_references.specs.declared.first.FirstValues.TheInside as left
use Rattle.st_references.specs.declared.first.Run.{Run}
use Rattle.st_references.specs.declared.first.Written.TheInside as written

abbrev pub run_values : Run → List (Option Constant)
run_values run = replicate run.count (option_copied run.value)

abbrev pub runs_values : List Run → List (Option Constant)
runs_values runs = flat_map run_values runs

-- a run that isn't empty
abbrev pub HasElements : Run → Type 0
HasElements run = 0 < run.count

-- the runs are those of the value, and none is empty
pub record HasRuns (w : written.Inside) : Type 0 where
  pub values : runs_values w.runs.items ≡ values_of (Some w.initial.now)
  pub filled : All HasElements w.runs.items

-- those of the run that is being passed, and of the others
abbrev pub values_left : left.Inside → List (Option Constant)
values_left l = run_values l.run ++ runs_values l.others.now

-- none of the other runs is empty
abbrev pub AreLeft : left.Inside → Type 0
AreLeft l = All HasElements l.others.now
