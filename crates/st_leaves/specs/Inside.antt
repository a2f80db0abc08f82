-- The fields of a chart's names.
use Rattle.std.specs.Prelude.{◌≡◌}
use Rattle.st_leaves.specs.Charts.{spelled}
use Rattle.st_leaves.specs.declared.names.AssociatedNames.TheInside.{Inside}

-- the table has the names that these words are
pub record AreNames (names : Inside) : Type 0 where
  pub words : names.numbers ≡ spelled names.words.items
