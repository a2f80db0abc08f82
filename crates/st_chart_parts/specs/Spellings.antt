-- How names are declared, in code.
use Rattle.std.specs.Prelude.{◌≡◌}
use Rattle.st_leaves.specs.Charts.{spelled}
use Rattle.st_chart_parts.specs.declared.spellings.Spellings.TheInside.{Inside}

-- the table has the names that these words are
pub record AreSpellings (all : Inside) : Type 0 where
  pub names : all.names ≡ spelled all.words.items
