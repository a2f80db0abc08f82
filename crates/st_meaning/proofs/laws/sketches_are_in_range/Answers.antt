use Rattle.st_meaning.proofs.SketchRanges.{sketches_are_in_range}
use Rattle.st_meaning.proofs.laws.sketches_are_in_range.Goals as goal

pub returns : goal.returns
returns c = sketches_are_in_range
