use Rattle.st_control.proofs.RefusedPairs.{no_pairs_by_path, refused_charts, refused_pairs, stops_by_path}
use Rattle.st_control.proofs.laws.changes_are_refused_by_path.Goals as goal

pub returns-clause-pairs : goal.returns-clause-pairs
returns-clause-pairs c = no_pairs_by_path

pub returns-clause-charts : goal.returns-clause-charts
returns-clause-charts c = stops_by_path

pub returns-clause-refused_pairs : goal.returns-clause-refused_pairs
returns-clause-refused_pairs c = refused_pairs

pub returns-clause-refused_charts : goal.returns-clause-refused_charts
returns-clause-refused_charts c = refused_charts
