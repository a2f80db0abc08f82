use Rattle.st_memory.proofs.Maps.{has_leaves_values, mark_changes_one_force, paths_determine_content, set_changes_one_value}
use Rattle.st_memory.proofs.laws.content_is_a_map.Goals as goal

pub returns-clause-keys : goal.returns-clause-keys
returns-clause-keys c = has_leaves_values

pub returns-clause-set : goal.returns-clause-set
returns-clause-set c = set_changes_one_value

pub returns-clause-mark : goal.returns-clause-mark
returns-clause-mark c = mark_changes_one_force

pub returns-clause-whole : goal.returns-clause-whole
returns-clause-whole c = paths_determine_content
