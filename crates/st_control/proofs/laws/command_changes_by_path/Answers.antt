use Rattle.st_control.proofs.OnePath.{changes_by_path}
use Rattle.st_control.proofs.laws.command_changes_by_path.Goals as goal

pub returns : goal.returns
returns c = changes_by_path
