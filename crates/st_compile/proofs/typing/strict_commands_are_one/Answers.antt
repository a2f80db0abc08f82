use Rattle.st_compile.proofs.OneCommand.{command_one}
use Rattle.st_compile.proofs.typing.strict_commands_are_one.Goals as goal

pub returns : goal.returns
returns c = command_one
