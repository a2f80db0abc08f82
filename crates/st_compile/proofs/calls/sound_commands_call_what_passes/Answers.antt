use Rattle.st_compile.proofs.Passing.{sound_commands_call_what_passes}
use Rattle.st_compile.proofs.calls.sound_commands_call_what_passes.Goals as goal

pub returns : goal.returns
returns c = sound_commands_call_what_passes
