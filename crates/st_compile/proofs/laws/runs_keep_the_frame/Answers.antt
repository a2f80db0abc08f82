use Rattle.st_compile.proofs.Frames.{frame_kept}
use Rattle.st_compile.proofs.laws.runs_keep_the_frame.Goals as goal

pub returns : goal.returns
returns c = frame_kept
