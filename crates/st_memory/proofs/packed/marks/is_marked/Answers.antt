use Rattle.std.proofs.Common.{refl}
use Rattle.st_memory.specs.Packed.{mark_at}
use Rattle.st_memory.proofs.packed.marks.is_marked.Goals as goal

pub returns : goal.returns
unfolding mark_at
returns c = refl
