use Rattle.std.proofs.Common.{◌≡◌, take}
use Rattle.std.specs.Prelude.{max}
use Rattle.st_code.specs.Depths.{most}
use Rattle.st_compile.specs.Programs.{program_depth, stacks_in}
use Rattle.st_compile.proofs.image.Image.depth.Given as goal

-- the greatest so far
abbrev pub invariant-levels : goal.invariant-levels
invariant-levels l = l.depth ≡ max (program_depth l.self) (most (stacks_in (take l.room-index l.room-items)))
