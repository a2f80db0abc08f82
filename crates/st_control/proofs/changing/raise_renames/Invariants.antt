use Rattle.std.proofs.Common.{◌≡◌, ◌++◌, drop, take}
use Rattle.st_control.specs.Changes.{raised_renames}
use Rattle.st_control.proofs.changing.raise_renames.Given as goal

-- the first ones are raised
abbrev pub invariant-loop-rename : goal.invariant-loop-rename
invariant-loop-rename l = l.renames ≡ raised_renames (take l.rename-index l.initial.renames) ++ drop l.rename-index l.initial.renames
