use Rattle.std.proofs.Common.{◌≡◌, take}
use Rattle.st_code.specs.Depths.{most}
use Rattle.st_check.specs.Programs.{text_of}
use Rattle.st_types.specs.Names.{units_of}
use Rattle.st_compile.specs.Programs.{numbered, taken}
use Rattle.st_compile.proofs.functions.most_taken.Given as goal

-- of the units so far
abbrev pub invariant-units : goal.invariant-units
invariant-units l = l.most ≡ most (numbered (taken (units_of (text_of l.program))) 0 (take l.number (units_of (text_of l.program))))
