use Rattle.std.proofs.Common.{◌≡◌, ◌++◌, ◌-◌, take, replicate}
use Rattle.st_tree.proofs.name.padded.Given as goal

-- the bytes so far, and zeros after them
abbrev pub invariant-loop-i : goal.invariant-loop-i
invariant-loop-i l = l.bytes ≡ take l.i l.text ++ replicate (128 - l.i) 0
