use Rattle.std.proofs.Common.{◌≡◌, map}
use Rattle.std.specs.List.{range_with_len}
use Rattle.st_memory.specs.Packed.{row_of}
use Rattle.st_memory.proofs.packed.rows.rows_of.Given as goal

-- the rows of the leaves so far
abbrev pub invariant-loop-leaf : goal.invariant-loop-leaf
invariant-loop-leaf l = l.rows.items ≡ map (row_of l.layout) (range_with_len 0 l.leaf)
