use Rattle.std.proofs.Common.{◌≡◌, ◌++◌, take}
use Rattle.st_types.specs.Names.{variables_of}
use Rattle.st_scopes.proofs.declaration.Declarations.add_blocks.Given as goal

-- the variables of the blocks so far
abbrev pub invariant-loop-block : goal.invariant-loop-block
invariant-loop-block l = l.self ≡ l.initial.self ++ variables_of (take l.block-index l.blocks)
