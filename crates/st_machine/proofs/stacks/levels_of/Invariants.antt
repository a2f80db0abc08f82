use Rattle.std.proofs.Common.{◌≡◌, take}
use Rattle.st_machine.specs.Levels.{rooms_of}
use Rattle.st_machine.proofs.stacks.levels_of.Given as goal

-- the levels so far
abbrev pub invariant-rooms : goal.invariant-rooms
invariant-rooms l = rooms_of l.levels.items ≡ take l.room-index l.rooms
