use Rattle.std.proofs.Common.{◌≡◌, ◌++◌, get_or, map, take}
use Rattle.st_machine.specs.Levels.{no_room}
use Rattle.st_compile.proofs.levels.in_order.Given as goal

-- what is given for the units so far
abbrev pub invariant-functions : goal.invariant-functions
invariant-functions l = l.placed.items ≡ map (λ number. get_or l.functions number no_room) (take l.number-index l.order)

abbrev pub invariant-blocks-2 : goal.invariant-blocks-2
invariant-blocks-2 l = l.placed.items ≡ map (λ number. get_or l.functions number no_room) l.order ++ map (λ number. get_or l.blocks number no_room) (take l.number-index l.order)
