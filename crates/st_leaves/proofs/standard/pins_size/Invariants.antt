use Rattle.std.proofs.Common.{map, take}
use Rattle.st_leaves.specs.Sizes.{IsSize}
use Rattle.st_types.specs.Pins.{seen}
use Rattle.st_leaves.specs.Charts.{named}
use Rattle.st_leaves.specs.Limits.{sizes_of}
use Rattle.st_leaves.proofs.standard.pins_size.Given as goal

-- of the pins so far
abbrev pub invariant-pins : goal.invariant-pins
invariant-pins l = IsSize l.size (sizes_of (map (λ p. named p.name p.elem) (map seen (take l.pin-index l.pins))))
