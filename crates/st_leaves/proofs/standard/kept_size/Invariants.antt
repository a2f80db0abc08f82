use Rattle.std.proofs.Common.{map, take}
use Rattle.st_leaves.specs.Sizes.{IsSize}
use Rattle.st_types.specs.Pins.{seen_kept}
use Rattle.st_leaves.specs.Charts.{kept_under}
use Rattle.st_leaves.specs.Limits.{sizes_of}
use Rattle.st_leaves.proofs.standard.kept_size.Given as goal

-- of what is kept so far
abbrev pub invariant-kept : goal.invariant-kept
invariant-kept l = IsSize l.size (sizes_of (map (λ k. kept_under k.name k.elem) (map seen_kept (take l.leaf-index l.kept))))
