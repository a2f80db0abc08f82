-- The leaves by which the size of a program is counted are those of what its variables consist of.
use Rattle.std.specs.Prelude.{◌≡◌, List, map}
use Rattle.std.specs.List.{All}
use Rattle.st_values.specs.Values.{IsValue}
use Rattle.st_types.specs.Compositions.{composition_of}
use Rattle.st_types.specs.Names.{Declares, Named}
use Rattle.st_leaves.specs.Charts.{LeafBelow}
use Rattle.st_leaves.specs.Leaves.{leaves_of}
use Rattle.st_leaves.specs.LeavesIn.{LeafIn, leaves_of_whole}
use Rattle.st_leaves.specs.Paths.{path_text}

-- what its size is counted by
abbrev pub counted : LeafIn → LeafBelow
counted l = record { path = path_text l.path; elem = l.initial.elem }

abbrev pub LeavesAreThoseOfTheComposition : Type 0
LeavesAreThoseOfTheComposition = (units : List Named) (unit : Declares) → leaves_of units unit ≡ map counted (leaves_of_whole (composition_of units unit))

-- each leaf begins with a value of its type
abbrev pub BeginWithValues : Type 0
BeginWithValues = (units : List Named) (unit : Declares) → All (λ l. IsValue l.initial) (leaves_of_whole (composition_of units unit))
