-- The deepest of stacks, one after the other.
use Rattle.std.proofs.Common.{◌≡◌, ℕ, ◌+◌, ◌<◌, List, [], ◌∷◌, ◌++◌, length, take, ap, ◌∙◌, arith}
use Rattle.std.specs.Prelude.{max, slice_index_or}
use Rattle.std.proofs.lemmas.List.{take_more}
use Rattle.st_machine.specs.Levels.{no_room}
use Rattle.st_machine.specs.declared.stacks.Room.{Room}
use Rattle.st_code.specs.Depths.{most}
use Rattle.st_compile.specs.Programs.{stacks_in}

most_last : (rs : List Room) (r : Room) → most (stacks_in (rs ++ r ∷ [])) ≡ max (most (stacks_in rs)) r.stack
most_last [] r = omega arith
most_last (s ∷ rs) r = let rest = most_last rs r in omega (arith, rest)

pub most_more : (rs : List Room) (i : ℕ) → i < length rs → most (stacks_in (take (i + 1) rs)) ≡ max (most (stacks_in (take i rs))) (slice_index_or rs i no_room).stack
most_more rs i below = ap (λ xs. most (stacks_in xs)) (take_more rs i no_room below) ∙ most_last (take i rs) (slice_index_or rs i no_room)
