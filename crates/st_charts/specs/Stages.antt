-- What the parts of an invocation do, one behind the other.
use Rattle.std.specs.Prelude.{◌≡◌, ℕ, ◌<◌, ℤ, pos, Bool, true, false, if◌then◌else◌, List, get_or, length}
use Rattle.st_charts.specs.Charts.{resets, shows, stores}
use Rattle.st_charts.specs.Passages.{Set}
use Rattle.st_charts.specs.declared.names.Effect.{Effect}
use Rattle.st_charts.specs.declared.names.Effect.TheVariants as effects
use Rattle.st_charts.specs.declared.step.StepCell.{StepCell}
use Rattle.st_charts.specs.declared.table.Link.{Link}

-- The items of a set are changed, and all others stay.
abbrev pub Changes : {X : Type 0} → (X → X) → Set → List X → List X → Type 0
Changes {X} change set old new =
    (n : ℕ) (d : X) → n < length old → get_or new n d ≡ (if set n then change (get_or old n d) else get_or old n d)

abbrev pub left : StepCell → StepCell
left step = record step { active = false; pulsed = false }

abbrev pub entered : ℤ → StepCell → StepCell
entered now step = record step { active = true; elapsed = pos 0; since = now }

abbrev pub has_effect : Effect → Link → StepCell → Bool
has_effect effects.Reset = resets
has_effect effects.Store = stores
has_effect effects.Show = shows
