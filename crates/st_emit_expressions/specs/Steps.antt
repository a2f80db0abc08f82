-- X and T of steps (2.6.2), where expressions name them.
use Rattle.std.specs.Prelude.{ℕ, Bool, List, Option, Some, None, option_map}
use Rattle.st_values.specs.declared.elem.Elem.{Elem}
use Rattle.st_types.specs.Compositions.{Composition}
use Rattle.st_meaning.specs.Steps.{step_elem}
use Rattle.st_meaning.specs.Terms.{Parts, whole, field_part}
use Rattle.st_meaning.specs.Typing.{Typed, step_part, step_value, untyped}
use Rattle.st_places.specs.Charts.{leaf_of_step}

-- a place that is no variable's: X or T of a step, where it is written as one of these
abbrev pub as_step : Composition → Parts → Typed
as_step root (field_part name (field_part part whole)) = step_value root name (step_part part)
as_step root ps = untyped

-- the type of this part of the step of this name, and its leaf
abbrev pub step_leaf_named : Composition → List ℕ → Option Bool → Option (Elem × ℕ)
step_leaf_named root name None = None
step_leaf_named root name (Some is_time) = option_map (λ leaf. (step_elem is_time, leaf)) (leaf_of_step root is_time name)

-- those of a place
abbrev pub step_leaf_at : Composition → Parts → Option (Elem × ℕ)
step_leaf_at root (field_part name (field_part part whole)) = step_leaf_named root name (step_part part)
step_leaf_at root ps = None
