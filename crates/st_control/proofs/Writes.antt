-- A write is refused as a force for which there is room is, and where the leaf is forced.
use Rattle.std.proofs.Common.{◌≡◌, ℕ, Bool, true, false, List, [], ◌∷◌, not, refl}
use Rattle.std.specs.Prelude.{Option, Some, None, Result, Ok, Err}
use Rattle.std.specs.Option.{option_map_or}
use Rattle.st_control.specs.Causes.{is_forced, no_such_path, not_of_type, not_open, undo_full}
use Rattle.st_control.specs.Machine.{force_causes, is_value_of, leaf_to_force, leaf_to_write, unless, write_causes}
use Rattle.st_control.specs.States.{StateView, leaf_of, leaves_of}
use Rattle.st_control.specs.declared.refusal.Refusal.{Refusal}
use Rattle.st_layout.specs.Layout.{is_open, leaf_at}
use Rattle.st_memory.specs.Memory.{forced_at}
use Rattle.st_values.specs.declared.value.Value.{Value}

-- the leaf that a force would set, unless it is forced or there is no room
abbrev pub if_unforced : StateView → Bool → Result ℕ Refusal → Result ℕ Refusal
if_unforced s full (Ok leaf) = unless ((is_forced, forced_at s.content.forced leaf) ∷ (undo_full, full) ∷ []) leaf
if_unforced s full (Err refusal) = Err refusal

pub write_as_force : (s : StateView) (full : Bool) (path : List ℕ) (value : Value) → leaf_to_write s full path value ≡ if_unforced s full (leaf_to_force s false path value)
write_as_force s full path value = by (leaf_of s path) where
  at : (closed other : Bool) (leaf : ℕ)
      → unless ((not_open, closed) ∷ (not_of_type, other) ∷ (is_forced, forced_at s.content.forced leaf) ∷ (undo_full, full) ∷ []) leaf
      ≡ if_unforced s full (unless ((not_open, closed) ∷ (not_of_type, other) ∷ (undo_full, false) ∷ []) leaf)
  at true other leaf = refl
  at false true leaf = refl
  at false false leaf = refl

  by : (found : Option ℕ)
      → option_map_or (λ leaf. unless (write_causes s full value leaf) leaf) found (Err no_such_path)
      ≡ if_unforced s full (option_map_or (λ leaf. unless (force_causes s false value leaf) leaf) found (Err no_such_path))
  by None = refl
  by (Some leaf) = at (not (is_open (leaf_at (leaves_of s) leaf).role)) (not (is_value_of (leaf_at (leaves_of s) leaf) value)) leaf
