-- What a record gives back.
use Rattle.std.proofs.Common.{ℕ, Bool, true, false, set, get_or, ◌≡◌, List, ap, subst, ◌∙◌}
use Rattle.std.proofs.lemmas.List.{set-set, set-get_or}
use Rattle.st_control.specs.States.{StateView, forced, released, undone, with_content, written}
use Rattle.st_control.specs.declared.record.Record.TheVariants.{Force, Release, Write}
use Rattle.st_layout.specs.Layout.{no_value}
use Rattle.st_memory.specs.Memory.{forced_at, value_at}
use Rattle.st_values.specs.declared.value.Value.{Value}

-- putting the old item back gives the list before
set_back : {A : Type 0} (xs : List A) (i : ℕ) (x none : A) → set (set xs i x) i (get_or xs i none) ≡ xs
set_back xs i x none = set-set xs i x (get_or xs i none) ∙ set-get_or xs i none

pub undone_written : (s : StateView) (leaf : ℕ) (value : Value) → undone (written s leaf value) (Write leaf (value_at s.content.values leaf)) ≡ s
undone_written s leaf value =
    ap (λ (values : List Value). with_content s (record { values = values; forced = s.content.forced })) (set_back s.content.values leaf value no_value)

pub undone_forced : (s : StateView) (leaf : ℕ) (value : Value) → undone (forced s leaf value) (Force leaf (value_at s.content.values leaf) (forced_at s.content.forced leaf)) ≡ s
undone_forced s leaf value =
    ap (λ (values : List Value). with_content s (record { values = values; forced = set (set s.content.forced leaf true) leaf (forced_at s.content.forced leaf) })) (set_back s.content.values leaf value no_value)
    ∙ ap (λ (forces : List Bool). with_content s (record { values = s.content.values; forced = forces })) (set_back s.content.forced leaf true false)

-- only a leaf that was forced can be let go
pub undone_released : (s : StateView) (leaf : ℕ) → forced_at s.content.forced leaf ≡ true → undone (released s leaf) (Release leaf) ≡ s
undone_released s leaf was_forced =
    ap (λ (forces : List Bool). with_content s (record { values = s.content.values; forced = forces }))
    (subst (λ (force : Bool). set (set s.content.forced leaf false) leaf force ≡ s.content.forced) was_forced (set_back s.content.forced leaf false false))
