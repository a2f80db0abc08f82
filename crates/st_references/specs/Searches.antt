-- What searches give.
use Rattle.std.specs.Prelude.{ℕ, ◌≡◌, ◌+◌, ◌⊎◌, ◌↔◌, Bool, not, List, ◌++◌, length}
use Rattle.std.specs.List.{Contains, count_by}
use Rattle.st_references.specs.Walks.{IsSeen}

-- the rows with this property are seen too, and those of them that weren't are listed after the others, each once
pub record AddsNew (P : ℕ → Type 0) (seen seen' : List Bool) (found found' : List ℕ) : Type 0 where
  pub sees : (a : ℕ) → IsSeen seen' a ↔ (IsSeen seen a ⊎ P a)
  pub newly : List ℕ
  pub lists : found' ≡ found ++ newly
  pub new : (a : ℕ) → Contains newly a ↔ (P a × (IsSeen seen a → ⊥))
  pub once : count_by not seen' + length found' ≡ count_by not seen + length found
