-- Rows of the tables.
use Rattle.std.proofs.Common.{◌≡◌, ℕ, Bool, true, false, List, [], ◌∷◌, refl, map}
use Rattle.std.specs.List.{find}
use Rattle.std.specs.Option.{option_map}
use Rattle.st_values.specs.Words.{is_word}

by_test : {P : Type 0} (b : Bool) → (b ≡ true → P) → (b ≡ false → P) → P
by_test true h k = h refl
by_test false h k = k refl

-- what is found among the rows is what is found among their texts
pub found_in : {R S : Type 0} (rows : List R) (texts : R → S) (word : S → List ℕ) (w : List ℕ)
    → option_map texts (find (λ row. is_word (word (texts row)) w) rows) ≡ find (λ s. is_word (word s) w) (map texts rows)
found_in [] texts word w = refl
found_in (row ∷ rows) texts word w =
    by_test (is_word (word (texts row)) w) (λ t. rw t refl) (λ t. rw t (found_in rows texts word w))
