-- An element of a list is found where one passes.
use Rattle.std.proofs.Common.{◌≡◌, ℕ, suc, ◌+◌, ◌||◌, Bool, true, false, not, cond, nat_lt, List, [], ◌∷◌, Some, None, length, position, refl, ap, ◌∙◌, arith}
use Rattle.std.specs.List.{list_any, position_or_len}
use Rattle.std.specs.Option.{is_some}
use Rattle.std.proofs.lemmas.Bool.Decides.{nat_tests}

some_by : (b : Bool) (i : ℕ) → is_some (cond b (Some i) None) ≡ b
some_by true i = refl
some_by false i = refl

pub passes_within : {A : Type 0} (p : A → Bool) (xs : List A) → nat_lt (position_or_len p xs) (length xs) ≡ list_any p xs
passes_within p [] = refl
passes_within p (x ∷ xs) = by (p x) ∙ ap (λ b. p x || b) (passes_within p xs)
  where
    by : (b : Bool) → nat_lt (cond (not b) (1 + position_or_len p xs) 0) (suc (length xs)) ≡ (b || nat_lt (position_or_len p xs) (length xs))
    by true = grind (arith, nat_tests)
    by false = grind (arith, nat_tests)

pub some_position : {A : Type 0} (p : A → Bool) (xs : List A) → is_some (position p xs) ≡ list_any p xs
some_position p xs = some_by (nat_lt (position_or_len p xs) (length xs)) (position_or_len p xs) ∙ passes_within p xs
