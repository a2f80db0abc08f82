-- Lists.
use Rattle.std.proofs.Common.{◌≡◌, ◌≢◌, ℕ, ◌<◌, ◌≤◌, true, List, ◌++◌, length, get_or, arith, eqb}
use Rattle.std.specs.List.{All, AllPairs, Contains}
use Rattle.std.proofs.lemmas.Bool.Decides.{Decides-eqb, nat_tests}
use Rattle.std.proofs.lemmas.List.Elements.{All-contains, Contains-append_left, Contains-append_right, Contains-get_or}
use Rattle.std.proofs.lemmas.Map.Made.{IsDistinct-from_AllPairs}
use Rattle.std.proofs.lemmas.Map.Views.{Contains-from_any}
use Rattle.std.proofs.lemmas.Map.Steps.{length-le_from_distinct_below}

-- what holds of each element
pub all_of : {X : Type 0} (P : X → Type 0) (xs : List X) → ((x : X) → Contains xs x → P x) → All P xs
all_of P xs each k d below = each (get_or xs k d) (Contains-get_or xs k d below)

pub all_left : {X : Type 0} (P : X → Type 0) (xs ys : List X) → All P (xs ++ ys) → All P xs
all_left P xs ys all = all_of P xs (λ x has. All-contains P (xs ++ ys) x all (Contains-append_left xs ys x has))

pub all_right : {X : Type 0} (P : X → Type 0) (xs ys : List X) → All P (xs ++ ys) → All P ys
all_right P xs ys all = all_of P ys (λ x has. All-contains P (xs ++ ys) x all (Contains-append_right xs ys x has))

-- numbers below n, no two of them the same, are at most n
pub few : (numbers : List ℕ) (n : ℕ) → All (λ a. a < n) numbers → AllPairs (λ a b. a ≢ b) numbers → length numbers ≤ n
few numbers n below once =
    length-le_from_distinct_below numbers n (IsDistinct-from_AllPairs Decides-eqb numbers once)
    (λ q among. All-contains (λ a. a < n) numbers q below (Contains-from_any same q numbers among))
  where
    same : (x y : ℕ) → eqb x y ≡ true → x ≡ y
    same x y is = grind (arith, nat_tests)
