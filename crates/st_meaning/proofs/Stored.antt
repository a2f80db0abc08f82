-- The names that a chart stores, as numbers.
use Rattle.std.proofs.Common.{◌≡◌, ℕ, ◌+◌, ◌<◌, ◌||◌, Bool, true, false, List, [], ◌∷◌, length, map, refl, ap, sym, subst, ◌∙◌}
use Rattle.std.specs.List.{All, AllByRecursion as Each, list_any}
use Rattle.std.proofs.lemmas.List.Elements.{All-filter, All-from_recursion, All-map, All-weaker}
use Rattle.st_values.specs.Words.{is_word}
use Rattle.st_tree.specs.declared.tree.unit.Association.{Association}
use Rattle.st_leaves.specs.Charts.{associated_names, is_stored_by, stored_names}
use Rattle.st_leaves.proofs.NamesOnce.{itself}
use Rattle.st_leaves.proofs.Pairs.{each_weaker}
use Rattle.st_meaning.specs.Sketched.{number_among}
use Rattle.st_meaning.proofs.Lists.{any_below}

-- ---- names are among themselves

abbrev pub IsAmong : List (List ℕ) → List ℕ → Type 0
IsAmong names name = list_any (is_word name) names ≡ true

either : (a b : Bool) → b ≡ true → (a || b) ≡ true
either true b h = refl
either false b h = h

pub each_among : (names : List (List ℕ)) → Each (IsAmong names) names
each_among [] = tt
each_among (n ∷ names) = (
  ap (λ b. b || list_any (is_word n) names) (itself n),
  each_weaker (IsAmong names) (IsAmong (n ∷ names)) names (λ name any. either (is_word name n) (list_any (is_word name) names) any) (each_among names),
)

-- the names that are stored are among those that are associated
pub all_among : (associations : List Association) → All (IsAmong (associated_names associations)) (stored_names associations)
all_among associations =
    let names = associated_names associations in
    All-filter (is_stored_by associations) (IsAmong names) names (All-from_recursion (IsAmong names) names (each_among names))

-- ---- the numbers are in range

pub stored_within : (names : List (List ℕ)) (associations : List Association) (numbers : List ℕ) (count : ℕ) → names ≡ associated_names associations
    → numbers ≡ map (number_among names) (stored_names associations) → count ≡ length names → All (λ n. n < count) numbers
stored_within names associations numbers count are numbered counted =
    subst (All (λ n. n < count)) (sym numbered)
    (subst (λ m. All (λ n. n < m) (map (number_among names) (stored_names associations))) (sym counted)
    (All-map (λ n. n < length names) (number_among names) (stored_names associations)
    (All-weaker (IsAmong names) (λ name. number_among names name < length names) (λ name any. any_below (is_word name) names any) (stored_names associations)
    (subst (λ ns. All (IsAmong ns) (stored_names associations)) (sym are) (all_among associations)))))
